-- Bodies that a plan puts whole into blocks, over one content: each block once.
use Rattle.std.specs.Prelude.{◌≡◌, ℕ, ◌*◌, true, false, Bool, if◌then◌else◌, List, [], ◌∷◌, map, length, Option, Some, None, ⊤}
use Rattle.std.specs.List.{AllByRecursion}
use Rattle.std.specs.Option.{option_or}
use Rattle.disk_model.specs.declared.block.Block.{Block}
use Rattle.disk_model.specs.declared.block.Body.{Body}
use Rattle.disk_model.specs.Sectors.{sectors, same_block}
use Rattle.disk_model.specs.Content.{Content, HasSizes}
use Rattle.disk_model.specs.Writes.{Write, overlay}

-- these bytes as the body of this block
pub record NewBody : Type 0 where
  pub block : Block
  pub bytes : List ℕ

abbrev pub whole_write : NewBody → Write
whole_write w = record { block = w.block; at = 0; bytes = w.bytes }

abbrev pub writes_in : List NewBody → List Write
writes_in bodies = map whole_write bodies

-- the content with these bodies
abbrev pub content_with : Content → List NewBody → Content
content_with c bodies = overlay c (writes_in bodies)

-- each body has its block's size
abbrev pub AreWhole : List NewBody → Type 0
AreWhole bodies = AllByRecursion (λ w. length w.bytes ≡ 512 * sectors w.block.kind) bodies

-- no two are of one block
abbrev pub AreOfOwnBlocks : List NewBody → Type 0
AreOfOwnBlocks [] = ⊤
AreOfOwnBlocks (w ∷ bodies) = AllByRecursion (λ x. same_block w.block x.block ≡ false) bodies × AreOfOwnBlocks bodies

-- whole bodies, each of a block of its own
pub record AreBodies (bodies : List NewBody) : Type 0 where
  pub whole : AreWhole bodies
  pub own : AreOfOwnBlocks bodies

-- what they put into a block, if one does
abbrev pub body_in : List NewBody → Block → Option (List ℕ)
body_in [] b = None
body_in (w ∷ bodies) b = if same_block b w.block then Some w.bytes else body_in bodies b

abbrev pub body_or : Body → Option (List ℕ) → Body
body_or old None = old
body_or old (Some bytes) = record { bytes = bytes; torn = false }

-- a body more: in the place of the one of its block, or behind all
abbrev pub put_body : NewBody → List NewBody → List NewBody
put_body w [] = w ∷ []
put_body w (x ∷ bodies) = if same_block x.block w.block then w ∷ bodies else x ∷ put_body w bodies

abbrev pub put_bodies : List NewBody → List NewBody → List NewBody
put_bodies [] bodies = bodies
put_bodies (w ∷ more) bodies = put_bodies more (put_body w bodies)

-- A block has the body that is put there, untorn, or else its own. More bodies are put into the one list: the content is the one that
-- those in turn give over the content with the bodies before them. What holds of each block of both lists holds of the joined ones.
pub record BodiesPut : Type 0 where
  pub body : (c : Content) (bodies : List NewBody) (b : Block) → HasSizes c → AreBodies bodies → content_with c bodies b ≡ body_or (c b) (body_in bodies b)
  pub sized : (c : Content) (bodies : List NewBody) → HasSizes c → HasSizes (content_with c bodies)
  pub put : (c : Content) (bodies more : List NewBody) → HasSizes c → AreBodies bodies → AreBodies more → content_with c (put_bodies more bodies) ≡ content_with (content_with c bodies) more
  pub are : (bodies more : List NewBody) → AreBodies bodies → AreBodies more → AreBodies (put_bodies more bodies)
  pub either : (bodies more : List NewBody) (b : Block) → AreBodies more → body_in (put_bodies more bodies) b ≡ option_or (body_in more b) (body_in bodies b)
  pub each : (P : Block → Bool) (bodies more : List NewBody) → AllByRecursion (λ w. P w.block ≡ true) bodies → AllByRecursion (λ w. P w.block ≡ true) more → AllByRecursion (λ w. P w.block ≡ true) (put_bodies more bodies)
