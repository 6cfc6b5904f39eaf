-- What the changes of a draft leave of the blocks from which a state is read.
use Rattle.std.specs.Prelude.{◌≡◌, ◌⊎◌, ℕ, ◌<◌, true, false, All, List, [], ◌∷◌, length, Option, ⊤}
use Rattle.std.specs.List.{AllByRecursion}
use Rattle.disk_model.specs.declared.block.Block.{Block}
use Rattle.disk_model.specs.declared.block.BlockKind.{BlockKind}
use Rattle.disk_model.specs.declared.block.Change.{Change}
use Rattle.disk_model.specs.Content.{Content, HasSizes}
use Rattle.disk_model.specs.Sectors.{same_block, are_rivals}
use Rattle.fixup_record.specs.Spellings.{has_spelling}
use Rattle.block_view.specs.Changes.{Fits, content_after}
use Rattle.state_model.specs.declared.geometry.Geometry.{Geometry}
use Rattle.volume_model.specs.Volumes.{Volume}
use Rattle.stream_laws.specs.Sharing.{stream_at, runs_in}
use Rattle.plan_spares.specs.plan_owners.States.{Stands}
use Rattle.plan_spares.specs.plan_owners.Agreeing.{IsJudged, log_key}
use Rattle.plan_spares.specs.state_blocks.Needing.{IsListed, IsNeeded}
use Rattle.plan_spares.specs.state_blocks.Drafts.{DraftIn}
use Rattle.plan_bodies.specs.Bodies.{NewBody, content_with}
use Rattle.plan_draft.specs.declared.touched.Touched.{Touched}
use Rattle.plan_draft.specs.Touching.{keys_of, rises, bodies_of, IsWhole, IsOldOf}
use Rattle.plan_draft.specs.Finishing.{changes_of}
use Rattle.plan_draft.specs.Same.{PutSame}
use Rattle.plan_spares.specs.plan_model.Drafts.{DraftIn as PlanIn}
use Rattle.plan_spares.specs.Plans.{HasOwnLists}

-- the changes are those of a draft, which keeps whole bodies in the order of their blocks, and the content's as the old ones
pub record AreFinished (c : Content) (touched : List Touched) (changes : List Change) : Type 0 where
  pub rises : rises 0 (keys_of touched) ≡ true
  pub whole : All IsWhole touched
  pub olds : All (IsOldOf c) touched
  pub are : changes ≡ changes_of touched

-- The body that is put has a spelling. Where the block isn't fresh, the state before is judged by it; and where that is read from it, it isn't torn.
pub record TouchesWell (c : Content) (v : Volume) (t : Touched) : Type 0 where
  pub spelled : has_spelling t.block.kind t.new ≡ true
  pub begun : t.fresh ≡ false → IsJudged v t.block
  pub whole : IsNeeded c v t.block → t.torn ≡ false

-- two changes of blocks that aren't one, and aren't rivals
pub record AreAside (x y : Change) : Type 0 where
  pub other : same_block x.block y.block ≡ false
  pub no_rival : are_rivals x.block y.block ≡ false

-- so are each two of them
abbrev pub AreAllAside : List Change → Type 0
AreAllAside [] = ⊤
AreAllAside (x ∷ xs) = AllByRecursion (AreAside x) xs × AreAllAside xs

-- the block's body has a spelling, and isn't torn
pub record IsSpelled (d : Content) (b : Block) : Type 0 where
  pub spelled : has_spelling b.kind (d b).bytes ≡ true
  pub untorn : (d b).torn ≡ false

-- The changes give the content with the bodies, to which they lead as those of a plan do; each brings some bytes inside its block's body, which can be written then; and no two are
-- of one block or of rivals.
pub record ChangesKeep (c : Content) (v : Volume) (bodies : List NewBody) (changes : List Change) (w : Volume) : Type 0 where
  pub content : content_after changes c ≡ content_with c bodies
  pub draft : DraftIn c v changes (content_with c bodies) w
  pub written : AllByRecursion (λ x. IsSpelled (content_with c bodies) x.block) changes
  pub apart : AreAllAside changes
  pub fits : All Fits changes
  pub some : AllByRecursion (λ x. 0 < length x.new) changes

-- So do the changes of a draft that puts the same as a plan, each body well; where the log keeps its clusters, and each block of an attribute list behind the plan is one from which
-- the state before is read, or is owned as the others are.
abbrev pub PlansKeep : Type 0
PlansKeep = (c : Content) (g : Geometry) (clusters : ℕ) (v w : Volume) (bodies : List NewBody) (gave : ℕ → Option BlockKind) (touched : List Touched) (changes : List Change) → HasSizes c → g.per_cluster ≡ 8 → Stands c g clusters v → PlanIn c g clusters v bodies w gave
    → PutSame (bodies_of touched) bodies → AreFinished c touched changes → AllByRecursion (TouchesWell c v) touched → runs_in (stream_at w log_key) ≡ runs_in (stream_at v log_key) → HasOwnLists c v
    → ((b : Block) → IsListed (content_with c bodies) w b → IsNeeded c v b ⊎ IsJudged w b) → ChangesKeep c v bodies changes w
