-- Blocks that a plan touches, each once, in order, with their old and their present bodies.
use Rattle.std.specs.Prelude.{◌≡◌, ℕ, zero, suc, ◌+◌, ◌*◌, ◌<◌, ◌≤◌, true, Bool, ◌&&◌, ◌||◌, nat_le, nat_lt, if◌then◌else◌, List, [], ◌∷◌, map, length, slice_index_or, Option, Some, None}
use Rattle.plan_bodies.specs.disk_model.declared.block.Block.{Block}
use Rattle.plan_bodies.specs.disk_model.declared.block.BlockKind.{BlockKind}
use Rattle.plan_bodies.specs.disk_model.declared.block.BlockKind.TheVariants.{Plain, FileRec, Index}
use Rattle.plan_bodies.specs.disk_model.Bodies.{BodyOf}
use Rattle.plan_bodies.specs.disk_model.Content.{Content}
use Rattle.plan_bodies.specs.disk_model.Sectors.{sectors, same_block}
use Rattle.plan_bodies.specs.Bodies.{NewBody}
use Rattle.plan_draft.specs.declared.touched.Touched.{Touched}

-- ---- the order of blocks

abbrev pub kind_place : BlockKind → ℕ
kind_place Plain = 0
kind_place FileRec = 1
kind_place Index = 2

-- blocks stand in the order of their first sectors, and those of one sector in the order of their kinds
abbrev pub block_key : Block → ℕ
block_key b = 3 * b.first + kind_place b.kind

abbrev pub keys_of : List Touched → List ℕ
keys_of touched = map (λ t. block_key t.block) touched

-- the numbers rise, from this one on
unfoldable pub rises : ℕ → List ℕ → Bool
rises least [] = true
rises least (key ∷ keys) = nat_le least key && rises (suc key) keys

-- how many of them stand at the front that are less than this one
unfoldable pub place_in : ℕ → List ℕ → ℕ
place_in key [] = 0
place_in key (k ∷ keys) = if nat_lt k key then suc (place_in key keys) else 0

-- ---- bodies

-- old and present body have the block's size
pub record IsWhole (t : Touched) : Type 0 where
  pub old : length t.old ≡ 512 * sectors t.block.kind
  pub new : length t.new ≡ 512 * sectors t.block.kind

-- the block's body as it was at first
abbrev pub old_body : Touched → BodyOf
old_body t = record { bytes = t.old; torn = t.torn }

-- the old body is that of the content
abbrev pub IsOldOf : Content → Touched → Type 0
IsOldOf c t = c t.block ≡ old_body t

-- the present body, as a body that a plan puts
abbrev pub new_body : Touched → NewBody
new_body t = record { block = t.block; bytes = t.new }

abbrev pub bodies_of : List Touched → List NewBody
bodies_of touched = map new_body touched

-- a body in the place of the one of its block, or between those of the blocks before it and behind it
abbrev pub put_in_order : NewBody → List NewBody → List NewBody
put_in_order w [] = w ∷ []
put_in_order w (x ∷ bodies) = if nat_lt (block_key x.block) (block_key w.block) then x ∷ put_in_order w bodies else (if same_block w.block x.block then w ∷ bodies else w ∷ x ∷ bodies)

-- what is kept of a block that is touched for the first time
abbrev pub first_touch : Block → Bool → List ℕ → BodyOf → Touched
first_touch b fresh bytes old = record { block = b; old = old.bytes; torn = old.torn; fresh = fresh; new = bytes }

-- what is kept of one that is touched again: a block that was fresh stays so
abbrev pub touch_again : Touched → Bool → List ℕ → Touched
touch_again t fresh bytes = record { block = t.block; old = t.old; torn = t.torn; fresh = fresh || t.fresh; new = bytes }

-- these bytes as the present body of the block, whose old body is this one where it wasn't touched before
abbrev pub touch : Block → Bool → List ℕ → BodyOf → List Touched → List Touched
touch b fresh bytes old [] = first_touch b fresh bytes old ∷ []
touch b fresh bytes old (t ∷ touched) = if nat_lt (block_key t.block) (block_key b) then t ∷ touch b fresh bytes old touched else (if same_block b t.block then touch_again t fresh bytes ∷ touched else first_touch b fresh bytes old ∷ t ∷ touched)

-- what is touched of a block, if it is
abbrev pub touched_at : List Touched → Block → Option Touched
touched_at [] b = None
touched_at (t ∷ touched) b = if same_block b t.block then Some t else touched_at touched b

-- the block stands at this place
pub record StandsAt (touched : List Touched) (b : Block) (at : ℕ) : Type 0 where
  pub place : at ≡ place_in (block_key b) (keys_of touched)
  pub within : at < length touched
  pub same : (d : Touched) → same_block b (slice_index_or touched at d).block ≡ true

-- it stands nowhere, and would stand at this place
pub record WouldStandAt (touched : List Touched) (b : Block) (at : ℕ) : Type 0 where
  pub place : at ≡ place_in (block_key b) (keys_of touched)
  pub within : at ≤ length touched
  pub none : touched_at touched b ≡ None

-- the one at this place touched again
abbrev pub again_at : ℕ → Bool → List ℕ → List Touched → List Touched
again_at at fresh bytes [] = []
again_at zero fresh bytes (t ∷ touched) = touch_again t fresh bytes ∷ touched
again_at (suc at) fresh bytes (t ∷ touched) = t ∷ again_at at fresh bytes touched
