-- The changes that a plan comes to: of each touched block the bytes that differ, or its whole body.
use Rattle.std.specs.Prelude.{◌≡◌, ℕ, zero, suc, ◌-◌, Bool, ◌||◌, ◌==◌, nat_lt, if◌then◌else◌, List, [], ◌∷◌, map, length, slice_index}
use Rattle.std.specs.List.{flat_map}
use Rattle.plan_bodies.specs.disk_model.declared.block.Change.{Change}
use Rattle.plan_bodies.specs.disk_model.Bytes.{part}
use Rattle.plan_bodies.specs.disk_model.Content.{Content}
use Rattle.plan_draft.specs.declared.touched.Touched.{Touched}
use Rattle.plan_draft.specs.Touching.{block_key}

-- how many bytes at the front are the same
unfoldable pub same_front : List ℕ → List ℕ → ℕ
same_front [] news = 0
same_front (x ∷ olds) [] = 0
same_front (x ∷ olds) (y ∷ news) = if x == y then suc (same_front olds news) else 0

-- the place behind the last of the first n bytes that differs, or 0 where none does
unfoldable pub differ_end : List ℕ → List ℕ → ℕ → ℕ
differ_end olds news zero = 0
differ_end olds news (suc n) = if slice_index olds n == slice_index news n then differ_end olds news n else suc n

-- the change is of the whole body: of a fresh block, and of a torn one, which else would stay torn
abbrev pub is_whole_change : Touched → Bool
is_whole_change t = t.fresh || t.torn

-- where the change begins
abbrev pub change_start : Touched → ℕ
change_start t = if is_whole_change t then 0 else same_front t.old t.new

-- where it ends
abbrev pub change_end : Touched → ℕ
change_end t = if is_whole_change t then length t.new else differ_end t.old t.new (length t.new)

-- the bytes from one place up to another
abbrev pub change_of : Touched → ℕ → ℕ → Change
change_of t start end = record { block = t.block; offset = start; old = part start (end - start) t.old; new = part start (end - start) t.new }

-- one change, or none where nothing differs
abbrev pub changes_in : Touched → List Change
changes_in t = if nat_lt (change_start t) (change_end t) then change_of t (change_start t) (change_end t) ∷ [] else []

abbrev pub changes_of : List Touched → List Change
changes_of touched = flat_map changes_in touched

-- the blocks' keys
abbrev pub change_keys : List Change → List ℕ
change_keys changes = map (λ (c : Change). block_key c.block) changes

-- the old bytes of the change are the content's
abbrev pub WasOld : Content → Change → Type 0
WasOld c change = part change.offset (length change.old) (c change.block).bytes ≡ change.old
