-- Changes that lead from a state to a state and keep the blocks from which each is read apart from the rest.
use Rattle.std.specs.Prelude.{◌≡◌, ◌⊎◌, Bool, true, false, List}
use Rattle.std.specs.List.{AllByRecursion, list_any}
use Rattle.disk_model.specs.declared.block.Block.{Block}
use Rattle.disk_model.specs.declared.block.Change.{Change}
use Rattle.disk_model.specs.Sectors.{same_block, are_rivals}
use Rattle.disk_model.specs.Content.{Content}
use Rattle.plan_owners.specs.volume_model.Volumes.{Volume}
use Rattle.state_blocks.specs.Needing.{IsNeeded}

-- one of the changes is of this block
abbrev pub is_changed : List Change → Block → Bool
is_changed changes b = list_any (λ (x : Change). same_block b x.block) changes

-- The changes lead from a state to a state as those of a plan do. No block that they change is a rival of one from which the first content is read, and where one of those
-- is changed it isn't torn; and each block from which the second content is read was one of those, or is changed.
pub record DraftIn (c : Content) (v : Volume) (changes : List Change) (d : Content) (w : Volume) : Type 0 where
  pub rivals : AllByRecursion (λ x. (b : Block) → IsNeeded c v b → are_rivals x.block b ≡ false) changes
  pub whole : AllByRecursion (λ x. IsNeeded c v x.block → (c x.block).torn ≡ false) changes
  pub covers : (b : Block) → IsNeeded d w b → IsNeeded c v b ⊎ (is_changed changes b ≡ true)
