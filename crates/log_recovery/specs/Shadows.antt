-- The shadowed blocks of the grid, by the group of each cluster, and the list of them as it grows.
use Rattle.std.specs.Prelude.{ℕ, ◌/◌, ◌≡◌, ◌&&◌, Bool, true, if◌then◌else◌, List, map, Option, None, Vec}
use Rattle.std.specs.List.{IsDistinct}
use Rattle.std.specs.Option.{option_or}
use Rattle.std.specs.Ordering.{nat_cmp}
use Rattle.std.specs.BTreeMap.{BTreeMap, get}
use Rattle.std.specs.Borrow.{Bor}
use Rattle.log_reading.specs.disk_model.declared.block.Block.{Block}
use Rattle.log_reading.specs.disk_model.Sectors.{same_block}
use Rattle.log_model.specs.declared.entry.Entry.{Entry}
use Rattle.log_model.specs.Logs.{is_in_grid, first_rival}
use Rattle.log_recovery.specs.declared.found.Shadow.{Shadow}
use Rattle.log_recovery.specs.Blocks.{shadowed_by}
use Rattle.log_recovery.specs.Groups.{held_group}
use Rattle.log_recovery.specs.Recovering.{held_lsn, shadow_block}

-- the first update of a rival of a block of the grid that these entries shadow
abbrev pub shadow_by : (ℕ → Bool) → List Entry → Block → Option ℕ
shadow_by ended log b = if is_in_grid b && shadowed_by ended log b then first_rival log b else None

-- the same by the group of its cluster
abbrev pub shadow_in : {A : Type 0} → (ℕ → Bool) → BTreeMap ℕ (Vec (Bor Entry) A) → Block → Option ℕ
shadow_in ended groups b = shadow_by ended (held_group (get nat_cmp groups (b.first / 8))) b

-- The shadows of these blocks are added, each with the LSN that is meant; where none of these was held, each is still held once.
pub record AddsShadows (meant : Block → Option ℕ) (here : Block → Bool) (old new : List Shadow) : Type 0 where
  pub held : (b : Block) → held_lsn new b ≡ option_or (held_lsn old b) (if here b then meant b else None)
  pub once : ((b : Block) → here b ≡ true → held_lsn old b ≡ None) → IsDistinct same_block (map shadow_block old) → IsDistinct same_block (map shadow_block new)
