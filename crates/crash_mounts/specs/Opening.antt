-- Contents by which one log is found.
use Rattle.std.specs.Prelude.{◌≡◌, ℕ, true, Ok}
use Rattle.std.specs.List.{list_any}
use Rattle.disk_model.specs.declared.block.Block.{Block}
use Rattle.disk_model.specs.Sectors.{same_block}
use Rattle.disk_model.specs.Content.{Content}
use Rattle.state_model.specs.declared.geometry.Geometry.{Geometry}
use Rattle.txn_mount.specs.log_recovery.LogStates.{LogState}
use Rattle.txn_mount.specs.log_recovery.Writing.{to_write_in}
use Rattle.mount_laws.specs.image_open.Writing.{OpenedToWrite, found_by, opened_to_write_in}

-- the second content has the bodies of the first in the blocks by which the log of a volume of this geometry is found
abbrev pub AreFoundAlike : Geometry → Content → Content → Type 0
AreFoundAlike g c d = (b : Block) → list_any (same_block b) (found_by g) ≡ true → d b ≡ c b

-- opened as it was, but for what the log says
abbrev pub with_state : OpenedToWrite → LogState → OpenedToWrite
with_state o state = record { geometry = o.geometry; total = o.total; place = o.place; state = state }

-- So where a mount that writes opens the first, it finds in the second a volume of the same geometry and clusters, whose log lies at the same place; and opens it, where this log isn't refused.
abbrev pub OpensAlike : Type 0
OpensAlike = (c d : Content) (sectors : ℕ) (o : OpenedToWrite) (state : LogState) → opened_to_write_in c sectors ≡ Ok o → AreFoundAlike o.geometry c d → to_write_in d o.place (found_by o.geometry) ≡ Ok state → opened_to_write_in d sectors ≡ Ok (with_state o state)
