-- What a mount reads of the log of an image that recovers to a content of a store's window.
use Rattle.std.specs.Prelude.{◌≡◌, List, Ok}
use Rattle.disk_model.specs.declared.block.Block.{Block}
use Rattle.disk_model.specs.Content.{content_of}
use Rattle.log_page.specs.declared.places.LogPlace.{LogPlace}
use Rattle.log_reading.specs.Rings.{IsRingPlace}
use Rattle.txn_mount.specs.log_recovery.LogStates.{LogState}
use Rattle.txn_mount.specs.log_recovery.Writing.{to_write_in}
use Rattle.mount_laws.specs.image_open.LogPlaces.{LieAlike}
use Rattle.store_model.specs.Geometry.{SectorBytes}
use Rattle.store_claims.specs.Windows.{StoreWindow}
use Rattle.member_states.specs.txn_model.Values.{is_own}
use Rattle.member_states.specs.txn_laws.Windows.{RecoversWithin, next_lap_in}
use Rattle.txn_mount.specs.Mountable.{IsFar}

-- Where its laps don't come near their end, a mount that writes reads the list by which the image recovers, and doesn't refuse it; also of the same log by other runs.
abbrev pub ReadsList : Type 0
ReadsList = (place place' : LogPlace) (kept : List Block) (w : StoreWindow) (image : SectorBytes) (x : RecoversWithin place (is_own place kept) w image) → IsRingPlace place → LieAlike place place' → IsFar place (next_lap_in place image)
    → (state : LogState) × (to_write_in (content_of image) place' kept ≡ Ok state) × (state.log ≡ x.list)
