-- What a mount leaves of the blocks by which a log is found.
use Rattle.std.specs.Prelude.{ℕ, List, Option, IfSome, Result}
use Rattle.host_base.specs.declared.outside.Failed.{Failed}
use Rattle.disk_model.specs.declared.block.Block.{Block}
use Rattle.sector_device.specs.Moments.{Changes}
use Rattle.log_page.specs.declared.places.LogPlace.{LogPlace}
use Rattle.txn_mount.specs.log_recovery.declared.found.RecoveredBlock.{RecoveredBlock}
use Rattle.txn_mount.specs.log_recovery.LogStates.{LogState}
use Rattle.store_model.specs.Geometry.{SectorBytes}
use Rattle.txn_mount.specs.Laws.{MayMount, MountsAs}
use Rattle.found_stays.specs.Found.{AreOffLog, StaysOver}

-- All that a mount writes leaves their sectors, wherever it is stopped.
abbrev pub MountsStay : {D : Type 0} → (D → Option (List (List ℕ))) → (D → ℕ) → (D → Changes) → Type 0
MountsStay {D} gives moment changes = (count : ℕ) (first : SectorBytes) (place : LogPlace) (kept : List Block) (state : LogState) (items : List RecoveredBlock) (result : Result (Unit {0}) Failed) (old new : D) → AreOffLog place kept → IfSome (changes old).disk (MayMount place kept state items)
    → MountsAs gives changes moment place state items result old new → StaysOver count kept first (changes old) (changes new)
