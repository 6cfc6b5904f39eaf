-- The steps that make room in the log of a volume.
use Rattle.std.specs.Prelude.{◌≡◌, ◌↔◌, ℕ, ◌-◌, ◌≤◌, nat_le, Bool, true, false, if◌then◌else◌, Option, Some, None, Result, Ok, Err}
use Rattle.host_base.specs.declared.outside.Failed.{Failed}
use Rattle.log_area.specs.Areas.{next_lsn, used_pages, free_pages}
use Rattle.flush_policy.specs.declared.facts.Facts.{Facts}
use Rattle.flush_policy.specs.declared.facts.StoreStep.{StoreStep}
use Rattle.flush_policy.specs.declared.facts.StoreStep.TheVariants.{WriteRestart}
use Rattle.flush_policy.specs.Choice.{next_step}
use Rattle.txn_model.specs.Values.{StoreFacts}
use Rattle.txn_model.specs.Told.{FactsTold, KeepsSteps}
use Rattle.volume_core.specs.txn_core.Kept.{IsKept}
use Rattle.volume_core.specs.txn_core.Turns.{HasNext}

-- so many pages of the log are free
abbrev pub has_room : ℕ → Facts → Bool
has_room pages told = nat_le pages (told.pages - told.pages_used)

-- the step, unless it needs a restart page and none can be made
abbrev pub may_come : Bool → Option StoreStep → Option StoreStep
may_come next None = None
may_come next (Some WriteRestart) = if next then Some WriteRestart else None
may_come next (Some step) = Some step

-- the step that comes next, where not so many pages are free
abbrev pub room_step : ℕ → Bool → Facts → Option StoreStep
room_step pages next told = if has_room pages told then None else may_come next (next_step told)

-- what a store tells is this, but for the LSN that a commit would have
abbrev pub TellsButNext : StoreFacts → Facts → Type 0
TellsButNext f told = FactsTold f (record told { next = next_lsn f.log 0x58 })

-- What a store tells, and what is so of it then, where no transaction is open.
pub record IsTelling (f : StoreFacts) (told : Facts) : Type 0 where
  pub says : TellsButNext f told
  pub kept : IsKept f
  pub steps : KeepsSteps f
  pub closed : f.is_open ≡ false

-- Whether so many pages of the log are free; and where they aren't, all of the log is, unless no restart page can be made.
abbrev pub IsRoomMade : ℕ → Result Bool Failed → StoreFacts → Type 0
IsRoomMade pages (Ok made) f = ((made ≡ true) ↔ (pages ≤ free_pages f.log)) × (made ≡ false → HasNext f.log → used_pages f.log ≡ 0)
IsRoomMade pages (Err e) f = Unit {0}
