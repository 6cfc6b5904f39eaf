-- The steps of a store.
use Rattle.std.specs.Prelude.{ℕ, ◌-◌, ◌^◌, ◌<◌, ◌≤◌, Bool, List, Option, unwrap_or, IfSome, Result, Ok, Err}
use Rattle.host_base.specs.declared.outside.Failed.{Failed}
use Rattle.device_blocks.specs.fixup_record.Protecting.{protected_bytes}
use Rattle.txn_laws.specs.sector_device.Moments.{Changes}
use Rattle.txn_laws.specs.log_page.declared.restart.Restart.{Restart}
use Rattle.txn_laws.specs.log_page.Places.{sequence_bits}
use Rattle.txn_laws.specs.log_page.Restarts.{restart_spelling}
use Rattle.device_blocks.specs.log_area.declared.restart.SentRestart.{SentRestart}
use Rattle.device_blocks.specs.log_area.Areas.{LogAreaOf, lap_at, next_number, restart_sector, sent_word, page_to_send}
use Rattle.device_blocks.specs.log_area.Calls.{IsSentOrNot}
use Rattle.txn_laws.specs.txn_model.Values.{StoreFacts}
use Rattle.txn_laws.specs.txn_model.Calls.{MayNameNoted, front_lsn, named_facts}
use Rattle.txn_laws.specs.txn_model.Told.{pages_end}

-- a restart page can be made: there is a lap for the least entry, and its count of opens isn't at its type's end
pub record HasNext (a : LogAreaOf) : Type 0 where
  pub lap : lap_at a (next_number a 0x58) < 2 ^ sequence_bits a.pages
  pub opens : a.opens < 2 ^ 32 - 1

-- the checkpoint that has begun may end by a restart page
abbrev pub MayRestart : StoreFacts → Type 0
MayRestart f = ((page : ℕ) × MayNameNoted f page) × HasNext f.log

-- no page of entries stands from the noted one on
abbrev pub IsLast : StoreFacts → Type 0
IsLast f = IfSome f.noted (λ page. pages_end f ≤ page)

-- the restart page that ends a checkpoint: the one that was sent already, or else one that names the noted page
abbrev pub restart_page : Bool → StoreFacts → Restart
restart_page clean f = page_to_send f.log (front_lsn f.log (unwrap_or f.noted 0)) clean

-- It was written; or the write failed, and this page was sent, or none.
abbrev pub restart_facts : Result (Unit {0}) Failed → Option SentRestart → StoreFacts → StoreFacts
restart_facts (Ok x) sent f = named_facts (unwrap_or f.noted 0) f
restart_facts (Err e) sent f = record f { log = record f.log { sent = sent } }

-- what the call did that sends it
abbrev pub SendsRestartPage : {D : Type 0} → (D → Option (List (List ℕ))) → (D → Changes) → (D → ℕ) → Bool → (f g : StoreFacts) → Result (Unit {0}) Failed → D → D → Type 0
SendsRestartPage gives changes moment clean f g result old new =
    IsSentOrNot gives changes moment (sent_word f.log.sent) (sent_word g.log.sent) (restart_sector f.log) (protected_bytes (restart_spelling (restart_page clean f))) result old new
