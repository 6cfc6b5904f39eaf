-- Entries that may be appended to a log, one behind the other.
use Rattle.std.specs.Prelude.{◌≡◌, ◌⊎◌, ℕ, ◌^◌, ◌<◌, false, List, [], ◌∷◌}
use Rattle.log_area.specs.log_model.declared.entry.Entry.{Entry}
use Rattle.log_area.specs.log_model.declared.entry.Act.{Act}
use Rattle.log_area.specs.log_model.Entries.{entry_size, FitsEntry}
use Rattle.log_area.specs.log_page.Places.{sequence_bits}
use Rattle.log_area.specs.Areas.{LogAreaOf, lap_at, next_number, needs_page, free_pages, appended}
use Rattle.txn_model.specs.Pieces.{next_entry}

-- the entry has a spelling, and there is a lap and room for it
pub record MayAppend (a : LogAreaOf) (e : Entry) : Type 0 where
  pub fits : FitsEntry e
  pub lap : lap_at a (next_number a (entry_size e)) < 2 ^ sequence_bits a.pages
  pub room : (needs_page a (entry_size e) ≡ false) ⊎ (0 < free_pages a)

-- so do these of a transaction
abbrev pub MayAppendAll : LogAreaOf → ℕ → ℕ → List Act → Type 0
MayAppendAll log tx last [] = Unit {0}
MayAppendAll log tx last (act ∷ acts) = let e = next_entry log tx last act in MayAppend log e × MayAppendAll (appended e log) tx e.lsn acts
