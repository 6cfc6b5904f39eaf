-- The entries of a change, and the log with them.
use Rattle.std.specs.Prelude.{ℕ, zero, suc, ◌+◌, ◌-◌, ◌*◌, ◌==◌, min, Bool, true, false, if◌then◌else◌, List, [], ◌∷◌, length, map, slice_set}
use Rattle.log_area.specs.disk_model.declared.block.Block.{Block}
use Rattle.log_area.specs.disk_model.Bytes.{part, written}
use Rattle.log_area.specs.disk_model.Sectors.{sectors}
use Rattle.log_area.specs.log_model.declared.entry.Entry.{Entry}
use Rattle.log_area.specs.log_model.declared.entry.Act.{Act}
use Rattle.log_area.specs.log_model.declared.entry.Act.TheVariants.{Update}
use Rattle.log_area.specs.log_model.Entries.{most_bytes, act_size}
use Rattle.log_area.specs.Areas.{LogAreaOf, next_lsn, place_at, appended}
use Rattle.block_pool.specs.Numbers.{kind_number}

-- so many bytes of a body from this one on
pub record Piece : Type 0 where
  pub at : ℕ
  pub count : ℕ

-- The bytes from this one on in pieces of at most 1,900, where at most so many pieces are taken.
abbrev pub cut : ℕ → ℕ → ℕ → List Piece
cut zero at n = []
cut (suc most) at n = if n == 0 then [] else record { at = at; count = min most_bytes n } ∷ cut most (at + min most_bytes n) (n - min most_bytes n)

-- three pieces have all bytes of any block
abbrev pub pieces : ℕ → ℕ → List Piece
pieces at n = cut 3 at n

-- The pieces that a change logs of so many bytes from this one on: the whole body where the block doesn't stand whole in the log.
abbrev pub logged_pieces : Bool → Block → ℕ → ℕ → List Piece
logged_pieces true b at n = pieces at n
logged_pieces false b at n = pieces 0 (512 * sectors b.kind)

-- the update of a piece, from the body before the transaction to the body after the change
abbrev pub update_of_piece : Block → List ℕ → List ℕ → Piece → Act
update_of_piece b before after p = Update b.first (kind_number b.kind) p.at (part p.at p.count after) (part p.at p.count before)

-- the updates that a change of a body logs
abbrev pub logged_acts : Bool → Block → (at : ℕ) (new before present : List ℕ) → List Act
logged_acts imaged b at new before present = map (update_of_piece b before (written at new present)) (logged_pieces imaged b at (length new))

-- ---- entries, one behind the other

-- the next entry of a transaction, behind its last one
abbrev pub next_entry : LogAreaOf → ℕ → ℕ → Act → Entry
next_entry log tx last act = record { lsn = next_lsn log (act_size act); previous = last; tx = tx; act = act }

-- the entries of these acts, the log with them, and the LSN of the last one
abbrev pub entries_of : LogAreaOf → ℕ → ℕ → List Act → List Entry
entries_of log tx last [] = []
entries_of log tx last (act ∷ acts) = let e = next_entry log tx last act in e ∷ entries_of (appended e log) tx e.lsn acts

abbrev pub log_with : LogAreaOf → ℕ → ℕ → List Act → LogAreaOf
log_with log tx last [] = log
log_with log tx last (act ∷ acts) = let e = next_entry log tx last act in log_with (appended e log) tx e.lsn acts

abbrev pub last_of : LogAreaOf → ℕ → ℕ → List Act → ℕ
last_of log tx last [] = last
last_of log tx last (act ∷ acts) = let e = next_entry log tx last act in last_of (appended e log) tx e.lsn acts

-- Each entry that is put into a page tells the place of that page so many commits.
abbrev pub ends_with : LogAreaOf → ℕ → ℕ → ℕ → List ℕ → List Act → List ℕ
ends_with log tx last commits ends [] = ends
ends_with log tx last commits ends (act ∷ acts) =
    let e = next_entry log tx last act in
    let with_entry = appended e log in
    ends_with with_entry tx e.lsn commits (slice_set ends (place_at with_entry with_entry.sealed) commits) acts
