-- A record that is put is read as it was meant.
use Rattle.std.specs.Prelude.{◌≡◌, ℕ, ◌%◌, true, false, List, Ok}
use Rattle.disk_model.specs.Content.{Content}
use Rattle.plan_values.specs.record_model.Pairs.{HasSpelling}
use Rattle.plan_values.specs.record_model.Records.{Record, record_spelling}
use Rattle.plan_values.specs.record_writer.NormalLaws.{FitsByRoom}
use Rattle.plan_values.specs.state_model.declared.stream.Extents.{Extents}
use Rattle.plan_values.specs.state_model.Loads.{Used, slot_of, table_slot, has_all_pairs}
use Rattle.plan_values.specs.record_streams.Placing.{placed_record}
use Rattle.draft_resized.specs.draft_records.Records.{written_record, fits_room}
use Rattle.plan_values.specs.plan_growth.Streams.{IsWritten}

-- the record has the flag in use, and its mapping pairs fit
pub record IsInUse (r : Record) : Type 0 where
  pub flag : r.head.flags % 2 ≡ 1
  pub pairs : has_all_pairs r ≡ true

-- A record in use that has room is read, of the body that is put, as it is written. So is each that the table has in use, and one of which
-- a stream is placed in other clusters.
pub record WrittenIsRead : Type 0 where
  pub reads : (r : Record) → FitsByRoom r → fits_room r ≡ Ok tt → IsInUse r → slot_of (record { bytes = record_spelling (written_record r); torn = false }) ≡ Used (written_record r)
  pub written : (r : Record) → IsWritten r (written_record r)
  pub used : (c : Content) (per : ℕ) (e : Extents) (n : ℕ) (r : Record) → table_slot c per e n ≡ Used r → IsInUse r
  pub placed : (per kind : ℕ) (name : List ℕ) (e : Extents) (r : Record) → HasSpelling 0 e.runs → IsInUse r → IsInUse (placed_record per kind name e r)
