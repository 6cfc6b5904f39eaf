-- A file table as a step counts it.
use Rattle.std.proofs.Common.{◌≡◌, ℕ, ◌-◌, Bool, List, [], length, Result, Ok, Err, sym, ap, ap₂, ◌∙◌}
use Rattle.std.specs.Prelude.{IfErr}
use Rattle.record_model.specs.declared.runs.Run.{Run}
use Rattle.record_model.specs.Records.{Record}
use Rattle.record_streams.specs.Placing.{placed_record}
use Rattle.space_model.specs.Choosing.{chosen}
use Rattle.state_model.specs.declared.stream.Extents.{Extents}
use Rattle.state_model.specs.declared.stream.Stream.{Stream}
use Rattle.state_model.specs.declared.stream.Stream.TheVariants.{Placed}
use Rattle.state_model.specs.Loads.{total_clusters}
use Rattle.stream_runs.specs.Runs.{last_cluster}
use Rattle.resized_streams.specs.Resizing.{clusters_for, lengthened}
use Rattle.draft_growth.specs.declared.table.Table.{Table}
use Rattle.draft_growth.specs.Growing.{behind_records, bitmap_behind, bitmap_size, grown_record, more_for, numbers_bytes, numbers_in, roomier, size_in, standing_in, wanted_for, with_records, with_room}
use Rattle.draft_growth.proofs.Tables.{length-with_runs}
use Rattle.table_edits.specs.Grown.{table_runs}
use Rattle.table_makes.specs.declared.fault.CountFault.{CountFault}
use Rattle.table_makes.specs.declared.fault.CountFault.TheVariants as count
use Rattle.table_makes.specs.Faults.{OnCountFull}
use Rattle.table_makes.specs.Growing.{lacking}

pub full_by : (r : Result (Unit {0}) CountFault) (P Q : ℕ → Type 0) → ((used : ℕ) → P used → Q used) → IfErr r (OnCountFull P) → IfErr r (OnCountFull Q)
full_by (Ok done) P Q then is = tt
full_by (Err (count.Full used)) P Q then is = then used is
full_by (Err count.Memory) P Q then is = tt
full_by (Err count.Unplanned) P Q then is = tt

pub same_count : (bits now : List Bool) (t : Table) → now ≡ behind_records bits t → length now ≡ length bits
same_count bits now t is = ap length is ∙ length-with_runs (table_runs bits t) bits

size_is : (size : ℕ) (t : Table) (e : Extents) → t.bitmap.stream ≡ Placed e → size ≡ numbers_bytes t → size ≡ bitmap_size t
size_is size t e stream same = same ∙ sym (ap (λ (x : Stream). size_in x (numbers_bytes t)) stream)

pub lacking_is : (size : ℕ) (t : Table) (e : Extents) → t.bitmap.stream ≡ Placed e → size ≡ numbers_bytes t → wanted_for 8 size (Placed e) ≡ lacking t
lacking_is size t e stream same = ap₂ (λ (n : ℕ) (x : Stream). wanted_for 8 n x) (size_is size t e stream same) (sym stream)

pub longer_is : (per size wanted : ℕ) (bits now : List Bool) (t : Table) (e : Extents) (file longer : Record) → per ≡ 8 → t.bitmap.stream ≡ Placed e → size ≡ numbers_bytes t → wanted ≡ wanted_for 8 size (Placed e) → now ≡ behind_records bits t → file ≡ with_records per (table_runs bits t) t
    → longer ≡ placed_record per t.bitmap.kind [] (roomier per size (chosen now (last_cluster e.runs) wanted) e) (placed_record per t.bitmap.kind [] (lengthened per (chosen now (last_cluster e.runs) wanted) e) file) → longer ≡ grown_record 8 bits t
longer_is per size wanted bits now t e file longer eight stream same lacks left records is =
    is
    ∙ ap (λ (r : Record). put per size (chosen now (last_cluster e.runs) wanted) r) records
    ∙ ap (λ (p : ℕ). put p size (chosen now (last_cluster e.runs) wanted) (with_records p (table_runs bits t) t)) eight
    ∙ ap₂ (λ (l : List Bool) (w : ℕ). put 8 size (chosen l (last_cluster e.runs) w) (with_records 8 (table_runs bits t) t)) left lacks
    ∙ ap (λ (n : ℕ). put 8 n (chosen (behind_records bits t) (last_cluster e.runs) (clusters_for 8 n - total_clusters e.runs)) (with_records 8 (table_runs bits t) t)) (size_is size t e stream same)
    ∙ sym (ap (λ (x : Stream). (with_room 8 (bitmap_size t) (more_for 8 (bitmap_size t) (behind_records bits t) x) x (bitmap_behind 8 bits t)).file) stands_as)
  where
    put : ℕ → ℕ → List Run → Record → Record
    put p n more r = placed_record p t.bitmap.kind [] (roomier p n more e) (placed_record p t.bitmap.kind [] (lengthened p more e) r)

    stands_as : numbers_in 8 bits t ≡ Placed e
    stands_as = ap (λ (x : Stream). standing_in x (bitmap_size t) (bitmap_behind 8 bits t)) stream
