-- Steps of a table that grows, one after the other.
use Rattle.std.proofs.Common.{◌≡◌, ℕ, ◌+◌, Bool, true, List, Option, Some, None}
use Rattle.std.specs.Prelude.{IfSome, Result, Ok, Err, OnOk}
use Rattle.disk_model.specs.Bytes.{zeros}
use Rattle.disk_model.specs.Content.{Content}
use Rattle.record_model.specs.declared.runs.Run.{Run}
use Rattle.draft_bitmaps.specs.space_model.Choosing.{chosen, with_runs}
use Rattle.draft_bitmaps.specs.state_model.declared.stream.Extents.{Extents}
use Rattle.draft_bitmaps.specs.stream_runs.Runs.{last_cluster}
use Rattle.draft_bitmaps.specs.plan_draft.declared.touched.Touched.{Touched}
use Rattle.draft_bitmaps.specs.resized_streams.declared.resized.Resized.{Resized}
use Rattle.draft_bitmaps.specs.declared.bitmap.Bitmap.{Bitmap}
use Rattle.draft_growth.specs.declared.longer.Longer.{Longer}
use Rattle.draft_growth.specs.declared.table.Table.{Table}
use Rattle.draft_growth.specs.Clusters.{PutsRunsOf}
use Rattle.draft_growth.specs.Growing.{table_clusters, table_records, record_count, bitmap_size, in_file, with_empty_records, IsLongerData, IsLonger, PutsTable, PutsOwners, PutsGrown, GrowsTable}

owners_known : (content : Option Content) (per : ℕ) (table mirror : Extents) (own more : List Run) (b between after : Bitmap) (old mid new : List Touched) → IfSome content (λ c. PutsRunsOf c per table mirror true own b old mid between)
    → IfSome content (λ c. PutsRunsOf c per table mirror true more between mid new after) → IfSome content (λ c. PutsOwners c per table mirror own more b old new after)
owners_known None per table mirror own more b between after old mid new first second = tt
owners_known (Some c) per table mirror own more b between after old mid new first second = (between, mid, first, second)

pub owners_put : {T E : Type 0} (r : Result T E) (content : Option Content) (per : ℕ) (table mirror : Extents) (own more : List Run) (b between after : Bitmap) (old mid new : List Touched)
    → IfSome content (λ c. PutsRunsOf c per table mirror true own b old mid between) → OnOk r (IfSome content (λ c. PutsRunsOf c per table mirror true more between mid new after)) → OnOk r (IfSome content (λ c. PutsOwners c per table mirror own more b old new after))
owners_put (Ok x) content per table mirror own more b between after old mid new first second = owners_known content per table mirror own more b between after old mid new first second
owners_put (Err e) content per table mirror own more b between after old mid new first second = tt

pub grown_put : (content : Option Content) (per : ℕ) (table mirror : Extents) (taken : List Run) (l : Longer) (b : Bitmap) (first : ℕ) (old cleared marked new : List Touched) (after clusters : Bitmap)
    → IfSome content (λ c. PutsTable c per table mirror l.bitmap l.leaving first old cleared after) → IfSome content (λ c. PutsOwners c per table mirror taken l.taken.items b cleared marked clusters)
    → IfSome content (λ c. new ≡ with_empty_records c per table (zeros 1024) first table_records marked) → IfSome content (λ c. PutsGrown c per table mirror taken l b first old new after clusters)
grown_put None per table mirror taken l b first old cleared marked new after clusters put owners fresh = tt
grown_put (Some c) per table mirror taken l b first old cleared marked new after clusters put owners fresh = (cleared, marked, put, owners, fresh)

pub table_grown : (content : Option Content) (per : ℕ) (bits : List Bool) (mirror : Extents) (t after : Table) (records : Resized) (longer : Longer) (b clusters : Bitmap) (old new : List Touched)
    → IsLongerData per t (chosen bits (last_cluster t.extents.runs) table_clusters) records → IsLonger per (bitmap_size t) (with_runs records.taken.items bits) (in_file records.file t.bitmap) longer
    → IfSome content (λ c. PutsGrown c per records.extents mirror records.taken.items longer b (record_count t.extents) old new after.bitmap clusters) → after.extents ≡ records.extents
    → IfSome content (λ c. GrowsTable c per bits mirror t b old new after clusters)
table_grown None per bits mirror t after records longer b clusters old new is_records is_longer put extents = tt
table_grown (Some c) per bits mirror t after records longer b clusters old new is_records is_longer put extents = record {
  records = records;
  longer = longer;
  is_records = is_records;
  is_longer = is_longer;
  put = put;
  lies = extents;
}
