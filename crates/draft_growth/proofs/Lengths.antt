-- Streams of record 0 that become longer.
use Rattle.std.proofs.Common.{◌≡◌, ℕ, max, List, [], ap, ap₂, ◌∙◌}
use Rattle.record_model.specs.Constants.{data_type}
use Rattle.record_model.specs.declared.runs.Run.{Run}
use Rattle.record_model.specs.Records.{Record}
use Rattle.draft_bitmaps.specs.state_model.declared.stream.Extents.{Extents}
use Rattle.draft_bitmaps.specs.state_model.declared.stream.Stream.TheVariants.{Placed}
use Rattle.draft_bitmaps.specs.record_streams.Placing.{placed_record}
use Rattle.draft_bitmaps.specs.resized_streams.declared.resized.Resized.{Resized}
use Rattle.draft_bitmaps.specs.resized_streams.Resizing.{with_sizes, IsGrown}
use Rattle.draft_bitmaps.specs.declared.bitmap.Bitmap.{Bitmap}
use Rattle.draft_growth.specs.declared.table.Table.{Table}
use Rattle.draft_growth.specs.Growing.{larger, placed_in, roomier, with_room, IsLongerData}

pub data_longer : (per : ℕ) (t : Table) (more : List Run) (grown z : Resized) → IsGrown per data_type [] t.extents t.bitmap.file more grown → z.extents ≡ larger grown.extents → z.file ≡ placed_record per data_type [] (larger grown.extents) grown.file
    → z.taken.items ≡ grown.taken.items → IsLongerData per t more z
data_longer per t more grown z is extents file taken = record {
  extents = extents ∙ ap larger is.extents;
  file = file ∙ ap₂ (λ (x : Extents) (r : Record). placed_record per data_type [] (larger x) r) is.extents is.file;
  taken = taken ∙ is.taken;
}

pub bitmap_longer : (per size : ℕ) (b new : Bitmap) (e : Extents) (more : List Run) (grown : Resized) → IsGrown per b.kind [] e b.file more grown → new ≡ placed_in per (with_sizes (max grown.extents.real size) grown.extents.initialised grown.extents) grown.file b
    → new ≡ with_room per size more (Placed e) b
bitmap_longer per size b new e more grown is placed = placed ∙ ap (λ (x : Extents). placed_in per (with_sizes (max x.real size) x.initialised x) grown.file b) is.extents ∙ ap (λ (r : Record). placed_in per (roomier per size more e) r b) is.file
