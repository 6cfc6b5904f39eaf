-- Record 0 is too full by a draft's count where it is by a step's.
use Rattle.std.proofs.Common.{◌≡◌, ℕ, ◌-◌, ◌%◌, ◌<◌, [], Some, Err, refl, sym, ap, subst, ◌∙◌, inl, inr}
use Rattle.disk_model.specs.Content.{Content}
use Rattle.record_model.specs.Constants.{bitmap_type}
use Rattle.record_model.specs.Records.{Record}
use Rattle.state_model.specs.declared.geometry.Geometry.{Geometry}
use Rattle.state_model.specs.declared.stream.Extents.{Extents}
use Rattle.state_model.specs.declared.stream.Stream.{Stream}
use Rattle.state_model.specs.declared.stream.Stream.TheVariants.{Held, Placed}
use Rattle.state_model.specs.Loads.{total_clusters}
use Rattle.state_model.specs.Streams.{stream_of}
use Rattle.volume_model.specs.Volumes.{Volume, cluster_bits, file_in, table_file}
use Rattle.tree_model.specs.declared.reply.Reply.TheVariants.{RecordFull}
use Rattle.plan_table.proofs.Table.{table_records}
use Rattle.table_edits.specs.draft_growth.declared.table.Table.{Table}
use Rattle.table_edits.specs.draft_growth.Growing.{bitmap_size, grown_record, wanted_for, with_records}
use Rattle.table_edits.specs.draft_growth.resized_streams.Resizing.{clusters_for}
use Rattle.table_edits.specs.plan_edits.draft_records.Records.{fits_room}
use Rattle.table_edits.specs.Grown.{table_runs}
use Rattle.made_trees.proofs.plan_model.Drafting.{per_is}
use Rattle.made_trees.specs.step_model.Plans.{full_row}
use Rattle.made_steps.specs.Behind.{table_used}
use Rattle.table_makes.specs.Growing.{lacking, IsTooFullAs}
use Rattle.table_steps.specs.Steps.{RefusesTableFirst, TableIsRefused}
use Rattle.table_steps.proofs.Growing.{IsReadIn, IsTableIn, bitmap_by, table_by, placed_same}
use Rattle.table_steps.proofs.Full.{full_alone, full_with_bitmap}

module _ (c : Content) (g : Geometry) (clusters : ℕ) (v : Volume) (r : Record) (n : ℕ) (k : RefusesTableFirst c g clusters v r n) where
  abbrev t : Table
  t = k.full.t

  read_in : IsTableIn r t
  read_in = table_by r t k.full.is

  numbers_in : IsReadIn 0 bitmap_type r t.bitmap
  numbers_in = bitmap_by 0 bitmap_type r t.bitmap (stream_of bitmap_type [] r.attrs) refl read_in.bitmap

  records : t.extents ≡ v.table
  records = placed_same t.extents v.table (sym read_in.records ∙ table_records c g clusters v r k.stands k.file)

  file_is : file_in v table_file ≡ Some t.bitmap.file
  file_is = k.file ∙ ap Some (sym numbers_in.file_is)

  stream_is : stream_of bitmap_type [] t.bitmap.file.attrs ≡ Some t.bitmap.stream
  stream_is = ap (λ (x : Record). stream_of bitmap_type [] x.attrs) numbers_in.file_is ∙ numbers_in.stream

  per_8 : v.per ≡ 8
  per_8 = per_is c g clusters v k.eight k.stands

  whole : v.table.real % 1024 ≡ 0
  whole = subst (λ (e : Extents). e.real % 1024 ≡ 0) records k.full.more.whole

  lacks : (e : Extents) → t.bitmap.stream ≡ Placed e → lacking t ≡ clusters_for v.per (bitmap_size t) - total_clusters e.runs
  lacks e at = ap (λ (x : Stream). wanted_for 8 (bitmap_size t) x) at ∙ ap (λ (p : ℕ). clusters_for p (bitmap_size t) - total_clusters e.runs) (sym per_8)

  by : (y : Stream) → t.bitmap.stream ≡ y → IsTooFullAs (cluster_bits c v) t n y → full_row (table_used c v) ≡ Some (RecordFull n)
  by (Held value) at full = absurd full
  by (Placed e) at (inl alone) =
      full_alone c g clusters v t e k.eight k.stands k.none file_is numbers_in.kind_is at (stream_is ∙ ap Some at) records whole n
      (sym (lacks e at) ∙ alone.0)
      (subst (λ (p : ℕ). fits_room (with_records p (table_runs (cluster_bits c v) t) t) ≡ Err n) (sym per_8) alone.1)
  by (Placed e) at (inr both) =
      full_with_bitmap c g clusters v t e k.eight k.stands k.none file_is numbers_in.kind_is at (stream_is ∙ ap Some at) records whole n
      (subst (λ (m : ℕ). 0 < m) (lacks e at) both.0)
      (subst (λ (p : ℕ). fits_room (grown_record p (cluster_bits c v) t) ≡ Err n) (sym per_8) both.1)

  pub refused_row : full_row (table_used c v) ≡ Some (RecordFull n)
  refused_row = by t.bitmap.stream refl k.full.full

pub refused : TableIsRefused
refused c g clusters v r n k = refused_row c g clusters v r n k
