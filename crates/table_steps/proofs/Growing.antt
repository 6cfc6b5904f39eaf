-- A file table that a draft has let grow first, from a state.
use Rattle.std.proofs.Common.{◌≡◌, ℕ, ◌+◌, ◌%◌, ◌≤◌, Bool, List, [], ◌∷◌, ◌++◌, length, Option, Some, None, Ok, refl, sym, ap, ap₂, subst, ◌∙◌, inl, inr}
use Rattle.std.proofs.lemmas.List.{append-nil}
use Rattle.std.specs.Option.{option_map}
use Rattle.std.specs.List.{AllByRecursion}
use Rattle.disk_model.specs.Content.{Content}
use Rattle.record_model.specs.declared.runs.Run.{Run}
use Rattle.record_model.specs.Constants.{bitmap_type, data_type}
use Rattle.record_model.specs.Records.{Record}
use Rattle.bit_set.specs.Bits.{bit}
use Rattle.bit_set.proofs.Views.{length-bits_of_bytes}
use Rattle.space_model.specs.Choosing.{with_clusters, with_runs}
use Rattle.state_model.specs.declared.geometry.Geometry.{Geometry}
use Rattle.state_model.specs.declared.stream.Extents.{Extents}
use Rattle.state_model.specs.declared.stream.Stream.{Stream}
use Rattle.state_model.specs.declared.stream.Stream.TheVariants.{Held, Placed}
use Rattle.state_model.specs.Loads.{most_records, record_count}
use Rattle.state_model.specs.Streams.{stream_of}
use Rattle.volume_model.specs.Volumes.{Volume, bytes_or, cluster_bits, cluster_bitmap, file_stream}
use Rattle.plan_draft.specs.declared.touched.Touched.{Touched}
use Rattle.plan_draft.specs.Drafts.{drafted}
use Rattle.plan_table.proofs.Table.{table_records}
use Rattle.table_edits.specs.draft_growth.draft_bitmaps.declared.bitmap.Bitmap.{Bitmap}
use Rattle.table_edits.specs.draft_growth.declared.table.Table.{Table}
use Rattle.table_edits.specs.draft_growth.Growing.{behind_table, grown_record, space_of, with_records, GrowsTable}
use Rattle.table_edits.specs.plan_edits.draft_records.Records.{fits_room}
use Rattle.table_edits.specs.Grown.{table_runs, numbers_runs, GrowsOfVolume}
use Rattle.made_trees.proofs.plan_model.Drafting.{per_is}
use Rattle.made_trees.proofs.written_values.Joining.{nothing_put, nothing_kept}
use Rattle.made_trees.specs.file_puts.declared.streams.VolumeStreams.{VolumeStreams}
use Rattle.made_trees.specs.file_puts.Written.{AreStreamsOf}
use Rattle.made_trees.specs.step_model.Placing.{Growth, taken_runs}
use Rattle.made_trees.specs.step_model.Plans.{bits_left, table_change}
use Rattle.made_trees.specs.Grown.{IsOfTable}
use Rattle.table_makes.specs.grown_tables.First.{table_volume, MayBePut, TableGrowsFirst}
use Rattle.table_makes.specs.grown_tables.Full.{MayBeCounted, TableIsNotFull}
use Rattle.table_makes.specs.grown_tables.Ready.{IsReady, TableIsReady, TableTakesLittle}
use Rattle.table_makes.proofs.grown_tables.Counted.{numbers_by}
use Rattle.table_makes.proofs.grown_tables.First.{CountsNumbers, counts_placed, more_is}
use Rattle.table_makes.proofs.grown_tables.Held.{counts_held}
use Rattle.planned_streams.specs.Planned.{as_bitmap, bitmap_in, placed_in, table_in, table_with}
use Rattle.table_makes.specs.Growing.{GrowsAsCounted, TableGrew}
use Rattle.table_makes.specs.declared.grown.TableGrown.{TableGrown}
use Rattle.table_steps.specs.Steps.{GrowsTableFirst, HasTableFirst, TableTakesStep}

-- ---- the streams that are read of a record

-- a bitmap that is read of a record: its stream is the record's
pub record IsReadIn (n kind : ℕ) (r : Record) (b : Bitmap) : Type 0 where
  pub kind_is : b.kind ≡ kind
  pub file_is : b.file ≡ r
  pub stream : stream_of kind [] r.attrs ≡ Some b.stream

pub bitmap_by : (n kind : ℕ) (r : Record) (b : Bitmap) (o : Option Stream) → stream_of kind [] r.attrs ≡ o → bitmap_in n kind r ≡ Some b → IsReadIn n kind r b
bitmap_by n kind r b o at is = by o at (sym (ap (λ (x : Option Stream). option_map (as_bitmap n kind r) x) at) ∙ is)
  where
    by : (x : Option Stream) → stream_of kind [] r.attrs ≡ x → option_map (as_bitmap n kind r) x ≡ Some b → IsReadIn n kind r b
    by None there same = absurd cc
    by (Some s) there same = (let equal : as_bitmap n kind r s ≡ b = cc in record { kind_is = sym (ap (λ (y : Bitmap). y.kind) equal); file_is = sym (ap (λ (y : Bitmap). y.file) equal); stream = there ∙ ap (λ (y : Bitmap). Some y.stream) equal })

-- a table that is read of record 0
pub record IsTableIn (r : Record) (t : Table) : Type 0 where
  pub records : stream_of data_type [] r.attrs ≡ Some (Placed t.extents)
  pub bitmap : bitmap_in 0 bitmap_type r ≡ Some t.bitmap

pub table_by : (r : Record) (t : Table) → table_in r ≡ Some t → IsTableIn r t
table_by r t is = by (stream_of data_type [] r.attrs) (bitmap_in 0 bitmap_type r) refl refl is
  where
    by : (x : Option Stream) (y : Option Bitmap) → stream_of data_type [] r.attrs ≡ x → bitmap_in 0 bitmap_type r ≡ y → table_with (placed_in x) y ≡ Some t → IsTableIn r t
    by None y own other same = absurd cc
    by (Some (Held value)) y own other same = absurd cc
    by (Some (Placed e)) None own other same = absurd cc
    by (Some (Placed e)) (Some b) own other same = (let equal : record { extents = e; bitmap = b } ≡ t = cc in record { records = own ∙ ap (λ (z : Table). Some (Placed z.extents)) equal; bitmap = other ∙ ap (λ (z : Table). Some z.bitmap) equal })

pub placed_same : (d e : Extents) → Some (Placed d) ≡ Some (Placed e) → d ≡ e
placed_same d e is = cc

pub stream_same : (x y : Stream) → Some x ≡ Some y → x ≡ y
stream_same x y is = cc

-- ---- bits

runs_then : (xs ys : List Run) (bits : List Bool) → with_runs ys (with_runs xs bits) ≡ with_runs (xs ++ ys) bits
unfolding with_runs
runs_then [] ys bits = refl
runs_then (x ∷ xs) ys bits = runs_then xs ys (with_clusters x.lcn x.len bits)

count_bits : (c : Content) (v : Volume) → length (cluster_bits c v) ≡ v.clusters
unfolding cluster_bits
count_bits c v = length-bits_of_bytes (bytes_or c v.per (cluster_bitmap v)) v.clusters

module _ (c : Content) (g : Geometry) (clusters : ℕ) (v : Volume) (s : VolumeStreams) (file bits_file : Record) (new : List Touched) (x : TableGrown) (behind : List Bool) (k : GrowsTableFirst c g clusters v s file bits_file new x behind) where
  abbrev bits : List Bool
  bits = cluster_bits c v

  abbrev grew : TableGrew c (cluster_bits c v) s file bits_file [] new x behind
  grew = k.grew

  abbrev t : Table
  t = k.grew.t

  abbrev may : GrowsAsCounted (cluster_bits c v) file k.grew.t
  may = k.grew.may

  per_8 : v.per ≡ 8
  per_8 = per_is c g clusters v k.eight k.stands

  read_in : IsTableIn file t
  read_in = table_by file t may.is

  numbers_in : IsReadIn 0 bitmap_type file t.bitmap
  numbers_in = bitmap_by 0 bitmap_type file t.bitmap (stream_of bitmap_type [] file.attrs) refl read_in.bitmap

  clusters_in : IsReadIn 6 data_type bits_file grew.b
  clusters_in = bitmap_by 6 data_type bits_file grew.b (stream_of data_type [] bits_file.attrs) refl grew.marks

  records : t.extents ≡ v.table
  records = placed_same t.extents v.table (sym read_in.records ∙ table_records c g clusters v file k.stands k.file)

  file_is : t.bitmap.file ≡ file
  file_is = numbers_in.file_is

  marks_are : grew.b.stream ≡ Placed s.bitmap
  marks_are = stream_same grew.b.stream (Placed s.bitmap) (sym clusters_in.stream ∙ sym (ap (file_stream data_type []) k.bits_file) ∙ k.streams.bitmap.stream)

  first_is : drafted [] c ≡ c
  first_is = nothing_put c k.sized

  abbrev At : (ℕ → Type 0) → Type 0
  At P = P v.per

  by_per : (P : ℕ → Type 0) → P 8 → P v.per
  by_per P known = subst P (sym per_8) known

  pub grows_of : GrowsOfVolume c v (cluster_bits c v) s.bitmap s.mirror k.grew.t k.grew.b [] new k.grew.after k.grew.marked
  grows_of = record {
    sized = k.sized;
    kept = nothing_kept;
    count = count_bits c v;
    free = λ y clear. ap (λ (d : Content). bit (cluster_bits d v) y) first_is ∙ clear;
    space = by_per (λ p. space_of p bits t ≡ Ok tt) may.space;
    table = records;
    file = k.file ∙ ap Some (sym file_is);
    kind = numbers_in.kind_is;
    stream = ap (λ (r : Record). stream_of bitmap_type [] r.attrs) file_is ∙ numbers_in.stream;
    stands = may.stands;
    whole = subst (λ (e : Extents). e.real % 1024 ≡ 0) records may.more.whole;
    few = subst (λ (e : Extents). record_count e + 256 ≤ most_records) records may.more.few;
    marks = k.streams.bitmap;
    marks_are = marks_are;
    mirror_is = k.streams.mirror;
    grows = by_per (λ p. GrowsTable c p bits s.mirror t grew.b [] new grew.after grew.marked) grew.grows;
    room = by_per (λ p. fits_room (grown_record p bits t) ≡ Ok tt) may.room;
  }

  may_put : MayBePut (numbers_runs v.per (cluster_bits c v) k.grew.t) k.grew.t.bitmap.stream
  may_put = by_per (λ p. MayBePut (numbers_runs p bits t) t.bitmap.stream) may.put

  may_count : MayBeCounted (fits_room (with_records v.per (table_runs (cluster_bits c v) k.grew.t) k.grew.t)) (numbers_runs v.per (cluster_bits c v) k.grew.t) k.grew.t.bitmap.stream
  may_count = by_per (λ p. MayBeCounted (fits_room (with_records p (table_runs bits t) t)) (numbers_runs p bits t) t.bitmap.stream) may.counted

  abbrev u : Volume
  u = table_volume c v k.grew.t k.grew.after

  -- ---- what a step counts of it

  counted : (K : Growth) × CountsNumbers c v (table_volume c v k.grew.t k.grew.after) (numbers_runs v.per (cluster_bits c v) k.grew.t) K
  counted = by t.bitmap.stream refl may_put
    where
      by : (y : Stream) → k.grew.t.bitmap.stream ≡ y → MayBePut (numbers_runs v.per (cluster_bits c v) k.grew.t) y → (K : Growth) × CountsNumbers c v (table_volume c v k.grew.t k.grew.after) (numbers_runs v.per (cluster_bits c v) k.grew.t) K
      by (Held value) at short = counts_held c g clusters v s.bitmap s.mirror k.grew.t k.grew.b new k.grew.after k.grew.marked k.eight k.stands k.none grows_of value at short
      by (Placed e) at joined = (numbers_by (cluster_bits c v) v v.table e, counts_placed c g clusters v s.bitmap s.mirror k.grew.t k.grew.b new k.grew.after k.grew.marked k.eight k.stands k.none grows_of e at joined)

  of_table : AllByRecursion IsOfTable (table_change c v).growths
  of_table = subst (AllByRecursion IsOfTable) (sym counted.1.growths) (inl refl, (inr counted.1.key, tt))

  -- the bits that a step leaves
  are_left : behind ≡ bits_left c v
  are_left =
      grew.left
      ∙ by_per (λ p. behind_table 8 bits t ≡ behind_table p bits t) refl
      ∙ runs_then (table_runs bits t) (numbers_runs v.per bits t) bits
      ∙ ap₂ (λ (xs ys : List Run). with_runs (xs ++ ys) bits) (more_is c g clusters v s.bitmap s.mirror t grew.b new grew.after grew.marked k.eight k.stands k.none grows_of) (counted.1.runs ∙ sym (append-nil counted.0.runs))
      ∙ sym (ap (λ (l : List Growth). with_runs (taken_runs l) bits) counted.1.growths)

  pub takes_step : TableGrowsFirst → TableIsReady → TableIsNotFull → TableTakesLittle → HasTableFirst c g clusters v new x behind
  takes_step first ready not_full little =
      let is_ready : IsReady c v s grew.after x.numbers u new = ready c g clusters v s s.bitmap s.mirror t grew.b new grew.after grew.marked x.numbers k.eight k.stands k.none grows_of grew.numbers k.streams in
      record {
        u = u;
        per = refl;
        count = refl;
        before = λ n r own directory. (first c g clusters v n r s.bitmap s.mirror t grew.b new grew.after grew.marked k.eight k.stands k.none grows_of may_put own directory).0;
        index = λ n r own directory. (first c g clusters v n r s.bitmap s.mirror t grew.b new grew.after grew.marked k.eight k.stands k.none grows_of may_put own directory).1;
        table = of_table;
        streams = subst (AreStreamsOf u) (sym grew.streams) is_ready.streams;
        numbers = is_ready.bits;
        spare = is_ready.spare;
        little = little c g clusters v s.bitmap s.mirror t grew.b new grew.after grew.marked k.eight k.stands k.none grows_of may_put;
        room = not_full c g clusters v s.bitmap s.mirror t grew.b new grew.after grew.marked k.eight k.stands k.none grows_of may_count;
        left = are_left;
      }

pub takes : TableGrowsFirst → TableIsReady → TableIsNotFull → TableTakesLittle → TableTakesStep
takes first ready not_full little c g clusters v s file bits_file new x behind k = takes_step c g clusters v s file bits_file new x behind k first ready not_full little
