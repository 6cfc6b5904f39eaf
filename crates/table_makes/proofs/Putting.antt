-- What is put of a file table that grows, over a content that may be known.
use Rattle.std.proofs.Common.{◌≡◌, ℕ, Bool, List, [], length, Option, Some, None, Result, Ok, Err, refl, sym, ap, subst, ◌∙◌}
use Rattle.std.specs.Prelude.{IfErr, IfOk, IfSome}
use Rattle.host_base.specs.Answers.{GivesOrFails}
use Rattle.disk_model.specs.Content.{Content}
use Rattle.record_model.specs.Constants.{data_type}
use Rattle.record_model.specs.Records.{Record}
use Rattle.state_model.specs.declared.stream.Extents.{Extents}
use Rattle.state_model.specs.declared.stream.Stream.{Stream}
use Rattle.state_model.specs.declared.stream.Stream.TheVariants.{Held, Placed}
use Rattle.state_model.specs.Loads.{total_clusters}
use Rattle.plan_draft.specs.declared.touched.Touched.{Touched}
use Rattle.draft_records.specs.Records.{fits_room}
use Rattle.draft_bitmaps.specs.declared.bitmap.Bitmap.{Bitmap}
use Rattle.draft_growth.specs.Faults.{growth_room}
use Rattle.draft_growth.specs.declared.table.Table.{Table}
use Rattle.draft_growth.specs.Growing.{behind_records, behind_table, bitmap_behind, bitmap_size, grown_record, more_for, numbers_in, space_of, standing_in, wanted_for, with_records, GrowsTable, IsTable, MayHaveMore}
use Rattle.file_puts.specs.declared.streams.VolumeStreams.{VolumeStreams}
use Rattle.planned_streams.specs.Planned.{bitmap_in, table_in}
use Rattle.table_edits.specs.Grown.{numbers_runs, table_runs}
use Rattle.table_edits.proofs.Chosen.{numbers_size}
use Rattle.grown_tables.specs.First.{MayBePut}
use Rattle.grown_tables.specs.Full.{MayBeCounted}
use Rattle.table_makes.specs.declared.fault.TableFault.{TableFault}
use Rattle.table_makes.specs.declared.grown.TableGrown.{TableGrown}
use Rattle.table_makes.specs.Growing.{lacking, CountsTheSame, PutsFirst, TableGrew}

-- a table that grew had room in record 0
has_room : (m : Result (Unit {0}) ℕ) (after : Table) → IfErr m (λ used. GivesOrFails {X = Table} (λ z. tt {0}) growth_room (Ok after) (Err used)) → m ≡ Ok tt
has_room (Ok tt) after is = refl
has_room (Err used) after is = absurd (let wrong = is in cc)

pub put_first : (o : Option Content) (per : ℕ) (bits behind : List Bool) (s : VolumeStreams) (t after : Table) (b marked : Bitmap) (old new : List Touched) (x : TableGrown) → per ≡ 8 → IfSome o (λ c. GrowsTable c per bits s.mirror t b old new after marked) → space_of per bits t ≡ Ok tt
    → IfErr (fits_room (grown_record per bits t)) (λ used. GivesOrFails {X = Table} (λ z. tt {0}) growth_room (Ok after) (Err used)) → behind ≡ behind_table per bits t → x.streams ≡ record { table = after.extents; mirror = s.mirror; bitmap = s.bitmap } → after.bitmap.stream ≡ Placed x.numbers
    → IfSome o (λ c. PutsFirst c bits s t b old new x behind)
put_first None per bits behind s t after b marked old new x eight grows space room left streams numbers = tt
put_first (Some c) per bits behind s t after b marked old new x eight grows space room left streams numbers = record {
  after = after;
  marked = marked;
  grows = subst (λ (p : ℕ). GrowsTable c p bits s.mirror t b old new after marked) eight grows;
  space = subst (λ (p : ℕ). space_of p bits t ≡ Ok tt) eight space;
  room = subst (λ (p : ℕ). fits_room (grown_record p bits t) ≡ Ok tt) eight (has_room (fits_room (grown_record per bits t)) after room);
  streams = streams;
  numbers = numbers;
  left = subst (λ (p : ℕ). behind ≡ behind_table p bits t) eight left;
}

-- a bitmap in clusters that takes none lacks none
module _ (bits : List Bool) (t : Table) (stands : IsTable (length bits) t) (space : space_of 8 bits t ≡ Ok tt) (e : Extents) (at : t.bitmap.stream ≡ Placed e) where
  numbers_as : numbers_in 8 bits t ≡ Placed e
  numbers_as = ap (λ (y : Stream). standing_in y (bitmap_size t) (bitmap_behind 8 bits t)) at

  lacks_none : numbers_runs 8 bits t ≡ [] → lacking t ≡ 0
  lacks_none none =
      let size = numbers_size 8 bits bits t stands.few (λ y clear. clear) space stands e numbers_as in
      let own : total_clusters (numbers_runs 8 bits t) ≡ total_clusters (more_for 8 (bitmap_size t) (behind_records bits t) (Placed e)) = ap (λ (y : Stream). total_clusters (more_for 8 (bitmap_size t) (behind_records bits t) y)) numbers_as in
      let nothing : total_clusters (numbers_runs 8 bits t) ≡ 0 = ap total_clusters none in
      ap (λ (y : Stream). wanted_for 8 (bitmap_size t) y) at ∙ sym size ∙ sym own ∙ nothing

-- what was looked at is what a step asks for
may_be_put : (bits : List Bool) (t : Table) (y : Stream) → IsTable (length bits) t → space_of 8 bits t ≡ Ok tt → t.bitmap.stream ≡ y → CountsTheSame bits t y → MayBePut (numbers_runs 8 bits t) y
may_be_put bits t (Held value) stands space at short = short
may_be_put bits t (Placed e) stands space at counts = λ none. (counts (lacks_none bits t stands space e at none)).0

may_be_counted : (bits : List Bool) (t : Table) (y : Stream) → IsTable (length bits) t → space_of 8 bits t ≡ Ok tt → t.bitmap.stream ≡ y → CountsTheSame bits t y → MayBeCounted (fits_room (with_records 8 (table_runs bits t) t)) (numbers_runs 8 bits t) y
may_be_counted bits t (Held value) stands space at short = short
may_be_counted bits t (Placed e) stands space at counts = λ none. (counts (lacks_none bits t stands space e at none)).1

pub put_grew : (o : Option Content) (bits behind : List Bool) (s : VolumeStreams) (file bits_file : Record) (t : Table) (b : Bitmap) (old new : List Touched) (x : TableGrown) → table_in file ≡ Some t → IsTable (length bits) t → MayHaveMore t → bitmap_in 6 data_type bits_file ≡ Some b
    → CountsTheSame bits t t.bitmap.stream → IfSome o (λ c. PutsFirst c bits s t b old new x behind) → IfSome o (λ c. TableGrew c bits s file bits_file old new x behind)
put_grew None bits behind s file bits_file t b old new x is stands more marks counts put = tt
put_grew (Some c) bits behind s file bits_file t b old new x is stands more marks counts put = record {
  t = t;
  b = b;
  after = put.after;
  marked = put.marked;
  may = record {
    is = is;
    stands = stands;
    more = more;
    space = put.space;
    room = put.room;
    put = may_be_put bits t t.bitmap.stream stands put.space refl counts;
    counted = may_be_counted bits t t.bitmap.stream stands put.space refl counts;
  };
  marks = marks;
  grows = put.grows;
  streams = put.streams;
  numbers = put.numbers;
  left = put.left;
}

pub all_grew : (r : Result TableGrown TableFault) (o : Option Content) (bits behind : List Bool) (s : VolumeStreams) (file bits_file : Record) (t : Table) (b : Bitmap) (old new : List Touched) → table_in file ≡ Some t → IsTable (length bits) t → MayHaveMore t → bitmap_in 6 data_type bits_file ≡ Some b
    → CountsTheSame bits t t.bitmap.stream → IfOk r (λ x. IfSome o (λ c. PutsFirst c bits s t b old new x behind)) → IfOk r (λ x. IfSome o (λ c. TableGrew c bits s file bits_file old new x behind))
all_grew (Ok x) o bits behind s file bits_file t b old new is stands more marks counts put = put_grew o bits behind s file bits_file t b old new x is stands more marks counts put
all_grew (Err e) o bits behind s file bits_file t b old new is stands more marks counts put = tt
