-- Writes to the blocks of streams that are no attribute lists leave all attribute lists.
use Rattle.std.proofs.Common.{◌≡◌, ◌≢◌, ◌⊎◌, ℕ, ◌+◌, ◌/◌, ◌<◌, ◌≤◌, Bool, true, false, cond, List, ◌++◌, get_or, Option, Some, None, Ok, refl, sym, ap, subst, ◌∙◌, inl, inr, arith}
use Rattle.std.specs.List.{sum_by, filter, flat_map, range_with_len}
use Rattle.std.proofs.lemmas.Bool.{cases_lt, cases_eq, both_ways}
use Rattle.std.proofs.lemmas.List.Elements.{filter-append}
use Rattle.std.proofs.lemmas.List.FromFn.{get_or-map-range_with_len}
use Rattle.std.proofs.lemmas.List.Sums.{sum_by-append}
use Rattle.volume_state.specs.disk_model.declared.block.Block.{Block}
use Rattle.volume_state.specs.disk_model.declared.block.BlockKind.TheVariants.{Plain, FileRec}
use Rattle.volume_state.specs.disk_model.Content.{Content}
use Rattle.volume_state.specs.disk_model.Laws.{IsElsewhere}
use Rattle.volume_state.specs.disk_model.Writes.{Write, overlay}
use Rattle.volume_state.specs.record_model.declared.attribute.Attr.{Attr}
use Rattle.volume_state.specs.record_model.declared.runs.Run.{Run}
use Rattle.volume_state.specs.record_model.Records.{Record}
use Rattle.volume_state.specs.record_model.Constants.{attribute_list}
use Rattle.volume_state.specs.state_model.declared.geometry.Geometry.{Geometry}
use Rattle.volume_state.specs.state_model.declared.stream.Extents.{Extents}
use Rattle.volume_state.specs.state_model.declared.stream.Stream.{Stream}
use Rattle.volume_state.specs.state_model.declared.stream.Stream.TheVariants.{Held, Placed}
use Rattle.volume_state.specs.state_model.Files.{only_base, is_base_record, file_at}
use Rattle.volume_state.specs.state_model.Loads.{Free, record_count, table_slot, list_stream, named_attrs, entries_of, all_attrs, whole_file, joined_file, files_of, files_in}
use Rattle.volume_state.specs.state_model.Streams.{is_attribute_of, attribute_runs, stream_of, block_at}
use Rattle.volume_state.specs.volume_model.Volumes.{Volume, volume_of, file_in, file_stream}
use Rattle.volume_state.specs.volume_model.Owners.{volume_runs, uses}
use Rattle.stream_laws.specs.Changes.{AreElsewhere, LeavesBytes}
use Rattle.stream_laws.specs.Leaving.{LiesFree}
use Rattle.stream_laws.specs.Places.{AreOnce, AreApart}
use Rattle.stream_laws.specs.Rewrites.{StandsAlone, names_one, TableGoesOn, RewritesRecords}
use Rattle.stream_laws.specs.Sharing.{StreamKey, stream_at, runs_in}
use Rattle.stream_laws.specs.Tables.{table_key}
use Rattle.stream_laws.specs.Volumes.{base_record}
use Rattle.stream_laws.proofs.Changing.{apart_elsewhere}
use Rattle.stream_laws.proofs.Counting.{one_of_all, two_of_all, filter_of_all, filters_of_all}
use Rattle.stream_laws.proofs.Placing.{lists_apart, apart_from_unused}
use Rattle.stream_laws.proofs.Rewriting.{table_by, past_table, parts_of_files, volume_parts}
use Rattle.stream_laws.proofs.Sharing.{attr_uses, file_uses, uses-flat_map, volume_sum, stream_uses, attribute_kind, stream_of_file, file_weight}
use Rattle.stream_laws.proofs.Tabling.{table_runs}
use Rattle.tree_laws.specs.Planned.{IsInStream, IsInRecord, WritesWithin, SparesLists}
use Rattle.tree_laws.proofs.Ascending.{all_by}
use Rattle.tree_laws.proofs.Planning.{file_record_left}

-- ---- the file of a base record

base_test : (o : Option Record) (r : Record) → only_base o ≡ Some r → is_base_record r ≡ true
base_test None r is = absurd cc
base_test (Some q) r is = passed (is_base_record q) refl is
  where
    passed : (t : Bool) → is_base_record q ≡ t → cond t (Some q) None ≡ Some r → is_base_record r ≡ true
    passed true test e = (let same : q ≡ r = cc in ap is_base_record (sym same) ∙ test)
    passed false test e = absurd cc

kept_base : (r f : Record) → is_base_record r ≡ true → f.head ≡ r.head → only_base (Some f) ≡ Some f
kept_base r f base head = ap (λ (t : Bool). cond t (Some f) None) (same_base ∙ base)
  where
    same_base : is_base_record f ≡ is_base_record r
    same_base = rw head refl

-- it has the record's attributes, and behind them those that its list names
pub record FileOf (v : Volume) (m : ℕ) (r : Record) : Type 0 where
  pub file : Record
  pub there : file_in v m ≡ Some file
  pub more : List Attr
  pub attrs : file.attrs ≡ r.attrs ++ more

inside_table : (c : Content) (per : ℕ) (e : Extents) (m : ℕ) (r : Record) → base_record c per e m ≡ Some r → m < record_count e
unfolding file_at
inside_table c per e m r is = elim (cases_lt m (record_count e)) [
  | inl below ↦ below
  | inr past ↦ absurd (clash (sym (ap only_base (past_table c per e m past)) ∙ is))
]
  where
    clash : None ≡ Some r → ⊥
    clash e = cc

pub file_of : (c : Content) (g : Geometry) (clusters : ℕ) (v : Volume) (m : ℕ) (r : Record) → volume_of c g clusters ≡ Ok v → base_record c v.per v.table m ≡ Some r → FileOf v m r
unfolding files_of joined_file all_attrs file_at
file_of c g clusters v m r loaded is =
    let count = record_count v.table in
    let p = table_by c v.per v.table in
    let parts = volume_parts c g clusters v loaded in
    let files = parts_of_files c v.per v.table v.files (sym (ap (λ (per : ℕ). files_in c per v.table) parts.per) ∙ parts.files) in
    let more = flat_map (λ k. named_attrs (entries_of c v.per r).entries m r k (p k)) (range_with_len 0 count) in
    let whole : Record = record { head = r.head; attrs = r.attrs ++ more } in
    let below = inside_table c v.per v.table m r is in
    let there : get_or v.files m None ≡ Some whole =
    ap (λ (l : List (Option Record)). get_or l m None) files.2 ∙ get_or-map-range_with_len (joined_file c v.per p count) 0 count m m None below (omega arith) ∙ ap (whole_file c v.per p count m) is
    in
    record { file = whole; there = ap only_base there ∙ kept_base r whole (base_test (p m) r is) refl; more = more; attrs = refl }

-- ---- the clusters of its attribute list

part_uses : (x kind : ℕ) (name : List ℕ) (attrs more all : List Attr) → all ≡ attrs ++ more → uses (runs_in (stream_of kind name attrs)) x ≤ sum_by (attr_uses x) (filter (is_attribute_of kind name) all)
part_uses x kind name attrs more all are =
    let test : Attr → Bool = is_attribute_of kind name in
    let split : sum_by (attr_uses x) (filter test all) ≡ sum_by (attr_uses x) (filter test attrs) + sum_by (attr_uses x) (filter test more) =
    ap (λ (l : List Attr). sum_by (attr_uses x) (filter test l)) are ∙ ap (sum_by (attr_uses x)) (filter-append test attrs more) ∙ sum_by-append (attr_uses x) (filter test attrs) (filter test more)
    in
    omega (arith, stream_uses kind name attrs x, split)

module _ (v : Volume) (m : ℕ) (r : Record) (f : FileOf v m r) (name : List ℕ) where
  mine : (x : ℕ) → uses (runs_in (stream_of attribute_list name r.attrs)) x ≤ sum_by (attr_uses x) (filter (is_attribute_of attribute_list name) f.file.attrs)
  mine x = part_uses x attribute_list name r.attrs f.more f.file.attrs f.attrs

  whole_uses : (x : ℕ) → file_uses x (file_in v m) ≡ sum_by (attr_uses x) f.file.attrs
  whole_uses x = ap (file_uses x) f.there ∙ uses-flat_map attribute_runs f.file.attrs x

  -- they are some of the volume's
  pub list_of_all : (x : ℕ) → uses (runs_in (stream_of attribute_list name r.attrs)) x ≤ uses (volume_runs v.files) x
  list_of_all x = omega (arith, mine x, filter_of_all (attr_uses x) (is_attribute_of attribute_list name) f.file.attrs, whole_uses x, file_weight v m x, one_of_all (file_uses x) v.files m, volume_sum v.files x)

  -- and are no other stream's
  pub list_apart : (t : StreamKey) → AreOnce (volume_runs v.files) → t.kind ≢ attribute_list → AreApart (runs_in (stream_of attribute_list name r.attrs)) (runs_in (stream_at v t))
  list_apart t once differ x = elim (cases_eq t.file m) [
    | inl same ↦
        (let its : uses (runs_in (stream_at v t)) x ≡ uses (runs_in (stream_of t.kind t.name f.file.attrs)) x = ap (λ (o : Option Record). uses (runs_in (file_stream t.kind t.name o)) x) (ap (file_in v) same ∙ f.there) in
        let never : (a : Attr) → is_attribute_of attribute_list name a ≡ true → is_attribute_of t.kind t.name a ≡ true → ⊥ = λ a first second. differ (sym (attribute_kind t.kind t.name a second).0 ∙ (attribute_kind attribute_list name a first).0) in
        let both = filters_of_all (attr_uses x) (is_attribute_of attribute_list name) (is_attribute_of t.kind t.name) f.file.attrs never in
        omega (arith, mine x, its, stream_uses t.kind t.name f.file.attrs x, both, whole_uses x, volume_sum v.files x, file_weight v m x, one_of_all (file_uses x) v.files m, once x))
    | inr files ↦
        (let part = filter_of_all (attr_uses x) (is_attribute_of attribute_list name) f.file.attrs in
        let two = two_of_all (file_uses x) v.files m t.file (λ same. files (sym same)) in
        omega (arith, mine x, part, whole_uses x, volume_sum v.files x, file_weight v m x, file_weight v t.file x, stream_of_file t.kind t.name (file_in v t.file) x, two, once x))
  ]

-- ---- the writes

leaves_if : (writes : List Write) (per : ℕ) (s : Option Stream) → ((n : ℕ) (b : Block) → block_at per (runs_in s) Plain n ≡ Some b → AreElsewhere writes b) → LeavesBytes writes per s
leaves_if writes per None each = tt
leaves_if writes per (Some (Held value)) each = tt
leaves_if writes per (Some (Placed e)) each = λ b read. each read.sector b read.lies

module _ (streams : StreamKey → Bool) (records : ℕ → Bool) (c : Content) (g : Geometry) (clusters : ℕ) (v : Volume) (writes : List Write) (k : WritesWithin streams records c g clusters v writes) (spares : SparesLists streams) where
  no_list : (t : StreamKey) → streams t ≡ true → t.kind ≢ attribute_list
  no_list t chosen same = both_ways (streams t) (subst (λ (n : ℕ). streams (record { file = t.file; kind = n; name = t.name }) ≡ false) (sym same) (spares t.file t.name)) chosen

  one_left : (m : ℕ) (r : Record) (f : FileOf v m r) (name : List ℕ) (n : ℕ) (b : Block) → block_at v.per (runs_in (stream_of attribute_list name r.attrs)) Plain n ≡ Some b → (w : Write) → IsInStream streams v w ⊎ IsInRecord records v w ⊎ LiesFree v w.block → IsElsewhere b w
  one_left m r f name n b at w (inl is) =
      apart_elsewhere b w (lists_apart v.per (runs_in (stream_of attribute_list name r.attrs)) (runs_in (stream_at v is.stream)) Plain is.kind n is.number b w.block k.some (list_apart v m r f name is.stream k.once (no_list is.stream is.chosen)) at is.lies)
  one_left m r f name n b at w (inr (inl is)) =
      let there : block_at v.per (runs_in (stream_at v table_key)) FileRec is.number ≡ Some w.block = ap (λ (l : List Run). block_at v.per l FileRec is.number) (table_runs c g clusters v k.begins) ∙ is.lies in
      apart_elsewhere b w (lists_apart v.per (runs_in (stream_of attribute_list name r.attrs)) (runs_in (stream_at v table_key)) Plain FileRec n is.number b w.block k.some (list_apart v m r f name table_key k.once (λ same. omega (arith, same))) at there)
  one_left m r f name n b at w (inr (inr free)) =
      apart_elsewhere b w (apart_from_unused v.per (runs_in (stream_of attribute_list name r.attrs)) Plain n b w.block k.some at (λ d has. omega (arith, list_of_all v m r f name (d / v.per), free d has)))

  list_left : (m : ℕ) (r : Record) → base_record c v.per v.table m ≡ Some r → LeavesBytes writes v.per (list_stream r)
  unfolding list_stream
  list_left m r is =
      let f = file_of c g clusters v m r k.begins.loaded is in
      leaves_if writes v.per (list_stream r) (λ n b at. all_by (λ w. IsInStream streams v w ⊎ IsInRecord records v w ⊎ LiesFree v w.block) (IsElsewhere b) (one_left m r f _ n b at) writes k.each)

pub planned_lists : (streams : StreamKey → Bool) (records : ℕ → Bool) (c : Content) (g : Geometry) (clusters : ℕ) (v : Volume) (writes : List Write) (m : ℕ) (r : Record) → WritesWithin streams records c g clusters v writes → SparesLists streams → base_record c v.per v.table m ≡ Some r → LeavesBytes writes v.per (list_stream r)
planned_lists streams records c g clusters v writes m r k spares is = list_left streams records c g clusters v writes k spares m r is

pub planned_rewrites : (streams : StreamKey → Bool) (records : ℕ → Bool) (c : Content) (g : Geometry) (clusters : ℕ) (v : Volume) (f : Extents) (writes : List Write) → WritesWithin streams records c g clusters v writes → SparesLists streams → TableGoesOn v.per v.table f
    → ((m : ℕ) (r : Record) → records m ≡ false → base_record c v.per v.table m ≡ Some r → names_one records (entries_of c v.per r).entries ≡ false)
    → ((m : ℕ) → m < record_count v.table → records m ≡ true → StandsAlone v.per (table_slot (overlay c writes) v.per f m))
    → ((m : ℕ) → record_count v.table ≤ m → m < record_count f → table_slot (overlay c writes) v.per f m ≡ Free) → RewritesRecords c writes v.per v.table f records
planned_rewrites streams records c g clusters v f writes k spares grows unnamed alone fresh = record {
  grows = grows;
  others = λ m below other. file_record_left streams records c g clusters v writes k m other;
  lists = λ m r other is. planned_lists streams records c g clusters v writes m r k spares is;
  unnamed = unnamed;
  alone = alone;
  fresh = fresh;
}
