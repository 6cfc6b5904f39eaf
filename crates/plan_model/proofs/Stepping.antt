-- An edit whose new files keep the rules leads from a state to a state.
use Rattle.std.proofs.Common.{◌≡◌, ◌≢◌, ◌⊎◌, ℕ, ◌+◌, ◌*◌, ◌/◌, ◌<◌, ◌≤◌, Bool, true, false, ◌||◌, cond, eqb, leb, List, [], ◌∷◌, ◌++◌, get_or, Option, Some, None, Ok, refl, sym, ap, subst, ◌∙◌, inl, inr, arith}
use Rattle.std.specs.List.{sum_by, filter, flat_map, range_with_len, AllByRecursion}
use Rattle.std.proofs.lemmas.Bool.{cases_Bool, cases_lt, cases_eq, or_from, both_ways, eqb-true, ne_eqb, le-leb}
use Rattle.std.proofs.lemmas.List.Sums.{sum_by-append}
use Rattle.std.proofs.lemmas.List.Elements.{filter-append}
use Rattle.plan_bodies.specs.disk_model.declared.block.Block.{Block}
use Rattle.plan_bodies.specs.disk_model.declared.block.BlockKind.TheVariants.{Plain, FileRec}
use Rattle.plan_bodies.specs.disk_model.Content.{Content}
use Rattle.plan_bodies.specs.disk_model.Laws.{IsElsewhere}
use Rattle.plan_bodies.specs.disk_model.Writes.{Write, overlay}
use Rattle.index_change.specs.record_model.declared.attribute.Attr.{Attr}
use Rattle.index_change.specs.record_model.declared.runs.Run.{Run}
use Rattle.index_change.specs.record_model.Records.{Record}
use Rattle.index_change.specs.record_model.Constants.{attribute_list}
use Rattle.index_change.specs.file_tree.Trees.{node_at as node_by_number}
use Rattle.index_change.specs.state_model.declared.geometry.Geometry.{Geometry}
use Rattle.index_change.specs.state_model.declared.stream.Stream.{Stream}
use Rattle.index_change.specs.state_model.declared.stream.Stream.TheVariants.{Held, Placed}
use Rattle.index_change.specs.state_model.Loads.{Slot, Free, Used, boot_block, record_count, table_of, table_slot, slot_at, list_stream, named_attrs, entries_of, all_attrs, whole_file}
use Rattle.index_change.specs.state_model.Streams.{is_attribute_of, attribute_runs, stream_of, block_at}
use Rattle.index_change.specs.volume_model.Volumes.{Volume, volume_of, file_in, file_stream, bytes_or, table_file}
use Rattle.index_change.specs.volume_model.Nodes.{node_at}
use Rattle.index_change.specs.volume_model.Owners.{volume_runs, uses}
use Rattle.plan_owners.specs.volume_state.Trees.{Holds, tree_with, tree_of}
use Rattle.plan_owners.specs.stream_laws.Changes.{AreElsewhere, LeavesBytes}
use Rattle.plan_owners.specs.stream_laws.Leaving.{LiesFree}
use Rattle.plan_owners.specs.stream_laws.Places.{AreOnce, AreApart}
use Rattle.plan_owners.specs.stream_laws.Replacing.{FileEdit, with_edits, LeaveNumber}
use Rattle.plan_owners.specs.stream_laws.Rewrites.{StandsAlone, RewritesRecords, is_edited}
use Rattle.plan_owners.specs.stream_laws.Sharing.{StreamKey, stream_at, runs_in}
use Rattle.plan_owners.specs.stream_laws.Tables.{table_key}
use Rattle.plan_owners.specs.stream_laws.Volumes.{base_record}
use Rattle.plan_owners.proofs.stream_laws.Changing.{apart_elsewhere, body_elsewhere}
use Rattle.plan_owners.proofs.stream_laws.Counting.{one_of_all, two_of_all, filter_of_all, filters_of_all}
use Rattle.plan_owners.proofs.stream_laws.Placing.{lists_apart, apart_from_unused}
use Rattle.plan_owners.proofs.stream_laws.Rewriting.{volume_parts, volume_written, edits_in_place, rewrites_in_place, count_is}
use Rattle.plan_owners.proofs.stream_laws.Loading.{same_table}
use Rattle.plan_owners.proofs.stream_laws.Sharing.{attr_uses, file_uses, uses-flat_map, volume_sum, stream_uses, attribute_kind, stream_of_file, file_weight}
use Rattle.plan_owners.proofs.stream_laws.Tabling.{table_runs}
use Rattle.plan_owners.specs.tree_laws.Changed.{TouchesFiles, KeepsTouched}
use Rattle.plan_owners.specs.tree_laws.Planned.{IsInStream, IsInRecord, WritesWithin}
use Rattle.plan_owners.proofs.tree_laws.Ascending.{all_by}
use Rattle.plan_owners.proofs.tree_laws.Changing.{changed_holds, untouched_node, untouched_spare}
use Rattle.plan_owners.proofs.tree_laws.Numbering.{found_by_number}
use Rattle.plan_owners.proofs.tree_laws.Planning.{planned_record, planned_agrees, same_shown_at}
use Rattle.plan_owners.specs.States.{Stands, IsOwnRecord}
use Rattle.plan_owners.proofs.Standing.{slots, joined_at, listed_file, some_file, file_parts, begins}
use Rattle.plan_owners.proofs.Outside.{once}
use Rattle.plan_owners.proofs.Unnamed.{slot_of_base, unnamed}
use Rattle.plan_model.specs.Edits.{WritesFiles, edited, KeepsBits, LeadsTo}

-- ---- the numbers of edits

pub by_edit : (P : ℕ → Type 0) (edits : List FileEdit) (m : ℕ) → AllByRecursion (λ e. P e.number) edits → is_edited edits m ≡ true → P m
by_edit P [] m all is = absurd cc
by_edit P (e ∷ edits) m all is = elim (cases_Bool (eqb e.number m)) [
  | inl same ↦ subst P (eqb-true e.number m same) all.0
  | inr other ↦ by_edit P edits m all.1 (sym (ap (λ (t : Bool). t || is_edited edits m) other) ∙ is)
]

pub not_edited : (edits : List FileEdit) (n : ℕ) → LeaveNumber n edits → is_edited edits n ≡ false
not_edited [] n leaves = refl
not_edited (e ∷ edits) n leaves = or_from (eqb e.number n) (is_edited edits n) (ne_eqb e.number n leaves.0) (not_edited edits n leaves.1)

-- ---- attribute lists

-- the file of a base record has its attributes, and behind them those that its list names
list_of_file : (c : Content) (g : Geometry) (clusters : ℕ) (v : Volume) (m : ℕ) (r : Record) → Stands c g clusters v → base_record c v.per v.table m ≡ Some r → (f : Record) × (file_in v m ≡ Some f) × ((more : List Attr) × (f.attrs ≡ r.attrs ++ more))
unfolding all_attrs
list_of_file c g clusters v m r s is =
    let p = slots c v in
    let slot = slot_of_base c v m r is in
    let f : Record = record { head = r.head; attrs = all_attrs c v.per p (record_count v.table) m r } in
    let there : get_or v.files m None ≡ Some f = joined_at c g clusters v s.loaded m slot.0 ∙ ap (whole_file c v.per p (record_count v.table) m) is in
    (f, listed_file c g clusters v m f s.loaded there, (flat_map (λ k. named_attrs (entries_of c v.per r).entries m r k (p k)) (range_with_len 0 (record_count v.table)), refl))

part_uses : (x kind : ℕ) (name : List ℕ) (attrs more all : List Attr) → all ≡ attrs ++ more → uses (runs_in (stream_of kind name attrs)) x ≤ sum_by (attr_uses x) (filter (is_attribute_of kind name) all)
part_uses x kind name attrs more all are =
    let test : Attr → Bool = is_attribute_of kind name in
    let split : sum_by (attr_uses x) (filter test all) ≡ sum_by (attr_uses x) (filter test attrs) + sum_by (attr_uses x) (filter test more) =
    ap (λ (l : List Attr). sum_by (attr_uses x) (filter test l)) are ∙ ap (sum_by (attr_uses x)) (filter-append test attrs more) ∙ sum_by-append (attr_uses x) (filter test attrs) (filter test more)
    in
    omega (arith, stream_uses kind name attrs x, split)

-- the clusters of an attribute list are no other stream's
list_apart : (v : Volume) (m : ℕ) (f : Record) (attrs more : List Attr) (name : List ℕ) (t : StreamKey) → AreOnce (volume_runs v.files) → file_in v m ≡ Some f → f.attrs ≡ attrs ++ more → t.kind ≢ attribute_list
    → AreApart (runs_in (stream_of attribute_list name attrs)) (runs_in (stream_at v t))
list_apart v m f attrs more name t once is are differ x =
    let mine = part_uses x attribute_list name attrs more f.attrs are in
    let whole : file_uses x (file_in v m) ≡ sum_by (attr_uses x) f.attrs = ap (file_uses x) is ∙ uses-flat_map attribute_runs f.attrs x in
    let all = volume_sum v.files x in
    let weight = file_weight v m x in
    let most = once x in
    elim (cases_eq t.file m) [
      | inl same ↦
          (let its : uses (runs_in (stream_at v t)) x ≡ uses (runs_in (stream_of t.kind t.name f.attrs)) x = ap (λ (o : Option Record). uses (runs_in (file_stream t.kind t.name o)) x) (ap (file_in v) same ∙ is) in
          let never : (a : Attr) → is_attribute_of attribute_list name a ≡ true → is_attribute_of t.kind t.name a ≡ true → ⊥ = λ a first second. differ (sym (attribute_kind t.kind t.name a second).0 ∙ (attribute_kind attribute_list name a first).0) in
          let both = filters_of_all (attr_uses x) (is_attribute_of attribute_list name) (is_attribute_of t.kind t.name) f.attrs never in
          let one = one_of_all (file_uses x) v.files m in
          omega (arith, mine, its, stream_uses t.kind t.name f.attrs x, both, whole, all, weight, one, most))
      | inr files ↦
          (let part = filter_of_all (attr_uses x) (is_attribute_of attribute_list name) f.attrs in
          let two = two_of_all (file_uses x) v.files m t.file (λ same. files (sym same)) in
          omega (arith, mine, part, whole, all, weight, file_weight v t.file x, stream_of_file t.kind t.name (file_in v t.file) x, two, most))
    ]

-- and are some of the volume's
list_of_all : (v : Volume) (m : ℕ) (f : Record) (attrs more : List Attr) (name : List ℕ) (x : ℕ) → file_in v m ≡ Some f → f.attrs ≡ attrs ++ more → uses (runs_in (stream_of attribute_list name attrs)) x ≤ uses (volume_runs v.files) x
list_of_all v m f attrs more name x is are =
    let mine = part_uses x attribute_list name attrs more f.attrs are in
    let part = filter_of_all (attr_uses x) (is_attribute_of attribute_list name) f.attrs in
    let whole : file_uses x (file_in v m) ≡ sum_by (attr_uses x) f.attrs = ap (file_uses x) is ∙ uses-flat_map attribute_runs f.attrs x in
    omega (arith, mine, part, whole, file_weight v m x, one_of_all (file_uses x) v.files m, volume_sum v.files x)

leaves_if : (writes : List Write) (per : ℕ) (s : Option Stream) → ((n : ℕ) (b : Block) → block_at per (runs_in s) Plain n ≡ Some b → AreElsewhere writes b) → LeavesBytes writes per s
leaves_if writes per None each = tt
leaves_if writes per (Some (Held value)) each = tt
leaves_if writes per (Some (Placed e)) each = λ b read. each read.sector b read.lies

-- ---- where record 0 lies

not_past : (initialised : ℕ) (x : Slot) (r : Record) → cond (leb initialised (1024 * 0)) Free x ≡ Used r → 1024 * 0 < initialised
not_past initialised x r is = elim (cases_lt (1024 * 0) initialised) [
  | inl below ↦ below
  | inr past ↦ (let free : Free ≡ Used r = sym (ap (λ (t : Bool). cond t Free x) (le-leb initialised (1024 * 0) past)) ∙ is in absurd cc)
]

module _ (streams : StreamKey → Bool) (c : Content) (g : Geometry) (clusters : ℕ) (v : Volume) (writes : List Write) (edits : List FileEdit) (s : Stands c g clusters v) (k : WritesFiles streams c v writes edits) where
  pub written_within : WritesWithin streams (is_edited edits) c g clusters v writes
  written_within = record { begins = begins c g clusters v s; some = s.some; once = once c g clusters v s; no_table = k.table; each = k.each }

  no_list : (t : StreamKey) → streams t ≡ true → t.kind ≢ attribute_list
  no_list t chosen same = both_ways (streams t) (subst (λ (n : ℕ). streams (record { file = t.file; kind = n; name = t.name }) ≡ false) (sym same) (k.lists t.file t.name)) chosen

  one_left : (runs : List Run) (n : ℕ) (b : Block) → ((x : ℕ) → uses runs x ≤ uses (volume_runs v.files) x) → ((t : StreamKey) → t.kind ≢ attribute_list → AreApart runs (runs_in (stream_at v t))) → block_at v.per runs Plain n ≡ Some b → (w : Write) → IsInStream streams v w ⊎ IsInRecord (is_edited edits) v w ⊎ LiesFree v w.block → IsElsewhere b w
  one_left runs n b some_of_all apart at w (inl is) =
      apart_elsewhere b w (lists_apart v.per runs (runs_in (stream_at v is.stream)) Plain is.kind n is.number b w.block s.some (apart is.stream (no_list is.stream is.chosen)) at is.lies)
  one_left runs n b some_of_all apart at w (inr (inl is)) =
      let there : block_at v.per (runs_in (stream_at v table_key)) FileRec is.number ≡ Some w.block = ap (λ (l : List Run). block_at v.per l FileRec is.number) (table_runs c g clusters v (begins c g clusters v s)) ∙ is.lies in
      apart_elsewhere b w (lists_apart v.per runs (runs_in (stream_at v table_key)) Plain FileRec n is.number b w.block s.some (apart table_key (λ same. omega (arith, same))) at there)
  one_left runs n b some_of_all apart at w (inr (inr free)) =
      apart_elsewhere b w (apart_from_unused v.per runs Plain n b w.block s.some at (λ d has. omega (arith, some_of_all (d / v.per), free d has)))

  list_left : (m : ℕ) (r : Record) → base_record c v.per v.table m ≡ Some r → LeavesBytes writes v.per (list_stream r)
  unfolding list_stream
  list_left m r is =
      let file = list_of_file c g clusters v m r s is in
      leaves_if writes v.per (list_stream r) (λ n b at.
      all_by (λ w. IsInStream streams v w ⊎ IsInRecord (is_edited edits) v w ⊎ LiesFree v w.block) (IsElsewhere b) (one_left (runs_in (list_stream r)) n b (λ x. list_of_all v m file.0 r.attrs file.2.0 _ x file.1 file.2.1) (λ t differ. list_apart v m file.0 r.attrs file.2.0 _ t (once c g clusters v s) file.1 file.2.1 differ) at) writes k.each)

  rewrites : RewritesRecords c writes v.per v.table v.table (is_edited edits)
  rewrites =
      rewrites_in_place c writes g clusters v (is_edited edits) s.loaded (λ m below other. planned_record streams (is_edited edits) c g clusters v writes m written_within other)
      (λ m r other is. (list_left m r is, unnamed c g clusters v (is_edited edits) m r s (λ n touches. by_edit (IsOwnRecord c v) edits n k.own touches) other is))
      (λ m below touches. by_edit (λ n. StandsAlone v.per (table_slot (overlay c writes) v.per v.table n)) edits m k.alone touches)

  boot_left : AreElsewhere writes (boot_block g 0)
  unfolding table_slot
  boot_left =
      let start = begins c g clusters v s in
      let parts = file_parts c g clusters v table_file start.file s.loaded (some_file v table_file start.file start.is_file) in
      planned_record streams (is_edited edits) c g clusters v writes table_file written_within (not_edited edits table_file k.no_table) (boot_block g 0)
      (record { below = not_past v.table.initialised (slot_at c (block_at v.per v.table.runs FileRec 0)) parts.base parts.slot; lies = start.first })

  pub loaded_edited : volume_of (overlay c writes) g clusters ≡ Ok (edited v edits)
  loaded_edited =
      let extents : table_of (overlay c writes) g ≡ Ok v.table = same_table c (overlay c writes) g (body_elsewhere c writes (boot_block g 0) k.spares.sized boot_left) ∙ (volume_parts c g clusters v s.loaded).table in
      volume_written c writes g clusters v v.table (is_edited edits) k.spares.sized s.loaded extents rewrites
      ∙ ap (λ (w : Volume). Ok w) (edits_in_place (overlay c writes) v edits (count_is c g clusters v s.loaded) k.distinct k.files)

pub tree_nodes : (c : Content) (v : Volume) (m : ℕ) → node_by_number (tree_of c v).nodes m ≡ node_at (bytes_or c v.per) v m
unfolding tree_of tree_with
tree_nodes c v m = found_by_number (bytes_or c v.per) v m

pub files_edited : (streams : StreamKey → Bool) (inside : ℕ → Bool) (c : Content) (g : Geometry) (clusters : ℕ) (v : Volume) (writes : List Write) (edits : List FileEdit) → Stands c g clusters v → WritesFiles streams c v writes edits
    → KeepsBits (is_edited edits) c (overlay c writes) v (edited v edits) → TouchesFiles (is_edited edits) inside v.files (with_edits edits v.files)
    → KeepsTouched (is_edited edits) inside c (overlay c writes) v (edited v edits) → LeadsTo (is_edited edits) c v (overlay c writes) g clusters (edited v edits)
files_edited streams inside c g clusters v writes edits s k bits places keeps =
    let d = overlay c writes in
    let w = edited v edits in
    let touched = is_edited edits in
    let within = written_within streams c g clusters v writes edits s k in
    let agrees = planned_agrees touched streams touched c g clusters v w writes within k.spares bits in
    let holds : Holds c v (tree_of c v) = record { kept = s.kept; tree = refl } in
    let now = changed_holds touched inside c d v (with_edits edits v.files) (tree_of c v) holds places agrees keeps in
    record {
      stands = record { loaded = loaded_edited streams c g clusters v writes edits s k; kept = now.kept; some = s.some; room = s.room };
      agrees = agrees;
      count = places.count;
      nodes = λ m other.
          tree_nodes d w m
          ∙ untouched_node touched inside c d v (with_edits edits v.files) m places other (same_shown_at touched streams touched c g clusters v writes within k.spares m other)
          ∙ sym (tree_nodes c v m);
      spare = λ m below other. untouched_spare touched inside c d v (with_edits edits v.files) m places agrees below other;
    }
