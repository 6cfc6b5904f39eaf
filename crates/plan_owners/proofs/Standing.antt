-- What a state gives: its rules one by one, where its file table begins, and the record of each file.
use Rattle.std.proofs.Common.{◌≡◌, ℕ, ◌+◌, ◌*◌, ◌<◌, ◌≤◌, Bool, true, cond, eqb, leb, List, [], length, get_or, Option, Some, None, Ok, refl, sym, ap, subst, ◌∙◌, inl, inr, arith}
use Rattle.std.proofs.lemmas.Bool.{cases_Bool, and_parts, eqb-true, leb-true}
use Rattle.std.proofs.lemmas.List.{get_or_past}
use Rattle.std.proofs.lemmas.List.FromFn.{length-map-range_with_len, get_or-map-range_with_len}
use Rattle.log_model.specs.disk_model.declared.block.Block.{Block}
use Rattle.log_model.specs.disk_model.declared.block.BlockKind.{BlockKind}
use Rattle.log_model.specs.disk_model.declared.block.BlockKind.TheVariants.{FileRec}
use Rattle.log_model.specs.disk_model.Content.{Content}
use Rattle.tree_laws.specs.record_model.Records.{Record}
use Rattle.tree_laws.specs.record_model.Constants.{data_type, bitmap_type}
use Rattle.tree_laws.specs.file_tree.declared.tree.Tree.{Tree}
use Rattle.tree_laws.specs.state_model.declared.geometry.Geometry.{Geometry}
use Rattle.tree_laws.specs.state_model.Files.{Table, file_at, only_base, is_base_record}
use Rattle.tree_laws.specs.state_model.Loads.{Used, record_count, table_slot, used_record, records_of, table_in, all_attrs, whole_file, joined_file, files_of, files_in}
use Rattle.tree_laws.specs.state_model.Rules.{at_file, implies}
use Rattle.tree_laws.specs.volume_model.Volumes.{Volume, volume_of, count_of, file_in, file_stream, size_or, record_bitmap, cluster_bitmap, table_file, bitmap_file}
use Rattle.tree_laws.specs.volume_model.Sizes.{is_at, placed_record, keeps_place, keeps_bitmaps, keeps_streams, keeps_sizes}
use Rattle.tree_laws.specs.volume_state.Rules.{file_count, broken_4}
use Rattle.tree_laws.specs.volume_state.Trees.{IsState, tree_of}
use Rattle.tree_laws.specs.stream_laws.Tables.{BeginsAtBoot}
use Rattle.tree_laws.proofs.stream_laws.Placing.{lies}
use Rattle.tree_laws.proofs.stream_laws.Rewriting.{volume_parts, parts_of_files}
use Rattle.tree_laws.proofs.stream_laws.Tabling.{only_base_some, used_some, inside_list}
use Rattle.tree_laws.proofs.Keeping.{rules_of, passes_below}
use Rattle.plan_owners.specs.States.{Stands}

pub stands : (c : Content) (g : Geometry) (clusters : ℕ) (t : Tree) (s : IsState c g clusters t) → 0 < g.per_cluster → 0 < clusters → Stands c g clusters s.volume
stands c g clusters t s some room =
    let parts = volume_parts c g clusters s.volume s.loaded in
    record { loaded = s.loaded; kept = s.holds.kept; some = omega (arith, parts.per); room = omega (arith, parts.count) }

pub as_state : (c : Content) (g : Geometry) (clusters : ℕ) (v : Volume) → Stands c g clusters v → IsState c g clusters (tree_of c v)
as_state c g clusters v s = record { volume = v; loaded = s.loaded; holds = record { kept = s.kept; tree = refl } }

-- ---- the files

-- the record in use of each number, as the file table has it
abbrev pub slots : Content → Volume → Table
slots c v = table_in (records_of (table_slot c v.per v.table) (record_count v.table))

pub slot_record : (c : Content) (v : Volume) (m : ℕ) → m < record_count v.table → slots c v m ≡ used_record (table_slot c v.per v.table m)
unfolding records_of
slot_record c v m below = get_or-map-range_with_len (λ n. used_record (table_slot c v.per v.table n)) 0 (record_count v.table) m m None below (omega arith)

pub slot_past : (c : Content) (v : Volume) (m : ℕ) → record_count v.table ≤ m → slots c v m ≡ None
unfolding records_of
slot_past c v m past = get_or_past (records_of (table_slot c v.per v.table) (record_count v.table)) m None (omega (arith, length-map-range_with_len (λ n. used_record (table_slot c v.per v.table n)) 0 (record_count v.table)))

module _ (c : Content) (g : Geometry) (clusters : ℕ) (v : Volume) (loaded : volume_of c g clusters ≡ Ok v) where
  pub loaded_files : files_in c v.per v.table ≡ Ok v.files
  loaded_files = let parts = volume_parts c g clusters v loaded in sym (ap (λ (per : ℕ). files_in c per v.table) parts.per) ∙ parts.files

  pub joined : v.files ≡ files_of c v.per (slots c v) (record_count v.table)
  joined = (parts_of_files c v.per v.table v.files loaded_files).2

  pub counted : length v.files ≡ record_count v.table
  unfolding files_of
  counted = ap length joined ∙ length-map-range_with_len (joined_file c v.per (slots c v) (record_count v.table)) 0 (record_count v.table)

  pub joined_at : (n : ℕ) → n < record_count v.table → get_or v.files n None ≡ whole_file c v.per (slots c v) (record_count v.table) n (file_at (slots c v) n)
  unfolding files_of joined_file
  joined_at n below =
      ap (λ (l : List (Option Record)). get_or l n None) joined
      ∙ get_or-map-range_with_len (joined_file c v.per (slots c v) (record_count v.table)) 0 (record_count v.table) n n None below (omega arith)

-- the record of a file, and its attributes
pub record FileParts (c : Content) (v : Volume) (n : ℕ) (f : Record) : Type 0 where
  pub base : Record
  pub below : n < record_count v.table
  pub slot : table_slot c v.per v.table n ≡ Used base
  pub own : is_base_record base ≡ true
  pub held : slots c v n ≡ Some base
  pub whole : f ≡ record { head = base.head; attrs = all_attrs c v.per (slots c v) (record_count v.table) n base }

pub is_base : (o : Option Record) (f : Record) → only_base o ≡ Some f → is_base_record f ≡ true
is_base None f is = absurd cc
is_base (Some r) f is = elim (cases_Bool (is_base_record r)) [
  | inl base ↦ (let same : Some r ≡ Some f = rw base at is in let equal : r ≡ f = cc in subst (λ (x : Record). is_base_record x ≡ true) equal base)
  | inr other ↦ (let none : None ≡ Some f = rw other at is in absurd cc)
]

whole_parts : (c : Content) (per : ℕ) (p : Table) (count n : ℕ) (o : Option Record) (f : Record) → whole_file c per p count n o ≡ Some f → (r : Record) × (o ≡ Some r) × (f ≡ record { head = r.head; attrs = all_attrs c per p count n r })
whole_parts c per p count n None f is = absurd cc
whole_parts c per p count n (Some r) f is = (r, refl, cc)

-- what stands at a number among the files is a file
pub file_parts : (c : Content) (g : Geometry) (clusters : ℕ) (v : Volume) (n : ℕ) (f : Record) → volume_of c g clusters ≡ Ok v → get_or v.files n None ≡ Some f → FileParts c v n f
unfolding file_at
file_parts c g clusters v n f loaded there =
    let within : n < length v.files = inside_list v.files n f there in
    let size = counted c g clusters v loaded in
    let below : n < record_count v.table = omega arith in
    let whole = whole_parts c v.per (slots c v) (record_count v.table) n (file_at (slots c v) n) f (sym (joined_at c g clusters v loaded n below) ∙ there) in
    let held : slots c v n ≡ Some whole.0 = only_base_some (slots c v n) whole.0 whole.1 in
    record {
      base = whole.0;
      below = below;
      slot = used_some (table_slot c v.per v.table n) whole.0 (sym (slot_record c v n below) ∙ held);
      own = is_base (slots c v n) whole.0 whole.1;
      held = held;
      whole = whole.2;
    }

pub as_file : (o : Option Record) (f : Record) → o ≡ Some f → is_base_record f ≡ true → only_base o ≡ Some f
as_file o f is base = ap only_base is ∙ ap (λ (t : Bool). cond t (Some f) None) base

head_of : (c : Content) (v : Volume) (n : ℕ) (f : Record) (parts : FileParts c v n f) → is_base_record f ≡ true
head_of c v n f parts = ap is_base_record parts.whole ∙ parts.own

pub listed_file : (c : Content) (g : Geometry) (clusters : ℕ) (v : Volume) (n : ℕ) (f : Record) → volume_of c g clusters ≡ Ok v → get_or v.files n None ≡ Some f → file_in v n ≡ Some f
unfolding file_at
listed_file c g clusters v n f loaded there = as_file (get_or v.files n None) f there (head_of c v n f (file_parts c g clusters v n f loaded there))

pub some_file : (v : Volume) (n : ℕ) (f : Record) → file_in v n ≡ Some f → get_or v.files n None ≡ Some f
unfolding file_at
some_file v n f is = only_base_some (get_or v.files n None) f is

-- ---- rule 4

pub rule_4_parts : (c : Content) (v : Volume) → broken_4 c v ≡ None → (keeps_place v ≡ true) × ((n : ℕ) → n < file_count v → keeps_sizes c v n ≡ true)
unfolding broken_4
rule_4_parts c v none = elim (cases_Bool (keeps_place v)) [
  | inl placed ↦ (placed, passes_below (keeps_sizes c v) (file_count v) (rw placed at none))
  | inr apart ↦ (let found : Some table_file ≡ None = rw apart at none in absurd cc)
]

pub rule_4_at : (c : Content) (g : Geometry) (clusters : ℕ) (v : Volume) (n : ℕ) → Stands c g clusters v → n < file_count v → keeps_sizes c v n ≡ true
rule_4_at c g clusters v n s below = (rule_4_parts c v (rules_of c v s.kept).rule_4).1 n below

pub streams_at : (c : Content) (g : Geometry) (clusters : ℕ) (v : Volume) (n : ℕ) (f : Record) → Stands c g clusters v → file_in v n ≡ Some f → keeps_streams c v n f ≡ true
unfolding keeps_sizes
streams_at c g clusters v n f s is =
    let within : n < length v.files = inside_list v.files n f (some_file v n f is) in
    sym (ap (at_file (keeps_streams c v n)) is) ∙ (and_parts _ _ (rule_4_at c g clusters v n s (omega arith))).0

bitmaps_at : (c : Content) (g : Geometry) (clusters : ℕ) (v : Volume) (n : ℕ) → Stands c g clusters v → n < file_count v → keeps_bitmaps v n ≡ true
unfolding keeps_sizes
bitmaps_at c g clusters v n s below = (and_parts _ _ (rule_4_at c g clusters v n s below)).1

pub records_marked : (c : Content) (g : Geometry) (clusters : ℕ) (v : Volume) → Stands c g clusters v → count_of v ≤ 8 * size_or (record_bitmap v)
unfolding keeps_bitmaps
records_marked c g clusters v s =
    leb-true (count_of v) (8 * size_or (record_bitmap v))
    (and_parts (implies (eqb table_file table_file) (leb (count_of v) (8 * size_or (record_bitmap v)))) (implies (eqb table_file bitmap_file) (leb v.clusters (8 * size_or (cluster_bitmap v)))) (bitmaps_at c g clusters v table_file s (omega arith))).0

pub clusters_marked : (c : Content) (g : Geometry) (clusters : ℕ) (v : Volume) → Stands c g clusters v → v.clusters ≤ 8 * size_or (cluster_bitmap v)
unfolding keeps_bitmaps
clusters_marked c g clusters v s =
    leb-true v.clusters (8 * size_or (cluster_bitmap v))
    (and_parts (implies (eqb bitmap_file table_file) (leb (count_of v) (8 * size_or (record_bitmap v)))) (implies (eqb bitmap_file bitmap_file) (leb v.clusters (8 * size_or (cluster_bitmap v)))) (bitmaps_at c g clusters v bitmap_file s (omega arith))).1

file_of_stream : (o : Option Record) (kind : ℕ) (name : List ℕ) → 0 < size_or (file_stream kind name o) → (r : Record) × (o ≡ Some r)
file_of_stream None kind name some = absurd (omega arith)
file_of_stream (Some r) kind name some = (r, refl)

-- a state has a file 0
first_file : (c : Content) (g : Geometry) (clusters : ℕ) (v : Volume) → Stands c g clusters v → (r : Record) × (file_in v table_file ≡ Some r)
first_file c g clusters v s =
    let clusters_in = clusters_marked c g clusters v s in
    let records_in = records_marked c g clusters v s in
    let room = s.room in
    let sixth = file_of_stream (file_in v bitmap_file) data_type [] (omega arith) in
    let within : bitmap_file < length v.files = inside_list v.files bitmap_file sixth.0 (some_file v bitmap_file sixth.0 sixth.1) in
    file_of_stream (file_in v table_file) bitmap_type [] (omega arith)

-- ---- where the table begins

at_place : (first : ℕ) (o : Option Block) → is_at first o ≡ true → (b : Block) × (o ≡ Some b) × (b.first ≡ first)
at_place first None is = absurd cc
at_place first (Some b) is = (b, refl, eqb-true b.first first is)

block_with : ℕ → BlockKind → Block
block_with first kind = record { first = first; kind = kind }

first_place : (v : Volume) → keeps_place v ≡ true → is_at (v.mft * v.per + 2 * 0) (placed_record v 0) ≡ true
unfolding keeps_place
first_place v placed = (and_parts _ _ placed).0

pub begins : (c : Content) (g : Geometry) (clusters : ℕ) (v : Volume) → Stands c g clusters v → BeginsAtBoot c g clusters v
unfolding block_with
begins c g clusters v s =
    let parts = volume_parts c g clusters v s.loaded in
    let placed = first_place v (rule_4_parts c v (rules_of c v s.kept).rule_4).0 in
    let at = at_place (v.mft * v.per + 2 * 0) (placed_record v 0) placed in
    let kind = (lies v.per v.table.runs FileRec 0 at.0 at.1).kind_is in
    let first : at.0.first ≡ g.mft * g.per_cluster + 2 * 0 = at.2 ∙ ap (λ (x : ℕ). x * v.per + 2 * 0) (sym parts.place) ∙ ap (λ (x : ℕ). g.mft * x + 2 * 0) (sym parts.per) in
    let file = first_file c g clusters v s in
    record {
      loaded = s.loaded;
      first = at.1 ∙ ap (λ (x : ℕ). Some (block_with x at.0.kind)) first ∙ ap (λ (k : BlockKind). Some (block_with (g.mft * g.per_cluster + 2 * 0) k)) (sym kind);
      file = file.0;
      is_file = file.1;
    }
