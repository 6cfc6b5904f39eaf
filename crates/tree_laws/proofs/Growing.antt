-- The tree of a volume whose file table gets more records, none of which is in use.
use Rattle.std.proofs.Common.{◌≡◌, ℕ, zero, suc, ◌+◌, ◌-◌, ◌*◌, ◌<◌, ◌≤◌, max, Bool, true, false, not, cond, ◌&&◌, ◌||◌, eqb, leb, ltb, List, [], ◌∷◌, ◌++◌, length, map, replicate, Option, Some, None, refl, sym, ap, subst, ◌∙◌, inl, inr, arith}
use mathlib.Core.Path.{fun_ext}
use Rattle.std.specs.Prelude.{count_by}
use Rattle.std.specs.List.{filter_map, flat_map, list_all, list_any, range_with_len, cons_option, AllByRecursion}
use Rattle.std.proofs.lemmas.Bool.{cases_Bool, cases_lt, and_parts, and_from, le-leb, ne_eqb, both_ways, lt-ltb}
use Rattle.std.proofs.lemmas.List.{append-nil, length-append, length-replicate, get_or_past, get_or_append_left}
use Rattle.std.proofs.lemmas.Grind.{flat_map-append}
use Rattle.volume_state.specs.host_base.declared.file_ref.FileRef.{FileRef}
use Rattle.volume_state.specs.disk_model.declared.block.Block.{Block}
use Rattle.volume_state.specs.disk_model.declared.block.BlockKind.TheVariants.{FileRec}
use Rattle.volume_state.specs.disk_model.Numbers.{field}
use Rattle.volume_state.specs.disk_model.Content.{Content}
use Rattle.volume_state.specs.record_model.declared.runs.Run.{Run}
use Rattle.volume_state.specs.record_model.Records.{Record, has_in_use_flag}
use Rattle.volume_state.specs.record_model.Constants.{data_type, bitmap_type}
use Rattle.volume_state.specs.file_tree.declared.link.Link.{Link}
use Rattle.volume_state.specs.file_tree.declared.tree.Tree.{Tree}
use Rattle.volume_state.specs.file_tree.Walks.{child_in, first_user_record}
use Rattle.volume_state.specs.bit_set.Bits.{bit}
use Rattle.volume_state.specs.bit_set.Words.{byte_bit, bits_of_bytes}
use Rattle.volume_state.specs.upcase_order.Tables.{upcase_of}
use Rattle.volume_state.specs.state_model.declared.stream.Extents.{Extents}
use Rattle.volume_state.specs.state_model.declared.stream.Stream.{Stream}
use Rattle.volume_state.specs.state_model.Files.{Table, reference, record_links, file_links, file_at, links_at, is_directory_record}
use Rattle.volume_state.specs.state_model.Loads.{record_count, table_in, is_used}
use Rattle.volume_state.specs.state_model.Rules.{implies, at_file, keeps_names, is_directory_with, is_directory_at, count_in, names_in, is_rising, is_name_in, is_index, first_failing, keeps_1, keeps_2, keeps_8}
use Rattle.volume_state.specs.state_model.Streams.{block_at}
use Rattle.volume_state.specs.state_model.Trees.{leads, is_in_system, is_system, all_links}
use Rattle.volume_state.specs.volume_model.Volumes.{Volume, count_of, file_in, file_stream, bytes_or, size_or, table_file, bitmap_file, upcase_file, record_bytes, record_block, block_bytes, is_in_use, cluster_bitmap, cluster_bits, record_bitmap, record_bits, table_or_standard, upper_of}
use Rattle.volume_state.specs.volume_model.Indexes.{index_links, lists_names, keeps_index}
use Rattle.volume_state.specs.volume_model.Nodes.{some_node, node_at, nodes_by, spare_sequence, spare_at, spare_numbers, free_clusters}
use Rattle.volume_state.specs.volume_model.Owners.{file_runs, volume_runs, keeps_owner, keeps_cluster_bit, keeps_record_bit}
use Rattle.volume_state.specs.volume_model.Sizes.{is_at, placed_record, keeps_place, keeps_bitmaps, keeps_streams, keeps_sizes}
use Rattle.volume_state.specs.Journals.{extend_file, journal_name, file_or_none, journal_file, journal_of_file, journal_of, fault_of, some_journal}
use Rattle.volume_state.specs.Rules.{file_count, broken_1, broken_2, broken_3, broken_4, broken_5, broken_6, broken_7, broken_8, broken_9}
use Rattle.volume_state.specs.Trees.{Holds, volume_journal, tree_with, tree_of}
use Rattle.stream_laws.specs.Rewrites.{filled_up}
use Rattle.stream_laws.proofs.Bitmapping.{record_bit}
use Rattle.stream_laws.proofs.Rewriting.{none_behind, same_up_to}
use Rattle.tree_laws.specs.Growth.{grown, GrowsTable, new_number, new_numbers, HasNewNumbers}
use Rattle.tree_laws.specs.LookUps.{spare_of}
use Rattle.tree_laws.proofs.Ascending.{all_by}
use Rattle.tree_laws.proofs.Climbing.{kind_from, node_from, no_node}
use Rattle.tree_laws.proofs.Keeping.{KeepsAll, rules_of, from_rules, passes_below, fails_nowhere}
use Rattle.tree_laws.proofs.Naming.{no_file, no_names}
use Rattle.tree_laws.proofs.Shortening.{more_steps, steady}
use Rattle.tree_laws.proofs.Splitting.{filter_as_flat}
use Rattle.tree_laws.proofs.Standing.{kept_parents}

-- ---- tests over more numbers

still_with_more : (f g : ℕ → Bool) (count more : ℕ) → ((m : ℕ) → m < count → m < more → f m ≡ true → g m ≡ true) → ((m : ℕ) → count ≤ m → m < more → g m ≡ true) → first_failing f count ≡ None → first_failing g more ≡ None
still_with_more f g count more each behind none = fails_nowhere g more (λ m below. elim (cases_lt m count) [
  | inl within ↦ each m within below (passes_below f count none m within)
  | inr past ↦ behind m past below
])

asked_of_none : (o : Option Record) (test : Record → Bool) → o ≡ None → at_file test o ≡ true
asked_of_none o test none = ap (at_file test) none

implied_by_none : (t : Bool) (asked : Bool) → t ≡ false → implies t asked ≡ true
implied_by_none t asked is = ap (λ (x : Bool). implies x asked) is

implied_anyway : (t : Bool) (asked : Bool) → asked ≡ true → implies t asked ≡ true
implied_anyway true asked is = is
implied_anyway false asked is = refl

same_places : (f g : ℕ → Bool) (a n : ℕ) → ((m : ℕ) → a ≤ m → m < a + n → g m ≡ f m) → list_all g (range_with_len a n) ≡ list_all f (range_with_len a n)
same_places f g a zero each = refl
same_places f g a (suc n) each =
    ap (λ (t : Bool). t && list_all g (range_with_len (a + 1) n)) (each a (omega arith) (omega arith)) ∙ ap (λ (t : Bool). f a && t) (same_places f g (a + 1) n (λ m low high. each m (omega arith) (omega arith)))

-- ---- sums and lists over more numbers

names_with_more : (p : Table) (directory : FileRef) (count more : ℕ) → count ≤ more → ((m : ℕ) → count ≤ m → links_at p m ≡ []) → names_in p directory more ≡ names_in p directory count
unfolding names_in count_in
names_with_more p directory count zero le none = let same : zero ≡ count = omega arith in ap (names_in p directory) same
names_with_more p directory count (suc more) le none = elim (cases_lt more count) [
  | inl last ↦ (let same : suc more ≡ count = omega arith in ap (names_in p directory) same)
  | inr past ↦
      (let here : count_in directory (links_at p more) ≡ 0 = ap (count_in directory) (none more past) in
      let rest = names_with_more p directory count more past none in
      omega (arith, here, rest))
]

listed_with_more : (upper : List ℕ) (p : Table) (count more : ℕ) (directory : FileRef) (read : Option (List Link)) → names_in p directory more ≡ names_in p directory count → lists_names upper p more directory read ≡ lists_names upper p count directory read
unfolding is_index
listed_with_more upper p count more directory None same = refl
listed_with_more upper p count more directory (Some links) same = ap (λ (k : ℕ). is_rising upper links && list_all (is_name_in p directory) links && eqb (length links) k) same

no_runs : (n : ℕ) → flat_map file_runs (replicate n None) ≡ []
no_runs zero = refl
no_runs (suc n) = no_runs n

-- numbers from a place on, in two parts
split_map : {X : Type 0} (f : ℕ → Option X) (a n more : ℕ) → filter_map f (range_with_len a (n + more)) ≡ filter_map f (range_with_len a n) ++ filter_map f (range_with_len (a + n) more)
split_map {X} f a zero more =
    let size : 0 + more ≡ more = omega arith in
    let from : a ≡ a + 0 = omega arith in
    ap (λ (k : ℕ). filter_map f (range_with_len a k)) size ∙ ap (λ (k : ℕ). filter_map f (range_with_len k more)) from
split_map {X} f a (suc n) more =
    let size : suc n + more ≡ suc (n + more) = omega arith in
    let from : (a + 1) + n ≡ a + suc n = omega arith in
    ap (λ (k : ℕ). filter_map f (range_with_len a k)) size
    ∙ ap (cons_option (f a)) (split_map f (a + 1) n more ∙ ap (λ (k : ℕ). filter_map f (range_with_len (a + 1) n) ++ filter_map f (range_with_len k more)) from)
    ∙ in_front (f a) (filter_map f (range_with_len (a + 1) n)) (filter_map f (range_with_len (a + suc n) more))
  where
    in_front : (o : Option X) (xs ys : List X) → cons_option o (xs ++ ys) ≡ cons_option o xs ++ ys
    in_front None xs ys = refl
    in_front (Some x) xs ys = refl

all_given : {X : Type 0} (f : ℕ → Option X) (g : ℕ → X) (a n : ℕ) → ((m : ℕ) → a ≤ m → m < a + n → f m ≡ Some (g m)) → filter_map f (range_with_len a n) ≡ map g (range_with_len a n)
all_given f g a zero each = refl
all_given {X} f g a (suc n) each =
    ap (λ (o : Option X). cons_option o (filter_map f (range_with_len (a + 1) n))) (each a (omega arith) (omega arith))
    ∙ ap (λ (l : List X). g a ∷ l) (all_given f g (a + 1) n (λ m low high. each m (omega arith) (omega arith)))

same_given : {X : Type 0} (f g : ℕ → Option X) (a n : ℕ) → ((m : ℕ) → a ≤ m → m < a + n → g m ≡ f m) → filter_map g (range_with_len a n) ≡ filter_map f (range_with_len a n)
same_given f g a zero each = refl
same_given {X} f g a (suc n) each =
    ap (λ (o : Option X). cons_option o (filter_map g (range_with_len (a + 1) n))) (each a (omega arith) (omega arith))
    ∙ ap (cons_option (f a)) (same_given f g (a + 1) n (λ m low high. each m (omega arith) (omega arith)))

given_up_to : {X : Type 0} (f : ℕ → Option X) (n m : ℕ) → n ≤ m → ((k : ℕ) → n ≤ k → f k ≡ None) → filter_map f (range_with_len 0 m) ≡ filter_map f (range_with_len 0 n)
given_up_to {X} f n m le none =
    filter_as_flat f (range_with_len 0 m)
    ∙ same_up_to (λ k. cons_option (f k) []) n m le (λ k past. ap (λ (o : Option X). cons_option o []) (none k past))
    ∙ sym (filter_as_flat f (range_with_len 0 n))

same_any : (p q : Link → Bool) (links : List Link) → AllByRecursion (λ l. q l ≡ p l) links → list_any q links ≡ list_any p links
same_any p q [] each = refl
same_any p q (l ∷ links) each = ap (λ (t : Bool). t || list_any q links) each.0 ∙ ap (λ (t : Bool). p l || t) (same_any p q links each.1)

numbered : ℕ → ℕ → FileRef
numbered m seq = record { number = m; seq = seq }

module _ (d : Content) (v : Volume) (f : Extents) (k : GrowsTable d v f) where
  fits : count_of v ≤ record_count f
  fits = omega (arith, k.counted, k.goes_on.count)

  count_now : count_of (grown v f) ≡ record_count f
  count_now = length-append v.files (replicate (record_count f - count_of v) None) ∙ omega (arith, fits, length-replicate {A = Option Record} (record_count f - count_of v) None)

  -- ---- the files

  at_number : (m : ℕ) → table_in (filled_up (record_count f) v.files) m ≡ table_in v.files m
  at_number m = elim (cases_lt m (count_of v)) [
    | inl within ↦ get_or_append_left v.files (replicate (record_count f - count_of v) None) None m within
    | inr past ↦ none_behind (record_count f) v.files m past ∙ sym (get_or_past v.files m None past)
  ]

  same_files : table_in (filled_up (record_count f) v.files) ≡ table_in v.files
  same_files = fun_ext at_number

  same_file : (m : ℕ) → file_in (grown v f) m ≡ file_in v m
  same_file m = ap (λ (t : Table). file_at t m) same_files

  same_names : (m : ℕ) → links_at (table_in (filled_up (record_count f) v.files)) m ≡ links_at (table_in v.files) m
  same_names m = ap (λ (t : Table). links_at t m) same_files

  upper_same : upper_of d (grown v f) ≡ upper_of d v
  unfolding upper_of
  upper_same = ap (λ (o : Option Record). table_or_standard (upcase_of (bytes_or d v.per (file_stream data_type [] o)))) (same_file upcase_file)

  -- ---- rules on names

  grown_1 : broken_1 v ≡ None → broken_1 (grown v f) ≡ None
  unfolding broken_1 keeps_1
  grown_1 = still_with_more (keeps_1 (table_in v.files)) (keeps_1 (table_in (filled_up (record_count f) v.files))) (count_of v) (count_of (grown v f)) (λ m within below was. ap (λ (t : Table). keeps_1 t m) same_files ∙ was) (λ m past below. ap (λ (t : Table). keeps_1 t m) same_files ∙ asked_of_none (file_in v m) (λ r. keeps_names m r (record_links m r)) (no_file v.files m past))

  grown_2 : broken_2 v ≡ None → broken_2 (grown v f) ≡ None
  unfolding broken_2 keeps_2
  grown_2 = still_with_more (keeps_2 (table_in v.files)) (keeps_2 (table_in (filled_up (record_count f) v.files))) (count_of v) (count_of (grown v f)) (λ m within below was. ap (λ (t : Table). keeps_2 t m) same_files ∙ was) (λ m past below. ap (λ (t : Table). keeps_2 t m) same_files ∙ ap (list_all (λ (l : Link). is_directory_at (table_in v.files) l.parent)) (no_names v.files m past))

  index_same : (upper : List ℕ) (m : ℕ) → keeps_index d (grown v f) upper m ≡ keeps_index d v upper m
  unfolding keeps_index
  index_same upper m =
      let asked : Table → ℕ → Option Record → Bool = λ t count o. at_file (λ r. implies (is_directory_record r) (lists_names upper t count (reference m r) (index_links d v.per upper r))) o in
      ap (λ (t : Table). asked t (count_of (grown v f)) (file_at t m)) same_files
      ∙ ap (λ (count : ℕ). asked (table_in v.files) count (file_in v m)) count_now
      ∙ by upper m (file_in v m)
    where
      by : (upper : List ℕ) (m : ℕ) (o : Option Record) → at_file (λ r. implies (is_directory_record r) (lists_names upper (table_in v.files) (record_count f) (reference m r) (index_links d v.per upper r))) o ≡ at_file (λ r. implies (is_directory_record r) (lists_names upper (table_in v.files) (count_of v) (reference m r) (index_links d v.per upper r))) o
      by upper m None = refl
      by upper m (Some r) = ap (implies (is_directory_record r)) (listed_with_more upper (table_in v.files) (count_of v) (record_count f) (reference m r) (index_links d v.per upper r) (names_with_more (table_in v.files) (reference m r) (count_of v) (record_count f) fits (no_names v.files)))

  no_index : (upper : List ℕ) (m : ℕ) → count_of v ≤ m → keeps_index d v upper m ≡ true
  unfolding keeps_index
  no_index upper m past = asked_of_none (file_in v m) _ (no_file v.files m past)

  grown_3 : broken_3 d v ≡ None → broken_3 d (grown v f) ≡ None
  unfolding broken_3
  grown_3 none =
      let upper = upper_of d v in
      ap (λ (u : List ℕ). first_failing (keeps_index d (grown v f) u) (count_of (grown v f))) upper_same
      ∙ still_with_more (keeps_index d v upper) (keeps_index d (grown v f) upper) (count_of v) (count_of (grown v f)) (λ m within below was. index_same upper m ∙ was) (λ m past below. index_same upper m ∙ no_index upper m past) none

  -- ---- rule 4

  place_same : keeps_place (grown v f) ≡ keeps_place v
  unfolding keeps_place
  place_same =
      same_places (λ n. is_at (v.mft * v.per + 2 * n) (placed_record v n)) (λ n. is_at (v.mft * v.per + 2 * n) (placed_record (grown v f) n)) 0 4
      (λ m low high. ap (is_at (v.mft * v.per + 2 * m)) (k.goes_on.places m (omega (arith, k.counted, k.four, high))))

  bitmaps_now : (m : ℕ) → implies (eqb m bitmap_file) (leb v.clusters (8 * size_or (cluster_bitmap v))) ≡ true → keeps_bitmaps (grown v f) m ≡ true
  unfolding keeps_bitmaps
  bitmaps_now m marked =
      let records : size_or (record_bitmap (grown v f)) ≡ size_or (record_bitmap v) = ap (λ (o : Option Record). size_or (file_stream bitmap_type [] o)) (same_file table_file) in
      let clusters : size_or (cluster_bitmap (grown v f)) ≡ size_or (cluster_bitmap v) = ap (λ (o : Option Record). size_or (file_stream data_type [] o)) (same_file bitmap_file) in
      and_from _ _
      (implied_anyway (eqb m table_file) _ (le-leb (count_of (grown v f)) (8 * size_or (record_bitmap (grown v f))) (omega (arith, records, count_now, k.bitmap))))
      (ap (λ (n : ℕ). implies (eqb m bitmap_file) (leb v.clusters (8 * n))) clusters ∙ marked)

  sizes_now : (m : ℕ) → keeps_sizes d v m ≡ true → keeps_sizes d (grown v f) m ≡ true
  unfolding keeps_sizes keeps_streams keeps_bitmaps
  sizes_now m was =
      let parts = and_parts (at_file (keeps_streams d v m) (file_in v m)) (keeps_bitmaps v m) was in
      let marks = and_parts (implies (eqb m table_file) (leb (count_of v) (8 * size_or (record_bitmap v)))) (implies (eqb m bitmap_file) (leb v.clusters (8 * size_or (cluster_bitmap v)))) parts.1 in
      and_from _ _ (ap (at_file (keeps_streams d v m)) (same_file m) ∙ parts.0) (bitmaps_now m marks.1)

  sizes_behind : (m : ℕ) → max (count_of v) 7 ≤ m → keeps_sizes d (grown v f) m ≡ true
  unfolding keeps_sizes
  sizes_behind m past =
      and_from _ _
      (ap (at_file (keeps_streams d (grown v f) m)) (same_file m) ∙ asked_of_none (file_in v m) (keeps_streams d (grown v f) m) (no_file v.files m (omega arith)))
      (bitmaps_now m (implied_by_none (eqb m bitmap_file) _ (ne_eqb m bitmap_file (λ same. omega (arith, same)))))

  grown_4 : broken_4 d v ≡ None → broken_4 d (grown v f) ≡ None
  unfolding broken_4
  grown_4 none = by (keeps_place v) (keeps_place (grown v f)) place_same none
    where
      by : (s t : Bool) → t ≡ s → cond s (first_failing (keeps_sizes d v) (file_count v)) (Some table_file) ≡ None → cond t (first_failing (keeps_sizes d (grown v f)) (file_count (grown v f))) (Some table_file) ≡ None
      by true true same none = still_with_more (keeps_sizes d v) (keeps_sizes d (grown v f)) (file_count v) (file_count (grown v f)) (λ m within below was. sizes_now m was) (λ m past below. sizes_behind m past) none
      by true false same none = absurd cc
      by false t same none = absurd cc

  -- ---- clusters

  runs_same : volume_runs (filled_up (record_count f) v.files) ≡ volume_runs v.files
  unfolding volume_runs
  runs_same =
      flat_map-append file_runs v.files (replicate (record_count f - count_of v) None)
      ∙ ap (λ (l : List Run). flat_map file_runs v.files ++ l) (no_runs (record_count f - count_of v))
      ∙ append-nil (flat_map file_runs v.files)

  cluster_bits_same : cluster_bits d (grown v f) ≡ cluster_bits d v
  unfolding cluster_bits
  cluster_bits_same = ap (λ (o : Option Record). bits_of_bytes (bytes_or d v.per (file_stream data_type [] o)) v.clusters) (same_file bitmap_file)

  grown_5 : broken_5 v ≡ None → broken_5 (grown v f) ≡ None
  unfolding broken_5
  grown_5 none = ap (λ (runs : List Run). first_failing (keeps_owner runs) v.clusters) runs_same ∙ none

  grown_6 : broken_6 d v ≡ None → broken_6 d (grown v f) ≡ None
  unfolding broken_6
  grown_6 none =
      ap (λ (runs : List Run). first_failing (keeps_cluster_bit (cluster_bits d (grown v f)) runs) v.clusters) runs_same
      ∙ ap (λ (bits : List Bool). first_failing (keeps_cluster_bit bits (volume_runs v.files)) v.clusters) cluster_bits_same
      ∙ none

  -- ---- records

  record_same : (m : ℕ) → m < count_of v → record_bytes d (grown v f) m ≡ record_bytes d v m
  unfolding record_bytes record_block
  record_same m within =
      let old : m < record_count v.table = omega (arith, within, k.counted) in
      ap (λ (t : Bool). block_bytes d (cond t None (block_at v.per f.runs FileRec m))) (k.goes_on.begun m old)
      ∙ ap (λ (o : Option Block). block_bytes d (cond (leb v.table.initialised (1024 * m)) None o)) (k.goes_on.places m old)

  bit_same : (m : ℕ) → m < count_of v → bit (record_bits d (grown v f)) m ≡ bit (record_bits d v) m
  bit_same m within =
      record_bit d (grown v f) m (omega (arith, within, fits, count_now))
      ∙ ap (λ (o : Option Record). byte_bit (bytes_or d v.per (file_stream bitmap_type [] o)) m) (same_file table_file)
      ∙ sym (record_bit d v m within)

  unused_behind : (m : ℕ) → count_of v ≤ m → m < record_count f → is_in_use d (grown v f) m ≡ false
  unfolding is_in_use
  unused_behind m past below = ap (λ (t : Bool). t && has_in_use_flag (record_bytes d (grown v f) m)) (k.blank m past below)

  grown_7 : broken_7 d v ≡ None → broken_7 d (grown v f) ≡ None
  unfolding broken_7 keeps_record_bit is_in_use
  grown_7 =
      still_with_more (keeps_record_bit d v) (keeps_record_bit d (grown v f)) (count_of v) (count_of (grown v f))
      (λ m within below was.
      ap (λ (bytes : List ℕ). implies (is_used bytes) (bit (record_bits d (grown v f)) m)) (record_same m within)
      ∙ ap (implies (is_used (record_bytes d v m))) (bit_same m within)
      ∙ was)
      (λ m past below. implied_by_none (is_in_use d (grown v f) m) (bit (record_bits d (grown v f)) m) (unused_behind m past (omega (arith, below, count_now))))

  -- ---- ways up

  way_more : (o : Option Record) (m : ℕ) → at_file (λ r. implies (is_directory_record r) (leads (table_in v.files) (count_of v) m)) o ≡ true → at_file (λ r. implies (is_directory_record r) (leads (table_in v.files) (record_count f) m)) o ≡ true
  way_more None m was = refl
  way_more (Some r) m was = elim (cases_Bool (is_directory_record r)) [
    | inl directory ↦
        (let leads_there : leads (table_in v.files) (count_of v) m ≡ true = sym (ap (λ (t : Bool). implies t (leads (table_in v.files) (count_of v) m)) directory) ∙ was in
        implied_anyway (is_directory_record r) _ (more_steps (table_in v.files) (count_of v) (record_count f) m fits leads_there))
    | inr none ↦ implied_by_none (is_directory_record r) _ none
  ]

  grown_8 : broken_8 v ≡ None → broken_8 (grown v f) ≡ None
  unfolding broken_8 keeps_8
  grown_8 =
      still_with_more (keeps_8 (table_in v.files) (count_of v)) (keeps_8 (table_in (filled_up (record_count f) v.files)) (count_of (grown v f))) (count_of v) (count_of (grown v f))
      (λ m within below was. ap (λ (t : Table). keeps_8 t (count_of (grown v f)) m) same_files ∙ ap (λ (n : ℕ). keeps_8 (table_in v.files) n m) count_now ∙ way_more (file_in v m) m was)
      (λ m past below. ap (λ (t : Table). keeps_8 t (count_of (grown v f)) m) same_files ∙ asked_of_none (file_in v m) _ (no_file v.files m past))

  -- ---- the journal

  links_same : all_links (table_in (filled_up (record_count f) v.files)) (count_of (grown v f)) ≡ all_links (table_in v.files) (count_of v)
  unfolding all_links
  links_same =
      ap (λ (t : Table). flat_map (links_at t) (range_with_len 0 (count_of (grown v f)))) same_files
      ∙ ap (λ (n : ℕ). flat_map (links_at (table_in v.files)) (range_with_len 0 n)) count_now
      ∙ same_up_to (links_at (table_in v.files)) (count_of v) (record_count f) fits (no_names v.files)

  holder_same : (o : Option ℕ) → file_or_none (grown v f) o ≡ file_or_none v o
  holder_same None = refl
  holder_same (Some m) = same_file m

  journal_same : journal_of d (upper_of d (grown v f)) (grown v f) ≡ journal_of d (upper_of d v) v
  unfolding journal_of journal_file
  journal_same =
      ap (λ (u : List ℕ). journal_of d u (grown v f)) upper_same
      ∙ ap (λ (links : List Link). journal_of_file d v.per (file_or_none (grown v f) (child_in (upper_of d v) links extend_file journal_name))) links_same
      ∙ ap (journal_of_file d v.per) (holder_same (child_in (upper_of d v) (all_links (table_in v.files) (count_of v)) extend_file journal_name))

  grown_9 : broken_9 d v ≡ None → broken_9 d (grown v f) ≡ None
  unfolding broken_9
  grown_9 none = ap fault_of journal_same ∙ none

  all_grown : KeepsAll d v → KeepsAll d (grown v f)
  all_grown old = record {
    rule_1 = grown_1 old.rule_1;
    rule_2 = grown_2 old.rule_2;
    rule_3 = grown_3 old.rule_3;
    rule_4 = grown_4 old.rule_4;
    rule_5 = grown_5 old.rule_5;
    rule_6 = grown_6 old.rule_6;
    rule_7 = grown_7 old.rule_7;
    rule_8 = grown_8 old.rule_8;
    rule_9 = grown_9 old.rule_9;
  }

  -- ---- nodes

  directory_leads : broken_8 v ≡ None → (file : FileRef) → is_directory_at (table_in v.files) file ≡ true → leads (table_in v.files) (count_of v) file.number ≡ true
  unfolding broken_8 keeps_8 is_directory_at
  directory_leads none file is = elim (cases_lt file.number (count_of v)) [
    | inl within ↦ by (file_in v file.number) is (passes_below (keeps_8 (table_in v.files) (count_of v)) (count_of v) none file.number within)
    | inr past ↦ absurd (both_ways (is_directory_with file.seq (file_in v file.number)) (ap (is_directory_with file.seq) (no_file v.files file.number past)) is)
  ]
    where
      by : (o : Option Record) → is_directory_with file.seq o ≡ true → at_file (λ r. implies (is_directory_record r) (leads (table_in v.files) (count_of v) file.number)) o ≡ true → leads (table_in v.files) (count_of v) file.number ≡ true
      by None there kept = absurd cc
      by (Some r) there kept = sym (ap (λ (t : Bool). implies t (leads (table_in v.files) (count_of v) file.number)) (and_parts (is_directory_record r) (eqb r.head.seq file.seq) there).0) ∙ kept

  same_above : broken_2 v ≡ None → broken_8 v ≡ None → (m : ℕ) → AllByRecursion (λ l. is_in_system (table_in v.files) (record_count f) l.parent.number ≡ is_in_system (table_in v.files) (count_of v) l.parent.number) (links_at (table_in v.files) m)
  same_above none_2 none_8 m =
      all_by (λ l. is_directory_at (table_in v.files) l.parent ≡ true) (λ l. is_in_system (table_in v.files) (record_count f) l.parent.number ≡ is_in_system (table_in v.files) (count_of v) l.parent.number)
      (λ l is. steady (table_in v.files) (count_of v) (record_count f) l.parent.number fits (directory_leads none_8 l.parent is))
      (links_at (table_in v.files) m) (kept_parents v none_2 m)

  names_of_record : (m : ℕ) (r : Record) → file_in v m ≡ Some r → links_at (table_in v.files) m ≡ record_links m r
  unfolding links_at
  names_of_record m r is = ap (file_links m) is

  system_same : broken_2 v ≡ None → broken_8 v ≡ None → (m : ℕ) (r : Record) → file_in v m ≡ Some r → is_system (table_in (filled_up (record_count f) v.files)) (count_of (grown v f)) m (record_links m r) ≡ is_system (table_in v.files) (count_of v) m (record_links m r)
  unfolding is_system
  system_same none_2 none_8 m r is =
      let p = table_in v.files in
      ap (λ (t : Table). (ltb m first_user_record) || list_any (λ (l : Link). is_in_system t (count_of (grown v f)) l.parent.number) (record_links m r)) same_files
      ∙ ap (λ (n : ℕ). (ltb m first_user_record) || list_any (λ (l : Link). is_in_system p n l.parent.number) (record_links m r)) count_now
      ∙ ap (λ (t : Bool). (ltb m first_user_record) || t)
      (same_any (λ l. is_in_system p (count_of v) l.parent.number) (λ l. is_in_system p (record_count f) l.parent.number) (record_links m r)
      (subst (AllByRecursion (λ l. is_in_system p (record_count f) l.parent.number ≡ is_in_system p (count_of v) l.parent.number)) (names_of_record m r is) (same_above none_2 none_8 m)))

  some_same : broken_2 v ≡ None → broken_8 v ≡ None → (bytes : Option Stream → List ℕ) (m : ℕ) (o : Option Record) → file_in v m ≡ o → some_node bytes (grown v f) m o ≡ some_node bytes v m o
  some_same none_2 none_8 bytes m None is = refl
  some_same none_2 none_8 bytes m (Some r) is = node_from bytes v (grown v f) m r (kind_from v (grown v f) m r (system_same none_2 none_8 m r is))

  node_same : broken_2 v ≡ None → broken_8 v ≡ None → (bytes : Option Stream → List ℕ) (m : ℕ) → node_at bytes (grown v f) m ≡ node_at bytes v m
  unfolding node_at
  node_same none_2 none_8 bytes m = ap (some_node bytes (grown v f) m) (same_file m) ∙ some_same none_2 none_8 bytes m (file_in v m) refl

  nodes_same : broken_2 v ≡ None → broken_8 v ≡ None → (bytes : Option Stream → List ℕ) → nodes_by bytes (grown v f) ≡ nodes_by bytes v
  unfolding nodes_by
  nodes_same none_2 none_8 bytes =
      ap (λ (n : ℕ). filter_map (node_at bytes (grown v f)) (range_with_len 0 n)) count_now
      ∙ same_given (node_at bytes v) (node_at bytes (grown v f)) 0 (record_count f) (λ m low high. node_same none_2 none_8 bytes m)
      ∙ given_up_to (node_at bytes v) (count_of v) (record_count f) fits (no_node bytes v)

  -- ---- spare numbers and free clusters

  spare_same : (m : ℕ) → m < count_of v → spare_at d (grown v f) m ≡ spare_at d v m
  unfolding spare_at numbered
  spare_same m within =
      ap (λ (t : Bool). cond t None (Some (numbered m (spare_sequence (record_bytes d (grown v f) m))))) (bit_same m within)
      ∙ ap (λ (bytes : List ℕ). cond (bit (record_bits d v) m) None (Some (numbered m (spare_sequence bytes)))) (record_same m within)

  spare_new : (m : ℕ) → count_of v ≤ m → m < record_count f → spare_at d (grown v f) m ≡ Some (new_number m)
  unfolding spare_at spare_sequence numbered
  spare_new m past below =
      let bytes = record_bytes d (grown v f) m in
      let seq : spare_sequence bytes ≡ 1 = ap (λ (t : Bool). cond (t && not (eqb (field 0x10 2 bytes) 0)) (field 0x10 2 bytes) 1) (k.blank m past below) in
      ap (λ (t : Bool). cond t None (Some (numbered m (spare_sequence bytes)))) (k.clear m past below) ∙ ap (λ (n : ℕ). Some (numbered m n)) seq

  pub spare_before : (m : ℕ) → m < count_of v → spare_of d (grown v f) m ≡ spare_of d v m
  spare_before m within =
      let low : Bool = leb first_user_record m in
      ap (λ (t : Bool). cond (low && t) (spare_at d (grown v f) m) None) (lt-ltb m (count_of (grown v f)) (omega (arith, within, fits, count_now)) ∙ sym (lt-ltb m (count_of v) within))
      ∙ ap (λ (o : Option FileRef). cond (low && ltb m (count_of v)) o None) (spare_same m within)

  spares : spare_numbers d (grown v f) ≡ spare_numbers d v ++ new_numbers (count_of v) (record_count f)
  unfolding spare_numbers
  spares =
      let old = count_of v - first_user_record in
      let rest = record_count f - max first_user_record (count_of v) in
      let size : count_of (grown v f) - first_user_record ≡ old + rest = omega (arith, count_now, fits) in
      let from : first_user_record + old ≡ max first_user_record (count_of v) = omega arith in
      ap (λ (n : ℕ). filter_map (spare_at d (grown v f)) (range_with_len first_user_record n)) size
      ∙ split_map (spare_at d (grown v f)) first_user_record old rest
      ∙ ap (λ (l : List FileRef). l ++ filter_map (spare_at d (grown v f)) (range_with_len (first_user_record + old) rest))
      (same_given (spare_at d v) (spare_at d (grown v f)) first_user_record old (λ m low high. spare_same m (omega (arith, low, high))))
      ∙ ap (λ (a : ℕ). filter_map (spare_at d v) (range_with_len first_user_record old) ++ filter_map (spare_at d (grown v f)) (range_with_len a rest)) from
      ∙ ap (λ (l : List FileRef). filter_map (spare_at d v) (range_with_len first_user_record old) ++ l)
      (all_given (spare_at d (grown v f)) new_number (max first_user_record (count_of v)) rest (λ m low high. spare_new m (omega (arith, low)) (omega (arith, low, high))))

  room_same : free_clusters d (grown v f) ≡ free_clusters d v
  unfolding free_clusters
  room_same = ap (count_by not) cluster_bits_same

  tree_has : broken_2 v ≡ None → broken_8 v ≡ None → HasNewNumbers (tree_of d v) (tree_of d (grown v f))
  unfolding tree_of tree_with volume_journal
  tree_has none_2 none_8 = record {
    nodes = nodes_same none_2 none_8 (bytes_or d v.per);
    links = links_same;
    spare = spares ∙ ap (λ (n : ℕ). spare_numbers d v ++ new_numbers (count_of v) n) (sym count_now);
    journal = ap some_journal journal_same;
    room = room_same;
  }

pub grown_holds : (d : Content) (v : Volume) (f : Extents) (t : Tree) → Holds d v t → GrowsTable d v f → Holds d (grown v f) (tree_of d (grown v f))
grown_holds d v f t holds k = record { kept = from_rules d (grown v f) (all_grown d v f k (rules_of d v holds.kept)); tree = refl }

pub grown_count : (d : Content) (v : Volume) (f : Extents) (t : Tree) → Holds d v t → GrowsTable d v f → (tree_of d (grown v f)).count ≡ record_count f
unfolding tree_of tree_with
grown_count d v f t holds k = count_now d v f k

pub grown_tree : (d : Content) (v : Volume) (f : Extents) (t : Tree) → Holds d v t → GrowsTable d v f → HasNewNumbers t (tree_of d (grown v f))
grown_tree d v f t holds k =
    let old = rules_of d v holds.kept in
    rw holds.tree (tree_has d v f k old.rule_2 old.rule_8)
