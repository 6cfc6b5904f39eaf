-- The tree of a volume where several files change at once.
use Rattle.std.proofs.Common.{◌≡◌, ◌≢◌, ℕ, ◌<◌, max, Bool, true, false, cond, not, eqb, List, [], ◌∷◌, length, Option, Some, None, refl, sym, ap, subst, ◌∙◌, inl, inr}
use Rattle.std.specs.List.{list_all, AllByRecursion}
use Rattle.std.proofs.lemmas.Bool.{cases_Bool, and_parts, and_from, eqb-false, ne_eqb, eq-eqb, not-true, both_ways}
use Rattle.volume_state.specs.disk_model.Content.{Content}
use Rattle.volume_state.specs.record_model.Records.{Record}
use Rattle.volume_state.specs.record_model.Constants.{data_type}
use Rattle.volume_state.specs.file_tree.declared.link.Link.{Link}
use Rattle.volume_state.specs.file_tree.declared.tree.Tree.{Tree}
use Rattle.volume_state.specs.bit_set.Bits.{bit}
use Rattle.volume_state.specs.upcase_order.Tables.{upcase_of}
use Rattle.volume_state.specs.state_model.declared.stream.Stream.{Stream}
use Rattle.volume_state.specs.state_model.Files.{Table, only_base, reference, record_links, file_links, file_at, links_at, is_directory_record}
use Rattle.volume_state.specs.state_model.Loads.{table_in}
use Rattle.volume_state.specs.state_model.Rules.{implies, at_file, keeps_names, is_directory_with, is_directory_at, first_failing, keeps_1, keeps_2, keeps_8}
use Rattle.volume_state.specs.state_model.Trees.{first_parent, parent_at, leads, is_system}
use Rattle.volume_state.specs.volume_model.Volumes.{Volume, count_of, file_in, file_stream, bytes_or, upcase_file, record_bytes, record_block, is_in_use, record_bits, table_or_standard, upper_of}
use Rattle.volume_state.specs.volume_model.Indexes.{keeps_index}
use Rattle.volume_state.specs.volume_model.Nodes.{kind_in, some_node, node_at, spare_at}
use Rattle.volume_state.specs.volume_model.Owners.{keeps_record_bit}
use Rattle.volume_state.specs.volume_model.Sizes.{keeps_place, keeps_sizes}
use Rattle.volume_state.specs.Rules.{file_count, broken_1, broken_2, broken_3, broken_4, broken_7, broken_8}
use Rattle.volume_state.specs.Trees.{Holds, tree_of}
use Rattle.stream_laws.specs.Rewrites.{with_files}
use Rattle.stream_laws.proofs.Framing.{same_record_bytes, same_in_use}
use Rattle.tree_laws.specs.Keeping.{KeepsDirectory}
use Rattle.tree_laws.specs.Contents.{SameShownAt}
use Rattle.tree_laws.specs.Ways.{KeepsWays}
use Rattle.tree_laws.specs.Leaves.{IsLeaf, names_there}
use Rattle.tree_laws.specs.Changed.{KeepsPlaces, TouchesFiles, AgreesElsewhere, KeepsTouched}
use Rattle.tree_laws.proofs.Ascending.{all_by, way_kept, of_system_kept}
use Rattle.tree_laws.proofs.Climbing.{all_inside, kind_from, node_from}
use Rattle.tree_laws.proofs.Ruling.{sizes_kept}
use Rattle.tree_laws.proofs.Agreeing.{same_upper, same_index, kept_sizes, asked_when_clear, spare_with, same_spare_with, same_node}
use Rattle.tree_laws.proofs.Keeping.{KeepsAll, rules_of, from_rules, still_passes}
use Rattle.tree_laws.proofs.Standing.{same_every, index_kept}

-- what passes a test and the numbers behind it still does
where_placed : (placed : Bool) (x y : Option ℕ) → (x ≡ None → y ≡ None) → cond placed x (Some 0) ≡ None → cond placed y (Some 0) ≡ None
where_placed true x y still none = still none
where_placed false x y still none = absurd cc

-- ---- which files keep their places

pub all_keep : (p q : Table) → ((m : ℕ) → links_at q m ≡ links_at p m) → ((m : ℕ) → KeepsDirectory m p q) → KeepsPlaces (λ m. true) p q
all_keep p q names directories = record { names = λ m is. names m; directory = λ m is. directories m; above = λ m is. all_inside (links_at p m) }

pub all_but : (p q : Table) (n : ℕ) → IsLeaf n p → ((m : ℕ) → m ≢ n → links_at q m ≡ links_at p m) → ((m : ℕ) → m ≢ n → KeepsDirectory m p q) → KeepsPlaces (λ m. not (eqb m n)) p q
all_but p q n leaf names directories =
    let other : (m : ℕ) → not (eqb m n) ≡ true → m ≢ n = λ m is. eqb-false m n (not-true (eqb m n) is) in
    record {
      names = λ m is. names m (other m is);
      directory = λ m is. directories m (other m is);
      above = λ m is. all_by (λ l. l.parent.number ≢ n) (λ l. not (eqb l.parent.number n) ≡ true) (λ l apart. ap not (ne_eqb l.parent.number n apart)) (links_at p m) (leaf m (other m is));
    }

first_above : (inside : ℕ → Bool) (links : List Link) (k : ℕ) → AllByRecursion (λ l. inside l.parent.number ≡ true) links → first_parent links ≡ Some k → inside k ≡ true
first_above inside [] k above is = absurd cc
first_above inside (l ∷ links) k above is = let same : l.parent.number ≡ k = cc in ap inside (sym same) ∙ above.0

pub places_ways : (inside : ℕ → Bool) (p q : Table) → KeepsPlaces inside p q → KeepsWays inside p q
unfolding parent_at
places_ways inside p q keeps = record { names = keeps.names; up = λ m k is parent. first_above inside (links_at p m) k (keeps.above m is) parent }

-- ---- rules 2 and 8 at files that keep their places

place_2 : (inside : ℕ → Bool) (p q : Table) (m : ℕ) → KeepsPlaces inside p q → inside m ≡ true → keeps_2 q m ≡ keeps_2 p m
unfolding keeps_2 is_directory_at
place_2 inside p q m keeps is =
    ap (list_all (λ (l : Link). is_directory_at q l.parent)) (keeps.names m is)
    ∙ same_every (λ l. is_directory_at p l.parent) (λ l. is_directory_at q l.parent) (links_at p m)
    (all_by (λ l. inside l.parent.number ≡ true) (λ l. is_directory_at q l.parent ≡ is_directory_at p l.parent) (λ l above. keeps.directory l.parent.number above l.parent.seq) (links_at p m) (keeps.above m is))

-- what is asked of a directory, where it was one before
asked_again : (o other : Option Record) (t : Bool) → ((seq : ℕ) → is_directory_with seq other ≡ is_directory_with seq o) → at_file (λ r. implies (is_directory_record r) t) o ≡ true → at_file (λ r. implies (is_directory_record r) t) other ≡ true
asked_again o None t keeps kept = refl
asked_again None (Some s) t keeps kept = elim (cases_Bool (is_directory_record s)) [
  | inl is ↦ absurd (both_ways (is_directory_with s.head.seq (Some s)) (keeps s.head.seq) (and_from _ _ is (eq-eqb s.head.seq s.head.seq refl)))
  | inr none ↦ ap (λ (x : Bool). implies x t) none
]
asked_again (Some r) (Some s) t keeps kept = elim (cases_Bool (is_directory_record s)) [
  | inl is ↦
      (let there : is_directory_with s.head.seq (Some r) ≡ true = sym (keeps s.head.seq) ∙ and_from _ _ is (eq-eqb s.head.seq s.head.seq refl) in
      ap (λ (x : Bool). implies x t) (is ∙ sym (and_parts _ _ there).0) ∙ kept)
  | inr none ↦ ap (λ (x : Bool). implies x t) none
]

place_8 : (inside : ℕ → Bool) (p q : Table) (count m : ℕ) → KeepsPlaces inside p q → inside m ≡ true → keeps_8 p count m ≡ true → keeps_8 q count m ≡ true
unfolding keeps_8
place_8 inside p q count m keeps is kept =
    ap (λ (t : Bool). at_file (λ r. implies (is_directory_record r) t) (file_at q m)) (way_kept inside p q count m (places_ways inside p q keeps) is)
    ∙ asked_again (file_at p m) (file_at q m) (leads p count m) (keeps.directory m is) kept

-- ---- the files that aren't touched

names_of_record : (inside : ℕ → Bool) (p : Table) (m : ℕ) (r : Record) → AllByRecursion (λ l. inside l.parent.number ≡ true) (links_at p m) → file_at p m ≡ Some r → AllByRecursion (λ l. inside l.parent.number ≡ true) (record_links m r)
unfolding links_at
names_of_record inside p m r above is = subst (λ (o : Option Record). AllByRecursion (λ l. inside l.parent.number ≡ true) (file_links m o)) is above

module _ (touched inside : ℕ → Bool) (v : Volume) (files : List (Option Record)) (k : TouchesFiles touched inside v.files files) where
  same_file : (m : ℕ) → touched m ≡ false → file_in (with_files v files) m ≡ file_in v m
  unfolding file_at
  same_file m is = ap only_base (k.others m is)

  same_kind : (m : ℕ) (r : Record) → touched m ≡ false → file_in v m ≡ Some r → kind_in (with_files v files) m r ≡ kind_in v m r
  same_kind m r is file =
      let p = table_in v.files in
      let q = table_in files in
      kind_from v (with_files v files) m r
      (of_system_kept inside p q (length files) m (record_links m r) (places_ways inside p q k.places) (names_of_record inside p m r (k.places.above m (k.within m is)) file)
      ∙ ap (λ (count : ℕ). is_system p count m (record_links m r)) k.count)

  same_some : (bytes : Option Stream → List ℕ) (m : ℕ) (o : Option Record) → touched m ≡ false → file_in v m ≡ o → some_node bytes (with_files v files) m o ≡ some_node bytes v m o
  same_some bytes m None is file = refl
  same_some bytes m (Some r) is file = node_from bytes v (with_files v files) m r (same_kind m r is file)

  same_node_here : (bytes : Option Stream → List ℕ) (m : ℕ) → touched m ≡ false → node_at bytes (with_files v files) m ≡ node_at bytes v m
  unfolding node_at
  same_node_here bytes m is = ap (some_node bytes (with_files v files) m) (same_file m is) ∙ same_some bytes m (file_in v m) is refl

pub untouched_node : (touched inside : ℕ → Bool) (c d : Content) (v : Volume) (files : List (Option Record)) (m : ℕ) → TouchesFiles touched inside v.files files → touched m ≡ false → SameShownAt c d v m → node_at (bytes_or d v.per) (with_files v files) m ≡ node_at (bytes_or c v.per) v m
untouched_node touched inside c d v files m k is shown = same_node_here touched inside v files k (bytes_or d v.per) m is ∙ same_node c d v m shown

pub untouched_spare : (touched inside : ℕ → Bool) (c d : Content) (v : Volume) (files : List (Option Record)) (m : ℕ) → TouchesFiles touched inside v.files files → AgreesElsewhere touched c d v (with_files v files) → m < count_of v → touched m ≡ false → spare_at d (with_files v files) m ≡ spare_at c v m
unfolding spare_at record_bytes record_block
untouched_spare touched inside c d v files m k agree below is =
    ap (λ (t : Bool). spare_with m t (record_bytes d v m)) (agree.bits m below is)
    ∙ same_spare_with m (bit (record_bits c v) m) (record_bytes c v m) (record_bytes d v m) (λ clear. same_record_bytes c d v m (agree.free m below is clear))

-- ---- the rules

module _ (touched inside : ℕ → Bool) (c d : Content) (v : Volume) (files : List (Option Record)) (k : TouchesFiles touched inside v.files files) (agree : AgreesElsewhere touched c d v (with_files v files)) (new : KeepsTouched touched inside c d v (with_files v files)) where
  upper_now : upper_of d (with_files v files) ≡ upper_of c v
  unfolding upper_of
  upper_now =
      ap (λ (o : Option Record). table_or_standard (upcase_of (bytes_or d v.per (file_stream data_type [] o)))) (same_file touched inside v files k upcase_file new.upcase)
      ∙ same_upper c d v agree.upper

  kept_1 : broken_1 v ≡ None → broken_1 (with_files v files) ≡ None
  unfolding broken_1 keeps_1
  kept_1 = still_passes (keeps_1 (table_in v.files)) (keeps_1 (table_in files)) (count_of v) (length files) k.count (λ m below was. elim (cases_Bool (touched m)) [
    | inl is ↦ new.rule_1 m below is
    | inr other ↦ ap (at_file (λ r. keeps_names m r (record_links m r))) (same_file touched inside v files k m other) ∙ was
  ])

  kept_2 : broken_2 v ≡ None → broken_2 (with_files v files) ≡ None
  unfolding broken_2
  kept_2 = still_passes (keeps_2 (table_in v.files)) (keeps_2 (table_in files)) (count_of v) (length files) k.count (λ m below was. elim (cases_Bool (inside m)) [
    | inl is ↦ place_2 inside (table_in v.files) (table_in files) m k.places is ∙ was
    | inr other ↦ new.rule_2 m below other
  ])

  names_kept : (m j : ℕ) (r : Record) → touched m ≡ false → file_in v m ≡ Some r → is_directory_record r ≡ true → names_there (reference m r) (links_at (table_in files) j) ≡ names_there (reference m r) (links_at (table_in v.files) j)
  names_kept m j r other is directory = elim (cases_Bool (inside j)) [
    | inl within ↦ ap (names_there (reference m r)) (k.places.names j within)
    | inr leaves ↦ new.listed m j r other is directory leaves
  ]

  kept_3 : broken_3 c v ≡ None → broken_3 d (with_files v files) ≡ None
  unfolding broken_3
  kept_3 none =
      let w = with_files v files in
      let upper = upper_of c v in
      ap (λ (u : List ℕ). first_failing (keeps_index d w u) (length files)) upper_now
      ∙ still_passes (keeps_index c v upper) (keeps_index d w upper) (count_of v) (length files) k.count
      (λ m below was. elim (cases_Bool (touched m)) [
        | inl is ↦ new.rule_3 m below is
        | inr other ↦ index_kept d v files upper m k.count (same_file touched inside v files k m other) (λ r is directory j. names_kept m j r other is directory) ∙ same_index c d v upper m (agree.indexes m other) ∙ was
      ])
      none

  kept_4 : broken_4 c v ≡ None → broken_4 d (with_files v files) ≡ None
  unfolding broken_4 keeps_place
  kept_4 = where_placed (keeps_place v) (first_failing (keeps_sizes c v) (file_count v)) (first_failing (keeps_sizes d (with_files v files)) (file_count (with_files v files))) (still_passes (keeps_sizes c v) (keeps_sizes d (with_files v files)) (file_count v) (file_count (with_files v files)) (ap (λ (x : ℕ). max x 7) k.count) (λ m below was. elim (cases_Bool (touched m)) [
    | inl is ↦ new.rule_4 m below is
    | inr other ↦ sizes_kept d v files m k.count (same_file touched inside v files k m other) ∙ kept_sizes c d v m agree.torn was
  ]))

  bit_kept : (m : ℕ) → m < count_of v → touched m ≡ false → keeps_record_bit c v m ≡ true → keeps_record_bit d (with_files v files) m ≡ true
  unfolding keeps_record_bit is_in_use record_bytes record_block
  bit_kept m below other was =
      ap (λ (t : Bool). implies (is_in_use d v m) t) (agree.bits m below other)
      ∙ asked_when_clear (is_in_use d v m) (is_in_use c v m) (bit (record_bits c v) m) (λ clear. same_in_use c d v m (agree.free m below other clear)) was

  kept_7 : broken_7 c v ≡ None → broken_7 d (with_files v files) ≡ None
  unfolding broken_7
  kept_7 = still_passes (keeps_record_bit c v) (keeps_record_bit d (with_files v files)) (count_of v) (length files) k.count (λ m below was. elim (cases_Bool (touched m)) [
    | inl is ↦ new.rule_7 m below is
    | inr other ↦ bit_kept m below other was
  ])

  kept_8 : broken_8 v ≡ None → broken_8 (with_files v files) ≡ None
  unfolding broken_8
  kept_8 none =
      let p = table_in v.files in
      let q = table_in files in
      still_passes (keeps_8 p (count_of v)) (keeps_8 q (length files)) (count_of v) (length files) k.count
      (λ m below was. elim (cases_Bool (inside m)) [
        | inl is ↦ ap (λ (x : ℕ). keeps_8 q x m) k.count ∙ place_8 inside p q (count_of v) m k.places is was
        | inr other ↦ new.rule_8 m below other
      ])
      none

  all_kept : KeepsAll c v → KeepsAll d (with_files v files)
  all_kept old = record {
    rule_1 = kept_1 old.rule_1;
    rule_2 = kept_2 old.rule_2;
    rule_3 = kept_3 old.rule_3;
    rule_4 = kept_4 old.rule_4;
    rule_5 = new.rule_5;
    rule_6 = new.rule_6;
    rule_7 = kept_7 old.rule_7;
    rule_8 = kept_8 old.rule_8;
    rule_9 = new.rule_9;
  }

pub changed_holds : (touched inside : ℕ → Bool) (c d : Content) (v : Volume) (files : List (Option Record)) (t : Tree) → Holds c v t → TouchesFiles touched inside v.files files → AgreesElsewhere touched c d v (with_files v files) → KeepsTouched touched inside c d v (with_files v files) → Holds d (with_files v files) (tree_of d (with_files v files))
changed_holds touched inside c d v files t holds k agree new =
    record { kept = from_rules d (with_files v files) (all_kept touched inside c d v files k agree new (rules_of c v holds.kept)); tree = refl }
