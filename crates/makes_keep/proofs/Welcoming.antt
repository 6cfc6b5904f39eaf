-- What a mount asks of attribute lists and of names stays where a file is made.
use Rattle.std.proofs.Common.{◌≡◌, ◌≢◌, ℕ, ◌≤◌, Bool, false, ◌&&◌, cond, eqb, List, [], ◌∷◌, length, Option, Some, None, refl, sym, ap, ◌∙◌, inl, inr, arith}
use Rattle.std.specs.List.{filter, find, list_any}
use Rattle.std.specs.List.Sorted.{IsPermutation}
use Rattle.std.specs.Option.{option_map, option_or}
use Rattle.std.proofs.lemmas.Bool.{cases_eq, ne_eqb, or_parts}
use Rattle.std.proofs.lemmas.List.Sorted.{sum_by-IsPermutation}
use Rattle.std.proofs.lemmas.List.Sums.{length-filter, sum_by-cons}
use Rattle.host_base.specs.declared.file_ref.FileRef.{FileRef}
use Rattle.disk_model.specs.Content.{Content}
use Rattle.record_model.specs.declared.attribute.Attr.{Attr}
use Rattle.record_model.specs.Constants.{attribute_list}
use Rattle.record_model.specs.Records.{Record}
use Rattle.file_tree.specs.declared.link.Link.{Link}
use Rattle.file_tree.specs.declared.node.Node.{Node}
use Rattle.file_tree.specs.Names.{same_units, same_name}
use Rattle.file_tree.specs.Trees.{is_in, same_links, first_of_two, first_in_order, look_up}
use Rattle.file_tree.specs.Walks.{child_in}
use Rattle.index_model.specs.Trees.{Tree}
use Rattle.made_files.specs.index_change.declared.nodes_plan.NodesPlan.{NodesPlan}
use Rattle.state_model.specs.declared.geometry.Geometry.{Geometry}
use Rattle.state_model.specs.declared.stream.Extents.{Extents}
use Rattle.state_model.specs.Files.{has_type}
use Rattle.state_model.specs.Loads.{record_count}
use Rattle.state_model.specs.Trees.{all_links}
use Rattle.volume_model.specs.Volumes.{Volume, count_of, file_in, files_by_number, table_file}
use Rattle.volume_state.specs.Journals.{extend_file, journal_name}
use Rattle.volume_state.specs.Trees.{tree_of, tree_with}
use Rattle.stream_laws.proofs.Rewriting.{attrs_alone}
use Rattle.stream_laws.proofs.Tabling.{no_list_stream}
use Rattle.plan_owners.specs.States.{Stands}
use Rattle.plan_owners.proofs.Standing.{slots, file_parts, some_file}
use Rattle.plan_owners.proofs.Unnamed.{no_list_of_table}
use Rattle.plan_draft.specs.declared.touched.Touched.{Touched}
use Rattle.plan_draft.specs.Drafts.{drafted}
use Rattle.tree_model.specs.Effects.{new_link}
use Rattle.written_values.specs.plan_model.Made.{is_info_or_root}
use Rattle.written_values.proofs.plan_model.Rewriting.{same_types}
use Rattle.written_values.specs.step_model.Placing.{Growth, wanted_by}
use Rattle.written_values.specs.file_puts.declared.streams.VolumeStreams.{VolumeStreams}
use Rattle.writes_keep.specs.names_stay.Lists.{is_list, lists_of, lists_in}
use Rattle.made_files.specs.new_files.Laws.{NewFileReads}
use Rattle.made_files.specs.record_times.Laws.{TimesAreSet}
use Rattle.made_files.specs.file_makes.declared.newfile.NewFile.{NewFile}
use Rattle.made_files.specs.file_makes.Making.{made_record}
use Rattle.made_files.specs.Made.{rooted_directory, IsMadeEdit}
use Rattle.made_trees.specs.Created.{timed_directory, timed_volume, made_volume}
use Rattle.made_trees.specs.Behind.{MakesFileBehind, HasMadeFileBehind}
use Rattle.made_trees.proofs.Going.{first_stands}
use Rattle.made_trees.proofs.Leaving.{two as file_edit, file_w as file_behind, dir_w as directory_behind, others_w as others_behind}
use Rattle.makes_keep.specs.Makes.{GrowsWell}
use Rattle.makes_keep.specs.Welcoming.{StaysWelcome, MadeStaysWelcome}

-- ---- attribute lists

abbrev one_list : Attr → ℕ
one_list y = cond (is_list y) 1 0

none_counted : (attrs : List Attr) → list_any (λ (y : Attr). eqb y.head.kind attribute_list) attrs ≡ false → lists_of attrs ≡ 0
none_counted [] none = refl
none_counted (y ∷ attrs) none =
    let parts = or_parts (eqb y.head.kind attribute_list) (list_any (λ (i : Attr). eqb i.head.kind attribute_list) attrs) none in
    let rest = none_counted attrs parts.1 in
    let own : one_list y ≡ 0 = ap (λ (b : Bool). cond b 1 0) parts.0 in
    let sum = sum_by-cons one_list y attrs in
    omega (arith, rest, own, sum)

no_lists : (o : Option Record) (r : Record) → o ≡ Some r → has_type attribute_list r ≡ false → lists_in o ≡ 0
unfolding has_type
no_lists o r is none = ap lists_in is ∙ none_counted r.attrs none

-- the file table has none
table_lists : (c : Content) (g : Geometry) (clusters : ℕ) (v : Volume) → Stands c g clusters v → lists_in (file_in v table_file) ≡ 0
table_lists c g clusters v state = by (file_in v table_file) refl
  where
    record_with : Record → List Attr → Record
    record_with r attrs = record { head = r.head; attrs = attrs }

    by : (o : Option Record) → file_in v table_file ≡ o → lists_in (file_in v table_file) ≡ 0
    by None is = ap lists_in is
    by (Some r) is =
        let parts = file_parts c g clusters v table_file r state.loaded (some_file v table_file r is) in
        let none = no_list_of_table c g clusters v parts.base state parts.slot in
        let attrs : r.attrs ≡ parts.base.attrs = ap (λ (y : Record). y.attrs) parts.whole ∙ attrs_alone c v.per (slots c v) (record_count v.table) table_file parts.base (no_list_stream parts.base none) in
        ap lists_in is ∙ ap lists_of attrs ∙ no_lists (Some parts.base) parts.base refl none

-- ---- names

some_first : {X Y : Type 0} (f : X → Y) (o : Option X) (x : X) → option_map f (option_or o (Some x)) ≡ None → ⊥
some_first f None x is = absurd cc
some_first f (Some y) x is = absurd cc

none_there : (upper : List ℕ) (p : Link → Bool) (same : List Link) → option_map (λ (l : Link). l.child.number) (option_or (find p same) (first_in_order upper same)) ≡ None → same ≡ []
none_there upper p [] is = refl
none_there upper p (l ∷ same) is = absurd (some_first (λ (y : Link). y.child.number) (find p (l ∷ same)) (first_of_two upper l (first_in_order upper same)) is)

none_same : (upper : List ℕ) (links : List Link) (directory : ℕ) (part : List ℕ) → child_in upper links directory part ≡ None → same_links upper links directory part ≡ []
unfolding child_in look_up
none_same upper links directory part is = none_there upper (λ l. same_units l.name part) (same_links upper links directory part) is

no_child : (upper : List ℕ) (links : List Link) (directory : ℕ) (part : List ℕ) → same_links upper links directory part ≡ [] → child_in upper links directory part ≡ None
unfolding child_in look_up
no_child upper links directory part none = ap (λ (same : List Link). option_map (λ (l : Link). l.child.number) (option_or (find (λ l. same_units l.name part) same) (first_in_order upper same))) none

empty : (xs : List Link) → length xs ≡ 0 → xs ≡ []
empty [] is = refl
empty (x ∷ xs) is = absurd (omega (arith, is))

abbrev one_link : (Link → Bool) → Link → ℕ
one_link test y = cond (test y) 1 0

-- a name in another directory more, whatever the order
still_none : (upper : List ℕ) (l : Link) (old new : List Link) (directory : ℕ) (part : List ℕ) → l.parent.number ≢ directory → IsPermutation (l ∷ old) new → same_links upper old directory part ≡ [] → same_links upper new directory part ≡ []
unfolding same_links
still_none upper l old new directory part other permuted none =
    let test : Link → Bool = λ y. is_in directory y && same_name upper y.name part in
    let was = length-filter test old in
    let size : length (filter test old) ≡ 0 = ap length none in
    let fails : test l ≡ false = ap (λ (b : Bool). b && same_name upper l.name part) (ne_eqb l.parent.number directory other) in
    let own : one_link test l ≡ 0 = ap (λ (b : Bool). cond b 1 0) fails in
    let sum = sum_by-cons (one_link test) l old in
    let same = sum_by-IsPermutation (one_link test) (l ∷ old) new permuted in
    let now = length-filter test new in
    empty (filter test new) (omega (arith, was, size, own, sum, same, now))

tree_links : (c : Content) (v : Volume) → (tree_of c v).links ≡ all_links (files_by_number v) (count_of v)
unfolding tree_of tree_with
tree_links c v = refl

module _ (times_set : TimesAreSet) (reads : NewFileReads) (c : Content) (g : Geometry) (clusters : ℕ) (v : Volume) (s : VolumeStreams) (numbers : Extents) (m : NewFile) (a : Node) (r : Record) (growths : List Growth) (u : Volume) (now : Record) (grown : List Touched) (value : List ℕ) (used : ℕ) (t : Tree) (fresh : List ℕ) (nodes : NodesPlan) (timed new : List Touched)
    (k : MakesFileBehind c g clusters v s numbers m a r growths u now grown value used t fresh nodes timed new) (well : GrowsWell c v m.parent.number u grown) (h : HasMadeFileBehind c g clusters v m a growths new (made_volume c u s m now k.made.put.plan timed)) where
  abbrev n : ℕ
  n = m.file.number

  abbrev dir : ℕ
  dir = m.parent.number

  abbrev q : Record
  q = timed_directory m.stamp now

  abbrev x : Volume
  x = timed_volume u m now

  abbrev z : Record
  z = rooted_directory k.made.put.plan (timed_directory m.stamp now)

  abbrev f : Record
  f = made_record (drafted timed c) s.table m

  abbrev w : Volume
  w = made_volume c u s m now k.made.put.plan timed

  two : IsMadeEdit c x s m q value used t fresh k.made.put.plan timed new
  two = file_edit times_set reads c g clusters v s numbers m a r growths u now grown value used t fresh nodes timed new k

  file_w : file_in w n ≡ Some f
  file_w = file_behind times_set reads c g clusters v s numbers m a r growths u now grown value used t fresh nodes timed new k

  dir_w : file_in w dir ≡ Some z
  dir_w = directory_behind times_set reads c g clusters v s numbers m a r growths u now grown value used t fresh nodes timed new k

  others_w : (i : ℕ) → i ≢ n → i ≢ dir → file_in w i ≡ file_in u i
  others_w = others_behind times_set reads c g clusters v s numbers m a r growths u now grown value used t fresh nodes timed new k

  table_u : lists_in (file_in u table_file) ≡ 0
  table_u = table_lists (drafted grown c) g clusters u (first_stands times_set reads c g clusters v s numbers m a r growths u now grown value used t fresh nodes timed new k)

  lists_at : (i : ℕ) → lists_in (file_in w i) ≤ lists_in (file_in v i)
  lists_at i = elim (cases_eq i n) [
    | inl is ↦ (let none = ap (λ (j : ℕ). lists_in (file_in w j)) is ∙ no_lists (file_in w n) f file_w two.makes.no_list in omega (arith, none))
    | inr other ↦ elim (cases_eq i dir) [
      | inl is ↦ (let none = ap (λ (j : ℕ). lists_in (file_in w j)) is ∙ no_lists (file_in w dir) z dir_w (same_types is_info_or_root q z attribute_list two.makes.values ∙ two.makes.lists_none) in omega (arith, none))
      | inr more ↦ elim (cases_eq i table_file) [
        | inl is ↦ (let none = ap lists_in (others_w i other more) ∙ ap (λ (j : ℕ). lists_in (file_in u j)) is ∙ table_u in omega (arith, none))
        | inr no_table ↦ (let same = ap lists_in (others_w i other more ∙ well.others i more no_table) in omega (arith, same))
      ]
    ]
  ]

  not_extend : (new_link a m.name m.file).parent.number ≢ extend_file
  not_extend is = k.made.directory.not_extend (ap (λ (ref : FileRef). ref.number) k.referred ∙ is)

  journal : (upper : List ℕ) → child_in upper (all_links (files_by_number v) (count_of v)) extend_file journal_name ≡ None → child_in upper (all_links (files_by_number w) (count_of w)) extend_file journal_name ≡ None
  journal upper none =
      let before = none_same upper (tree_of c v).links extend_file journal_name (ap (λ (l : List Link). child_in upper l extend_file journal_name) (tree_links c v) ∙ none) in
      let behind = still_none upper (new_link a m.name m.file) (tree_of c v).links (tree_of (drafted new c) w).links extend_file journal_name not_extend (h.tree (wanted_by growths) (omega arith)).links before in
      ap (λ (l : List Link). child_in upper l extend_file journal_name) (sym (tree_links (drafted new c) w)) ∙ no_child upper (tree_of (drafted new c) w).links extend_file journal_name behind

  pub welcome : StaysWelcome v w
  welcome = record { lists = lists_at; journal = journal }

pub stays_welcome : TimesAreSet → NewFileReads → MadeStaysWelcome
stays_welcome times_set reads c g clusters v s numbers m a r growths u q grown value used t fresh nodes timed new k well h = welcome times_set reads c g clusters v s numbers m a r growths u q grown value used t fresh nodes timed new k well h
