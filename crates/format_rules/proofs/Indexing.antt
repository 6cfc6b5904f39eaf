-- The indexes of a new volume: the root's, with the names of the system files in one block, and that of `$Extend`, which is empty.
use Rattle.std.proofs.Common.{◌≡◌, ℕ, zero, suc, ◌+◌, ◌*◌, ◌^◌, ◌<◌, ◌≤◌, inl, inr, Bool, true, false, not, eqb, ◌&&◌, ◌||◌, List, [], ◌∷◌, length, map, Option, Some, None, Ok, refl, sym, ap, ◌∙◌, arith}
use Rattle.std.specs.Ordering.{is_lt, is_gt}
use Rattle.std.specs.declared.cmp.Ordering.{Ordering}
use Rattle.std.specs.declared.cmp.Ordering.TheVariants.{Less, Equal, Greater}
use Rattle.std.specs.List.{AllByRecursion, list_all, list_any, cons_option}
use Rattle.std.proofs.lemmas.Bool.{cases_lt, eq-eqb, and_from}
use Rattle.disk_model.specs.declared.block.Block.{Block}
use Rattle.disk_model.specs.declared.block.Body.{Body}
use Rattle.disk_model.specs.declared.block.BlockKind.TheVariants.{Index}
use Rattle.disk_model.specs.Numbers.{field}
use Rattle.disk_model.specs.Content.{Content, is_signed}
use Rattle.host_base.specs.declared.file_ref.FileRef.{FileRef}
use Rattle.record_model.specs.declared.entry.Entry.{Entry as Raw}
use Rattle.record_model.specs.Nodes.{node_spelling, last_entry}
use Rattle.record_model.specs.Records.{Record}
use Rattle.record_model.proofs.NodeTables.{ok_from_node}
use Rattle.record_model.proofs.NodeSpelling.{node_signed, node_spells, length-node_spelling}
use Rattle.index_node.specs.Roots.{root_spelling}
use Rattle.index_node.proofs.RootSpelled.{root_law}
use Rattle.file_tree.specs.declared.link.Link.{Link}
use Rattle.file_tree.specs.Names.{name_order}
use Rattle.index_model.specs.declared.key.Key.{Key}
use Rattle.index_model.specs.Trees.{Tree, Leaf, Down, Entry, walk, one_if, same, raws_of}
use Rattle.index_model.specs.Indexes.{Place, node_block, entries_of_node, node_of_body, node_of_block, some_entries, nodes_of, key_link, links_of, precedes, rises, IsIndex}
use Rattle.index_model.specs.Laws.{HoldsIndex}
use Rattle.index_model.proofs.WalkLaw.{walk_passes}
use Rattle.state_model.specs.declared.stream.Stream.{Stream}
use Rattle.state_model.specs.Files.{Table, reference, is_directory_record, links_at, named}
use Rattle.state_model.specs.Indexes.{is_names_root}
use Rattle.state_model.specs.Rules.{implies, at_file, same_link, count_in, names_in, is_rising, is_name_in, is_index, first_failing}
use Rattle.state_model.specs.Streams.{is_attribute_of, attributes_of, stream_of}
use Rattle.upcase_order.specs.Tables.{standard_table}
use Rattle.volume_model.specs.Volumes.{count_of, upper_of}
use Rattle.volume_model.specs.Indexes.{or_void, index_block, block_count, blocks_of, stream_blocks, index_stream, index_place, root_value, links_read, links_below, index_links, lists_names, keeps_index}
use Rattle.volume_state.specs.Rules.{broken_3, broken_9}
use Rattle.volume_state.specs.Journals.{fault_of}
use Rattle.format_files.specs.volume_format.declared.layout.Layout.{Layout}
use Rattle.format_files.specs.volume_format.Layouts.{IsLayout, block_first}
use Rattle.format_files.specs.volume_format.Files.{system_name, sequence, is_directory, name_value, standard, name_attribute, system_attrs, system_data, other_streams, root_streams, extend_streams, system_record, reserved_record, reference as new_reference}
use Rattle.format_files.specs.volume_format.Indexes.{in_order, root_entries, root_node}
use Rattle.format_files.specs.format_blocks.Blocks.{block, whole, HasBlocks}
use Rattle.format_files.specs.Volumes.{extents_at}
use Rattle.format_rules.specs.Rules.{NewVolumeKeepsIndexes}
use Rattle.format_files.proofs.format_blocks.Naming.{of_twelve, name_read}
use Rattle.format_files.proofs.format_blocks.Recording.{root_fits, extend_fits}
use Rattle.format_files.proofs.format_blocks.Sizing.{node_fits}
use Rattle.format_files.proofs.Streams.{block_in_run, root_blocks_are}
use Rattle.format_files.proofs.Loading.{passes}
use Rattle.format_files.specs.Volumes.{new_link}
use Rattle.format_files.proofs.Linking.{vol, files, count_is, none_failing, of_each, links_here, links_reserved}
use Rattle.format_rules.proofs.Listing.{no_journal}
use Rattle.format_rules.proofs.Ordering.{upper_is, Before, in_order_here}

abbrev Low : List ℕ → Type 0
Low ns = AllByRecursion (λ n. n < 12) ns

low_in_order : Low in_order
low_in_order = (omega arith, (omega arith, (omega arith, (omega arith, (omega arith, (omega arith, (omega arith, (omega arith, (omega arith, (omega arith, (omega arith, (omega arith, tt))))))))))))

-- ---- the order of the links

pub before_gives : (o : Ordering) → is_lt o ≡ true → not (is_gt o) ≡ true
before_gives Less is = refl
before_gives Equal is = absurd cc
before_gives Greater is = absurd cc

pub may_precede : (n m : ℕ) → Before n m → precedes standard_table (new_link n) (new_link m) ≡ true
may_precede n m is = before_gives (name_order standard_table (system_name n) (system_name m)) is

pub both : {a b : Bool} → a ≡ true → b ≡ true → (a && b) ≡ true
both {a} {b} p q = and_from a b p q

links_rise : rises standard_table (map new_link in_order) ≡ true
links_rise =
    let o = in_order_here in
    both (may_precede 4 8 o.attributes) (both (may_precede 8 6 o.bad) (both (may_precede 6 7 o.bits) (both (may_precede 7 11 o.boot) (both (may_precede 11 2 o.extend) (both (may_precede 2 0 o.log)
    (both (may_precede 0 1 o.table) (both (may_precede 1 9 o.mirror) (both (may_precede 9 10 o.secure) (both (may_precede 10 3 o.upper_case) (both (may_precede 3 5 o.volume) refl))))))))))

names_rise : is_rising standard_table (map new_link in_order) ≡ true
unfolding is_rising
names_rise =
    let o = in_order_here in
    both o.attributes (both o.bad (both o.bits (both o.boot (both o.extend (both o.log (both o.table (both o.mirror (both o.secure (both o.upper_case (both o.volume refl))))))))))

-- ---- the tree of the root's index

module _ (v : Layout) (layout : IsLayout v) (time : ℕ) (small : time < 2 ^ 64) where
  abbrev pub key : ℕ → Key
  key n = record { child = new_reference n; value = name_value v time n }

  abbrev tree_of : List ℕ → Tree
  tree_of [] = Leaf
  tree_of (n ∷ ns) = Entry (key n) (tree_of ns)

  pub link_of : (n : ℕ) → n < 12 → key_link (key n) ≡ Some (new_link n)
  unfolding key_link
  link_of n lt = ap (named (new_reference n)) (name_read v layout time n small lt)

  links_of_keys : (ns : List ℕ) → Low ns → links_of (walk (tree_of ns)) ≡ map new_link ns
  links_of_keys [] low = refl
  links_of_keys (n ∷ ns) low = ap (λ (o : Option Link). cons_option o (links_of (walk (tree_of ns)))) (link_of n low.0) ∙ ap (λ (l : List Link). new_link n ∷ l) (links_of_keys ns low.1)

  entries_are : raws_of (tree_of in_order) ≡ root_entries v time
  unfolding root_entries
  entries_are = refl

  -- ---- names in a directory

  abbrev pub p : Table
  p = files v time

  same_twice : (n : ℕ) → n < 12 → same_link (new_link n) (new_link n) ≡ true
  unfolding system_name sequence
  same_twice n lt = of_twelve (λ k. same_link (new_link k) (new_link k) ≡ true) refl refl refl refl refl refl refl refl refl refl refl refl n lt

  one_any : Link → List Link → Bool
  one_any l links = list_any (same_link l) links

  name_here : (n : ℕ) → n < 12 → is_name_in p (new_reference 5) (new_link n) ≡ true
  unfolding is_name_in sequence one_any
  name_here n lt = ap (one_any (new_link n)) (links_here v layout time small n lt) ∙ ap (λ (b : Bool). b || false) (same_twice n lt)

  all_names : (ns : List ℕ) → Low ns → list_all (is_name_in p (new_reference 5)) (map new_link ns) ≡ true
  all_names [] low = refl
  all_names (n ∷ ns) low = and_from (is_name_in p (new_reference 5) (new_link n)) (list_all (is_name_in p (new_reference 5)) (map new_link ns)) (name_here n low.0) (all_names ns low.1)

  one_more : (directory : FileRef) (n : ℕ) (links : List Link) → links_at p n ≡ links → names_in p directory (suc n) ≡ names_in p directory n + count_in directory links
  unfolding names_in
  one_more directory n links is = ap (λ (l : List Link). names_in p directory n + count_in directory l) is

  no_names : (directory : FileRef) → names_in p directory 0 ≡ 0
  unfolding names_in
  no_names directory = refl

  one_in_root : (n : ℕ) → count_in (new_reference 5) (new_link n ∷ []) ≡ 1
  unfolding count_in sequence
  one_in_root n = refl

  none_in : (directory : FileRef) → count_in directory [] ≡ 0
  unfolding count_in
  none_in directory = refl

  none_in_extend : (n : ℕ) → count_in (new_reference 11) (new_link n ∷ []) ≡ 0
  unfolding count_in sequence
  none_in_extend n = refl

  low_names : (n : ℕ) → n ≤ 12 → names_in p (new_reference 5) n ≡ n
  low_names zero le = no_names (new_reference 5)
  low_names (suc n) le = omega (arith, one_more (new_reference 5) n (new_link n ∷ []) (links_here v layout time small n (omega arith)), low_names n (omega arith), one_in_root n)

  high_names : (k : ℕ) → names_in p (new_reference 5) (12 + k) ≡ 12
  high_names zero = low_names 12 (omega arith)
  high_names (suc k) =
      let next : 12 + suc k ≡ suc (12 + k) = omega arith in
      ap (names_in p (new_reference 5)) next ∙ omega (arith, one_more (new_reference 5) (12 + k) [] (links_reserved v layout time small (12 + k) (omega arith)), high_names k, none_in (new_reference 5))

  extend_names : (n : ℕ) → names_in p (new_reference 11) n ≡ 0
  extend_names zero = no_names (new_reference 11)
  extend_names (suc n) = elim (cases_lt n 12) [
    | inl lt ↦ omega (arith, one_more (new_reference 11) n (new_link n ∷ []) (links_here v layout time small n lt), extend_names n, none_in_extend n)
    | inr le ↦ omega (arith, one_more (new_reference 11) n [] (links_reserved v layout time small n le), extend_names n, none_in (new_reference 11))
  ]

  pub root_is_index : is_index standard_table p (count_of (vol v time)) (new_reference 5) (map new_link in_order) ≡ true
  unfolding is_index
  root_is_index =
      let counted : names_in p (new_reference 5) (count_of (vol v time)) ≡ 12 = ap (names_in p (new_reference 5)) (count_is v time) ∙ high_names 52 in
      both (both names_rise (all_names in_order low_in_order)) (eq-eqb 12 (names_in p (new_reference 5) (count_of (vol v time))) (sym counted))

  pub extend_is_index : is_index standard_table p (count_of (vol v time)) (new_reference 11) [] ≡ true
  unfolding is_index is_rising
  extend_is_index = and_from true (eqb 0 (names_in p (new_reference 11) (count_of (vol v time)))) refl (eq-eqb 0 (names_in p (new_reference 11) (count_of (vol v time))) (sym (extend_names (count_of (vol v time)))))

  -- ---- the values of the roots

  root_value_is : root_value (system_record v time 5) ≡ Some (root_spelling 1 (last_entry (Some 0) ∷ []))
  unfolding root_value is_names_root system_record system_attrs system_data other_streams root_streams standard name_attribute
  root_value_is = refl

  extend_value_is : root_value (system_record v time 11) ≡ Some (root_spelling 1 (last_entry None ∷ []))
  unfolding root_value is_names_root system_record system_attrs system_data other_streams extend_streams standard name_attribute
  extend_value_is = refl

  -- ---- where the blocks lie

  abbrev place_of : List Block → Place
  place_of blocks = record { blocks = blocks; step = 1 }

  pub one_block : blocks_of 8 (extents_at (block_first v) 1 4096) ≡ block (8 * block_first v) Index ∷ []
  unfolding blocks_of block_count index_block
  one_block =
      let at : 8 * block_first v + 8 * 0 ≡ 8 * block_first v = omega arith in
      ap (λ (o : Option Block). or_void o ∷ []) (block_in_run (block_first v) 1 Index 0 (omega arith) (omega arith)) ∙ ap (λ (s : ℕ). block s Index ∷ []) at

  root_place_is : index_place 8 (system_record v time 5) ≡ place_of (block (8 * block_first v) Index ∷ [])
  unfolding index_place index_stream
  root_place_is = ap (λ (s : Option Stream). place_of (stream_blocks 8 s)) (root_blocks_are v layout time) ∙ ap place_of one_block

  extend_place_is : index_place 8 (system_record v time 11) ≡ place_of []
  unfolding index_place index_stream stream_of attributes_of is_attribute_of system_record system_attrs system_data other_streams extend_streams standard name_attribute
  extend_place_is = refl

  -- ---- the root's block

  module _ (seed : ℕ) (c : Content) (has : HasBlocks v seed time c) where
    abbrev here : Place
    here = place_of (block (8 * block_first v) Index ∷ [])

    abbrev body : List ℕ
    body = node_spelling (root_node v time)

    node_read : node_of_body 0 (whole body) ≡ Ok (root_entries v time)
    unfolding node_of_body
    node_read =
        let n = root_node v time in
        let fits = node_fits v layout time small in
        let spelled = node_spells n fits in
        let size : eqb (length body) 4096 ≡ true = eq-eqb (length body) 4096 (length-node_spelling n fits) in
        passes ((eqb (length body) 4096 && true) && is_signed Index body) 1 _ (both (both size refl) (node_signed n))
        ∙ passes (eqb (field 0x10 8 body) 0) 2 _ (eq-eqb (field 0x10 8 body) 0 spelled.vcn)
        ∙ ap entries_of_node (ok_from_node body n spelled)

    entries_here : nodes_of (node_of_block c here) 0 ≡ Some (root_entries v time)
    unfolding node_of_block node_block
    entries_here = ap (λ (b : Body). some_entries (node_of_body 0 b)) has.root ∙ ap some_entries node_read

    at_most_one : (b : Bool) → one_if b + 0 ≤ 1
    at_most_one true = omega arith
    at_most_one false = omega arith

    root_index : IsIndex (nodes_of (node_of_block c here)) (last_entry (Some 0) ∷ []) standard_table (Down 0 (tree_of in_order))
    unfolding same
    root_index = record {
      root_is = refl;
      stands = (entries_here ∙ ap (λ (entries : List Raw). Some entries) (sym entries_are), tt);
      once = λ x. at_most_one _;
      height = omega arith;
      ordered = ap (rises standard_table) (links_of_keys in_order low_in_order) ∙ links_rise;
    }

    root_held : HoldsIndex c here standard_table (root_spelling 1 (last_entry (Some 0) ∷ [])) (Down 0 (tree_of in_order))
    root_held = record { entries = last_entry (Some 0) ∷ []; root_read = root_law.read 1 (last_entry (Some 0) ∷ []) root_fits; is_index = root_index }

    extend_held : HoldsIndex c (place_of []) standard_table (root_spelling 1 (last_entry None ∷ [])) Leaf
    extend_held = record {
      entries = last_entry None ∷ [];
      root_read = root_law.read 1 (last_entry None ∷ []) extend_fits;
      is_index = record { root_is = refl; stands = tt; once = λ x. omega arith; height = omega arith; ordered = refl };
    }

    pub root_links : index_links c 8 standard_table (system_record v time 5) ≡ Some (map new_link in_order)
    unfolding index_links
    root_links =
        ap (λ (at : Place). links_below c at standard_table (root_value (system_record v time 5))) root_place_is
        ∙ ap (links_below c here standard_table) root_value_is
        ∙ ap links_read (walk_passes c here standard_table (root_spelling 1 (last_entry (Some 0) ∷ [])) (Down 0 (tree_of in_order)) root_held)
        ∙ ap (λ (links : List Link). Some links) (links_of_keys in_order low_in_order)

    extend_links : index_links c 8 standard_table (system_record v time 11) ≡ Some []
    unfolding index_links
    extend_links =
        ap (λ (at : Place). links_below c at standard_table (root_value (system_record v time 11))) extend_place_is
        ∙ ap (links_below c (place_of []) standard_table) extend_value_is
        ∙ ap links_read (walk_passes c (place_of []) standard_table (root_spelling 1 (last_entry None ∷ [])) Leaf extend_held)

    -- ---- rule 3

    abbrev listed : ℕ → Record → Bool
    listed n r = implies (is_directory_record r) (lists_names standard_table p (count_of (vol v time)) (reference n r) (index_links c 8 standard_table r))

    root_listed : lists_names standard_table p (count_of (vol v time)) (new_reference 5) (index_links c 8 standard_table (system_record v time 5)) ≡ true
    root_listed = ap (lists_names standard_table p (count_of (vol v time)) (new_reference 5)) root_links ∙ root_is_index

    extend_listed : lists_names standard_table p (count_of (vol v time)) (new_reference 11) (index_links c 8 standard_table (system_record v time 11)) ≡ true
    extend_listed = ap (lists_names standard_table p (count_of (vol v time)) (new_reference 11)) extend_links ∙ extend_is_index

    system_listed : (n : ℕ) → n < 12 → listed n (system_record v time n) ≡ true
    unfolding is_directory system_record
    system_listed n lt = of_twelve (λ k. listed k (system_record v time k) ≡ true) refl refl refl refl refl root_listed refl refl refl refl refl extend_listed n lt

    reserved_listed : (n : ℕ) → listed n (reserved_record time n) ≡ true
    unfolding reserved_record
    reserved_listed n = refl

    rule_3 : (n : ℕ) → keeps_index c (vol v time) standard_table n ≡ true
    unfolding keeps_index
    rule_3 n = of_each v time (λ k o. at_file (listed k) o ≡ true) system_listed (λ k le lt. reserved_listed k) (λ k le. refl) n

pub keeps_indexes_law : NewVolumeKeepsIndexes
unfolding broken_3 broken_9
keeps_indexes_law = λ v seed time c layout small has. record {
  indexes = ap (λ (upper : List ℕ). first_failing (keeps_index c (vol v time) upper) (count_of (vol v time))) (upper_is v layout seed time c has)
      ∙ none_failing (keeps_index c (vol v time) standard_table) (count_of (vol v time)) (λ n lt. rule_3 v layout time small seed c has n);
  journal = ap fault_of (no_journal v layout time small c (upper_of c (vol v time)));
}
