-- The root's index with the name more: it lists the system files and the file behind them.
use Rattle.std.proofs.Common.{◌≡◌, ℕ, zero, suc, ◌+◌, ◌*◌, ◌^◌, ◌<◌, ◌≤◌, Bool, true, false, eqb, ◌&&◌, List, [], ◌∷◌, ◌++◌, length, map, Option, Some, None, Ok, refl, sym, ap, ◌∙◌, arith}
use Rattle.std.specs.Ordering.{nat_cmp, ordering_then, is_lt}
use Rattle.std.specs.Cmp.Lexicographic.{slice_cmp}
use Rattle.std.specs.List.{AllByRecursion, cons_option}
use Rattle.std.proofs.lemmas.Bool.{eq-eqb}
use Rattle.disk_model.specs.declared.block.Block.{Block}
use Rattle.disk_model.specs.declared.block.Body.{Body}
use Rattle.disk_model.specs.declared.block.BlockKind.TheVariants.{Index}
use Rattle.disk_model.specs.Numbers.{field}
use Rattle.disk_model.specs.Content.{Content, is_signed}
use Rattle.record_model.specs.declared.entry.Entry.{Entry as Raw}
use Rattle.record_model.specs.Nodes.{node_spelling, last_entry}
use Rattle.record_model.specs.Records.{Record}
use Rattle.record_model.specs.StdValues.{file_name_of}
use Rattle.record_model.proofs.NodeTables.{ok_from_node}
use Rattle.record_model.proofs.NodeSpelling.{node_signed, node_spells, length-node_spelling}
use Rattle.record_model.specs.Constants.{names_index, index_allocation}
use Rattle.index_node.specs.Roots.{root_spelling}
use Rattle.index_node.proofs.RootSpelled.{root_law}
use Rattle.file_tree.specs.declared.link.Link.{Link}
use Rattle.file_tree.specs.Names.{name_order, comes_before, upper_units}
use Rattle.index_model.specs.declared.key.Key.{Key}
use Rattle.index_model.specs.Trees.{Tree, Leaf, Down, Entry, walk, one_if, same, raws_of}
use Rattle.index_model.specs.Indexes.{Place, node_block, entries_of_node, node_of_body, node_of_block, some_entries, nodes_of, key_link, links_of, precedes, rises, IsIndex}
use Rattle.index_model.specs.Laws.{HoldsIndex}
use Rattle.index_model.proofs.WalkLaw.{walk_passes}
use Rattle.state_model.specs.declared.stream.Stream.{Stream}
use Rattle.state_model.specs.declared.stream.Stream.TheVariants.{Placed}
use Rattle.state_model.specs.Files.{record_links, attr_link, named}
use Rattle.state_model.specs.Indexes.{is_names_root}
use Rattle.state_model.specs.Rules.{is_rising}
use Rattle.state_model.specs.Streams.{is_attribute_of, attributes_of, stream_of}
use Rattle.upcase_order.specs.Tables.{standard_upper, standard_table}
use Rattle.volume_model.specs.Indexes.{index_stream, index_place, stream_blocks, root_value, links_read, links_below, index_links}
use Rattle.volume_format.specs.declared.layout.Layout.{Layout}
use Rattle.volume_format.specs.Layouts.{IsLayout, block_first}
use Rattle.volume_format.specs.Files.{system_name, sequence, name_value, name_attribute, root_streams, reference as new_reference}
use Rattle.volume_format.specs.Indexes.{in_order}
use Rattle.format_rules.specs.format_blocks.Blocks.{block, whole}
use Rattle.format_rules.proofs.format_blocks.Recording.{root_fits}
use Rattle.format_rules.specs.format_files.Volumes.{extents_at, new_link}
use Rattle.format_rules.proofs.format_files.Loading.{passes}
use Rattle.format_rules.proofs.format_files.Streams.{mapped_stream, block_run}
use Rattle.format_rules.proofs.Ordering.{plain_order, upper_name, names_small, Before, in_order_here}
use Rattle.format_rules.proofs.Indexing.{both, before_gives, may_precede, key, link_of, one_block}
use Rattle.format_plans.specs.Files.{title, title_link, title_value, titled, information, first_record, changed_root, title_entry, entries_with, node_with}
use Rattle.format_plans.proofs.Spelling.{title_read, node_fits}

-- ---- the name of the file

pub title_named : (stamp : ℕ) → stamp < 2 ^ 64 → named (new_reference 24) (file_name_of (title_value stamp)) ≡ Some title_link
title_named stamp small = ap (named (new_reference 24)) (title_read stamp small)

one_link : Option Link → List Link
one_link o = cons_option o []

pub links_are : (stamp : ℕ) → stamp < 2 ^ 64 → record_links 24 (first_record stamp) ≡ title_link ∷ []
unfolding record_links attr_link information titled one_link sequence
links_are stamp small = ap one_link (title_named stamp small)

-- ---- the order of the links

plain_title : is_lt (plain_order (system_name 5) title) ≡ true
unfolding plain_order system_name
plain_title = refl

ordered_title : name_order standard_table (system_name 5) title ≡ plain_order (system_name 5) title
unfolding name_order plain_order
ordered_title =
    ap (λ (a : List ℕ). ordering_then (slice_cmp nat_cmp a (upper_units standard_table title)) (slice_cmp nat_cmp (system_name 5) title)) (upper_name (system_name 5) (names_small 5 (omega arith)))
    ∙ ap (λ (b : List ℕ). ordering_then (slice_cmp nat_cmp (map standard_upper (system_name 5)) b) (slice_cmp nat_cmp (system_name 5) title)) (upper_name title refl)

title_behind : comes_before standard_table (system_name 5) title ≡ true
title_behind = ap is_lt ordered_title ∙ plain_title

abbrev pub links_with : List Link
links_with = map new_link in_order ++ title_link ∷ []

pub names_rise : is_rising standard_table links_with ≡ true
unfolding is_rising
names_rise =
    let o = in_order_here in
    both o.attributes (both o.bad (both o.bits (both o.boot (both o.extend (both o.log (both o.table (both o.mirror (both o.secure (both o.upper_case (both o.volume (both title_behind refl)))))))))))

links_rise : rises standard_table links_with ≡ true
links_rise =
    let o = in_order_here in
    both (may_precede 4 8 o.attributes) (both (may_precede 8 6 o.bad) (both (may_precede 6 7 o.bits) (both (may_precede 7 11 o.boot) (both (may_precede 11 2 o.extend) (both (may_precede 2 0 o.log)
    (both (may_precede 0 1 o.table) (both (may_precede 1 9 o.mirror) (both (may_precede 9 10 o.secure) (both (may_precede 10 3 o.upper_case) (both (may_precede 3 5 o.volume)
    (both (before_gives (name_order standard_table (system_name 5) title) title_behind) refl)))))))))))

-- ---- the tree of the index

module _ (v : Layout) (layout : IsLayout v) (time stamp : ℕ) (small : time < 2 ^ 64) (stamp_small : stamp < 2 ^ 64) where
  abbrev title_key : Key
  title_key = record { child = new_reference 24; value = title_value stamp }

  abbrev tree_of : List ℕ → Tree
  tree_of [] = Entry title_key Leaf
  tree_of (n ∷ ns) = Entry (key v layout time small n) (tree_of ns)

  title_linked : key_link title_key ≡ Some title_link
  unfolding key_link
  title_linked = title_named stamp stamp_small

  links_of_keys : (ns : List ℕ) → AllByRecursion (λ n. n < 12) ns → links_of (walk (tree_of ns)) ≡ map new_link ns ++ title_link ∷ []
  links_of_keys [] low = ap (λ (o : Option Link). cons_option o []) title_linked
  links_of_keys (n ∷ ns) low =
      ap (λ (o : Option Link). cons_option o (links_of (walk (tree_of ns)))) (link_of v layout time small n low.0)
      ∙ ap (λ (l : List Link). new_link n ∷ l) (links_of_keys ns low.1)

  low_in_order : AllByRecursion (λ n. n < 12) in_order
  low_in_order = (omega arith, (omega arith, (omega arith, (omega arith, (omega arith, (omega arith, (omega arith, (omega arith, (omega arith, (omega arith, (omega arith, (omega arith, tt))))))))))))

  entries_are : raws_of (tree_of in_order) ≡ entries_with v time stamp
  unfolding entries_with
  entries_are = refl

  -- ---- the record of the root

  abbrev root : Record
  root = changed_root v time stamp

  root_value_is : root_value root ≡ Some (root_spelling 1 (last_entry (Some 0) ∷ []))
  unfolding root_value is_names_root information root_streams name_attribute
  root_value_is = refl

  pub root_blocks : stream_of index_allocation names_index root.attrs ≡ Some (Placed (extents_at (block_first v) 1 4096))
  unfolding stream_of attributes_of is_attribute_of information root_streams name_attribute
  root_blocks = mapped_stream 3 0xA0 (0x24 ∷ 0x49 ∷ 0x33 ∷ 0x30 ∷ []) (Some (block_first v)) 1 4096 4096 (block_run v layout)

  abbrev place_of : List Block → Place
  place_of blocks = record { blocks = blocks; step = 1 }

  abbrev here : Place
  here = place_of (block (8 * block_first v) Index ∷ [])

  root_place : index_place 8 root ≡ here
  unfolding index_place index_stream
  root_place = ap (λ (s : Option Stream). place_of (stream_blocks 8 s)) root_blocks ∙ ap place_of (one_block v layout time small)

  -- ---- the block, and what is listed

  abbrev body : List ℕ
  body = node_spelling (node_with v time stamp)

  module _ (d : Content) (stands : d (block (8 * block_first v) Index) ≡ whole body) where
    node_read : node_of_body 0 (whole body) ≡ Ok (entries_with v time stamp)
    unfolding node_of_body
    node_read =
        let n = node_with v time stamp in
        let fits = node_fits v layout time stamp small stamp_small in
        let spelled = node_spells n fits in
        let size : eqb (length body) 4096 ≡ true = eq-eqb (length body) 4096 (length-node_spelling n fits) in
        passes ((eqb (length body) 4096 && true) && is_signed Index body) 1 _ (both (both size refl) (node_signed n))
        ∙ passes (eqb (field 0x10 8 body) 0) 2 _ (eq-eqb (field 0x10 8 body) 0 spelled.vcn)
        ∙ ap entries_of_node (ok_from_node body n spelled)

    entries_here : nodes_of (node_of_block d here) 0 ≡ Some (entries_with v time stamp)
    unfolding node_of_block node_block
    entries_here = ap (λ (b : Body). some_entries (node_of_body 0 b)) stands ∙ ap some_entries node_read

    at_most_one : (b : Bool) → one_if b + 0 ≤ 1
    at_most_one true = omega arith
    at_most_one false = omega arith

    index_is : IsIndex (nodes_of (node_of_block d here)) (last_entry (Some 0) ∷ []) standard_table (Down 0 (tree_of in_order))
    unfolding same
    index_is = record {
      root_is = refl;
      stands = (entries_here ∙ ap (λ (entries : List Raw). Some entries) (sym entries_are), tt);
      once = λ x. at_most_one _;
      height = omega arith;
      ordered = ap (rises standard_table) (links_of_keys in_order low_in_order) ∙ links_rise;
    }

    held : HoldsIndex d here standard_table (root_spelling 1 (last_entry (Some 0) ∷ [])) (Down 0 (tree_of in_order))
    held = record { entries = last_entry (Some 0) ∷ []; root_read = root_law.read 1 (last_entry (Some 0) ∷ []) root_fits; is_index = index_is }

    pub root_lists : index_links d 8 standard_table root ≡ Some links_with
    unfolding index_links
    root_lists =
        ap (λ (at : Place). links_below d at standard_table (root_value root)) root_place
        ∙ ap (links_below d here standard_table) root_value_is
        ∙ ap links_read (walk_passes d here standard_table (root_spelling 1 (last_entry (Some 0) ∷ [])) (Down 0 (tree_of in_order)) held)
        ∙ ap (λ (links : List Link). Some links) (links_of_keys in_order low_in_order)
