-- A check of a new volume answers its tree.
use Rattle.std.proofs.Common.{◌≡◌, ℕ, ◌^◌, ◌<◌, List, Option, None, Ok, refl, sym, ap, ◌∙◌}
use Rattle.host_base.specs.declared.file_ref.FileRef.{FileRef}
use Rattle.disk_model.specs.Content.{Content}
use Rattle.file_tree.specs.declared.journal.Journal.{Journal}
use Rattle.file_tree.specs.declared.link.Link.{Link}
use Rattle.file_tree.specs.declared.node.Node.{Node}
use Rattle.file_tree.specs.declared.tree.Tree.{Tree}
use Rattle.std.specs.Option.{option_map}
use Rattle.state_model.specs.declared.broken.Broken.{Broken}
use Rattle.state_model.specs.Rules.{broken_or}
use Rattle.state_model.specs.Trees.{all_links}
use Rattle.volume_model.specs.Volumes.{files_by_number, count_of, bytes_or, upper_of}
use Rattle.volume_model.specs.Nodes.{no_bytes, bare_nodes, all_nodes, spare_numbers, free_clusters}
use Rattle.volume_state.specs.Journals.{some_journal}
use Rattle.volume_state.specs.Rules.{broken_1, broken_2, broken_3, broken_4, broken_5, broken_6, broken_7, broken_8, broken_9, first_broken}
use Rattle.volume_state.specs.Trees.{Holds, IsState, volume_journal, tree_with, tree_of, without_records, report_of, reported, checked}
use Rattle.format_files.specs.volume_format.declared.layout.Layout.{Layout}
use Rattle.format_files.specs.volume_format.Layouts.{IsLayout}
use Rattle.format_files.specs.format_blocks.Blocks.{HasBlocks}
use Rattle.format_rules.specs.Trees.{new_tree, LoadedVolumeStands}
use Rattle.format_files.specs.Volumes.{new_geometry}
use Rattle.format_files.proofs.Tabling.{volume_loaded}
use Rattle.format_files.proofs.Linking.{vol, count_is, keeps_names_law}
use Rattle.format_files.proofs.Bits.{free_are}
use Rattle.format_files.proofs.Owning.{keeps_bits_law}
use Rattle.format_rules.proofs.Keeping.{keeps_sizes_law}
use Rattle.format_rules.proofs.Listing.{all_links_are, no_journal}
use Rattle.format_rules.proofs.Indexing.{keeps_indexes_law}
use Rattle.format_rules.proofs.Nodes.{nodes_are, spares_are}

unbroken : (rule : ℕ) (o : Option ℕ) (rest : Option Broken) → o ≡ None → rest ≡ None → broken_or rule o rest ≡ None
unbroken rule o rest is then = ap (λ (o : Option ℕ). broken_or rule o rest) is ∙ then

module _ (v : Layout) (layout : IsLayout v) (seed time : ℕ) (small : time < 2 ^ 64) (c : Content) (has : HasBlocks v seed time c) where
  kept : first_broken c (vol v time) ≡ None
  unfolding first_broken
  kept =
      let names = keeps_names_law v time layout small in
      let bits = keeps_bits_law v seed time c layout small has in
      let sizes = keeps_sizes_law v seed time c layout small has in
      let indexes = keeps_indexes_law v seed time c layout small has in
      let w = vol v time in
      unbroken 1 (broken_1 w) _ names.names (unbroken 2 (broken_2 w) _ names.directories (unbroken 3 (broken_3 c w) _ indexes.indexes
      (unbroken 4 (broken_4 c w) _ sizes (unbroken 5 (broken_5 w) _ bits.owners (unbroken 6 (broken_6 c w) _ bits.clusters
      (unbroken 7 (broken_7 c w) _ bits.records (unbroken 8 (broken_8 w) _ names.ways (unbroken 9 (broken_9 c w) None indexes.journal refl))))))))

  made : List Node → List Link → List FileRef → ℕ → Option Journal → ℕ → Tree
  made nodes links spare count journal room = record { nodes = nodes; links = links; spare = spare; count = count; journal = journal; room = room }

  no_journal_here : volume_journal c (vol v time) ≡ None
  unfolding volume_journal
  no_journal_here = ap some_journal (no_journal v layout time small c (upper_of c (vol v time)))

  -- with these nodes and this journal
  tree_is : (nodes : List Node) (j : Option Journal) → nodes ≡ (new_tree v time).nodes → j ≡ None → tree_with c (vol v time) nodes j ≡ new_tree v time
  unfolding tree_with made
  tree_is nodes j nodes_is journal_is =
      let w = vol v time in
      let links = all_links (files_by_number w) (count_of w) in
      let t = new_tree v time in
      ap (λ (nodes : List Node). made nodes links (spare_numbers c w) (count_of w) j (free_clusters c w)) nodes_is
      ∙ ap (λ (links : List Link). made t.nodes links (spare_numbers c w) (count_of w) j (free_clusters c w)) (all_links_are v layout time small)
      ∙ ap (λ (spare : List FileRef). made t.nodes t.links spare (count_of w) j (free_clusters c w)) (spares_are v layout time small seed c has)
      ∙ ap (λ (count : ℕ). made t.nodes t.links t.spare count j (free_clusters c w)) (count_is v time)
      ∙ ap (λ (j : Option Journal). made t.nodes t.links t.spare 64 j (free_clusters c w)) journal_is
      ∙ ap (made t.nodes t.links t.spare 64 None) (free_are v layout seed time c has)

  report_is : report_of c (vol v time) ≡ new_tree v time
  unfolding report_of
  report_is = tree_is (bare_nodes (vol v time)) (option_map without_records (volume_journal c (vol v time))) (nodes_are v layout time small no_bytes refl) (ap (option_map without_records) no_journal_here)

  whole_is : tree_of c (vol v time) ≡ new_tree v time
  unfolding tree_of
  whole_is = tree_is (all_nodes c (vol v time)) (volume_journal c (vol v time)) (nodes_are v layout time small (bytes_or c 8) refl) no_journal_here

  pub holds_here : Holds c (vol v time) (new_tree v time)
  holds_here = record { kept = kept; tree = sym whole_is }

  pub state_here : IsState c new_geometry v.clusters (new_tree v time)
  state_here = record { volume = vol v time; loaded = volume_loaded v seed time c layout small has; holds = holds_here }

  pub checked_here : checked c (vol v time) ≡ Ok (new_tree v time)
  unfolding checked
  checked_here = ap (reported c (vol v time)) kept ∙ ap (λ (t : Tree). Ok t) report_is

pub stands : LoadedVolumeStands
stands = λ v seed time c layout small has. record { answer = checked_here v layout seed time small c has; state = state_here v layout seed time small c has; holds = holds_here v layout seed time small c has }
