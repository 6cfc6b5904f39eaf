use Rattle.std.proofs.lemmas.Result.{err_from_is_err_and}
use Rattle.stream_map.specs.disk_model.Content.{Content}
use Rattle.stream_map.specs.record_model.Nodes.{root_at}
use Rattle.index_model.specs.Indexes.{node_of_block}
use Rattle.index_model.specs.Walks.{met_in, root_vcn, walk_of}
use Rattle.index_tree.specs.Places.{place_of}
use Rattle.index_tree.proofs.Steps.{root_fails, below_root_fails, all_met}
use Rattle.index_tree.proofs.walking.walk_from.Goals as goal

pub returns-in_err-root-clause-value : goal.returns-in_err-root-clause-value
unfolding walk_of
returns-in_err-root-clause-value g c =
    let p = err_from_is_err_and c.from_residual.result c.from_residual.ensures.1 in
    rw (p.1, p.2)
    (root_fails _ (place_of c.args.dir.now) c.args.up.now (λ (content : Content). met_in (node_of_block content (place_of c.args.dir.now)) 15 root_vcn) _ (root_at c.args.dir.now.root) c.in_err-root.ensures)

pub returns-in_err-entries-clause-value : goal.returns-in_err-entries-clause-value
unfolding walk_of
returns-in_err-entries-clause-value g c =
    let p = err_from_is_err_and c.from_residual-in_err-entries.result c.from_residual-in_err-entries.ensures.1 in
    rw (p.1, p.2)
    (below_root_fails _ (place_of c.args.dir.now) c.args.up.now (λ (content : Content). met_in (node_of_block content (place_of c.args.dir.now)) 15 root_vcn) _ (root_at c.args.dir.now.root) c.in_ok-root.root c.new-met.result c.in_ok-root.ensures c.new-met.ensures
    (rw c.as_slice.ensures at c.in_err-entries.ensures.value))

pub returns-clause-value : goal.returns-clause-value
unfolding walk_of
returns-clause-value g c =
    rw c.into_links.ensures
    (all_met _ (place_of c.args.dir.now) c.args.up.now (λ (content : Content). met_in (node_of_block content (place_of c.args.dir.now)) 15 root_vcn) (root_at c.args.dir.now.root) c.in_ok-root.root c.new-met.result c.entries.new.met c.in_ok-root.ensures c.new-met.ensures
    (rw c.as_slice.ensures at c.in_ok-entries.ensures.value))
