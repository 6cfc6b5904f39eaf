use Rattle.std.proofs.Common.{◌∙◌}
use Rattle.index_plan.specs.Lists.{own_key}
use Rattle.index_tree.specs.Places.{place_of}
use Rattle.index_change.proofs.Insertions.{judged_known, by_height}
use Rattle.index_change.proofs.Puts.{puts_known, deep_known}
use Rattle.record_model.specs.disk_model.Content.{Content}
use Rattle.index_tree.specs.index_model.Walks.{walk_of}
use Rattle.index_change.specs.declared.nodes_plan.NodesPlan.{NodesPlan}
use Rattle.index_change.proofs.Searches.{deep_walked}
use Rattle.index_change.proofs.inserting.Insertion.with_level.Goals as goal

pub returns-in_ok-drawn_nodes-in-Ok-clause-value : goal.returns-in_ok-drawn_nodes-in-Ok-clause-value
returns-in_ok-drawn_nodes-in-Ok-clause-value g c =
    let o = c.args.self.now in
    let p = place_of o.dir.now in
    puts_known p o.up.now o.dir.now.root o.name.now o.dir.now.used (own_key o.key.now) o.fresh.now o.root.now _ _ c.in-Ok.rooted _ c.in_ok-height.height
    (c.in_ok-height.ensures.same ∙ c.in_ok-walk.ensures.same) c.requires.enough c.requires.root c.requires.key c.requires.name c.in-Ok.ensures.planned c.in-Ok.ensures.level c.in-Ok.ensures.taken
    (by_height _ p o.root.now c.in_ok-height.height (judged_known _ _ p o.root.now c.as_slice.result.now c.in_ok-height.height c.in_ok-height.ensures.same c.as_slice.ensures c.in_ok-height.ensures.value)) c.in_ok-drawn_nodes-in-Ok.ensures.drawn

pub returns-in-Err-Deep-clause-value : goal.returns-in-Err-Deep-clause-value
returns-in-Err-Deep-clause-value g c =
    let o = c.args.self.now in
    let p = place_of o.dir.now in
    let d = rw c.in-Err-Deep.field-0-is at c.in-Err-Deep.ensures.deep in
    deep_known p o.up.now o.dir.now.root o.name.now o.dir.now.used (own_key o.key.now) o.fresh.now o.root.now _ _ c.in_ok-height.height c.in-Err-Deep.height
    (c.in_ok-height.ensures.same ∙ c.in_ok-walk.ensures.same) c.requires.enough c.requires.root c.requires.key c.requires.name d.0 d.1 d.2
    (judged_known _ _ p o.root.now c.as_slice.result.now c.in_ok-height.height c.in_ok-height.ensures.same c.as_slice.ensures c.in_ok-height.ensures.value)

pub returns-in-Err-Deep-clause-walked : goal.returns-in-Err-Deep-clause-walked
returns-in-Err-Deep-clause-walked g c =
    let o = c.args.self.now in
    deep_walked NodesPlan _ c.in-Err-Deep.height (λ (x : Content). walk_of x (place_of o.dir.now) o.up.now o.dir.now.root) _ c.in_ok-walk.ensures.value
