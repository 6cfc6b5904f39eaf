use Rattle.std.proofs.Common.{◌∙◌, sym}
use Rattle.record_model.specs.disk_model.Content.{Content}
use Rattle.index_tree.specs.index_model.Indexes.{node_of_block, entry_link}
use Rattle.index_tree.specs.index_model.Walks.{side_of}
use Rattle.index_tree.specs.Places.{place_of}
use Rattle.index_change.proofs.Gathered.{onward, stay_both, beside_held, entry_held, one_held, last_held, whole_held}
use Rattle.index_change.proofs.Insertions.{adds_both, adds_node}
use Rattle.index_change.proofs.gathering.Gatherer.+gathering.Goals as goal

pub child-returns-clause-right : goal.child-returns-clause-right
child-returns-clause-right g t c =
    adds_node _ _ (λ (content : Content). node_of_block content (place_of c.args.self.now.dir.now)) c.args.child c.in-Some.node c.in_ok-node.field-0 c.args.held.now c.entries-2.new.held c.hold.new.held c.in_ok-node.ensures.same c.in-Some.is c.in_ok-node.ensures.value c.in_ok-entries.ensures.right c.in_ok-hold.ensures.right

pub beside-returns-clause-met : goal.beside-returns-clause-met
beside-returns-clause-met g t c =
    onward c.below.result _ _
    (beside_held _ c.args.self.now.up.now c.args.self.now.name.now (λ (content : Content). node_of_block content (place_of c.args.self.now.dir.now)) c.args.levels c.args.side c.args.down c.below.new.held)
    c.below.ensures.met

pub entry-returns-clause-met : goal.entry-returns-clause-met
entry-returns-clause-met g t c =
    entry_held _ c.args.self.now.up.now c.args.self.now.name.now (λ (content : Content). node_of_block content (place_of c.args.self.now.dir.now)) c.args.levels (side_of c.args.self.now.up.now c.args.self.now.name.now (entry_link c.args.entry.now)) (entry_link c.args.entry.now) c.args.entry.now.down c.beside.new.held
    (rw (c.side_of-side.ensures, c.in_ok-link.ensures) at c.in_ok-beside.ensures.met)

pub entries-returns-in-Behind-clause-right : goal.entries-returns-in-Behind-clause-right
entries-returns-in-Behind-clause-right g t c =
    adds_both _ _ (λ (content : Content). node_of_block content (place_of c.args.self.now.dir.now)) c.args.held.now c.loop-entry.held c.entry.new.held c.loop-entry.invariant.same c.loop-entry.invariant.right c.in_ok-side.ensures.right

pub entries-returns-in-Behind-clause-met : goal.entries-returns-in-Behind-clause-met
entries-returns-in-Behind-clause-met g t c =
    last_held _ _ c.args.self.now.up.now c.args.self.now.name.now (λ (content : Content). node_of_block content (place_of c.args.self.now.dir.now)) c.args.levels c.args.entries.now c.loop-entry.entry-index c.entry-item.result c.loop-entry.held c.entry.new.held
    c.loop-entry.invariant.same c.loop-entry-test.true c.entry-item.is c.in_ok-side.ensures.stay (sym c.in_ok-side.ensures.side ∙ c.in-Behind.is) c.loop-entry.invariant.met c.in_ok-side.ensures.met

pub entries-loop-entry-preserved : goal.entries-loop-entry-preserved
entries-loop-entry-preserved g t c = record {
  right =
      adds_both _ _ (λ (content : Content). node_of_block content (place_of c.args.self.now.dir.now)) c.args.held.now c.loop-entry.held c.entry.new.held c.loop-entry.invariant.same c.loop-entry.invariant.right c.in_ok-side.ensures.right;
  stay = stay_both c.args.held.now c.loop-entry.held c.entry.new.held c.loop-entry.invariant.stay c.in_ok-side.ensures.stay;
  met =
      one_held _ _ c.args.self.now.up.now c.args.self.now.name.now (λ (content : Content). node_of_block content (place_of c.args.self.now.dir.now)) c.args.levels c.args.entries.now c.loop-entry.entry-index c.entry-item.result c.loop-entry.held c.entry.new.held
      c.loop-entry.invariant.same c.loop-entry-test.true c.entry-item.is c.in_ok-side.ensures.stay c.loop-entry.invariant.met c.in_ok-side.ensures.met;
  same = c.in_ok-side.ensures.same ∙ c.loop-entry.invariant.same;
  kept = c.in_ok-side.ensures.kept ∙ c.loop-entry.invariant.kept;
  counted = c.in_ok-side.ensures.cause.counted ∙ c.loop-entry.invariant.counted;
}

pub entries-returns-clause-met : goal.entries-returns-clause-met
entries-returns-clause-met g t c =
    whole_held _ c.args.self.now.up.now c.args.self.now.name.now (λ (content : Content). node_of_block content (place_of c.args.self.now.dir.now)) c.args.levels c.args.entries.now c.loop-entry.entry-index c.loop-entry.held c.loop-entry-test.false c.loop-entry.invariant.met
