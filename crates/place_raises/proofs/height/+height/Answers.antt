use Rattle.std.proofs.Common.{refl, ◌∙◌, arith}
use Rattle.disk_model.specs.Content.{Content}
use Rattle.index_model.specs.Indexes.{node_of_block}
use Rattle.index_change.specs.Heights.{height_below}
use Rattle.index_tree.specs.Places.{place_of}
use Rattle.index_change.proofs.Counted.{tall_start}
use Rattle.index_change.proofs.Insertions.{height_known}
use Rattle.place_raises.proofs.height.+height.Goals as goal

pub height_below-returns-in-Some-2-clause-value : goal.height_below-returns-in-Some-2-clause-value
height_below-returns-in-Some-2-clause-value g t c =
    height_known _ _ (λ (content : Content). node_of_block content (place_of c.args.dir.now)) c.args.levels c.in-Some.child c.args.down c.in-Some-2.node c.in_ok-node_if_any.field-0 c.as_slice.result.now _ c.in_ok-node_if_any.ensures.same (omega arith) c.in-Some.is c.in-Some-2.is (c.as_slice.ensures ∙ c.entries.ensures.value) c.in_ok-node_if_any.ensures.value c.tallest.ensures.value

pub tallest-loop-entry-init : goal.tallest-loop-entry-init
tallest-loop-entry-init g t c = record {
  value = tall_start (g.V.View.content c.args.v.now) (λ (content : Content). height_below (node_of_block content (place_of c.args.dir.now)) c.args.levels) c.args.entries.now;
  some = omega arith;
  few = omega arith;
  same = refl;
  kept = refl;
  counted = refl;
}
