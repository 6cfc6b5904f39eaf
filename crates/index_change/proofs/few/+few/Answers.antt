use Rattle.std.proofs.Common.{refl, ap, ◌∙◌, arith}
use Rattle.record_model.specs.disk_model.Content.{Content}
use Rattle.index_tree.specs.index_model.Indexes.{node_of_block}
use Rattle.index_tree.specs.Places.{place_of}
use Rattle.index_change.specs.Amounts.{key_before, keys_below, blocks_below}
use Rattle.index_change.proofs.Fewer.{keys_known, blocks_known, count_next, met_next}
use Rattle.index_change.proofs.few.+few.Goals as goal

pub few_below-returns-clause-keys : goal.few_below-returns-clause-keys
few_below-returns-clause-keys g t c =
    keys_known _ _ (λ (content : Content). node_of_block content (place_of c.args.dir.now)) c.args.levels c.in-Some.child c.args.down c.in-Some-2.node c.in_ok-node.field-0 c.as_slice.result.now c.few_in.result
    c.in_ok-node.ensures.same (omega arith) c.in-Some.is c.in-Some-2.is (c.as_slice.ensures ∙ c.entries.ensures.value) c.in_ok-node.ensures.value c.few_in.ensures.keys

pub few_below-returns-clause-blocks : goal.few_below-returns-clause-blocks
few_below-returns-clause-blocks g t c =
    blocks_known _ _ (λ (content : Content). node_of_block content (place_of c.args.dir.now)) c.args.levels c.in-Some.child c.args.down c.in-Some-2.node c.in_ok-node.field-0 c.as_slice.result.now c.few_in.result c.args.blocks.now.items c.push.new.blocks.items c.few_in.new.blocks.items
    c.in_ok-node.ensures.same (omega arith) c.in-Some.is c.in-Some-2.is (c.as_slice.ensures ∙ c.entries.ensures.value) c.in_ok-push.ensures.pushed c.in_ok-node.ensures.value c.few_in.ensures.blocks

pub few_in-loop-i-preserved : goal.few_in-loop-i-preserved
few_in-loop-i-preserved g t c =
    let read = (λ (content : Content). node_of_block content (place_of c.args.dir.now)) in
    let key = c.key_before.ensures ∙ ap key_before c.split_at.ensures.back in
    record {
      count = count_next _ _ (λ (content : Content). keys_below (read content) c.args.levels) c.args.entries.now c.loop-i.i c.index-entries-i.result c.loop-i.keys c.in_ok-below.below c.key_before.result _ c.loop-i.invariant.same (omega arith) c.index-entries-i.is key refl c.if-keys-ge2.false c.loop-i.invariant.count c.in_ok-below.ensures.keys;
      met = met_next _ _ (λ (content : Content). blocks_below (read content) c.args.levels) c.args.entries.now c.loop-i.i c.index-entries-i.result c.args.blocks.now.items c.loop-i.blocks.items c.few_below.new.blocks.items c.in_ok-below.below c.loop-i.invariant.same (omega arith) c.index-entries-i.is (omega (arith, c.if-keys-ge2.false)) c.loop-i.invariant.met c.in_ok-below.ensures.blocks;
      few = omega (arith, c.if-keys-ge2.false);
      same = c.in_ok-below.ensures.same ∙ c.loop-i.invariant.same;
      kept = c.in_ok-below.ensures.kept ∙ c.loop-i.invariant.kept;
      counted = c.in_ok-below.ensures.cause.counted ∙ c.loop-i.invariant.counted;
    }
