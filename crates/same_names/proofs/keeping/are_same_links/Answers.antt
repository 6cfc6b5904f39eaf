use Rattle.std.proofs.Common.{arith, ◌∙◌, sym}
use Rattle.same_names.proofs.Links.{links_more}
use Rattle.same_names.proofs.keeping.are_same_links.Goals as goal

pub loop-at-preserved : goal.loop-at-preserved
loop-at-preserved c =
    links_more c.args.links.now c.args.others.now c.loop-at.at c.index-links-at.result c.index-others-at.result (omega (arith, c.loop-at-test.true)) (omega (arith, c.loop-at-test.true, c.if-others-links.false))
    c.index-links-at.is c.index-others-at.is (sym c.is_same_link.ensures ∙ c.if-not-is_same_link.false) c.loop-at.invariant
