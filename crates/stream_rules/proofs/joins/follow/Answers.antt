use Rattle.std.proofs.Common.{arith}
use Rattle.stream_rules.proofs.Following.{breaks_off, goes_on}
use Rattle.stream_rules.proofs.joins.follow.Goals as goal

pub returns-then-from-vcn : goal.returns-then-from-vcn
returns-then-from-vcn c =
    breaks_off c.loop-attribute.vcn c.args.attributes.now c.loop-attribute.attribute-index c.attribute-item.result c.in_ok-clusters.clusters _ c.loop-attribute-test.true c.attribute-item.is c.in_ok-clusters.ensures.value
    (λ same some. omega (arith, c.then-from-vcn.either, c.from.ensures, c.first_vcn.ensures, same, some))
    c.loop-attribute.invariant

pub loop-attribute-preserved : goal.loop-attribute-preserved
loop-attribute-preserved c =
    goes_on c.loop-attribute.vcn c.args.attributes.now c.loop-attribute.attribute-index c.attribute-item.result c.in_ok-clusters.clusters _ c.loop-attribute-test.true c.attribute-item.is c.in_ok-clusters.ensures.value
    (omega (arith, c.if-from-vcn.false, c.from.ensures, c.first_vcn.ensures)) (omega (arith, c.if-clusters-eq0.false))
    c.loop-attribute.invariant
