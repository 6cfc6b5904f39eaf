use Rattle.std.proofs.Common.{arith}
use Rattle.stream_map.proofs.Inserting.{put_here, passed_here}
use Rattle.stream_map.proofs.attributes.place_of.Goals as goal

pub returns-then-first_vcn-clause-place : goal.returns-then-first_vcn-clause-place
returns-then-first_vcn-clause-place c = put_here c.args.attributes.now c.loop-i.i c.index-attributes-i.result c.args.attr.now c.loop-i-test.true c.index-attributes-i.is (omega (arith, c.first_vcn.ensures, c.first_vcn-in-loop-i.ensures)) c.loop-i.invariant

pub loop-i-preserved : goal.loop-i-preserved
loop-i-preserved c = passed_here c.args.attributes.now c.loop-i.i c.index-attributes-i.result c.args.attr.now c.loop-i-test.true c.index-attributes-i.is (omega (arith, c.first_vcn.ensures, c.first_vcn-in-loop-i.ensures)) c.loop-i.invariant
