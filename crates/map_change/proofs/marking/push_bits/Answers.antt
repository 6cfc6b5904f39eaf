use Rattle.std.proofs.Common.{ℕ, ◌+◌, subst, arith}
use Rattle.map_change.specs.Marking.{TellsMore}
use Rattle.map_change.proofs.Marked.{run_pushed}
use Rattle.map_change.proofs.marking.push_bits.Goals as goal

pub loop-at-preserved : goal.loop-at-preserved
loop-at-preserved c = record {
  most = c.same_until-end.ensures.most;
  told = λ bits so.
      run_pushed bits c.args.bytes.now c.args.first c.loop-at.at c.same_until-end.result c.args.count c.is_set.result c.args.runs.now.items c.loop-at.runs.items c.push.new.runs.items c.same_until-end.ensures.some c.same_until-end.ensures.most (c.loop-at.invariant.told bits so) so
      c.in_ok-push.ensures c.is_set.ensures c.same_until-end.ensures.same;
}

pub returns : goal.returns
returns c = λ bits so. subst (λ (k : ℕ). TellsMore bits c.args.first (c.args.first + k) c.args.runs.now.items c.loop-at.runs.items) (omega (arith, c.loop-at-test.false, c.loop-at.invariant.most)) (c.loop-at.invariant.told bits so)
