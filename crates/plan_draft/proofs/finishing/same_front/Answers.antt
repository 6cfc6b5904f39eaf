use Rattle.std.proofs.Common.{◌≡◌, ◌≤◌, ◌+◌, length, add-one, arith}
use Rattle.plan_draft.specs.Finishing.{same_front}
use Rattle.plan_draft.proofs.Ranges.{front_more, front_ended, front_past}
use Rattle.plan_draft.proofs.finishing.same_front.Goals as goal

pub loop-at-preserved : goal.loop-at-preserved
loop-at-preserved c =
    let step = front_more c.args.old.now c.args.new.now c.loop-at.at (omega (arith, c.requires)) (omega arith) c.if-old-at.true in
    record {
      within = omega arith;
      rest = rw add-one (omega (arith, step, c.loop-at.invariant.rest));
    }

pub returns-else-old-at-clause-value : goal.returns-else-old-at-clause-value
returns-else-old-at-clause-value c =
    let none = front_ended c.args.old.now c.args.new.now c.loop-at.at (omega (arith, c.requires)) (omega arith) c.if-old-at.false in
    omega (arith, none, c.loop-at.invariant.rest)

pub returns-after-loop-at-clause-value : goal.returns-after-loop-at-clause-value
returns-after-loop-at-clause-value c =
    let none = front_past c.args.old.now c.args.new.now c.loop-at.at (omega arith) in
    omega (arith, none, c.loop-at.invariant.rest)
