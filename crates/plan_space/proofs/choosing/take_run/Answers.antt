use Rattle.space_model.specs.Choosing.{chosen_anywhere}
use Rattle.plan_space.proofs.Stepping.{on_err, taken_run, takes_none_yet, takes_next}
use Rattle.plan_space.proofs.choosing.take_run.Goals as goal

pub returns-clause-taken : goal.returns-clause-taken
returns-clause-taken g c = taken_run _ _ c.args.runs.now.items c.push_run.new.runs.items c.args.vcn c.args.wanted c.in-Some.first c.in-Some.len c.in-Some.ensures c.in_ok-take.ensures.taken c.in_ok-push_run.ensures

pub returns-in_err-take-clause-first : goal.returns-in_err-take-clause-first
returns-in_err-take-clause-first g c =
    on_err _ _ (takes_none_yet (chosen_anywhere c.args.wanted (g.B.FreeBits.bits c.args.bits.now) c.args.vcn c.args.wanted) (g.B.FreeBits.bits c.args.bits.now) (g.B.FreeBits.bits c.take.new.self) c.in_err-take.ensures.unchanged)

pub returns-in_err-push_run-clause-first : goal.returns-in_err-push_run-clause-first
returns-in_err-push_run-clause-first g c =
    on_err _ _ (takes_next (g.B.FreeBits.bits c.args.bits.now) (g.B.FreeBits.bits c.take.new.self) c.args.vcn c.args.wanted c.in-Some.first c.in-Some.len c.in-Some.ensures c.in_ok-take.ensures.taken)
