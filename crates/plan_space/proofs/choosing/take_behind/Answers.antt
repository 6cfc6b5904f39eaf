use Rattle.std.proofs.Common.{◌+◌, ◌++◌, ◌∷◌, [], sym, ap, subst, ◌∙◌, arith}
use Rattle.space_model.specs.Choosing.{run_at, chosen}
use Rattle.plan_space.specs.Choices.{TakesBehind, TakesFirst}
use Rattle.plan_space.proofs.Stepping.{on_err, takes_none_yet, takes_there, takes_none, takes_here, takes_nothing, none_last}
use Rattle.plan_space.proofs.choosing.take_behind.Goals as goal

pub returns-in_default-clause-taken : goal.returns-in_default-clause-taken
returns-in_default-clause-taken g c = takes_none _ c.args.last c.args.wanted c.args.runs.now.items c.requires.none (none_last _ c.args.last c.args.wanted c.in_default.is)

pub returns-in_ok-push_run-clause-taken : goal.returns-in_ok-push_run-clause-taken
returns-in_ok-push_run-clause-taken g c =
    subst (λ last. TakesBehind (g.B.FreeBits.bits c.args.bits.now) (g.B.FreeBits.bits c.take.new.self) c.push_run.new.runs.items last c.args.wanted c.clear_behind-len.result) (sym c.in-Some.is)
    (takes_here _ _ c.in-Some.last c.args.wanted c.clear_behind-len.result _ (sym c.clear_behind-len.ensures.value) c.if-len-gt0.true c.clear_behind-len.ensures.few c.clear_behind-len.ensures.run c.in_ok-take.ensures.taken
    (c.in_ok-push_run.ensures ∙ ap (λ runs. runs ++ run_at 0 (c.in-Some.last + 1) c.clear_behind-len.result ∷ []) c.requires.none))

pub returns-else-len-gt0-clause-taken : goal.returns-else-len-gt0-clause-taken
returns-else-len-gt0-clause-taken g c =
    subst (λ last. TakesBehind (g.B.FreeBits.bits c.args.bits.now) (g.B.FreeBits.bits c.args.bits.now) c.args.runs.now.items last c.args.wanted c.clear_behind-len.result) (sym c.in-Some.is)
    (takes_nothing _ c.in-Some.last c.args.wanted c.clear_behind-len.result c.args.runs.now.items c.requires.none (sym c.clear_behind-len.ensures.value) (omega (arith, c.if-len-gt0.false)))

pub returns-in_err-take-clause-first : goal.returns-in_err-take-clause-first
returns-in_err-take-clause-first g c = on_err _ _ (takes_none_yet (chosen (g.B.FreeBits.bits c.args.bits.now) c.args.last c.args.wanted) (g.B.FreeBits.bits c.args.bits.now) (g.B.FreeBits.bits c.take.new.self) c.in_err-take.ensures.unchanged)

pub returns-in_err-push_run-clause-first : goal.returns-in_err-push_run-clause-first
returns-in_err-push_run-clause-first g c =
    on_err _ _
    (subst (λ last. TakesFirst (chosen (g.B.FreeBits.bits c.args.bits.now) last c.args.wanted) (g.B.FreeBits.bits c.args.bits.now) (g.B.FreeBits.bits c.take.new.self)) (sym c.in-Some.is)
    (takes_there (g.B.FreeBits.bits c.args.bits.now) (g.B.FreeBits.bits c.take.new.self) c.in-Some.last c.args.wanted c.clear_behind-len.result (sym c.clear_behind-len.ensures.value) c.if-len-gt0.true c.clear_behind-len.ensures.few c.in_ok-take.ensures.taken))
