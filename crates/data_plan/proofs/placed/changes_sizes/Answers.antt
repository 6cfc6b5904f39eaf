use Rattle.std.proofs.Common.{◌∙◌, subst, arith}
use Rattle.std.specs.Prelude.{All}
use Rattle.std.proofs.lemmas.Result.{err_from_is_err_and}
use Rattle.used_laws.specs.Laws.{HasBytes}
use Rattle.data_plan.proofs.Cases.{memory_err}
use Rattle.data_plan.proofs.Taking.{sized_full, sized_ok}
use Rattle.data_plan.proofs.placed.changes_sizes.Goals as goal

pub returns-then-used-gt-MOST_USED-clause-after : goal.returns-then-used-gt-MOST_USED-clause-after
returns-then-used-gt-MOST_USED-clause-after c = λ bits.
    sized_full bits c.args.file.now c.args.op.now c.args.node.now c.args.extents.now c.used-used.result c.requires.shows c.requires.placed c.requires.same c.used-used.ensures.value (omega arith)

pub returns-in_err-z-clause-after : goal.returns-in_err-z-clause-after
returns-in_err-z-clause-after c = λ bits.
    let p = err_from_is_err_and c.from_residual.result c.from_residual.ensures.1 in
    rw (p.1, p.2) (memory_err bits c.args.file.now c.args.op.now c.args.node.now)

pub returns-clause-after : goal.returns-clause-after
returns-clause-after c = λ bits.
    let bytes = subst (All HasBytes) (c.as_slice.ensures ∙ c.attrs.ensures.value) c.have_bytes.ensures in
    sized_ok c.args.per c.requires.has.0 c.size_after-real.result c.valid_after-initialised.result bits c.args.file.now c.args.op.now c.args.node.now c.args.extents.now c.in_ok-z.z c.requires.per c.size_after-real.ensures c.valid_after-initialised.ensures c.requires.has.1 bytes c.requires.shows c.requires.placed c.requires.same
    (omega (arith, c.used-used.ensures.value)) c.in_ok-z.ensures.value
