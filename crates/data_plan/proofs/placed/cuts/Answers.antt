use Rattle.std.proofs.Common.{sym, subst}
use Rattle.std.proofs.lemmas.Result.{err_from_is_err_and}
use Rattle.used_laws.specs.resized_streams.declared.resized.Resized.{Resized}
use Rattle.data_plan.specs.declared.change.DataChange.TheVariants as change
use Rattle.data_plan.specs.Changes.{DataAfter}
use Rattle.std.proofs.Common.{Ok}
use Rattle.data_plan.proofs.Cases.{memory_err}
use Rattle.data_plan.proofs.Taking.{cut_off, cut_ok, cut_err}
use Rattle.data_plan.proofs.placed.cuts.Goals as goal

pub returns-in_err-z-clause-after : goal.returns-in_err-z-clause-after
returns-in_err-z-clause-after c = λ bits.
    let p = err_from_is_err_and c.from_residual.result c.from_residual.ensures.1 in
    rw (p.1, p.2) (memory_err bits c.args.file.now c.args.op.now c.args.node.now)

pub returns-in_err-whole-clause-after : goal.returns-in_err-whole-clause-after
returns-in_err-whole-clause-after c = λ bits.
    let off = cut_off bits c.args.file.now c.args.op.now c.args.node.now c.args.extents.now c.requires.has.1.begins c.requires.shows c.requires.placed c.requires.fewer in
    let p = err_from_is_err_and c.from_residual-in_err-whole.result c.from_residual-in_err-whole.ensures.1 in
    rw (p.1, p.2) (cut_err c.args.per c.size_after.result bits c.args.file.now c.args.op.now c.args.node.now c.args.extents.now c.in_ok-z.z c.in_err-whole.field-0.0 c.requires.per c.size_after.ensures off c.in_ok-z.ensures.value c.in_err-whole.ensures.room)

pub returns-clause-after : goal.returns-clause-after
returns-clause-after c = λ bits.
    let off = cut_off bits c.args.file.now c.args.op.now c.args.node.now c.args.extents.now c.requires.has.1.begins c.requires.shows c.requires.placed c.requires.fewer in
    subst (λ (y : Resized). DataAfter bits bits c.args.file.now c.args.op.now c.args.node.now (Ok (change.Cut y))) (sym c.in_ok-whole.ensures.same)
    (cut_ok c.args.per c.size_after.result bits c.args.file.now c.args.op.now c.args.node.now c.args.extents.now c.in_ok-z.z c.requires.per c.size_after.ensures c.requires.placed off c.in_ok-z.ensures.value c.in_ok-whole.ensures.room)
