use Rattle.std.proofs.lemmas.Result.{err_from_is_err_and}
use Rattle.file_puts.proofs.data_plan.Cases.{takes_all}
use Rattle.file_puts.specs.data_plan.Changes.{growth_of}
use Rattle.file_writes.proofs.Cases.{short_data, row_data, refused_data, row_view, refused_view}
use Rattle.file_writes.proofs.Joins.{file_put}
use Rattle.file_writes.proofs.writing.write_file.Goals as goal

pub put_change-requires-clause-may : goal.put_change-requires-clause-may
put_change-requires-clause-may g c = (_, c.requires.may)

pub put_change-requires-clause-change : goal.put_change-requires-clause-change
put_change-requires-clause-change g c = (g.B.FreeBits.bits c.args.bits.now, c.in_ok-change.ensures.after.is_change)

pub returns-clause-put : goal.returns-clause-put
returns-clause-put g c =
    file_put (g.V.View.content c.args.draft.now.view.now) (g.B.FreeBits.bits c.args.bits.now) c.args.streams.now c.args.number c.args.op.now c.args.node.now c.args.stamp c.args.file.now c.in_ok-change.change c.args.draft.now.touched.items _ c.in_ok-change.ensures.after.is_change c.in_ok-put_change.ensures.put

pub returns-clause-short : goal.returns-clause-short
returns-clause-short g c = λ less. absurd (c.in_ok-change.ensures.after.short less)

pub returns-in_err-change-clause-short : goal.returns-in_err-change-clause-short
returns-in_err-change-clause-short g c = λ less.
    let p = err_from_is_err_and c.from_residual.result c.from_residual.ensures.1 in
    rw (p.1, p.2) (short_data _ c.in_err-change.field-0.0 (c.in_err-change.ensures.after.short less))

pub returns-in_err-change-clause-full : goal.returns-in_err-change-clause-full
returns-in_err-change-clause-full g c = λ room.
    let p = err_from_is_err_and c.from_residual.result c.from_residual.ensures.1 in
    rw (p.1, p.2) (row_data _ c.in_err-change.field-0.0 (c.in_err-change.ensures.after.full room))

pub returns-in_err-change-clause-first : goal.returns-in_err-change-clause-first
returns-in_err-change-clause-first g c =
    let p = err_from_is_err_and c.from_residual.result c.from_residual.ensures.1 in
    rw p.1 c.in_err-change.ensures.after.first

pub returns-in_err-change-clause-refused : goal.returns-in_err-change-clause-refused
returns-in_err-change-clause-refused g c =
    let p = err_from_is_err_and c.from_residual.result c.from_residual.ensures.1 in
    rw (p.1, p.2) (refused_data c.args.draft.now.touched.items c.in_err-change.field-0.0)

pub returns-in_err-put_change-clause-short : goal.returns-in_err-put_change-clause-short
returns-in_err-put_change-clause-short g c = λ less. absurd (c.in_ok-change.ensures.after.short less)

pub returns-in_err-put_change-clause-full : goal.returns-in_err-put_change-clause-full
returns-in_err-put_change-clause-full g c = λ room.
    let p = err_from_is_err_and c.from_residual-in_err-put_change.result c.from_residual-in_err-put_change.ensures.1 in
    rw (p.1, p.2) (row_view _ c.in_err-put_change.field-0.0 (c.in_ok-change.ensures.after.full room))

pub returns-in_err-put_change-clause-first : goal.returns-in_err-put_change-clause-first
returns-in_err-put_change-clause-first g c =
    let p = err_from_is_err_and c.from_residual-in_err-put_change.result c.from_residual-in_err-put_change.ensures.1 in
    let bits = g.B.FreeBits.bits c.args.bits.now in
    rw p.1 (takes_all (growth_of bits c.args.file.now c.args.op.now c.args.node.now).runs bits _ c.in_ok-change.ensures.after.taken)

pub returns-in_err-put_change-clause-refused : goal.returns-in_err-put_change-clause-refused
returns-in_err-put_change-clause-refused g c =
    let p = err_from_is_err_and c.from_residual-in_err-put_change.result c.from_residual-in_err-put_change.ensures.1 in
    rw (p.1, p.2) (refused_view c.args.draft.now.touched.items _ c.in_err-put_change.field-0.0)
