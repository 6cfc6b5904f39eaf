use Rattle.std.proofs.lemmas.Result.{err_from_is_err_and}
use Rattle.directory_growth.proofs.Answering.{no_memory}
use Rattle.directory_growth.proofs.growing.index_after.Goals as goal

pub returns-in_err-blocks-clause-after : goal.returns-in_err-blocks-clause-after
returns-in_err-blocks-clause-after g c = λ n t is.
    let p = err_from_is_err_and c.from_residual.result c.from_residual.ensures.1 in
    rw (p.1, p.2) (no_memory (g.B.FreeBits.bits c.args.bits.now) n c.args.file.now t c.args.more)

pub returns-in_err-bitmap-clause-after : goal.returns-in_err-bitmap-clause-after
returns-in_err-bitmap-clause-after g c = λ n t is.
    let p = err_from_is_err_and c.from_residual-in_err-bitmap.result c.from_residual-in_err-bitmap.ensures.1 in
    rw (p.1, p.2) (no_memory (g.B.FreeBits.bits c.args.bits.now) n c.args.file.now t c.args.more)
