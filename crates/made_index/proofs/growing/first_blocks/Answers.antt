use Rattle.std.proofs.Common.{sym, subst}
use Rattle.std.specs.Prelude.{length}
use Rattle.std.proofs.lemmas.Result.{err_from_is_err_and}
use Rattle.record_model.specs.Records.{Record}
use Rattle.directory_growth.specs.Growing.{HasIndex, GrowsLittle, IndexAfter}
use Rattle.made_index.proofs.Having.{has_made}
use Rattle.made_index.proofs.Turning.{little_made, after_made, no_memory}
use Rattle.made_index.proofs.growing.first_blocks.Goals as goal

pub returns-in_err-made-clause-after : goal.returns-in_err-made-clause-after
returns-in_err-made-clause-after g c = λ n t is.
    let p = err_from_is_err_and c.from_residual.result c.from_residual.ensures.1 in
    rw (p.1, p.2) (no_memory (g.B.FreeBits.bits c.args.bits.now) n c.args.file.now t c.args.more)

pub index_after-requires-clause-has : goal.index_after-requires-clause-has
index_after-requires-clause-has g c = (let clusters = length (g.B.FreeBits.bits c.args.bits.now) in subst (HasIndex clusters) (sym c.in_ok-made.ensures.value) (has_made clusters c.args.file.now c.requires.has))

pub index_after-requires-clause-little : goal.index_after-requires-clause-little
index_after-requires-clause-little g c =
    subst (λ (r : Record). GrowsLittle r c.args.root c.args.more) (sym c.in_ok-made.ensures.value) (little_made c.args.file.now c.args.root c.args.more c.requires.has.none c.requires.little)

pub returns-clause-after : goal.returns-clause-after
returns-clause-after g c = λ n t is.
    let bits = g.B.FreeBits.bits c.args.bits.now in
    let new = g.B.FreeBits.bits c.index_after.new.bits in
    after_made bits new n c.args.file.now t c.args.root c.args.more c.index_after.result c.requires.has c.requires.little
    (subst (λ (s : Record). IndexAfter bits new n s t c.args.more c.index_after.result) c.in_ok-made.ensures.value (c.index_after.ensures.after n t is))
