use Rattle.std.proofs.lemmas.Result.{err_from_is_err_and}
use Rattle.volume_map.proofs.Loaded.{unwalked, answered}
use Rattle.volume_map.proofs.Mapped.{heads_counted}
use Rattle.volume_map.proofs.loading.read_table.Goals as goal

pub returns-in_err-walk-clause-answer : goal.returns-in_err-walk-clause-answer
returns-in_err-walk-clause-answer g c =
    let p = err_from_is_err_and c.from_residual.result c.from_residual.ensures.1 in
    rw (p.1, p.2) (unwalked _ c.args.per c.args.extents.now _ c.in_err-walk.ensures.answer)

pub returns-clause-answer : goal.returns-clause-answer
returns-clause-answer g c =
    answered _ _ c.args.per c.args.extents.now c.in_ok-walk.walk _ c.judged_files.result c.in_ok-walk.ensures.answer (rw (c.in_ok-walk.ensures.kept.same, c.deref.ensures.value) at c.in_ok-lists.ensures.value) (rw c.deref-2.ensures.value at c.judged_files.ensures.answer)

pub returns-clause-heads : goal.returns-clause-heads
returns-clause-heads g c = heads_counted _ c.args.per c.args.extents.now c.judged_files.result c.in_ok-walk.walk.heads.items c.judged_files.ensures.heads (returns-clause-answer g c) c.in_ok-walk.ensures.heads
