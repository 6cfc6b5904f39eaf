use Rattle.std.proofs.lemmas.Result.{err_from_is_err_and}
use Rattle.state_model.specs.declared.stream.Extents.{Extents}
use Rattle.volume_map.proofs.Steps.{table_refused, table_goes_on}
use Rattle.volume_map.proofs.table.table_of.Goals as goal

pub returns-in_err-file-clause-answer : goal.returns-in_err-file-clause-answer
returns-in_err-file-clause-answer g c =
    let p = err_from_is_err_and c.from_residual-in_err-file.result c.from_residual-in_err-file.ensures.1 in
    rw (p.1, p.2) (table_refused _ (λ (e : Extents). e) c.args.geometry.now _ _ (rw c.boot_block.ensures.value at c.in_ok-slot.ensures.answer) c.in_err-file.ensures)

pub returns-clause-answer : goal.returns-clause-answer
returns-clause-answer g c = table_goes_on _ _ c.args.geometry.now _ _ c.extents_in.result (rw c.boot_block.ensures.value at c.in_ok-slot.ensures.answer) c.in_ok-file.ensures c.extents_in.ensures.value
