use Rattle.std.proofs.lemmas.Result.{err_from_is_err_and}
use Rattle.image_open.specs.Clusters.{clusters_in}
use Rattle.image_open.specs.Writing.{OpenedToWrite, opened_behind, opened_to_write_in}
use Rattle.image_open.proofs.Steps.{fails_first}
use Rattle.image_open.proofs.ToWrite.{goes_on_opening}
use Rattle.image_open.proofs.writing.open_to_write.Goals as goal

pub returns-in_err-clusters_in-clause-answer : goal.returns-in_err-clusters_in-clause-answer
unfolding opened_to_write_in
returns-in_err-clusters_in-clause-answer g c =
    let p = err_from_is_err_and c.from_residual-in_err-clusters_in.result c.from_residual-in_err-clusters_in.ensures.1 in
    rw (p.1, p.2) (fails_first _ (λ (x : Unit {0}). x) (λ (o : OpenedToWrite). o) _ clusters_in (λ content _. opened_behind content c.args.sectors) c.in_err-clusters_in.ensures.answer)

pub returns-clause-answer : goal.returns-clause-answer
unfolding opened_to_write_in
returns-clause-answer g c =
    goes_on_opening _ c.in_ok-clusters_in.field-0 c.open_behind.result clusters_in (λ content _. opened_behind content c.args.sectors) c.in_ok-clusters_in.ensures.answer (rw c.in_ok-clusters_in.ensures.kept.same at c.open_behind.ensures.answer)
