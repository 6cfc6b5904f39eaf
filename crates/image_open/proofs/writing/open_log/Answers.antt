use Rattle.std.proofs.Common.{Option}
use Rattle.std.proofs.lemmas.Result.{err_from_is_err_and}
use Rattle.state_model.specs.record_model.Records.{Record}
use Rattle.image_open.specs.Volumes.{log_record, log_place}
use Rattle.image_open.specs.Writing.{OpenedToWrite, opened_at, opened_of}
use Rattle.image_open.proofs.Steps.{fails_first}
use Rattle.image_open.proofs.ToWrite.{opened, log_fails}
use Rattle.image_open.proofs.writing.open_log.Goals as goal

pub returns-in_err-file-clause-answer : goal.returns-in_err-file-clause-answer
unfolding opened_of
returns-in_err-file-clause-answer g c =
    let p = err_from_is_err_and c.from_residual.result c.from_residual.ensures.1 in
    rw (p.1, p.2) (fails_first _ (λ (file : Option Record). file) (λ (o : OpenedToWrite). o) _ (λ content. log_record content c.args.geometry) (λ content file. opened_at content c.args.geometry c.args.total (log_place c.args.geometry c.args.total c.args.sectors file)) c.in_err-file.ensures.answer)

pub returns-in_err-found-clause-answer : goal.returns-in_err-found-clause-answer
returns-in_err-found-clause-answer g c =
    let p = err_from_is_err_and c.from_residual-in_err-found.result c.from_residual-in_err-found.ensures.1 in
    rw (p.1, p.2) (log_fails _ c.args.geometry c.args.total c.args.sectors c.in_ok-file.file c.in_ok-place.place c.in_ok-place.ensures.value _ c.in_ok-file.ensures.answer (rw (c.in_ok-file.ensures.kept.same, c.boot_block.ensures.value) at c.in_err-found.ensures.answer))

pub returns-clause-answer : goal.returns-clause-answer
returns-clause-answer g c =
    opened _ c.args.geometry c.args.total c.args.sectors c.in_ok-file.file c.in_ok-place.place c.in_ok-place.ensures.value c.in_ok-found.found c.in_ok-file.ensures.answer (rw (c.in_ok-file.ensures.kept.same, c.boot_block.ensures.value) at c.in_ok-found.ensures.answer)
