use Rattle.std.proofs.Common.{Option}
use Rattle.std.proofs.lemmas.Result.{err_from_is_err_and, IfOk-weaker}
use Rattle.disk_model.specs.Content.{Content}
use Rattle.state_model.specs.record_model.Records.{Record}
use Rattle.log_recovery.specs.declared.found.RecoveredBlocks.{RecoveredBlocks}
use Rattle.log_recovery.specs.Recovering.{content_with}
use Rattle.image_open.specs.Volumes.{log_record, log_place, recovered_at, recovered_in}
use Rattle.image_open.proofs.Alike.{by_alike, found_by_alike}
use Rattle.image_open.proofs.Steps.{fails_first, goes_on_as}
use Rattle.image_open.proofs.log.recovered_in.Goals as goal

pub returns-in_err-file-clause-answer : goal.returns-in_err-file-clause-answer
unfolding recovered_in
returns-in_err-file-clause-answer g c =
    let p = err_from_is_err_and c.from_residual.result c.from_residual.ensures.1 in
    rw (p.1, p.2) (fails_first _ (λ (file : Option Record). file) (λ (content : Content). content) _ (λ content. log_record content c.args.geometry.now) (λ content file. recovered_at content (log_place c.args.geometry.now c.args.clusters c.args.device file)) c.in_err-file.ensures.answer)

pub returns-clause-answer : goal.returns-clause-answer
unfolding recovered_in
returns-clause-answer g c =
    let view = λ (content : Content) (blocks : RecoveredBlocks). content_with blocks.bodies.items content in
    goes_on_as _ view c.in_ok-file.file c.recovered_at.result (λ content. log_record content c.args.geometry.now) (λ content file. recovered_at content (log_place c.args.geometry.now c.args.clusters c.args.device file))
    c.in_ok-file.ensures.answer
    (by_alike _ view c.recovered_at.result c.in_ok-place.place (log_place c.args.geometry.now c.args.clusters c.args.device c.in_ok-file.file) c.in_ok-place.ensures.value (rw c.in_ok-file.ensures.kept.same at c.recovered_at.ensures.answer))

pub returns-clause-found : goal.returns-clause-found
returns-clause-found g c =
    IfOk-weaker c.recovered_at.result _ _
    (λ blocks h. found_by_alike _ c.args.geometry.now c.args.clusters c.args.device c.in_ok-file.file c.in_ok-place.place blocks c.in_ok-place.ensures.value c.in_ok-file.ensures.answer (rw c.in_ok-file.ensures.kept.same at h))
    c.recovered_at.ensures.found
