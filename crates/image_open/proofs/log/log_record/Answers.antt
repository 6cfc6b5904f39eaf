use Rattle.std.proofs.Common.{Option}
use Rattle.std.proofs.lemmas.Result.{err_from_is_err_and}
use Rattle.state_model.specs.record_model.Records.{Record}
use Rattle.state_model.specs.Loads.{judged, slot_of, boot_block}
use Rattle.image_open.specs.Volumes.{log_record}
use Rattle.image_open.proofs.Steps.{map_error, map_value}
use Rattle.image_open.proofs.log.log_record.Goals as goal

pub returns-in_err-boot_record-clause-answer : goal.returns-in_err-boot_record-clause-answer
unfolding log_record
returns-in_err-boot_record-clause-answer g c =
    let p = err_from_is_err_and c.from_residual.result c.from_residual.ensures.1 in
    rw p.1 (map_error _ (λ (file : Option Record). file) (λ (file : Option Record). file) _ _ (λ content. judged 2 (slot_of (content (boot_block c.args.geometry.now 2)))) p.2 c.in_err-boot_record.ensures.answer)

pub returns-clause-answer : goal.returns-clause-answer
unfolding log_record
returns-clause-answer g c = map_value _ _ (λ content. judged 2 (slot_of (content (boot_block c.args.geometry.now 2)))) c.in_ok-boot_record.ensures.answer
