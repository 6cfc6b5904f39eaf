use Rattle.std.proofs.lemmas.Result.{err_from_is_err_and}
use Rattle.image_open.specs.volume_map.Maps.{volume_in}
use Rattle.image_open.proofs.Steps.{fails_at_once, goes_on_at_once}
use Rattle.image_read.specs.Checks.{has_version}
use Rattle.image_read.specs.declared.reading.ReadJournal.{ReadJournal}
use Rattle.image_read.specs.Records.{placed_records, volume_records}
use Rattle.image_read.proofs.reading.volume_records.Goals as goal

pub returns-in_err-check_version-clause-answer : goal.returns-in_err-check_version-clause-answer
unfolding volume_records
returns-in_err-check_version-clause-answer g c =
    let p = err_from_is_err_and c.from_residual.result c.from_residual.ensures.1 in
    rw (p.1, p.2) (fails_at_once _ (λ (x : Unit {0}). x) (λ (j : ReadJournal). j) _ (has_version (volume_in c.args.map.now)) (λ content _. placed_records content (volume_in c.args.map.now)) c.in_err-check_version.ensures.answer)

pub returns-clause-answer : goal.returns-clause-answer
unfolding volume_records
returns-clause-answer g c =
    goes_on_at_once _ (λ (j : ReadJournal). j) c.in_ok-check_version.field-0 c.placed_records.result (has_version (volume_in c.args.map.now)) (λ content _. placed_records content (volume_in c.args.map.now)) c.in_ok-check_version.ensures.answer c.placed_records.ensures.answer
