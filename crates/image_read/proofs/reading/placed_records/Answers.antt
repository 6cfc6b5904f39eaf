use Rattle.std.proofs.lemmas.Result.{err_from_is_err_and}
use Rattle.image_open.specs.state_model.declared.stream.Extents.{Extents}
use Rattle.image_open.specs.volume_map.Maps.{volume_in}
use Rattle.image_open.proofs.Steps.{fails_first, goes_on}
use Rattle.image_read.specs.declared.reading.ReadJournal.{ReadJournal}
use Rattle.image_read.specs.Records.{place_on, records_by, placed_records}
use Rattle.image_read.proofs.Entries.{is_placed}
use Rattle.image_read.proofs.reading.placed_records.Goals as goal

pub returns-in_err-extents-clause-answer : goal.returns-in_err-extents-clause-answer
unfolding placed_records
returns-in_err-extents-clause-answer g c =
    let p = err_from_is_err_and c.from_residual-in_err-extents.result c.from_residual-in_err-extents.ensures.1 in
    rw (p.1, p.2) (fails_first _ (λ (e : Extents). e) (λ (j : ReadJournal). j) _ (λ content. place_on content (volume_in c.args.map.now)) (λ content e. records_by content (volume_in c.args.map.now) e) c.in_err-extents.ensures.answer)

pub records_by-requires-clause-place : goal.records_by-requires-clause-place
records_by-requires-clause-place g c = rw c.in_ok-extents.ensures.kept.same (is_placed _ (volume_in c.args.map.now) c.in_ok-extents.extents c.in_ok-extents.ensures.answer)

pub returns-clause-answer : goal.returns-clause-answer
unfolding placed_records
returns-clause-answer g c =
    goes_on _ (λ (j : ReadJournal). j) c.in_ok-extents.extents c.records_by.result (λ content. place_on content (volume_in c.args.map.now)) (λ content e. records_by content (volume_in c.args.map.now) e) c.in_ok-extents.ensures.answer (rw c.in_ok-extents.ensures.kept.same at c.records_by.ensures.answer)

pub records_by-requires-clause-parts : goal.records_by-requires-clause-parts
records_by-requires-clause-parts g c = rw c.in_ok-extents.ensures.kept.same c.requires.parts
