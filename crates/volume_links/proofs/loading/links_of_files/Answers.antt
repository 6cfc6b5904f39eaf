use Rattle.std.proofs.Common.{◌∙◌, ap}
use Rattle.std.proofs.lemmas.Result.{err_from_is_err_and}
use Rattle.volume_links.specs.Names.{long_links}
use Rattle.volume_links.proofs.Scanned.{files_fail, files_answer}
use Rattle.volume_links.proofs.loading.links_of_files.Goals as goal

pub returns-in_err-files-clause-answer : goal.returns-in_err-files-clause-answer
returns-in_err-files-clause-answer g c =
    let p = err_from_is_err_and c.from_residual.result c.from_residual.ensures.1 in
    rw (p.1, p.2) (files_fail _ c.args.per c.args.extents.now _ c.in_err-files.ensures.answer)

pub returns-clause-answer : goal.returns-clause-answer
returns-clause-answer g c =
    files_answer _ c.args.per c.args.extents.now c.in_ok-files.files.items _ c.in_ok-files.ensures.answer (c.in_ok-long_links.ensures ∙ ap long_links c.deref.ensures.value)
