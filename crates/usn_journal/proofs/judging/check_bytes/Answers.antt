use Rattle.std.proofs.Common.{length}
use Rattle.std.proofs.lemmas.Result.{err_from_is_err_and}
use Rattle.usn_journal.proofs.PagesLeft.{page_kept, page_broken}
use Rattle.usn_journal.proofs.judging.check_bytes.Goals as goal

pub returns-in_err-check_page-clause-value : goal.returns-in_err-check_page-clause-value
returns-in_err-check_page-clause-value g c =
    let p = err_from_is_err_and c.from_residual-in_err-check_page.result c.from_residual-in_err-check_page.ensures.1 in
    rw (p.1, p.2) (page_broken _ c.args.per c.args.extents.now c.args.first c.args.number (length c.args.page.now) _ _ c.in_err-check_page.field-0.0 c.requires.begun c.requires.size c.max.ensures c.in_ok-fill.ensures.bytes c.in_err-check_page.ensures.value)

pub returns-clause-value : goal.returns-clause-value
returns-clause-value g c =
    page_kept _ c.args.per c.args.extents.now c.args.first c.args.number (length c.args.page.now) _ _ c.requires.begun c.requires.size c.max.ensures c.in_ok-fill.ensures.bytes c.in_ok-check_page.ensures.value
