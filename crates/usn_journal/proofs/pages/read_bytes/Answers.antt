use Rattle.std.proofs.Common.{length, arith}
use Rattle.std.proofs.lemmas.Result.{err_from_is_err_and}
use Rattle.usn_journal.proofs.Ends.{page_end_all}
use Rattle.usn_journal.proofs.PagesRead.{page_given, page_broken}
use Rattle.usn_journal.proofs.pages.read_bytes.Goals as goal

pub returns-in_err-read_page-clause-value : goal.returns-in_err-read_page-clause-value
returns-in_err-read_page-clause-value g c =
    let p = err_from_is_err_and c.from_residual-in_err-read_page.result c.from_residual-in_err-read_page.ensures.1 in
    rw (p.1, p.2) (page_broken _ c.args.per c.args.extents.now c.args.first c.args.number (length c.args.page.now) _ _ c.in_err-read_page.field-0.0 c.requires.begun c.requires.size c.max.ensures c.in_ok-fill.ensures.bytes c.in_err-read_page.ensures.value)

pub returns-clause-value : goal.returns-clause-value
returns-clause-value g c =
    page_given _ c.args.per c.args.extents.now c.args.first c.args.number (length c.args.page.now) _ _ _ c.requires.begun c.requires.size c.max.ensures c.in_ok-fill.ensures.bytes c.in_ok-read_page.ensures.value

pub returns-clause-ends : goal.returns-clause-ends
returns-clause-ends g c =
    page_end_all c.fill.new.out c.max.result c.args.number c.in_ok-read_page.field-0 (omega (arith, c.fill.auto.out, c.requires.size)) (omega (arith, c.max.ensures)) (omega (arith, c.max.ensures, c.requires.begun)) c.in_ok-read_page.ensures.value
