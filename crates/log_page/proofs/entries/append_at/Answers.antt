use Rattle.log_page.specs.Places.{page_lsn}
use Rattle.log_page.specs.RecordPages.{is_whole_page, page_reading}
use Rattle.log_page.proofs.Mixed.{too_late, not_whole_late}
use Rattle.log_page.proofs.entries.append_at.Goals as goal

pub returns-in-None : goal.returns-in-None
returns-in-None c =
    let lsn = page_lsn c.args.pages c.args.lap c.args.page in
    record { value = not_whole_late (is_whole_page c.args.pages c.args.raw.now lsn) (page_reading c.args.raw.now lsn c.args.from) c.args.entries.now.items (too_late c.args.pages lsn c.args.raw.now (λ k. (c.type_inv.raw k).fits) c.in-None.ensures.value); fits = λ all. all }
