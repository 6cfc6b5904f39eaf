use Rattle.journal_model.proofs.JournalPages.{journal_next, journal_last, journal_same, page_from_min}
use Rattle.journal_model.proofs.JournalParts.{journal_split, journal_filled}
use Rattle.journal_model.proofs.laws.journal_is_pages.Goals as goal

pub returns : goal.returns
returns c = record { next = journal_next; last = journal_last; same = journal_same; from = page_from_min; split = journal_split; filled = journal_filled }
