use Rattle.std.proofs.Common.{Global, Ok}
use Rattle.std.specs.Prelude.{String, string_bytes}
use Rattle.std.proofs.lemmas.Result.{err_from_is_err_and}
use Rattle.image_dump.specs.Texts.{journal_text}
use Rattle.volume_run.specs.image_read.declared.reading.ReadJournal.{ReadJournal}
use Rattle.volume_run.specs.image_read.Records.{journal_of}
use Rattle.ntfs_host.proofs.Answering.{fails_first, text_is, journal_is, refused_first, never_empty}
use Rattle.ntfs_host.proofs.answers.journal_answer.Goals as goal

pub returns-in_err-journal-clause-answer : goal.returns-in_err-journal-clause-answer
returns-in_err-journal-clause-answer g c =
    let p = err_from_is_err_and c.from_residual.result c.from_residual.ensures.1 in
    rw (p.1, p.2) (journal_is _ _ _ (refused_first _ _ c.in_err-journal.ensures.none) (fails_first _ (λ (j : ReadJournal). j) (λ (s : String Global). string_bytes s) _ journal_of (λ disk j. Ok (journal_text j.entries j.first j.next)) c.in_err-journal.ensures.answer))

pub returns-clause-answer : goal.returns-clause-answer
returns-clause-answer g c = journal_is _ _ _ (never_empty _ c.in_ok-journal.journal c.in_ok-text_of_journal.field-0 c.in_ok-journal.ensures.none) (text_is _ c.in_ok-journal.journal c.in_ok-text_of_journal.field-0 journal_of (λ (j : ReadJournal). journal_text j.entries j.first j.next) c.in_ok-journal.ensures.answer c.in_ok-text_of_journal.ensures.text)
