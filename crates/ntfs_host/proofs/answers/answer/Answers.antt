use Rattle.ntfs_host.proofs.Answering.{format_is}
use Rattle.ntfs_host.proofs.answers.answer.Goals as goal

pub returns-in-Format-clause-answer : goal.returns-in-Format-clause-answer
returns-in-Format-clause-answer g c = rw c.in-Format.is (format_is _ _ _ _ _ c.format_answer.ensures.answer)
