use Rattle.ntfs_host.proofs.Answering.{run_is}
use Rattle.ntfs_host.proofs.looking.text_of_run.Goals as goal

pub returns-clause-answer : goal.returns-clause-answer
returns-clause-answer g c = run_is _ _ _ _ _ _ _ c.run_text.ensures.none c.run_text.ensures.answer
