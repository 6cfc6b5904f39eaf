use Rattle.std.proofs.Common.{sym, ap, ◌∙◌}
use Rattle.ntfs_host.specs.Words.{asked_by, found}
use Rattle.ntfs_host.proofs.Timely.{asked_early}
use Rattle.ntfs_host.proofs.host.asked_in.Goals as goal

-- src/host.rt:164:1
pub returns-in-Ok-clause-early : goal.returns-in-Ok-clause-early
returns-in-Ok-clause-early c = λ time is. asked_early c.args.words.now time (ap (λ r. asked_by (found r)) c.in-Ok.ensures.answer ∙ (sym c.asked_by.ensures.asked ∙ is))
