use Rattle.tree_laws.proofs.Journaling.{entry_kept, upper_kept, same_journal_now, journal_9, tree_journal}
use Rattle.tree_laws.proofs.laws.journal_kept.Goals as goal

pub returns : goal.returns
returns c = record { entry = entry_kept; upper = upper_kept; journal = same_journal_now; rule_9 = journal_9; tree = tree_journal }
