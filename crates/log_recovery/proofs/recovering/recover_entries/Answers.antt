use Rattle.std.proofs.Common.{sym, ◌∙◌}
use Rattle.log_recovery.proofs.Ending.{all_lies, misplaced_known, placed_known}
use Rattle.log_recovery.proofs.recovering.recover_entries.Goals as goal

pub returns-in-Some-clause-answer : goal.returns-in-Some-clause-answer
returns-in-Some-clause-answer g c = misplaced_known (g.V.View.content c.args.view.now) c.args.entries.now c.args.clusters c.in-Some.lsn (sym c.misplaced.ensures ∙ c.in-Some.is)

pub recover_placed-requires-clause-lies : goal.recover_placed-requires-clause-lies
recover_placed-requires-clause-lies g c = all_lies c.args.clusters c.args.entries.now c.requires (sym c.misplaced.ensures ∙ c.in-None.is)

pub returns-in-None-clause-answer : goal.returns-in-None-clause-answer
returns-in-None-clause-answer g c = placed_known (g.V.View.content c.args.view.now) c.args.entries.now c.args.clusters c.recover_placed.result (sym c.misplaced.ensures ∙ c.in-None.is) c.recover_placed.ensures.answer
