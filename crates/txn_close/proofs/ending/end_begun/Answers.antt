use Rattle.found_stays.specs.txn_state.States.{facts_of}
use Rattle.txn_close.proofs.Passing.{fewer_same, goes_none}
use Rattle.txn_close.proofs.Ended.{then_drained}
use Rattle.txn_close.proofs.ending.end_begun.Goals as goal

pub returns-then-is_some-clause-drained : goal.returns-then-is_some-clause-drained
returns-then-is_some-clause-drained g c = then_drained c.end_checkpoint.result (facts_of c.args.store.now.state) (facts_of c.end_checkpoint.new.store.state) c.requires.drained c.end_checkpoint.ensures.facts

pub returns-else-is_some-clause-goes : goal.returns-else-is_some-clause-goes
returns-else-is_some-clause-goes g c = goes_none g.D.Device.sector_count g.D.Device.moment_of g.D.Device.changes_of (facts_of c.args.store.now.state) c.args.store.now (fewer_same (facts_of c.args.store.now.state))
