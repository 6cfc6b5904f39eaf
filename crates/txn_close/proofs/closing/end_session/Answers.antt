use Rattle.found_stays.specs.txn_state.States.{facts_of}
use Rattle.txn_close.specs.Rests.{stopped_facts}
use Rattle.txn_close.proofs.Passing.{goes_joined}
use Rattle.txn_close.proofs.Ended.{sealed_closed, sealed_empty}
use Rattle.txn_close.proofs.closing.end_session.Goals as goal

pub drain-requires-clause-closed : goal.drain-requires-clause-closed
drain-requires-clause-closed g c = sealed_closed (facts_of c.args.store.now.state) (facts_of c.stop.new.store.state) c.stop.ensures.facts

pub drain-requires-clause-empty : goal.drain-requires-clause-empty
drain-requires-clause-empty g c = sealed_empty (facts_of c.args.store.now.state) (facts_of c.stop.new.store.state) c.stop.ensures.facts

pub returns-in_err-drain-clause-goes : goal.returns-in_err-drain-clause-goes
returns-in_err-drain-clause-goes g c =
    goes_joined g.D.Device.sector_count g.D.Device.moment_of g.D.Device.changes_of (stopped_facts (facts_of c.args.store.now.state)) c.args.store.now c.stop.new.store c.drain.new.store c.stop.ensures.goes c.drain.ensures.goes

pub returns-clause-goes : goal.returns-clause-goes
returns-clause-goes g c =
    goes_joined g.D.Device.sector_count g.D.Device.moment_of g.D.Device.changes_of (stopped_facts (facts_of c.args.store.now.state)) c.args.store.now c.drain.new.store c.end_begun.new.store
    (goes_joined g.D.Device.sector_count g.D.Device.moment_of g.D.Device.changes_of (stopped_facts (facts_of c.args.store.now.state)) c.args.store.now c.stop.new.store c.drain.new.store c.stop.ensures.goes c.drain.ensures.goes)
    c.end_begun.ensures.goes
