use Rattle.std.proofs.Common.{refl}
use Rattle.found_stays.specs.txn_state.States.{facts_of}
use Rattle.found_stays.specs.txn_laws.Windows.{AfterWrite}
use Rattle.txn_close.specs.Rests.{stopped_facts}
use Rattle.txn_close.proofs.Passing.{goes_joined}
use Rattle.txn_close.proofs.Turning.{fewer_at, spares_written, seal_rises, rises_at, seal_begins, goes_in_memory}
use Rattle.txn_close.proofs.closing.stop.Goals as goal

pub returns-clause-goes : goal.returns-clause-goes
returns-clause-goes g c =
    goes_joined g.D.Device.sector_count g.D.Device.moment_of g.D.Device.changes_of (stopped_facts (facts_of c.args.store.now.state)) c.args.store.now c.give_up_open.new.store c.seal.new.self c.give_up_open.ensures.goes
    (goes_in_memory g.D.Device.gives g.D.Device.sector_count g.D.Device.moment_of g.D.Device.changes_of c.give_up_open.new.store c.seal.new.self (facts_of c.give_up_open.new.store.state) AfterWrite c.seal.ensures.device
    (fewer_at (facts_of c.give_up_open.new.store.state) (facts_of c.seal.new.self.state) _ c.seal.ensures.facts (record { dirty = λ b is. is; dead = λ b is. is })) (spares_written (facts_of c.give_up_open.new.store.state))
    (rises_at (facts_of c.give_up_open.new.store.state) (facts_of c.seal.new.self.state) _ c.seal.ensures.facts (seal_rises c.give_up_open.new.store.state.log))
    (seal_begins (facts_of c.give_up_open.new.store.state) (facts_of c.seal.new.self.state) _ c.seal.ensures.facts refl) c.seal.ensures.step)
