use Rattle.std.proofs.Common.{subst}
use Rattle.same_names.specs.map_change.Parts.{live_parts}
use Rattle.turn_laws.specs.txn_state.States.{StateOf, facts_of, IsStore}
use Rattle.state_store.proofs.Turned.{turns_volume}
use Rattle.state_store.proofs.turning.turn_store.Goals as goal

pub returns-clause-stands : goal.returns-clause-stands
returns-clause-stands g c =
    turns_volume g.D.Device.gives g.D.Device.sector_count g.D.Device.moment_of g.D.Device.changes_of c.needed_is_all.ensures c.steps_spare.ensures c.args.step c.turn-result.result c.args.store.now c.turn-result.new.self (live_parts c.args.live.now) c.args.upper.now
    (subst (λ (s : StateOf). IsStore (facts_of s)) c.state.ensures c.known.ensures) (subst (λ (s : StateOf). IsStore (facts_of s)) c.state-2.ensures c.known-2.ensures) (g.met.D.Device.whole c.args.store.now.device) (g.met.D.Device.whole c.turn-result.new.self.device) (g.met.D.Device.few c.args.store.now.device)
    c.turn-result.ensures.sectors c.requires.holds c.requires.may c.turn-result.ensures.facts c.turn-result.ensures.sent c.turn-result.ensures.step
