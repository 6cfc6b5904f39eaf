use Rattle.std.proofs.Common.{subst, refl}
use Rattle.turn_laws.specs.txn_state.States.{StateOf, facts_of, IsStore}
use Rattle.same_names.specs.map_change.Parts.{live_parts}
use Rattle.same_names.specs.map_change.Applying.{applied}
use Rattle.state_store.proofs.Outcomes.{are_spelled, is_put, is_left}
use Rattle.state_store.proofs.putting.put_prepared.Goals as goal

pub log_changes-requires-clause-spelled : goal.log_changes-requires-clause-spelled
log_changes-requires-clause-spelled g c = are_spelled (g.D.Device.gives c.args.store.now.device) c.args.store.now.state c.args.changes.now c.requires.writable

pub returns-in-Err-clause-put : goal.returns-in-Err-clause-put
returns-in-Err-clause-put g c =
    is_left (g.D.Device.gives c.args.store.now.device) (g.D.Device.gives c.log_changes.new.store.device) c.args.store.now.state c.log_changes.new.store.state (g.D.Device.changes_of c.args.store.now.device) (g.D.Device.changes_of c.log_changes.new.store.device) c.args.changes.now (live_parts c.args.live.now) (live_parts c.args.live.now) c.in-Err.fault
    c.in-Err.ensures.gives c.in-Err.ensures.changes (c.known-2.ensures.shut c.requires.closed) refl c.in-Err.ensures.done c.in-Err.ensures.windows

pub returns-clause-put : goal.returns-clause-put
returns-clause-put g c =
    is_put (g.D.Device.gives c.args.store.now.device) (g.D.Device.gives c.log_changes.new.store.device) (g.D.Device.sector_count c.args.store.now.device) c.args.store.now.state c.log_changes.new.store.state (g.D.Device.changes_of c.args.store.now.device) (g.D.Device.changes_of c.log_changes.new.store.device) c.args.changes.now (live_parts c.args.live.now) (live_parts c.apply.new.live) (applied c.args.change (live_parts c.args.live.now))
    c.requires.some c.in-Ok.ensures.gives c.in-Ok.ensures.changes (subst (λ (s : StateOf). IsStore (facts_of s)) c.state.ensures c.known.ensures) (g.met.D.Device.whole c.args.store.now.device) c.requires.writable c.requires.value c.apply.ensures c.in-Ok.ensures.done c.in-Ok.ensures.windows
