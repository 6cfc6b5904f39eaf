use Rattle.std.proofs.Common.{subst, sym, refl}
use Rattle.working_volume.specs.map_change.Parts.{live_parts}
use Rattle.txn_state.specs.States.{facts_of}
use Rattle.working_volume.specs.txn_core.Steps.{MayTurn, AfterTurn}
use Rattle.volume_core.specs.Volumes.{SeenVolume}
use Rattle.volume_core.proofs.Working.{turned, tree_stays}
use Rattle.volume_core.proofs.Histories.{turns_trees}
use Rattle.volume_core.proofs.volume.Volume.turn.Goals as goal

pub returns-clause-tree : goal.returns-clause-tree
returns-clause-tree g c =
    rw (← c.self.view_is)
    (tree_stays c.needed_is_all.ensures (g.D.Device.gives c.self.inside.store.device) (g.D.Device.gives c.turn_store.new.store.device) (g.D.Device.changes_of c.self.inside.store.device) (g.D.Device.changes_of c.turn_store.new.store.device) c.self.inside.store.state c.turn_store.new.store.state
    (live_parts c.self.inside.live) c.self.inside.upper c.self.invariant.holds c.turn_store.ensures.stands)

pub returns-clause-history : goal.returns-clause-history
returns-clause-history g c =
    rw (← c.self.view_is)
    (turns_trees g.D.Device.gives g.D.Device.sector_count g.D.Device.changes_of (record { store = c.self.inside.store; map = live_parts c.self.inside.live; table = c.self.inside.upper; streams = c.self.inside.streams })
    (record { store = c.turn_store.new.store; map = live_parts c.self.inside.live; table = c.self.inside.upper; streams = c.self.inside.streams }) refl c.turn_store.ensures.sectors g.D.Device.moment_of
    c.trees_turn.ensures c.trees_mount.ensures c.steps_stay.ensures c.args.step c.turn_store.result
    (record { may = subst (λ (v : SeenVolume _). MayTurn (facts_of v.store.state) c.args.step) (sym c.self.view_is) c.requires.may; facts = c.turn_store.ensures.facts; sent = c.turn_store.ensures.sent; sectors = c.turn_store.ensures.sectors; step_is = c.turn_store.ensures.step }) refl)

pub invariant_of-self : goal.invariant_of-self
invariant_of-self g c =
    turned c.ready_stays.ensures (g.D.Device.sector_count c.self.inside.store.device) (g.D.Device.moment_of c.self.inside.store.device) (g.D.Device.gives c.self.inside.store.device) (g.D.Device.gives c.turn_store.new.store.device) (g.D.Device.changes_of c.self.inside.store.device)
    (g.D.Device.changes_of c.turn_store.new.store.device) c.self.inside.store.state c.turn_store.new.store.state (live_parts c.self.inside.live) c.self.inside.upper c.self.inside.streams c.self.inside.names c.self.inside.room.items
    (AfterTurn c.args.step c.turn_store.result (facts_of c.self.inside.store.state)) c.turn_store.ensures.step c.turn_store.ensures.stands c.self.invariant
