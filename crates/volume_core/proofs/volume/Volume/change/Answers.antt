use Rattle.std.proofs.Common.{rules, subst, sym, refl}
use Rattle.working_volume.specs.map_change.Parts.{live_parts}
use Rattle.txn_state.specs.States.{facts_of}
use Rattle.working_volume.specs.state_store.Rooms.{MayNumber}
use Rattle.volume_core.specs.Volumes.{SeenVolume}
use Rattle.volume_core.proofs.Working.{done, room_stays}
use Rattle.volume_core.proofs.Stepping.{tree_steps}
use Rattle.volume_core.proofs.Histories.{goes_on}
use Rattle.volume_core.proofs.volume.Volume.change.Goals as goal

pub returns-clause-tree : goal.returns-clause-tree
returns-clause-tree g c =
    rw (← c.self.view_is)
    (tree_steps c.steps_of_trees.ensures c.steps_stay.ensures c.args.op.now c.args.stamp (live_parts c.self.inside.live) (live_parts c.change_over.new.live) c.self.inside.upper c.requires.changes c.self.inside.streams c.change_over.result (g.D.Device.gives c.self.inside.store.device)
    (g.D.Device.gives c.change_over.new.store.device) c.self.inside.store.state c.change_over.new.store.state (g.D.Device.changes_of c.self.inside.store.device) (g.D.Device.changes_of c.change_over.new.store.device) c.change_over.ensures.does c.self.invariant.holds c.self.invariant.ready)

pub returns-clause-history : goal.returns-clause-history
returns-clause-history g c =
    rw (← c.self.view_is)
    (goes_on g.D.Device.gives g.D.Device.sector_count g.D.Device.changes_of (record { store = c.self.inside.store; map = live_parts c.self.inside.live; table = c.self.inside.upper; streams = c.self.inside.streams })
    (record { store = c.change_over.new.store; map = live_parts c.change_over.new.live; table = c.self.inside.upper; streams = c.self.inside.streams }) refl c.change_over.ensures.sectors
    c.trees_put.ensures c.trees_mount.ensures c.self.inside.streams (subst (λ (v : SeenVolume _). MayNumber (facts_of v.store.state)) (sym c.self.view_is) c.requires.number) c.args.op.now c.args.stamp c.change_over.result c.change_over.ensures.does)

pub invariant_of-self : goal.invariant_of-self
invariant_of-self g c =
    done c.args.op.now c.args.stamp c.self.inside.upper c.self.inside.streams c.change_over.result (g.D.Device.gives c.self.inside.store.device) (g.D.Device.gives c.change_over.new.store.device) c.self.inside.store.state c.change_over.new.store.state (g.D.Device.changes_of c.self.inside.store.device)
    (g.D.Device.changes_of c.change_over.new.store.device) (live_parts c.self.inside.live) (live_parts c.change_over.new.live) c.self.inside.names _ c.change_over.ensures.does c.self.invariant.ring c.change_over.ensures.holds c.change_over.ensures.named c.change_over.ensures.ready
    (room_stays c.self.inside.room.len c.change_over.new.room c.self.inside.room.items (search rules) (search rules))
