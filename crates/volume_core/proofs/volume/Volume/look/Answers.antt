use Rattle.std.proofs.Common.{subst, refl, Option}
use Rattle.file_tree.specs.declared.tree.Tree.{Tree}
use Rattle.working_volume.specs.map_change.Parts.{live_parts}
use Rattle.volume_core.specs.Looks.{CountsLook}
use Rattle.volume_core.proofs.Counting.{replies}
use Rattle.volume_core.proofs.Working.{tree_known}
use Rattle.volume_core.proofs.Histories.{looked_trees}
use Rattle.volume_core.proofs.volume.Volume.look.Goals as goal

pub returns-clause-replies : goal.returns-clause-replies
returns-clause-replies g c =
    rw (← c.self.view_is)
    (replies c.self.inside.upper c.args.op.now c.look_over.result _ _
    (tree_known (g.D.Device.gives c.self.inside.store.device) c.self.inside.store.state (live_parts c.self.inside.live) c.self.inside.upper c.self.invariant.holds.shown) c.look_over.ensures.value c.look_over.ensures.step)

pub returns-clause-counts : goal.returns-clause-counts
returns-clause-counts g c =
    rw (← c.self.view_is)
    (subst (λ (o : Option Tree). CountsLook g.D.Device.fault_count g.D.Device.moment_of o c.look_over.result c.self.inside.store c.look_over.new.store)
    (tree_known (g.D.Device.gives c.self.inside.store.device) c.self.inside.store.state (live_parts c.self.inside.live) c.self.inside.upper c.self.invariant.holds.shown) c.look_over.ensures.counts)

pub returns-clause-history : goal.returns-clause-history
returns-clause-history g c =
    rw (← c.self.view_is)
    (looked_trees g.D.Device.gives g.D.Device.sector_count g.D.Device.changes_of (record { store = c.self.inside.store; map = live_parts c.self.inside.live; table = c.self.inside.upper; streams = c.self.inside.streams })
    (record { store = c.look_over.new.store; map = live_parts c.self.inside.live; table = c.self.inside.upper; streams = c.self.inside.streams }) refl c.look_over.ensures.kept.sectors g.D.Device.fault_count g.D.Device.moment_of c.look_over.ensures.kept refl)
