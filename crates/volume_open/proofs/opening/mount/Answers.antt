use Rattle.std.proofs.Common.{subst, sym}
use Rattle.std.specs.Prelude.{IfSome}
use Rattle.volume_core.specs.txn_core.Seen.{Seen}
use Rattle.volume_start.specs.Starts.{StaysStarted}
use Rattle.map_change.specs.Parts.{live_parts}
use Rattle.volume_open.proofs.Opened.{holds, ready, opens_by}
use Rattle.volume_open.proofs.opening.mount.Goals as goal

pub over-requires-clause-holds : goal.over-requires-clause-holds
over-requires-clause-holds g c =
    holds g.D.Device.gives g.D.Device.sector_count g.D.Device.changes_of c.args.device c.in-Ok.started.store.device c.in-Ok.started.store.state (live_parts c.in-Ok.started.live) c.in-Ok.started.upper c.in-Ok.started.streams c.in-Ok.ensures.anywhere c.in-Ok.ensures.starts

pub over-requires-clause-ready : goal.over-requires-clause-ready
over-requires-clause-ready g c =
    ready g.D.Device.gives g.D.Device.sector_count g.D.Device.changes_of c.args.device c.in-Ok.started.store.device c.in-Ok.started.store.state (live_parts c.in-Ok.started.live) c.in-Ok.started.upper c.in-Ok.started.streams c.in-Ok.ensures.anywhere c.in-Ok.ensures.starts

pub returns-in-Ok-clause-opened : goal.returns-in-Ok-clause-opened
returns-in-Ok-clause-opened g c =
    opens_by g.D.Device.gives g.D.Device.sector_count g.D.Device.changes_of c.args.device c.in-Ok.started.store (live_parts c.in-Ok.started.live) c.in-Ok.started.upper c.in-Ok.started.streams c.over.result c.over.ensures.store c.over.ensures.map c.over.ensures.table c.in-Ok.ensures.starts c.over.ensures.starts

pub returns-in-Ok-clause-stays : goal.returns-in-Ok-clause-stays
returns-in-Ok-clause-stays g c =
    subst (λ (s : Seen g.row.D.Denot). IfSome (g.D.Device.gives c.args.device) (λ first. StaysStarted (g.D.Device.sector_count c.args.device) (g.D.Device.moment_of c.args.device) first (g.D.Device.changes_of c.args.device) (g.D.Device.changes_of s.device))) (sym c.over.ensures.store) c.in-Ok.ensures.stays
