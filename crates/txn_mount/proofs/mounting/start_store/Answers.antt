use Rattle.txn_core.specs.txn_state.States.{facts_of}
use Rattle.txn_mount.proofs.Behind.{starts_as}
use Rattle.txn_mount.proofs.mounting.start_store.Goals as goal

pub on-requires-clause-starts : goal.on-requires-clause-starts
on-requires-clause-starts g c = starts_as g.D.Device.changes_of (facts_of c.over-state.result) c.args.place c.args.log c.args.kept.items c.args.device c.over-state.ensures c.requires.starts
