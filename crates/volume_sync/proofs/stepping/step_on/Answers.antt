use Rattle.volume_sync.proofs.Runs.{runs_turned}
use Rattle.volume_sync.proofs.stepping.step_on.Goals as goal

pub returns-clause-runs : goal.returns-clause-runs
returns-clause-runs g c =
    let t = c.turn-result.ensures in
    runs_turned g.D.Device.gives g.D.Device.sector_count g.D.Device.moment_of g.D.Device.changes_of c.args.step c.turn-result.result c.args.volume.now c.turn-result.new.self c.facts.ensures.kept c.facts.ensures.steps
    (record { may = c.requires.may; facts = t.facts; sent = t.sent; sectors = t.sectors; step_is = t.step }) t.history t.tree t.map t.table t.streams t.stands.commits
