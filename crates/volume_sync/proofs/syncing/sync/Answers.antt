use Rattle.std.proofs.Common.{sym, refl, ◌∙◌}
use Rattle.txn_state.specs.States.{facts_of}
use Rattle.volume_sync.proofs.Runs.{runs_none, runs_joined}
use Rattle.volume_sync.proofs.Syncs.{none_left, may_sync, less_left, dirty_stays, stays_idle, leaves_newest}
use Rattle.volume_sync.proofs.syncing.sync.Goals as goal

pub loop-step-init : goal.loop-step-init
loop-step-init g c = (refl, λ b. refl, λ all. refl, runs_none g.D.Device.gives g.D.Device.sector_count g.D.Device.moment_of g.D.Device.changes_of c.args.volume.now)

pub step_on-requires : goal.step_on-requires
step_on-requires g c = record { may = may_sync (facts_of c.loop-step.volume.store.state) c.in-Some.step (sym c.in-Some.ensures.step) }

pub returns-in-Err-clause-runs : goal.returns-in-Err-clause-runs
returns-in-Err-clause-runs g c = runs_joined g.D.Device.gives g.D.Device.sector_count g.D.Device.moment_of g.D.Device.changes_of c.args.volume.now c.loop-step.volume c.step_on.new.volume c.loop-step.invariant.3 c.step_on.ensures.runs

pub returns-in-Err-clause-dirty : goal.returns-in-Err-clause-dirty
returns-in-Err-clause-dirty g c =
    dirty_stays (facts_of c.args.volume.now.store.state) (facts_of c.loop-step.volume.store.state) (facts_of c.step_on.new.volume.store.state) c.in-Some.step c.step_on.result (sym c.in-Some.ensures.step) c.step_on.ensures.facts c.loop-step.invariant.1

pub returns-in-Err-clause-idle : goal.returns-in-Err-clause-idle
returns-in-Err-clause-idle g c = stays_idle c.args.volume.now c.loop-step.volume c.step_on.new.volume c.in-Some.step (sym c.in-Some.ensures.step) c.loop-step.invariant.2

pub loop-step-smaller : goal.loop-step-smaller
loop-step-smaller g c = less_left (facts_of c.loop-step.volume.store.state) (facts_of c.step_on.new.volume.store.state) c.in-Some.step c.step_on.ensures.kept (sym c.in-Some.ensures.step) c.in-Ok.ensures.facts

pub loop-step-preserved : goal.loop-step-preserved
loop-step-preserved g c = (
  c.in-Ok.ensures.cause.unfailed ∙ c.loop-step.invariant.0,
  dirty_stays (facts_of c.args.volume.now.store.state) (facts_of c.loop-step.volume.store.state) (facts_of c.step_on.new.volume.store.state) c.in-Some.step c.step_on.result (sym c.in-Some.ensures.step) c.step_on.ensures.facts c.loop-step.invariant.1,
  stays_idle c.args.volume.now c.loop-step.volume c.step_on.new.volume c.in-Some.step (sym c.in-Some.ensures.step) c.loop-step.invariant.2,
  runs_joined g.D.Device.gives g.D.Device.sector_count g.D.Device.moment_of g.D.Device.changes_of c.args.volume.now c.loop-step.volume c.step_on.new.volume c.loop-step.invariant.3 c.step_on.ensures.runs,
)

pub returns-clause-durable : goal.returns-clause-durable
returns-clause-durable g c = none_left (facts_of c.loop-step.volume.store.state) (sym c.in_default.ensures.step)

pub returns-clause-newest : goal.returns-clause-newest
returns-clause-newest g c =
    leaves_newest g.D.Device.gives g.D.Device.sector_count g.D.Device.changes_of c.loop-step.volume (none_left (facts_of c.loop-step.volume.store.state) (sym c.in_default.ensures.step)) c.left.ensures
