use Rattle.std.proofs.Common.{sym, refl, ◌∙◌}
use Rattle.txn_state.specs.States.{facts_of}
use Rattle.volume_sync.proofs.Runs.{runs_none, runs_joined}
use Rattle.volume_sync.proofs.Rooms.{may_room, less_to_do, is_made}
use Rattle.volume_sync.proofs.rooming.make_room.Goals as goal

pub loop-step-init : goal.loop-step-init
loop-step-init g c = (c.told-facts.ensures.telling, c.has_next-next.ensures, refl, runs_none g.D.Device.gives g.D.Device.sector_count g.D.Device.moment_of g.D.Device.changes_of c.args.volume.now)

pub step_on-requires : goal.step_on-requires
step_on-requires g c =
    let i = c.loop-step.invariant in
    record { may = may_room (facts_of c.loop-step.volume.store.state) c.args.pages c.loop-step.next c.loop-step.facts c.in-Some.step i.0 i.1 (sym c.in-Some.ensures.step) }

pub returns-in-Err-clause-runs : goal.returns-in-Err-clause-runs
returns-in-Err-clause-runs g c = runs_joined g.D.Device.gives g.D.Device.sector_count g.D.Device.moment_of g.D.Device.changes_of c.args.volume.now c.loop-step.volume c.step_on.new.volume c.loop-step.invariant.3 c.step_on.ensures.runs

pub loop-step-smaller : goal.loop-step-smaller
loop-step-smaller g c =
    less_to_do c.loop-step.volume.store.state c.step_on.new.volume.store.state c.args.pages c.loop-step.next c.loop-step.facts c.told-facts-in-Some.result c.in-Some.step c.loop-step.invariant.0 c.told-facts-in-Some.ensures.telling (sym c.in-Some.ensures.step) c.in-Ok.ensures.facts

pub loop-step-preserved : goal.loop-step-preserved
loop-step-preserved g c = (
  c.told-facts-in-Some.ensures.telling,
  c.has_next-next-in-Some.ensures,
  c.in-Ok.ensures.cause.unfailed ∙ c.loop-step.invariant.2,
  runs_joined g.D.Device.gives g.D.Device.sector_count g.D.Device.moment_of g.D.Device.changes_of c.args.volume.now c.loop-step.volume c.step_on.new.volume c.loop-step.invariant.3 c.step_on.ensures.runs,
)

pub returns-clause-made : goal.returns-clause-made
returns-clause-made g c =
    let i = c.loop-step.invariant in
    is_made c.loop-step.volume.store.state c.args.pages c.loop-step.next c.loop-step.facts c.has_room.result i.0 i.1 c.has_room.ensures (sym c.in_default.ensures.step)
