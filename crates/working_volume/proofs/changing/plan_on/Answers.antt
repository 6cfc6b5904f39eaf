use Rattle.plans_lead.specs.map_change.Parts.{live_parts}
use Rattle.plans_lead.specs.txn_state.States.{facts_of}
use Rattle.plans_lead.specs.txn_core.Views.{present_content}
use Rattle.working_volume.proofs.Taking.{plans_here, never_unknown, plan_taken}
use Rattle.working_volume.proofs.changing.plan_on.Goals as goal

pub returns-clause-plans : goal.returns-clause-plans
returns-clause-plans g c =
    plans_here (present_content (g.D.Device.gives c.args.store.now.device) c.args.store.now.state) c.args.upper.now (facts_of c.args.store.now.state) (live_parts c.args.live.now) c.args.streams.now c.args.op.now c.args.stamp c.plan_over.result c.requires.ready
    (rw c.new-volume.ensures.map at c.plan_over.ensures.plans)

pub returns-clause-unknown : goal.returns-clause-unknown
returns-clause-unknown g c =
    never_unknown (g.D.Device.gives c.args.store.now.device) c.args.store.now.state c.args.upper.now (live_parts c.args.live.now) c.args.streams.now c.plan_over.result c.requires.ready (rw c.new-volume.ensures.map at c.plan_over.ensures.known)

pub returns-clause-taken : goal.returns-clause-taken
returns-clause-taken g c =
    plan_taken c.plans_lead_on.ensures c.checks_are_met.ensures (g.D.Device.gives c.args.store.now.device) (g.D.Device.changes_of c.args.store.now.device) c.args.store.now.state (live_parts c.args.live.now) c.args.upper.now c.args.streams.now c.args.op.now c.args.stamp c.plan_over.result
    c.requires.holds c.requires.ready
    (plans_here (present_content (g.D.Device.gives c.args.store.now.device) c.args.store.now.state) c.args.upper.now (facts_of c.args.store.now.state) (live_parts c.args.live.now) c.args.streams.now c.args.op.now c.args.stamp c.plan_over.result c.requires.ready (rw c.new-volume.ensures.map at c.plan_over.ensures.plans))
    c.plan_over.ensures.sound
