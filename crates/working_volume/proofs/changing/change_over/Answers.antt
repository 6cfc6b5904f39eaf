use Rattle.std.proofs.Common.{subst, ap, refl, Ok, Err}
use Rattle.plans_lead.specs.map_change.Parts.{live_parts}
use Rattle.tree_model.specs.declared.reply.Reply.TheVariants as replies
use Rattle.change_plan.specs.declared.fault.PlanFault.{PlanFault}
use Rattle.working_volume.specs.declared.fault.DoFault.TheVariants.{Unknown}
use Rattle.plans_lead.specs.txn_state.States.{StateOf, facts_of, IsStore}
use Rattle.plans_lead.specs.txn_core.Views.{present_content}
use Rattle.working_volume.proofs.Taking.{failed_step, memory_step}
use Rattle.working_volume.proofs.Putting.{since, does, unplanned_counts, memory_counts, unknown_counts, unplanned_reply, unplanned_unknown}
use Rattle.working_volume.proofs.changing.change_over.Goals as goal

pub returns-in-Ok-clause-ready : goal.returns-in-Ok-clause-ready
returns-in-Ok-clause-ready g c =
    (since g.D.Device.gives g.D.Device.sector_count g.D.Device.changes_of g.D.Device.fault_count g.D.Device.moment_of c.args.store.now c.plan_on.new.store c.in-Ok.ensures.kept c.put_plan.result c.in-Ok.plan c.put_plan.new.store (live_parts c.args.live.now) (live_parts c.put_plan.new.live) c.args.upper.now
    c.in-Ok.ensures.counted.counted c.put_plan.ensures.puts).ready c.args.streams.now c.requires.ready c.in-Ok.ensures.taken

pub returns-in-Ok-clause-does : goal.returns-in-Ok-clause-does
returns-in-Ok-clause-does g c =
    does g.D.Device.gives g.D.Device.sector_count g.D.Device.changes_of g.D.Device.fault_count g.D.Device.moment_of c.put_plan.result c.in-Ok.plan c.args.store.now c.put_plan.new.store (live_parts c.args.live.now) (live_parts c.put_plan.new.live) c.args.upper.now c.args.streams.now c.args.op.now c.args.stamp
    c.requires.changes c.in-Ok.ensures.plans c.in-Ok.ensures.taken
    (since g.D.Device.gives g.D.Device.sector_count g.D.Device.changes_of g.D.Device.fault_count g.D.Device.moment_of c.args.store.now c.plan_on.new.store c.in-Ok.ensures.kept c.put_plan.result c.in-Ok.plan c.put_plan.new.store (live_parts c.args.live.now) (live_parts c.put_plan.new.live) c.args.upper.now
    c.in-Ok.ensures.counted.counted c.put_plan.ensures.puts)

pub returns-in-Ok-clause-counts : goal.returns-in-Ok-clause-counts
returns-in-Ok-clause-counts g c =
    (since g.D.Device.gives g.D.Device.sector_count g.D.Device.changes_of g.D.Device.fault_count g.D.Device.moment_of c.args.store.now c.plan_on.new.store c.in-Ok.ensures.kept c.put_plan.result c.in-Ok.plan c.put_plan.new.store (live_parts c.args.live.now) (live_parts c.put_plan.new.live) c.args.upper.now
    c.in-Ok.ensures.counted.counted c.put_plan.ensures.puts).counts

pub returns-in-Err-Fault-clause-counts : goal.returns-in-Err-Fault-clause-counts
returns-in-Err-Fault-clause-counts g c =
    unplanned_counts g.D.Device.gives g.D.Device.sector_count g.D.Device.changes_of g.D.Device.fault_count g.D.Device.moment_of c.args.store.now c.plan_on.new.store c.in-Err-Fault.ensures.kept (Ok replies.Fault)
    (λ is. c.in-Err-Fault.ensures.fault (ap (λ (e : PlanFault). Err e) c.in-Err-Fault.field-0-is)) (λ early other. absurd (other refl))

pub returns-in-Err-Memory-clause-counts : goal.returns-in-Err-Memory-clause-counts
returns-in-Err-Memory-clause-counts g c =
    unplanned_counts g.D.Device.gives g.D.Device.sector_count g.D.Device.changes_of g.D.Device.fault_count g.D.Device.moment_of c.args.store.now c.plan_on.new.store c.in-Err-Memory.ensures.kept (Ok replies.Memory)
    (λ is. absurd cc) (λ early other. memory_counts c.in-Err-Memory.field-0 _ _ _ c.in-Err-Memory.field-0-is (c.in-Err-Memory.ensures.counted.counted early))

pub returns-in-Err-Unknown-clause-counts : goal.returns-in-Err-Unknown-clause-counts
returns-in-Err-Unknown-clause-counts g c =
    unplanned_counts g.D.Device.gives g.D.Device.sector_count g.D.Device.changes_of g.D.Device.fault_count g.D.Device.moment_of c.args.store.now c.plan_on.new.store c.in-Err-Unknown.ensures.kept (Err Unknown)
    (λ is. absurd cc) (λ early other. unknown_counts c.in-Err-Unknown.field-0 _ _ _ c.in-Err-Unknown.field-0-is (c.in-Err-Unknown.ensures.counted.counted early))

pub returns-in-Err-Fault-clause-does : goal.returns-in-Err-Fault-clause-does
returns-in-Err-Fault-clause-does g c =
    unplanned_reply g.D.Device.gives g.D.Device.sector_count g.D.Device.changes_of g.D.Device.fault_count g.D.Device.moment_of c.args.store.now c.plan_on.new.store c.in-Err-Fault.ensures.kept replies.Fault c.args.op.now c.args.stamp (live_parts c.args.live.now) c.args.upper.now c.args.streams.now
    (failed_step (present_content (g.D.Device.gives c.args.store.now.device) c.args.store.now.state) (live_parts c.args.live.now) c.args.streams.now c.args.op.now c.args.stamp c.in-Err-Fault.field-0 c.in-Err-Fault.field-0-is c.in-Err-Fault.ensures.plans)
    c.requires.holds (subst (λ (s : StateOf). IsStore (facts_of s)) c.state.ensures c.known.ensures) (g.met.D.Device.whole c.args.store.now.device)

pub returns-in-Err-Memory-clause-does : goal.returns-in-Err-Memory-clause-does
returns-in-Err-Memory-clause-does g c =
    unplanned_reply g.D.Device.gives g.D.Device.sector_count g.D.Device.changes_of g.D.Device.fault_count g.D.Device.moment_of c.args.store.now c.plan_on.new.store c.in-Err-Memory.ensures.kept replies.Memory c.args.op.now c.args.stamp (live_parts c.args.live.now) c.args.upper.now c.args.streams.now
    (memory_step (present_content (g.D.Device.gives c.args.store.now.device) c.args.store.now.state) (live_parts c.args.live.now) c.args.streams.now c.args.op.now c.args.stamp c.in-Err-Memory.field-0 c.in-Err-Memory.field-0-is c.in-Err-Memory.ensures.plans)
    c.requires.holds (subst (λ (s : StateOf). IsStore (facts_of s)) c.state.ensures c.known.ensures) (g.met.D.Device.whole c.args.store.now.device)

pub returns-in-Err-Unknown-clause-does : goal.returns-in-Err-Unknown-clause-does
returns-in-Err-Unknown-clause-does g c =
    unplanned_unknown g.D.Device.gives g.D.Device.sector_count g.D.Device.changes_of g.D.Device.fault_count g.D.Device.moment_of c.args.store.now c.plan_on.new.store c.in-Err-Unknown.ensures.kept c.args.op.now c.args.stamp (live_parts c.args.live.now) c.args.upper.now c.args.streams.now
    c.requires.holds (subst (λ (s : StateOf). IsStore (facts_of s)) c.state.ensures c.known.ensures) (g.met.D.Device.whole c.args.store.now.device)
