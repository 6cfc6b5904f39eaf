use Rattle.std.proofs.Common.{subst, sym, ◌∙◌}
use Rattle.plans_lead.specs.map_change.Parts.{live_parts}
use Rattle.plans_lead.specs.txn_state.States.{StateOf, facts_of, IsStore}
use Rattle.put_checks.specs.Checks.{may_put}
use Rattle.working_volume.proofs.Putting.{refused}
use Rattle.working_volume.proofs.changing.put_some.Goals as goal

pub returns-then-not-may_be_put : goal.returns-then-not-may_be_put
returns-then-not-may_be_put g c =
    record {
      puts = refused g.D.Device.gives g.D.Device.sector_count g.D.Device.changes_of g.D.Device.fault_count g.D.Device.moment_of c.args.plan c.args.store.now (live_parts c.args.live.now) c.args.upper.now (may_put c.args.store.now.state.place c.args.store.now.state.found c.args.plan.changes.items) c.requires.passes
          (sym (rw c.deref.ensures.value at c.may_be_put.ensures) ∙ c.if-not-may_be_put.true) c.requires.holds (subst (λ (s : StateOf). IsStore (facts_of s)) c.state.ensures c.known.ensures) (g.met.D.Device.whole c.args.store.now.device);
    }

pub put_tried-requires-clause-each : goal.put_tried-requires-clause-each
put_tried-requires-clause-each g c = (c.checks_are_enough.ensures (facts_of c.args.store.now.state) c.args.plan.changes.items c.requires.ring c.requires.holds.near (sym (rw c.deref.ensures.value at c.may_be_put.ensures) ∙ c.if-not-may_be_put.false)).0

pub put_tried-requires-clause-apart : goal.put_tried-requires-clause-apart
put_tried-requires-clause-apart g c = (c.checks_are_enough.ensures (facts_of c.args.store.now.state) c.args.plan.changes.items c.requires.ring c.requires.holds.near (sym (rw c.deref.ensures.value at c.may_be_put.ensures) ∙ c.if-not-may_be_put.false)).1
