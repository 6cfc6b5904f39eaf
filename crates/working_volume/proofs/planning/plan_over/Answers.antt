use Rattle.std.proofs.Common.{rules, ◌∙◌, arith}
use Rattle.change_plan.specs.Faults.{plan_cause}
use Rattle.put_checks.proofs.state_store.Reading.{store_failed, store_counts}
use Rattle.working_volume.proofs.planning.plan_over.Goals as goal

pub returns-clause-fault : goal.returns-clause-fault
returns-clause-fault g c = λ fault.
    store_failed g.D.Device.gives g.D.Device.sector_count g.D.Device.changes_of g.D.Device.fault_count g.D.Device.moment_of c.args.store.now _ _ _ _ _ _ (c.plan_change.ensures.asks.stays ∙ c.new-view.ensures.kept) (omega (arith, c.new-view.ensures.faults)) (rw fault at c.plan_change.ensures.asks.counted) (search rules)

pub returns-clause-counted : goal.returns-clause-counted
returns-clause-counted g c =
    store_counts plan_cause c.plan_change.result g.D.Device.gives g.D.Device.sector_count g.D.Device.changes_of g.D.Device.fault_count g.D.Device.moment_of c.args.store.now _ _ _ _ _ _ (c.plan_change.ensures.asks.stays ∙ c.new-view.ensures.kept) c.new-view.ensures.faults c.plan_change.new.view.later c.plan_change.ensures.asks.counted (search rules)
