use Rattle.std.proofs.Common.{rules, ◌∙◌, arith}
use Rattle.same_names.specs.volume_map.Errors.{map_cause}
use Rattle.state_store.proofs.Reading.{store_failed, store_counts}
use Rattle.state_store.proofs.preparing.prepare_through.Goals as goal

pub returns-clause-fault : goal.returns-clause-fault
returns-clause-fault g c = λ fault.
    store_failed g.D.Device.gives g.D.Device.sector_count g.D.Device.changes_of g.D.Device.fault_count g.D.Device.moment_of c.args.store.now _ _ _ _ _ _ (c.prepare.ensures.kept.stays ∙ c.new-view.ensures.kept) (omega (arith, c.new-view.ensures.faults)) (rw fault at c.prepare.ensures.kept.counted) (search rules)

pub returns-clause-counted : goal.returns-clause-counted
returns-clause-counted g c =
    store_counts map_cause c.prepare.result g.D.Device.gives g.D.Device.sector_count g.D.Device.changes_of g.D.Device.fault_count g.D.Device.moment_of c.args.store.now _ _ _ _ _ _ (c.prepare.ensures.kept.stays ∙ c.new-view.ensures.kept) c.new-view.ensures.faults c.prepare.new.view.later c.prepare.ensures.kept.counted (search rules)
