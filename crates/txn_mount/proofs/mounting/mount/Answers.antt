use Rattle.std.proofs.Common.{List, subst}
use Rattle.disk_model.specs.declared.block.Block.{Block}
use Rattle.txn_mount.specs.Plans.{IsPlanOn}
use Rattle.txn_mount.proofs.Behind.{all_mounted, all_stop, all_shadowed, all_shown, all_stay}
use Rattle.txn_mount.proofs.mounting.mount.Goals as goal

pub returns-in-Ok-clause-mounted : goal.returns-in-Ok-clause-mounted
returns-in-Ok-clause-mounted g c =
    all_mounted g.D.Device.gives g.D.Device.sector_count g.D.Device.changes_of g.D.Device.fault_count g.D.Device.moment_of c.args.place c.args.kept.items c.args.device c.in-Ok.plan c.plan.new.device c.in-Ok.ensures.plan (subst (λ (ks : List Block). IsPlanOn (g.D.Device.changes_of c.args.device).disk c.args.place ks c.in-Ok.plan) c.deref.ensures.value c.in-Ok.ensures.on) c.in-Ok.ensures.kept c.carry_out.result c.carry_out.ensures.done c.carry_out.ensures.facts

pub returns-in-Ok-clause-stops : goal.returns-in-Ok-clause-stops
returns-in-Ok-clause-stops g c =
    all_stop g.D.Device.gives g.D.Device.sector_count g.D.Device.changes_of g.D.Device.fault_count g.D.Device.moment_of c.args.place c.args.kept.items c.args.device c.in-Ok.plan c.plan.new.device c.in-Ok.ensures.plan (subst (λ (ks : List Block). IsPlanOn (g.D.Device.changes_of c.args.device).disk c.args.place ks c.in-Ok.plan) c.deref.ensures.value c.in-Ok.ensures.on) c.in-Ok.ensures.kept c.carry_out.result c.carry_out.ensures.stops

pub returns-in-Ok-clause-shadows : goal.returns-in-Ok-clause-shadows
returns-in-Ok-clause-shadows g c =
    all_shadowed g.D.Device.gives g.D.Device.sector_count g.D.Device.changes_of g.D.Device.fault_count g.D.Device.moment_of c.args.place c.args.kept.items c.args.device c.in-Ok.plan c.plan.new.device c.in-Ok.ensures.plan (subst (λ (ks : List Block). IsPlanOn (g.D.Device.changes_of c.args.device).disk c.args.place ks c.in-Ok.plan) c.deref.ensures.value c.in-Ok.ensures.on) c.in-Ok.ensures.kept c.carry_out.result c.carry_out.ensures.shadows

pub returns-in-Ok-clause-shows : goal.returns-in-Ok-clause-shows
returns-in-Ok-clause-shows g c =
    all_shown g.D.Device.gives g.D.Device.sector_count g.D.Device.changes_of g.D.Device.fault_count g.D.Device.moment_of c.args.place c.args.kept.items c.args.device g.met.D.Device.seen g.met.D.Device.values c.carry_out.result
    (all_mounted g.D.Device.gives g.D.Device.sector_count g.D.Device.changes_of g.D.Device.fault_count g.D.Device.moment_of c.args.place c.args.kept.items c.args.device c.in-Ok.plan c.plan.new.device c.in-Ok.ensures.plan (subst (λ (ks : List Block). IsPlanOn (g.D.Device.changes_of c.args.device).disk c.args.place ks c.in-Ok.plan) c.deref.ensures.value c.in-Ok.ensures.on) c.in-Ok.ensures.kept c.carry_out.result c.carry_out.ensures.done c.carry_out.ensures.facts)

pub returns-in-Ok-clause-images : goal.returns-in-Ok-clause-images
returns-in-Ok-clause-images g c =
    all_stay g.D.Device.gives g.D.Device.sector_count g.D.Device.changes_of g.D.Device.fault_count g.D.Device.moment_of c.args.place c.args.kept.items c.args.device g.met.D.Device.seen g.met.D.Device.values g.met.D.Device.over c.carry_out.result
    (all_mounted g.D.Device.gives g.D.Device.sector_count g.D.Device.changes_of g.D.Device.fault_count g.D.Device.moment_of c.args.place c.args.kept.items c.args.device c.in-Ok.plan c.plan.new.device c.in-Ok.ensures.plan (subst (λ (ks : List Block). IsPlanOn (g.D.Device.changes_of c.args.device).disk c.args.place ks c.in-Ok.plan) c.deref.ensures.value c.in-Ok.ensures.on) c.in-Ok.ensures.kept c.carry_out.result c.carry_out.ensures.done c.carry_out.ensures.facts)
    (all_stop g.D.Device.gives g.D.Device.sector_count g.D.Device.changes_of g.D.Device.fault_count g.D.Device.moment_of c.args.place c.args.kept.items c.args.device c.in-Ok.plan c.plan.new.device c.in-Ok.ensures.plan (subst (λ (ks : List Block). IsPlanOn (g.D.Device.changes_of c.args.device).disk c.args.place ks c.in-Ok.plan) c.deref.ensures.value c.in-Ok.ensures.on) c.in-Ok.ensures.kept c.carry_out.result c.carry_out.ensures.stops)
