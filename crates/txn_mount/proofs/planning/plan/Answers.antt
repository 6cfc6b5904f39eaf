use Rattle.std.proofs.Common.{ℕ, ◌*◌, ◌≤◌, subst, sym, ◌∙◌}
use Rattle.txn_mount.proofs.Knowing.{reads_disk_law}
use Rattle.txn_mount.proofs.Planned.{plans_known, own_refuses, own_broken, own_never_fails, own_counts}
use Rattle.txn_mount.proofs.planning.plan.Goals as goal

pub returns-clause-on : goal.returns-clause-on
returns-clause-on g c =
    plans_known c.args.place.now c.args.kept.now c.sectors.result c.in_ok-found.found (g.D.Device.changes_of c.args.device.now).disk c.requires.ring
    (subst (λ (n : ℕ). 8 * c.args.place.now.clusters ≤ n) (sym (c.sectors.ensures ∙ c.in_ok-found.ensures.kept.sectors)) c.requires.whole) c.plan_for.result c.plan_for.ensures.plan c.plan_for.ensures.found
    (reads_disk_law c.args.place.now c.args.kept.now c.in_ok-found.found (g.D.Device.gives c.args.device.now) (g.D.Device.changes_of c.args.device.now).disk (g.met.D.Device.seen c.args.device.now) c.in_ok-found.ensures.answer)

pub returns-clause-refusals : goal.returns-clause-refusals
returns-clause-refusals g c =
    own_refuses c.args.place.now c.args.kept.now c.in_ok-found.found c.requires.ring (g.D.Device.gives c.args.device.now) (g.D.Device.changes_of c.args.device.now).disk (g.met.D.Device.seen c.args.device.now)
    (reads_disk_law c.args.place.now c.args.kept.now c.in_ok-found.found (g.D.Device.gives c.args.device.now) (g.D.Device.changes_of c.args.device.now).disk (g.met.D.Device.seen c.args.device.now) c.in_ok-found.ensures.answer)
    c.plan_for.result c.plan_for.ensures.fault

pub returns-clause-broken : goal.returns-clause-broken
returns-clause-broken g c =
    own_broken c.args.place.now c.args.kept.now c.in_ok-found.found c.requires.ring (g.D.Device.gives c.args.device.now) (g.D.Device.changes_of c.args.device.now).disk (g.met.D.Device.seen c.args.device.now)
    (reads_disk_law c.args.place.now c.args.kept.now c.in_ok-found.found (g.D.Device.gives c.args.device.now) (g.D.Device.changes_of c.args.device.now).disk (g.met.D.Device.seen c.args.device.now) c.in_ok-found.ensures.answer)
    c.plan_for.result c.plan_for.ensures.fault

pub returns-clause-fault : goal.returns-clause-fault
returns-clause-fault g c = λ is. absurd (own_never_fails c.args.place.now.pages c.in_ok-found.found.recovered c.plan_for.result c.plan_for.ensures.fault is)

pub returns-clause-counted : goal.returns-clause-counted
returns-clause-counted g c = λ early. own_counts c.args.place.now.pages c.in_ok-found.found.recovered _ _ _ c.plan_for.result c.plan_for.ensures.fault (c.in_ok-found.ensures.counted early)
