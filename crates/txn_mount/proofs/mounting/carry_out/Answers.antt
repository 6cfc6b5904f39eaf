use Rattle.std.proofs.Common.{refl, subst, sym, Ok, Err}
use Rattle.txn_mount.specs.Plans.{WritesPlan}
use Rattle.txn_mount.proofs.Behind.{puts_fit, names_first, opened_begun, starts_then, written_at}
use Rattle.txn_mount.proofs.mounting.carry_out.Goals as goal

pub write_down-requires-clause-put : goal.write_down-requires-clause-put
write_down-requires-clause-put g c = puts_fit c.args.place c.requires.ring (g.D.Device.sector_count c.args.device) c.args.plan c.requires.plan c.deref.result.now c.deref-2.result.now c.deref.ensures.value c.deref-2.ensures.value

pub write_down-requires-clause-place : goal.write_down-requires-clause-place
write_down-requires-clause-place g c = names_first c.args.place c.requires.ring (g.D.Device.sector_count c.args.device) c.args.plan c.requires.plan

pub start_store-store-requires-clause-begun : goal.start_store-store-requires-clause-begun
start_store-store-requires-clause-begun g c = opened_begun c.args.place c.requires.ring (g.D.Device.sector_count c.args.device) c.args.plan c.requires.plan c.write_down.new.log c.in-Ok.ensures.log

pub start_store-store-requires-clause-starts : goal.start_store-store-requires-clause-starts
start_store-store-requires-clause-starts g c =
    starts_then c.args.place c.requires.ring (g.D.Device.sector_count c.args.device) c.args.plan c.requires.plan g.D.Device.gives g.D.Device.changes_of g.D.Device.moment_of c.args.kept.items g.met.D.Device.seen g.met.D.Device.values c.args.device c.write_down.new.device c.requires.on
    (written_at c.args.place c.requires.ring (g.D.Device.sector_count c.args.device) c.args.plan c.requires.plan g.D.Device.gives g.D.Device.changes_of g.D.Device.moment_of c.deref.result.now c.deref-2.result.now c.deref.ensures.value c.deref-2.ensures.value (Ok tt) c.args.device c.write_down.new.device c.in-Ok.ensures.calls)
    c.write_down.new.log c.in-Ok.ensures.log

pub returns-in-Ok-clause-done : goal.returns-in-Ok-clause-done
returns-in-Ok-clause-done g c =
    subst (λ (d : g.row.D.Denot). WritesPlan g.D.Device.gives g.D.Device.changes_of g.D.Device.moment_of c.args.place c.args.plan (Ok tt) c.args.device d) (sym c.start_store-store.ensures.device)
    (written_at c.args.place c.requires.ring (g.D.Device.sector_count c.args.device) c.args.plan c.requires.plan g.D.Device.gives g.D.Device.changes_of g.D.Device.moment_of c.deref.result.now c.deref-2.result.now c.deref.ensures.value c.deref-2.ensures.value (Ok tt) c.args.device c.write_down.new.device c.in-Ok.ensures.calls)

pub returns-in-Err-clause-stops : goal.returns-in-Err-clause-stops
returns-in-Err-clause-stops g c = (
  refl,
  (c.in-Err.field-0, written_at c.args.place c.requires.ring (g.D.Device.sector_count c.args.device) c.args.plan c.requires.plan g.D.Device.gives g.D.Device.changes_of g.D.Device.moment_of c.deref.result.now c.deref-2.result.now c.deref.ensures.value c.deref-2.ensures.value (Err c.in-Err.field-0) c.args.device c.write_down.new.device c.in-Err.ensures.calls),
)
