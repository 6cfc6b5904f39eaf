use Rattle.std.proofs.Common.{List, ℕ, Option, subst}
use Rattle.std.specs.Prelude.{IfSome}
use Rattle.host_base.specs.Answers.{ExplainsOrFails}
use Rattle.host_base.proofs.Known.{both}
use Rattle.disk_model.specs.Sectors.{sector_of}
use Rattle.disk_model.specs.Content.{content_of}
use Rattle.log_recovery.specs.Writing.{to_write_in}
use Rattle.txn_state.specs.States.{StateOf, facts_of, IsStore}
use Rattle.txn_mount.specs.Faults.{store_cause}
use Rattle.volume_start.specs.Plans.{PlansOn}
use Rattle.volume_start.proofs.Fitted.{log_place}
use Rattle.volume_start.proofs.Beginning.{started_then}
use Rattle.volume_start.proofs.Anywhere.{begins_anywhere}
use Rattle.volume_start.proofs.Answering.{store_known}
use Rattle.volume_start.proofs.Failing.{counts_store, store_stops}
use Rattle.volume_start.proofs.Leaving.{mounted_stays, stopped_stays}
use Rattle.volume_start.proofs.starting.mount_store.Goals as goal

pub mount-requires-clause-log : goal.mount-requires-clause-log
mount-requires-clause-log g c = log_place (g.D.Device.sector_count c.args.device) c.args.plan.place c.requires.fits.fits

pub returns-in-Ok-clause-starts : goal.returns-in-Ok-clause-starts
returns-in-Ok-clause-starts g c = λ first known.
    started_then g.D.Device.gives g.D.Device.sector_count g.D.Device.changes_of g.D.Device.fault_count g.D.Device.moment_of g.met.D.Device.seen g.met.D.Device.whole g.met.D.Device.few
    c.mounts_hold_states.ensures c.found_lie_off.ensures c.all_put_out.ensures c.stores_keep_found.ensures c.stores_begin.ensures c.stores_may_be_changed.ensures c.stores_show_mounted.ensures c.state_has_bitmap.ensures
    c.args.device c.in-Ok.mounted.store.device c.args.plan c.in-Ok.mounted.store.state c.requires.fits.fits (subst (λ (s : StateOf). IsStore (facts_of s)) c.state.ensures c.known.ensures) c.in-Ok.ensures.sectors c.in-Ok.ensures.mounted
    c.in-Ok.ensures.shows c.in-Ok.ensures.starts first known (subst (λ (o : Option (List (List ℕ))). IfSome o (λ x. PlansOn x c.args.plan)) known c.requires.on) c.requires.settled

pub returns-in-Ok-clause-anywhere : goal.returns-in-Ok-clause-anywhere
returns-in-Ok-clause-anywhere g c =
    begins_anywhere g.D.Device.gives g.D.Device.sector_count g.D.Device.changes_of g.D.Device.fault_count g.D.Device.moment_of g.met.D.Device.seen g.met.D.Device.few c.args.device c.in-Ok.mounted.store.device c.args.plan c.in-Ok.mounted.store.state c.requires.fits.fits c.in-Ok.ensures.mounted

pub returns-in-Ok-clause-stays : goal.returns-in-Ok-clause-stays
returns-in-Ok-clause-stays g c =
    mounted_stays g.D.Device.gives g.D.Device.sector_count g.D.Device.changes_of g.D.Device.fault_count g.D.Device.moment_of g.met.D.Device.seen g.met.D.Device.whole g.met.D.Device.few
    c.mounts_hold_states.ensures c.found_lie_off.ensures c.all_put_out.ensures c.stores_keep_found.ensures c.stopped_starts_mount.ensures
    c.args.device c.in-Ok.mounted.store.device c.args.plan c.requires.fits.fits c.requires.settled c.requires.on c.in-Ok.ensures.images (facts_of c.in-Ok.mounted.store.state) c.in-Ok.ensures.mounted

pub returns-in-Ok-clause-counted : goal.returns-in-Ok-clause-counted
returns-in-Ok-clause-counted g c = c.in-Ok.ensures.counted c.requires.before

pub returns-in-Err-clause-stays : goal.returns-in-Err-clause-stays
returns-in-Err-clause-stays g c =
    stopped_stays g.D.Device.gives g.D.Device.sector_count g.D.Device.changes_of g.D.Device.fault_count g.D.Device.moment_of g.met.D.Device.seen g.met.D.Device.whole g.met.D.Device.few
    c.mounts_hold_states.ensures c.found_lie_off.ensures c.all_put_out.ensures c.stores_keep_found.ensures c.stopped_starts_mount.ensures
    c.args.device c.in-Err.device c.args.plan c.requires.fits.fits c.requires.settled c.requires.on c.in-Err.ensures.images c.in-Err.fault c.in-Err.ensures.stops

pub returns-in-Err-clause-errors : goal.returns-in-Err-clause-errors
returns-in-Err-clause-errors g c =
    store_stops g.D.Device.gives g.D.Device.sector_count g.D.Device.changes_of g.D.Device.fault_count g.D.Device.moment_of c.args.plan.place c.args.plan.kept.items c.in-Err.fault c.from.result c.args.device c.in-Err.device c.from.ensures c.in-Err.ensures.stops c.in-Err.ensures.fault
    (both _ (λ first. PlansOn first c.args.plan) (λ first. ExplainsOrFails (store_cause c.in-Err.fault) (to_write_in (content_of (sector_of first)) c.args.plan.place c.args.plan.kept.items)) _
    (λ first on said. store_known c.mounts_hold_states.ensures first c.args.plan (g.D.Device.sector_count c.args.device) c.requires.fits.fits on c.in-Err.fault said) c.requires.on c.in-Err.ensures.refusals)

pub returns-in-Err-clause-counted : goal.returns-in-Err-clause-counted
returns-in-Err-clause-counted g c = counts_store c.in-Err.fault c.from.result (g.D.Device.fault_count c.args.device) (g.D.Device.fault_count c.in-Err.device) (g.D.Device.moment_of c.in-Err.device) c.from.ensures (c.in-Err.ensures.counted c.requires.before)
