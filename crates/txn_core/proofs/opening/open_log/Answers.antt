use Rattle.std.proofs.Common.{ℕ, sym, ap, subst, ◌∙◌}
use Rattle.device_blocks.specs.log_area.Areas.{LogAreaOf, next_lsn, named_area, synced_area}
use Rattle.txn_laws.specs.Laws.{first_lsn}
use Rattle.txn_core.specs.Kept.{IsBegun}
use Rattle.txn_core.specs.Openings.{NamesAndSyncs}
use Rattle.txn_core.proofs.FirstPages.{first_begun, opens_then, oldest_is, oldest_place, remainder_small}
use Rattle.txn_core.proofs.opening.open_log.Goals as goal

pub name_and_sync-requires-clause-place : goal.name_and_sync-requires-clause-place
name_and_sync-requires-clause-place g c =
    oldest_place c.args.place.now c.requires.ring c.args.lap c.args.restart c.args.opens c.next-oldest.result c.in_ok-log.log c.in_ok-log.ensures.area
    (oldest_is c.args.place.now c.requires.ring c.args.lap c.args.restart c.args.opens c.next-oldest.result c.in_ok-log.log c.in_ok-log.ensures.area c.requires.lap c.next-oldest.ensures.exact)

pub returns-in-Ok-clause-starts : goal.returns-in-Ok-clause-starts
returns-in-Ok-clause-starts g c =
    opens_then g.D.Device.gives g.D.Device.changes_of g.D.Device.moment_of c.args.place.now c.requires.ring c.args.lap c.args.restart c.args.opens c.next-oldest.result c.args.device.now c.name_and_sync.new.device
    (oldest_is c.args.place.now c.requires.ring c.args.lap c.args.restart c.args.opens c.next-oldest.result c.in_ok-log.log c.in_ok-log.ensures.area c.requires.lap c.next-oldest.ensures.exact)
    (remainder_small c.next-oldest.result (next_lsn c.in_ok-log.log 0x58) c.next-oldest.ensures.value) c.requires.lap c.requires.opens c.requires.stands (g.met.D.Device.seen c.args.device.now) (g.met.D.Device.values c.name_and_sync.new.device)
    (subst (λ (a : LogAreaOf). NamesAndSyncs g.D.Device.gives g.D.Device.changes_of g.D.Device.moment_of a c.next-oldest.result c.args.device.now c.name_and_sync.new.device) c.in_ok-log.ensures.area c.in-Ok.ensures.sent)

pub returns-in-Ok-clause-begun : goal.returns-in-Ok-clause-begun
returns-in-Ok-clause-begun g c =
    subst IsBegun
    (sym (c.in-Ok.ensures.log ∙ ap (λ (n : ℕ). synced_area (named_area n c.in_ok-log.log)) (oldest_is c.args.place.now c.requires.ring c.args.lap c.args.restart c.args.opens c.next-oldest.result c.in_ok-log.log c.in_ok-log.ensures.area c.requires.lap c.next-oldest.ensures.exact)
    ∙ ap (λ (a : LogAreaOf). synced_area (named_area (first_lsn c.args.place.now c.args.lap c.args.restart c.args.opens) a)) c.in_ok-log.ensures.area))
    (first_begun c.args.place.now c.requires.ring c.args.lap c.args.restart c.args.opens)
