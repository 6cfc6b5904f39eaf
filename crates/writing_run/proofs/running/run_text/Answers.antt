use Rattle.std.proofs.Common.{◌∙◌, refl, inl, inr, arith}
use Rattle.writing_run.proofs.Outcomes.{printed_whole, uncalled, start_failed, ran_script}
use Rattle.writing_run.proofs.running.run_text.Goals as goal

pub returns-in-Err : goal.returns-in-Err
returns-in-Err g c =
    rw (c.not_run.ensures.text, c.not_run.ensures.flushed, c.not_run.ensures.device)
    (uncalled g.D.Device.gives g.D.Device.sector_count g.D.Device.moment_of g.D.Device.fault_count g.D.Device.changes_of g.met.D.Device.over g.met.D.Device.seen g.met.D.Device.whole c.args.script.now c.args.time _ c.args.device (λ other. absurd (other refl)) (λ none. inl refl))

pub returns-then-sectors-eq0 : goal.returns-then-sectors-eq0
returns-then-sectors-eq0 g c =
    let r = c.not_run-then-sectors-eq0.ensures in
    rw (r.text, r.flushed, r.device)
    (uncalled g.D.Device.gives g.D.Device.sector_count g.D.Device.moment_of g.D.Device.fault_count g.D.Device.changes_of g.met.D.Device.over g.met.D.Device.seen g.met.D.Device.whole c.args.script.now c.args.time _ c.args.device (λ other. inr (refl, omega (arith, c.if-sectors-eq0.true, c.sectors.ensures))) (λ none. inr refl))

pub returns-then-moment-ge-LAST_MOMENT : goal.returns-then-moment-ge-LAST_MOMENT
returns-then-moment-ge-LAST_MOMENT g c =
    let r = c.not_run-then-moment-ge-LAST_MOMENT.ensures in
    rw (r.text, r.flushed, r.device)
    (uncalled g.D.Device.gives g.D.Device.sector_count g.D.Device.moment_of g.D.Device.fault_count g.D.Device.changes_of g.met.D.Device.over g.met.D.Device.seen g.met.D.Device.whole c.args.script.now c.args.time _ c.args.device (λ other. inl (refl, omega (arith, c.if-moment-ge-LAST_MOMENT.true, c.moment.ensures))) (λ none. absurd (omega (arith, none, c.if-sectors-eq0.false, c.sectors.ensures))))

pub returns-in-Ok-mount : goal.returns-in-Ok-mount
returns-in-Ok-mount g c =
    ran_script g.D.Device.gives g.D.Device.sector_count g.D.Device.moment_of g.D.Device.fault_count g.D.Device.changes_of g.met.D.Device.over g.met.D.Device.seen g.met.D.Device.whole c.args.script.now c.args.time c.laps_bounded.ensures c.args.device c.in-Ok-mount.volume _ c.run_opened-flushed.result.0 c.run_opened-flushed.result.1 c.requires.few c.run_opened-flushed.ensures c.in-Ok-mount.ensures.sectors c.in-Ok-mount.ensures.stays c.in-Ok-mount.ensures.opened
    c.text_or_memory.result (printed_whole c.in-Ok.turns.len c.run_opened-flushed.new.turns c.in-Ok.turns.items c.deref.result.now c.text_or_memory.result c.deref.ensures.value (c.run_opened-flushed.auto.turns ∙ c.deref_mut.ensures.len) c.text_or_memory.ensures.text) c.text_or_memory.ensures.memory
    (omega (arith, c.if-moment-ge-LAST_MOMENT.false, c.moment.ensures)) (c.in-Ok-mount.ensures.counted (omega (arith, c.if-moment-ge-LAST_MOMENT.false, c.moment.ensures))) (λ none. omega (arith, none, c.if-sectors-eq0.false, c.sectors.ensures))

pub returns : goal.returns
returns g c =
    let r = c.not_run-in-Err-mount.ensures in
    rw (r.text, r.flushed, r.device)
    (start_failed g.D.Device.gives g.D.Device.sector_count g.D.Device.moment_of g.D.Device.fault_count g.D.Device.changes_of g.met.D.Device.over g.met.D.Device.seen g.met.D.Device.whole c.args.script.now c.args.time c.in-Err-mount.fault c.args.device c.in-Err-mount.device
    (omega (arith, c.faults-faults.ensures, c.faults-faults.auto)) (omega (arith, c.if-moment-ge-LAST_MOMENT.false, c.moment.ensures)) (λ none. omega (arith, none, c.if-sectors-eq0.false, c.sectors.ensures)) c.in-Err-mount.ensures.sectors c.in-Err-mount.ensures.stays c.in-Err-mount.ensures.errors c.in-Err-mount.ensures.counted)
