use Rattle.std.proofs.Common.{Err, sym, ap, ◌∙◌, arith}
use Rattle.std.proofs.lemmas.Result.{err_from_is_err_and}
use Rattle.volume_format.specs.declared.layout.Layout.{Layout}
use Rattle.volume_format.specs.declared.fault.FormatFault.TheVariants.{Fault as device_failed}
use Rattle.volume_format.specs.Layouts.{layout_of}
use Rattle.volume_format.proofs.Pieces.{image_known}
use Rattle.volume_format.proofs.Stopping.{same_error, keeps_all, stopped_on, keeps_on}
use Rattle.volume_format.proofs.Crashing.{none_stays, stays_left, stays_on}
use Rattle.volume_format.proofs.formatting.format.Goals as goal

pub write_volume-requires-clause-within : goal.write_volume-requires-clause-within
unfolding layout_of
write_volume-requires-clause-within g c = omega (arith, ap (λ (v : Layout). v.clusters) c.layout_of.ensures, c.sectors-sectors.ensures)

pub returns-clause-image : goal.returns-clause-image
returns-clause-image g c =
    image_known (g.D.Device.gives c.args.device.now) (g.D.Device.gives c.write_volume.new.device) (g.D.Device.sector_count c.args.device.now) c.layout_of.result c.args.seed c.args.time
    (g.met.D.Device.whole c.args.device.now) (c.layout_of.ensures ∙ ap layout_of c.sectors-sectors.ensures) c.in_ok-write_volume.ensures.image

pub returns-in_err-answer-clause-others : goal.returns-in_err-answer-clause-others
returns-in_err-answer-clause-others g c = keeps_all (layout_of (g.D.Device.sector_count c.args.device.now)) (g.D.Device.gives c.args.device.now)

pub returns-in_err-write_volume-clause-stopped : goal.returns-in_err-write_volume-clause-stopped
returns-in_err-write_volume-clause-stopped g c =
    let p = err_from_is_err_and c.from_residual-in_err-write_volume.result c.from_residual-in_err-write_volume.ensures.1 in
    λ failed. stopped_on c.layout_of.result (layout_of (g.D.Device.sector_count c.args.device.now)) c.args.seed c.args.time _ _ (c.layout_of.ensures ∙ ap layout_of c.sectors-sectors.ensures) (c.in_err-write_volume.ensures.stopped (ap Err (sym p.2 ∙ same_error c.from_residual-in_err-write_volume.result p.0 device_failed p.1 failed)))

pub returns-in_err-write_volume-clause-others : goal.returns-in_err-write_volume-clause-others
returns-in_err-write_volume-clause-others g c =
    keeps_on c.layout_of.result (layout_of (g.D.Device.sector_count c.args.device.now)) _ _ (c.layout_of.ensures ∙ ap layout_of c.sectors-sectors.ensures) c.in_err-write_volume.ensures.others

pub returns-clause-others : goal.returns-clause-others
returns-clause-others g c =
    keeps_on c.layout_of.result (layout_of (g.D.Device.sector_count c.args.device.now)) _ _ (c.layout_of.ensures ∙ ap layout_of c.sectors-sectors.ensures) c.write_volume.ensures.others

pub returns-in_err-answer-clause-others_left : goal.returns-in_err-answer-clause-others_left
returns-in_err-answer-clause-others_left g c = stays_left (layout_of (g.D.Device.sector_count c.args.device.now)) _ _ _ _ (g.met.D.Device.over c.args.device.now) (none_stays _ _ (g.D.Device.changes_of c.args.device.now))

pub returns-in_err-write_volume-clause-others_left : goal.returns-in_err-write_volume-clause-others_left
returns-in_err-write_volume-clause-others_left g c =
    stays_left (layout_of (g.D.Device.sector_count c.args.device.now)) _ _ _ _ (g.met.D.Device.over c.args.device.now)
    (stays_on c.layout_of.result (layout_of (g.D.Device.sector_count c.args.device.now)) _ _ _ (c.layout_of.ensures ∙ ap layout_of c.sectors-sectors.ensures) c.in_err-write_volume.ensures.above)

pub returns-clause-others_left : goal.returns-clause-others_left
returns-clause-others_left g c =
    stays_left (layout_of (g.D.Device.sector_count c.args.device.now)) _ _ _ _ (g.met.D.Device.over c.args.device.now)
    (stays_on c.layout_of.result (layout_of (g.D.Device.sector_count c.args.device.now)) _ _ _ (c.layout_of.ensures ∙ ap layout_of c.sectors-sectors.ensures) c.write_volume.ensures.above)
