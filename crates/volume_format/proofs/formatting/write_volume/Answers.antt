use Rattle.volume_format.proofs.Stopping.{keeps_all, stopped_as}
use Rattle.volume_format.proofs.Crashing.{none_stays}
use Rattle.volume_format.proofs.formatting.write_volume.Goals as goal

pub returns-in_err-parts-clause-others : goal.returns-in_err-parts-clause-others
returns-in_err-parts-clause-others g c = keeps_all c.args.v (g.D.Device.gives c.args.device.now)

pub returns-in_err-room-clause-others : goal.returns-in_err-room-clause-others
returns-in_err-room-clause-others g c = keeps_all c.args.v (g.D.Device.gives c.args.device.now)

pub returns-in_err-put_image-clause-stopped : goal.returns-in_err-put_image-clause-stopped
returns-in_err-put_image-clause-stopped g c =
    λ _. stopped_as c.args.v c.args.seed c.args.time c.in_ok-parts.parts _ _ c.in_ok-parts.ensures c.in_err-put_image.ensures.stopped

pub returns-in_err-parts-clause-above : goal.returns-in_err-parts-clause-above
returns-in_err-parts-clause-above g c = none_stays _ _ _

pub returns-in_err-room-clause-above : goal.returns-in_err-room-clause-above
returns-in_err-room-clause-above g c = none_stays _ _ _
