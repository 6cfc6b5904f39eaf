use Rattle.volume_replies.proofs.Looked.{looked}
use Rattle.volume_replies.proofs.replying.look.Goals as goal

pub returns-clause-replies : goal.returns-clause-replies
returns-clause-replies g c =
    looked g.D.Device.gives g.D.Device.sector_count g.D.Device.moment_of g.D.Device.fault_count g.D.Device.changes_of c.args.op.now c.args.stamp c.look.result c.args.volume.now c.look.new.self c.look.ensures.kept c.look.ensures.map c.look.ensures.table c.look.ensures.streams
    c.requires.looks c.look.ensures.history c.look.ensures.replies
