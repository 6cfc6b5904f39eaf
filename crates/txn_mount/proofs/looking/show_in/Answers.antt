use Rattle.log_recovery.specs.Recovering.{content_with}
use Rattle.txn_mount.proofs.Looks.{shown_of}
use Rattle.txn_mount.proofs.looking.show_in.Goals as goal

pub returns-clause-body : goal.returns-clause-body
returns-clause-body g c = shown_of c.body.result (g.V.View.content c.args.view.now) _ (content_with c.args.bodies.now) c.body.new.out c.args.block c.new-recovered.ensures.content c.body.ensures.body
