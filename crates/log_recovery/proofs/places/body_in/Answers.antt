use Rattle.std.proofs.Common.{refl, ap, ◌∙◌}
use Rattle.log_recovery.specs.Places.{body_at}
use Rattle.log_recovery.proofs.Placing.{held_at}
use Rattle.log_recovery.proofs.places.body_in.Goals as goal

pub returns : goal.returns
returns c = c.body_at.ensures ∙ ap (body_at c.args.bodies.now) (c.place_at.ensures ∙ c.requires c.args.block) ∙ held_at c.args.bodies.now c.args.bodies.now 0 c.args.block refl
