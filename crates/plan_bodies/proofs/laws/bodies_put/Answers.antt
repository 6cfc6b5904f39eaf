use Rattle.std.proofs.Common.{◌≡◌, true}
use Rattle.plan_bodies.proofs.Putting.{body_put, sized_with, contents_put, are_bodies, either, all_in_both}
use Rattle.plan_bodies.proofs.laws.bodies_put.Goals as goal

pub returns : goal.returns
returns c = record {
  body = body_put;
  sized = sized_with;
  put = contents_put;
  are = are_bodies;
  either = λ bodies more b rest. either bodies more b rest.own;
  each = λ P. all_in_both (λ w. P w.block ≡ true);
}
