use Rattle.plan_model.proofs.Informing.{leads_to, tree_differs}
use Rattle.plan_model.proofs.laws.times_changed.Goals as goal

pub returns : goal.returns
returns c = record {
  stands = λ c g clusters v n r s w sized state apart p k. (leads_to c g clusters v n r s w sized state apart p k).stands;
  tree = tree_differs;
}
