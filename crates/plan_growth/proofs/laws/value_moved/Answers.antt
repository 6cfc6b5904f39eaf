use Rattle.plan_growth.proofs.Leaving.{moved_leads, moved_goes_on, moved_stream, moved_tree}
use Rattle.plan_growth.proofs.laws.value_moved.Goals as goal

pub returns : goal.returns
returns c = record {
  leads = moved_leads;
  goes_on = λ first start c g clusters v n kind name value r more z s bodies gave sized eight state k may. moved_goes_on c g clusters v n kind name value r more z s bodies sized eight state k first start gave may;
  stream = moved_stream;
  tree = moved_tree;
}
