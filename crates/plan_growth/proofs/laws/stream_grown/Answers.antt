use Rattle.plan_growth.proofs.Growing.{grown_leads, grown_goes_on, grown_tree, grown_bytes}
use Rattle.plan_growth.proofs.laws.stream_grown.Goals as goal

pub returns : goal.returns
returns c = record {
  leads = grown_leads;
  goes_on = λ first start c g clusters v n kind name e r more z s bodies gave sized eight state k may. grown_goes_on c g clusters v n kind name e r more z s bodies sized eight state k first start gave may;
  bytes = grown_bytes;
  tree = grown_tree;
}
