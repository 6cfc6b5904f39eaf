use Rattle.plan_growth.proofs.Cutting.{cut_leads, cut_goes_on, cut_tree, cut_bytes}
use Rattle.plan_growth.proofs.laws.stream_cut.Goals as goal

pub returns : goal.returns
returns c = record {
  leads = cut_leads;
  goes_on = λ first start c g clusters v n kind name e r size z s bodies gave sized eight state k clear. cut_goes_on c g clusters v n kind name e r size z s bodies sized eight state k first start gave clear;
  bytes = cut_bytes;
  tree = cut_tree;
}
