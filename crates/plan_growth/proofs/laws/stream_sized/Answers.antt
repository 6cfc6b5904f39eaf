use Rattle.plan_growth.proofs.Sizing.{sized_leads, sized_goes_on, sized_tree, sized_stream}
use Rattle.plan_growth.proofs.laws.stream_sized.Goals as goal

pub returns : goal.returns
returns c = record {
  leads = sized_leads;
  goes_on = λ first start c g clusters v n kind name e r real initialised z s bodies gave sized eight state k clear. sized_goes_on c g clusters v n kind name e r real initialised z s bodies sized eight state k first start gave clear;
  stream = sized_stream;
  tree = sized_tree;
}
