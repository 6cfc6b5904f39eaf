use Rattle.plan_blocks.proofs.Enlarging.{index_leads, index_goes_on, index_tree, index_listed, index_nodes, index_no_more, index_behind}
use Rattle.plan_blocks.proofs.laws.index_grown.Goals as goal

pub returns : goal.returns
returns c = record {
  leads = index_leads;
  goes_on = λ first start c g clusters v n r more real initialised s bodies gave sized eight state k may. index_goes_on c g clusters v n r more real initialised s bodies sized eight state k first start gave may;
  tree = index_tree;
  lists = index_listed;
  nodes = λ c g clusters v n r more real initialised s bodies count sized eight state k. index_nodes c g clusters v n r more real initialised s bodies sized eight state k count;
  place = index_behind;
  none_more = λ c g clusters v n r more real initialised s bodies count sized eight state k all whole fresh. index_no_more c g clusters v n r more real initialised s bodies sized eight state k all whole fresh count;
}
