use Rattle.plan_blocks.proofs.Raising.{index_leads, index_goes_on, index_tree, index_nodes, index_behind}
use Rattle.plan_blocks.proofs.laws.index_raised.Goals as goal

pub returns : goal.returns
returns c = record {
  leads = λ c g clusters v n r more real initialised p s bodies sized eight state k. index_leads c g clusters v n r more real initialised p s bodies sized eight state k.puts k.lists;
  goes_on = λ first start c g clusters v n r more real initialised p s bodies gave sized eight state k may. index_goes_on c g clusters v n r more real initialised p s bodies sized eight state k.puts k.lists first start gave may;
  tree = λ c g clusters v n r more real initialised p s bodies sized eight state k. index_tree c g clusters v n r more real initialised p s bodies sized eight state k.puts k.lists;
  nodes = λ c g clusters v n r more real initialised p s bodies count sized eight state k. index_nodes c g clusters v n r more real initialised p s bodies sized eight state k count;
  place = index_behind;
}
