use Rattle.state_streams.proofs.Few.{few_runs}
use Rattle.state_streams.proofs.Lying.{all_inside, sizes_are, spelled_is, few_there, all_near, last_inside}
use Rattle.state_streams.proofs.laws.streams_of_states.Goals as goal

pub returns : goal.returns
returns c = record {
  sizes = sizes_are;
  inside = all_inside;
  total = few_there;
  spelled = spelled_is;
  near = λ c g clusters v n kind name e state is few. all_near v.clusters e.runs few (all_inside c g clusters v n kind name e state is);
  last = λ c g clusters v n kind name e state is few. last_inside v.clusters 0 e.runs (spelled_is c g clusters v n kind name e state is few) (all_inside c g clusters v n kind name e state is);
  few = few_runs;
}
