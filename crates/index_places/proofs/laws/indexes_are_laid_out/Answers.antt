use Rattle.index_places.proofs.Laying.{laid_out, index_block_there, plan_laid}
use Rattle.index_places.proofs.laws.indexes_are_laid_out.Goals as goal

pub returns : goal.returns
returns c = record {
  laid = λ x g clusters v n r count state file own. laid_out x g clusters v n r state file count own;
  placed = λ x g clusters v n r w state eight few file directory is. index_block_there x g clusters v n r w state eight few file directory is;
  plans = plan_laid;
}
