-- An index that has grown first.
use Rattle.std.proofs.Common.{◌≡◌, Bool, List, [], refl, sym, subst}
use Rattle.space_model.specs.Choosing.{chosen, with_runs}
use Rattle.state_model.specs.Loads.{total_clusters}
use Rattle.stream_runs.specs.Runs.{last_cluster}
use Rattle.volume_model.specs.Volumes.{cluster_bits}
use Rattle.plan_blocks.specs.Blocks.{blocks_before}
use Rattle.made_trees.specs.step_model.Placing.{taken_runs}
use Rattle.made_trees.proofs.Nothing.{none_grown, index_stays}
use Rattle.grown_indexes.specs.First.{IndexGrowsFirst}
use Rattle.grown_indexes.specs.Next.{GrowsNext}
use Rattle.grown_indexes.proofs.Next.{grows_next}

pub no_runs : (bits : List Bool) → with_runs (taken_runs []) bits ≡ bits
unfolding with_runs
no_runs bits = refl

pub grows_first : IndexGrowsFirst
grows_first c g clusters v n r runs size q bodies new sized eight few state k =
    let behind : GrowsNext c g clusters v n r [] v [] runs size q bodies new = record {
      before = none_grown c g clusters v n r [] sized state (record { file = k.grows.file; apart = k.grows.apart; no_list = k.grows.no_list }) tt tt;
      index = index_stays c v r sized;
      table = tt;
      kept = k.kept;
      edits = k.edits;
      grows = k.grows;
      some = k.some;
      are_chosen = subst (λ (bits : List Bool). runs ≡ chosen bits (last_cluster (blocks_before r).runs) (total_clusters runs)) (sym (no_runs (cluster_bits c v))) k.are_chosen;
      no_place = k.no_place;
      whole = k.whole;
      empty = k.empty;
    }
    in
    grows_next c g clusters v n r [] v [] runs size q bodies new sized eight few state behind
