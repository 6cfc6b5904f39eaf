-- An index that has grown with a level more, first or behind the file table.
use Rattle.std.proofs.Common.{◌≡◌, ℕ, ◌<◌, ◌≤◌, Bool, List, [], ◌++◌, sym, ap, subst, ◌∙◌, arith}
use Rattle.std.specs.List.{AllByRecursion}
use Rattle.disk_model.specs.Content.{Content}
use Rattle.record_model.specs.declared.runs.Run.{Run}
use Rattle.record_model.specs.Pairs.{cluster_limit}
use Rattle.record_model.specs.Records.{Record}
use Rattle.index_model.specs.Trees.{Tree}
use Rattle.state_model.specs.declared.geometry.Geometry.{Geometry}
use Rattle.state_model.specs.declared.stream.Extents.{Extents}
use Rattle.state_model.specs.Loads.{total_clusters}
use Rattle.volume_model.specs.Volumes.{Volume, cluster_bits}
use Rattle.plan_owners.specs.States.{Stands}
use Rattle.plan_draft.specs.declared.touched.Touched.{Touched}
use Rattle.plan_draft.specs.Drafts.{drafted}
use Rattle.space_model.specs.Choosing.{chosen, with_runs}
use Rattle.stream_runs.specs.Runs.{last_cluster}
use Rattle.draft_records.specs.Records.{written_record}
use Rattle.resized_streams.specs.declared.resized.Resized.{Resized}
use Rattle.resized_streams.proofs.Chosen.{total_chosen}
use Rattle.draft_indexes.specs.declared.blocks.IndexBlocks.{IndexBlocks}
use Rattle.draft_indexes.specs.Growing.{grown_file, size_with, wanted_clusters}
use Rattle.plan_blocks.specs.Blocks.{blocks_before}
use Rattle.plan_blocks.specs.Levels.{IsRaised}
use Rattle.index_edits.specs.Grown.{index_runs}
use Rattle.index_edits.specs.Raised.{first_fresh, RaisesOfVolume}
use Rattle.index_edits.proofs.Raised.{raised_is}
use Rattle.made_trees.specs.plan_model.Informed.{with_record}
use Rattle.made_trees.specs.step_model.Placing.{Growth, taken_runs}
use Rattle.made_trees.specs.Grown.{IsOfTable, KeepsIndex, HasGrownBefore}
use Rattle.made_trees.proofs.Nothing.{none_grown, index_stays}
use Rattle.grown_indexes.specs.First.{growths_by}
use Rattle.grown_indexes.specs.Raised.{RaisesNext, PutRaises}
use Rattle.grown_indexes.proofs.Behind.{raises_next}
use Rattle.grown_indexes.proofs.First.{no_runs}

-- an index that was raised behind edits that kept it was raised
joined : (c d : Content) (v u : Volume) (r : Record) (value : List ℕ) (t : Tree) (f : ℕ) (e : Content) (w : Volume) (q : Record) → KeepsIndex c v r d u r → IsRaised d u r value t f e w q → IsRaised c v r value t f e w q
joined c d v u r value t f e w q keeps raised = record {
  upper = raised.upper ∙ keeps.upper;
  root = raised.root;
  others = λ i other. raised.others i other ∙ keeps.nodes i;
  child = raised.child;
  fresh = raised.fresh;
  holds = raised.holds;
}

module _ (c : Content) (g : Geometry) (clusters : ℕ) (v : Volume) (bits : List Bool) (bitmap mirror : Extents) (r : Record) (growths : List Growth) (u : Volume) (grown : List Touched) (i : IndexBlocks) (more : ℕ) (value : List ℕ) (t : Tree) (root node : List ℕ) (new : List Touched) (z : Resized) (eight : g.per_cluster ≡ 8)
    (state : Stands c g clusters v) (before : HasGrownBefore c g clusters v i.number r growths u r grown) (keeps : KeepsIndex c v r (drafted grown c) u r) (table : AllByRecursion IsOfTable growths) (left : bits ≡ with_runs (taken_runs growths) (cluster_bits c v))
    (k : RaisesOfVolume c u bits bitmap mirror r i more value t root node grown new z) (some : 0 < wanted_clusters u.per more i.extents) where
  abbrev wanted : ℕ
  wanted = wanted_clusters u.per more i.extents

  abbrev runs : List Run
  runs = index_runs u.per bits more i

  abbrev q : Record
  q = written_record z.file

  state_now : Stands (drafted grown c) g clusters u
  state_now = subst (λ (y : Content). Stands y g clusters u) before.content before.draft.stands

  count : total_clusters runs ≡ wanted
  count = total_chosen bits (last_cluster i.extents.runs) wanted k.may.space

  few : u.clusters ≤ cluster_limit
  few = let same = k.may.count in let low = k.may.stands.clusters_few in omega (arith, same, low)

  are_chosen : runs ≡ chosen (with_runs (taken_runs growths) (cluster_bits c v)) (last_cluster (blocks_before r).runs) (total_clusters runs)
  are_chosen =
      ap (λ (b : List Bool). chosen b (last_cluster i.extents.runs) wanted) left
      ∙ ap (λ (x : Extents). chosen (with_runs (taken_runs growths) (cluster_bits c v)) (last_cluster x.runs) wanted) (sym k.may.streams.before)
      ∙ ap (chosen (with_runs (taken_runs growths) (cluster_bits c v)) (last_cluster (blocks_before r).runs)) (sym count)

  pub raised_next : HasGrownBefore c g clusters v i.number r (growths ++ growths_by i.number r runs) (with_record u i.number q) q new × IsRaised c v r value t (first_fresh i) (drafted new c) (with_record u i.number q) q
  raised_next =
      let is = raised_is c g clusters u bits bitmap mirror r i more value t root node grown new z eight state_now k in
      let puts : RaisesNext c g clusters v i.number r growths u grown runs (size_with more i.extents) (written_record (grown_file u.per runs more i)) q is.1.0 new = record {
        before = before;
        table = table;
        kept = is.0;
        edits = is.1.1.0;
        raises = is.1.1.1;
        some = (let all = count in omega (arith, all, some));
        are_chosen = are_chosen;
        no_place = k.may.streams.no_place;
      }
      in (
        raises_next c g clusters v i.number r growths u grown runs (size_with more i.extents) (written_record (grown_file u.per runs more i)) q is.1.0 new k.may.sized eight few state puts,
        joined c (drafted grown c) v u r value t (first_fresh i) (drafted new c) (with_record u i.number q) q keeps is.1.1.2,
      )

pub put_raises : PutRaises
put_raises = record {
  first = λ c g clusters v bitmap mirror r i more value t root node new z eight state k some.
      raised_next c g clusters v (cluster_bits c v) bitmap mirror r [] v [] i more value t root node new z eight state
      (none_grown c g clusters v i.number r [] k.may.sized state (record { file = k.may.file; apart = k.may.apart; no_list = k.may.no_list }) tt tt) (index_stays c v r k.may.sized) tt (sym (no_runs (cluster_bits c v))) k some;
  next = λ c g clusters v bits bitmap mirror r growths u grown i more value t root node new z eight state before keeps table left k some. raised_next c g clusters v bits bitmap mirror r growths u grown i more value t root node new z eight state before keeps table left k some;
}
