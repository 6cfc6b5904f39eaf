-- The index of a directory of which the times are put behind the growth of the index.
use Rattle.std.specs.Prelude.{◌≡◌, ℕ, ◌≤◌, true, List, Ok}
use Rattle.disk_model.specs.Content.{Content, HasSizes}
use Rattle.record_model.specs.Constants.{standard_information}
use Rattle.record_model.specs.Records.{Record}
use Rattle.index_model.specs.declared.key.Key.{Key}
use Rattle.index_model.specs.Trees.{Tree}
use Rattle.index_model.specs.Laws.{HoldsIndex}
use Rattle.index_change.specs.declared.nodes_plan.NodesPlan.{NodesPlan}
use Rattle.index_change.specs.NodePlans.{PlansNodes}
use Rattle.state_model.specs.declared.geometry.Geometry.{Geometry}
use Rattle.state_model.specs.Files.{has_type}
use Rattle.volume_model.specs.Indexes.{index_place}
use Rattle.volume_model.specs.Volumes.{Volume, upper_of}
use Rattle.plan_draft.specs.declared.touched.Touched.{Touched}
use Rattle.plan_draft.specs.Drafts.{drafted}
use Rattle.draft_bits.specs.Effects.{IsKept}
use Rattle.made_trees.specs.plan_model.Informed.{with_record}
use Rattle.made_trees.specs.step_model.Placing.{Growth}
use Rattle.made_trees.specs.file_puts.declared.streams.VolumeStreams.{VolumeStreams}
use Rattle.made_trees.specs.file_puts.Puts.{PutsTimes}
use Rattle.made_trees.specs.file_puts.Written.{AreStreamsOf}
use Rattle.made_trees.specs.Created.{timed_directory}
use Rattle.made_trees.specs.Grown.{KeepsIndex, HasGrownBefore}

-- The times of a directory with standard information, none of the first four files, are put behind a draft in which its index has grown.
pub record PutsTimesOver (c : Content) (g : Geometry) (clusters : ℕ) (v : Volume) (s : VolumeStreams) (n stamp : ℕ) (r : Record) (growths : List Growth) (u : Volume) (q : Record) (grown timed : List Touched) : Type 0 where
  pub sized : HasSizes c
  pub eight : g.per_cluster ≡ 8
  pub before : HasGrownBefore c g clusters v n r growths u q grown
  pub streams : AreStreamsOf u s
  pub info : has_type standard_information q ≡ true
  pub mirrored_none : 4 ≤ n
  pub kept : IsKept timed
  pub times : PutsTimes c s n stamp q grown timed

-- Then the index stands as it stood in the grown draft, whatever it was at first.
abbrev pub TimesKeepGrown : Type 0
TimesKeepGrown = (c : Content) (g : Geometry) (clusters : ℕ) (v : Volume) (s : VolumeStreams) (n stamp : ℕ) (r : Record) (growths : List Growth) (u : Volume) (q : Record) (grown timed : List Touched) → PutsTimesOver c g clusters v s n stamp r growths u q grown timed
    → KeepsIndex (drafted grown c) u q (drafted timed c) (with_record u n (timed_directory stamp q)) (timed_directory stamp q)

-- The times are put so, and the index stands in the grown draft as it stood at first.
pub record PutsTimesBehind (c : Content) (g : Geometry) (clusters : ℕ) (v : Volume) (s : VolumeStreams) (n stamp : ℕ) (r : Record) (growths : List Growth) (u : Volume) (q : Record) (grown timed : List Touched) : Type 0 where
  pub sized : HasSizes c
  pub eight : g.per_cluster ≡ 8
  pub before : HasGrownBefore c g clusters v n r growths u q grown
  pub index : KeepsIndex c v r (drafted grown c) u q
  pub streams : AreStreamsOf u s
  pub info : has_type standard_information q ≡ true
  pub mirrored_none : 4 ≤ n
  pub kept : IsKept timed
  pub times : PutsTimes c s n stamp q grown timed

-- Then the index stands as it stood at first.
abbrev pub TimesKeepIndex : Type 0
TimesKeepIndex = (c : Content) (g : Geometry) (clusters : ℕ) (v : Volume) (s : VolumeStreams) (n stamp : ℕ) (r : Record) (growths : List Growth) (u : Volume) (q : Record) (grown timed : List Touched) → PutsTimesBehind c g clusters v s n stamp r growths u q grown timed
    → KeepsIndex c v r (drafted timed c) (with_record u n (timed_directory stamp q)) (timed_directory stamp q)

-- Where an index stands as it stood, it is of the same tree, and a plan of its nodes that was made before is one of it.
pub record IndexesMove : Type 0 where
  pub holds : (c d : Content) (v u : Volume) (r q : Record) (value : List ℕ) (t : Tree) → KeepsIndex c v r d u q → HoldsIndex c (index_place v.per r) (upper_of c v) value t → HoldsIndex d (index_place u.per q) (upper_of d u) value t
  pub plans : (c d : Content) (v u : Volume) (r q : Record) (value : List ℕ) (used : ℕ) (key : Key) (fresh : List ℕ) (nodes : NodesPlan) → KeepsIndex c v r d u q → PlansNodes c (index_place v.per r) (upper_of c v) value used key fresh (Ok nodes)
      → PlansNodes d (index_place u.per q) (upper_of d u) value used key fresh (Ok nodes)
