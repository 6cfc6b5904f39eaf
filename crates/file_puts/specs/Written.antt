-- An operation that has written or cut a file, by what a draft has put.
use Rattle.std.specs.Prelude.{◌≡◌, ℕ, ◌<◌, ◌≤◌, ◌^◌, true, List, [], ◌∷◌, Option, None}
use Rattle.disk_model.specs.declared.block.BlockKind.{BlockKind}
use Rattle.disk_model.specs.Content.{Content, HasSizes}
use Rattle.record_times.specs.record_model.Pairs.{cluster_limit}
use Rattle.record_times.specs.record_model.Records.{Record}
use Rattle.file_tree.specs.declared.node.Node.{Node}
use Rattle.record_times.specs.state_model.declared.geometry.Geometry.{Geometry}
use Rattle.record_times.specs.state_model.Loads.{extents_or}
use Rattle.record_times.specs.volume_model.Volumes.{Volume, cluster_bits}
use Rattle.record_times.specs.volume_state.Trees.{tree_of}
use Rattle.record_times.specs.stream_laws.Sharing.{stream_at}
use Rattle.record_times.specs.tree_model.declared.script.Op.{Op}
use Rattle.record_times.specs.tree_model.Needs.{changes_file, needed}
use Rattle.record_times.specs.tree_model.Effects.{HasChanged}
use Rattle.record_times.specs.plan_owners.States.{Stands}
use Rattle.plan_bodies.specs.Bodies.{NewBody, content_with}
use Rattle.record_times.specs.plan_draft.declared.touched.Touched.{Touched}
use Rattle.record_times.specs.plan_draft.Touching.{bodies_of}
use Rattle.record_times.specs.plan_draft.Drafts.{drafted}
use Rattle.record_times.specs.plan_draft.Same.{PutSame}
use Rattle.record_times.specs.plan_model.Drafts.{DraftIn}
use Rattle.record_times.specs.plan_edits.Edits.{mirror_key, HasBitmap}
use Rattle.record_times.specs.plan_changes.Files.{IsChangeable}
use Rattle.data_plan.specs.step_model.Placing.{Growth}
use Rattle.data_plan.specs.step_model.Contents.{IsLeft}
use Rattle.data_plan.specs.declared.change.DataChange.{DataChange}
use Rattle.data_plan.specs.Changes.{HasData, growth_of, IsChange}
use Rattle.file_puts.specs.declared.streams.VolumeStreams.{VolumeStreams}
use Rattle.file_puts.specs.Puts.{PutsChange}

-- these are the volume's streams
pub record AreStreamsOf (v : Volume) (s : VolumeStreams) : Type 0 where
  pub table : s.table ≡ v.table
  pub mirror : extents_or (stream_at v mirror_key) ≡ s.mirror
  pub bitmap : HasBitmap v s.bitmap

-- A state without a change journal, with a file that the operation changes. The draft that touched nothing has put what comes of the
-- file's data.
pub record WritesFile (c : Content) (g : Geometry) (clusters : ℕ) (v : Volume) (s : VolumeStreams) (op : Op) (n stamp : ℕ) (a : Node) (r : Record) (change : DataChange) (new : List Touched) : Type 0 where
  pub sized : HasSizes c
  pub eight : g.per_cluster ≡ 8
  pub few : clusters ≤ cluster_limit
  pub stands : Stands c g clusters v
  pub journal : (tree_of c v).journal ≡ None
  pub streams : AreStreamsOf v s
  pub file : IsChangeable c v n r a
  pub changes : changes_file op a ≡ true
  pub soon : stamp < 2 ^ 64
  pub has : HasData clusters r
  pub is : IsChange (growth_of (cluster_bits c v) r op a) r op a change
  pub put : PutsChange c s n op a stamp r change [] new

-- A state without a change journal, with a file that the operation changes. The draft that touched nothing has put what comes of the
-- data of this record: the file's own, or one with data that is empty where the file has none.
pub record WritesBy (c : Content) (g : Geometry) (clusters : ℕ) (v : Volume) (s : VolumeStreams) (op : Op) (n stamp : ℕ) (a : Node) (r by : Record) (change : DataChange) (new : List Touched) : Type 0 where
  pub sized : HasSizes c
  pub eight : g.per_cluster ≡ 8
  pub few : clusters ≤ cluster_limit
  pub stands : Stands c g clusters v
  pub journal : (tree_of c v).journal ≡ None
  pub streams : AreStreamsOf v s
  pub file : IsChangeable c v n r a
  pub changes : changes_file op a ≡ true
  pub soon : stamp < 2 ^ 64
  pub has : HasData clusters by
  pub is : IsChange (growth_of (cluster_bits c v) by op a) by op a change
  pub put : PutsChange c s n op a stamp by change [] new

-- The draft then stands for a state, to which its bodies lead as those of a plan do. The operation has changed the tree, as its growth
-- says of the content.
pub record HasWritten (c : Content) (g : Geometry) (clusters : ℕ) (v : Volume) (op : Op) (n stamp : ℕ) (a : Node) (growth : Growth) (new : List Touched) : Type 0 where
  pub after : Volume
  pub gave : ℕ → Option BlockKind
  pub bodies : List NewBody
  pub same : PutSame (bodies_of new) bodies
  pub content : content_with c bodies ≡ drafted new c
  pub draft : DraftIn c g clusters v bodies after gave
  pub tree : HasChanged (tree_of c v) (needed (tree_of c v) 0 op a) op a stamp (tree_of (drafted new c) after)
  pub left : IsLeft c v clusters (n ∷ []) (growth ∷ []) (drafted new c) after
