-- What a new file leaves of the content, where its directory's index takes no clusters.
use Rattle.std.specs.Prelude.{◌≡◌, ◌⊎◌, ℕ, List, [], ◌∷◌}
use Rattle.std.specs.List.{AllByRecursion}
use Rattle.disk_model.specs.Content.{Content}
use Rattle.record_model.specs.Records.{Record}
use Rattle.file_tree.specs.declared.node.Node.{Node}
use Rattle.index_model.specs.Trees.{Tree}
use Rattle.made_files.specs.index_change.declared.nodes_plan.NodesPlan.{NodesPlan}
use Rattle.state_model.specs.declared.geometry.Geometry.{Geometry}
use Rattle.state_model.specs.declared.stream.Extents.{Extents}
use Rattle.volume_model.specs.Volumes.{Volume, cluster_bits}
use Rattle.plan_draft.specs.declared.touched.Touched.{Touched}
use Rattle.plan_draft.specs.Drafts.{drafted}
use Rattle.written_values.specs.step_model.Placing.{Growth, AllPlaced}
use Rattle.written_values.specs.step_model.Streams.{blocks_key, used_key}
use Rattle.written_values.specs.step_model.Contents.{HasGrown, IsLeft}
use Rattle.written_values.specs.file_puts.declared.streams.VolumeStreams.{VolumeStreams}
use Rattle.made_files.specs.file_makes.declared.newfile.NewFile.{NewFile}
use Rattle.made_trees.specs.Created.{made_volume, MakesFileBy}

-- a stream of a directory's index that comes to have the runs that it has
abbrev pub StaysGrown : Volume → ℕ → Growth → Type 0
StaysGrown v n g = ((g.stream ≡ blocks_key n) ⊎ (g.stream ≡ used_key n)) × HasGrown v v g

-- The content is left so with the new file: whatever streams of the directory's index are named as ones that take clusters, each as it is chosen
-- for it, have those that they had.
abbrev pub MadeFilesAreLeft : Type 0
MadeFilesAreLeft = (c : Content) (g : Geometry) (clusters : ℕ) (v : Volume) (s : VolumeStreams) (numbers : Extents) (m : NewFile) (a : Node) (r : Record) (value : List ℕ) (used : ℕ) (t : Tree) (fresh : List ℕ) (nodes : NodesPlan) (timed new : List Touched) (growths : List Growth)
    → (k : MakesFileBy c g clusters v s numbers m a r value used t fresh nodes timed new) → AllPlaced (cluster_bits c v) growths → AllByRecursion (StaysGrown v m.parent.number) growths
    → IsLeft c v clusters (m.file.number ∷ m.parent.number ∷ []) growths (drafted new c) (made_volume c v s m r k.made.put.plan timed)
