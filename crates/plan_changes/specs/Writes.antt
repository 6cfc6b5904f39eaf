-- A write, or a greater size, of a file whose data stands in clusters: by the calls of a draft to what the operation leaves of the tree.
use Rattle.std.specs.Prelude.{◌≡◌, ℕ, ◌+◌, ◌*◌, ◌≤◌, max, false, List, [], length, Some}
use Rattle.disk_model.specs.Content.{Content}
use Rattle.plan_informed.specs.record_model.Constants.{data_type}
use Rattle.plan_informed.specs.record_model.Records.{Record}
use Rattle.tree_model.specs.file_tree.declared.node.Node.{Node}
use Rattle.tree_model.specs.file_tree.declared.tree.Tree.{Tree}
use Rattle.plan_informed.specs.state_model.declared.geometry.Geometry.{Geometry}
use Rattle.plan_informed.specs.state_model.declared.stream.Extents.{Extents}
use Rattle.plan_informed.specs.state_model.declared.stream.Stream.TheVariants.{Placed}
use Rattle.plan_informed.specs.state_model.Files.{info_of}
use Rattle.plan_informed.specs.state_model.Loads.{total_clusters}
use Rattle.plan_informed.specs.volume_model.Volumes.{Volume, bytes_or}
use Rattle.plan_informed.specs.volume_model.Sizes.{has_hole}
use Rattle.plan_informed.specs.volume_state.Trees.{tree_of}
use Rattle.tree_model.specs.declared.script.Op.{Op}
use Rattle.tree_model.specs.Needs.{size_after, clusters_for}
use Rattle.tree_model.specs.Effects.{valid_after, HasChanged}
use Rattle.plan_informed.specs.plan_owners.States.{Stands}
use Rattle.plan_informed.specs.plan_draft.declared.touched.Touched.{Touched}
use Rattle.plan_informed.specs.plan_draft.Drafts.{drafted}
use Rattle.plan_informed.specs.plan_model.Attributes.{RewritesValues}
use Rattle.plan_informed.specs.plan_model.Informed.{is_info, with_record}
use Rattle.plan_informed.specs.draft_records.Records.{written_record}
use Rattle.plan_informed.specs.resized_streams.declared.resized.Resized.{Resized}
use Rattle.plan_informed.specs.plan_edits.Records.{PutsRecordOf}
use Rattle.plan_informed.specs.plan_edits.Sizes.{SizesWith, SizesOfVolume}
use Rattle.plan_changes.specs.Bytes.{GrowsFile, place_of, put_of}
use Rattle.plan_changes.specs.Changes.{Stamps}
use Rattle.plan_changes.specs.Files.{IsChangeable, own_data, with_own}
use Rattle.plan_changes.specs.Nodes.{NodeBecomes}

-- the volume behind the sizes
abbrev pub sized_volume : Volume → ℕ → Resized → Volume
sized_volume v n z = with_record v n (written_record z.file)

-- The operation began at a tree with a node. Edits that gave its data clusters, or none, have led to this volume, in which its bytes read as
-- they did. The draft puts the sizes and the bytes of the operation, and behind them the times. The clusters are those that it had, or
-- those that the size needs; none of them is sparse.
pub record WritesInClusters (c : Content) (v : Volume) (mirror : Extents) (op : Op) (n stamp most : ℕ) (a : Node) (t : Tree) (e : Extents) (r : Record) (z : Resized) (fresh : ℕ) (p : Record) (old mid new : List Touched) : Type 0 where
  pub grows : GrowsFile op a
  pub file : IsChangeable (drafted old c) v n r (with_own (drafted old c) v r a)
  pub before : NodeBecomes n a (with_own (drafted old c) v r a) t (tree_of (drafted old c) v)
  pub size : e.real ≡ a.size
  pub valid : e.initialised ≡ a.valid
  pub bytes : bytes_or (drafted old c) v.per (own_data r) ≡ a.bytes
  pub sizes : SizesWith v n data_type [] e r (size_after op a) (valid_after op a) z (place_of op a) (length (put_of op a))
  pub put : SizesOfVolume c v mirror n z fresh (place_of op a) (put_of op a) old mid
  pub whole : has_hole (Some (Placed e)) ≡ false
  pub no_fresh : e.initialised ≤ 512 * fresh
  pub clusters : total_clusters e.runs ≡ max a.clusters (clusters_for (size_after op a))
  pub times : RewritesValues is_info (written_record z.file) p
  pub stamps : Stamps stamp a (info_of p)
  pub informed : PutsRecordOf c (sized_volume v n z) mirror n p mid new
  pub room : t.room ≤ (tree_of (drafted old c) v).room + most

-- Then the draft stands for a state, and the operation has changed the tree.
abbrev pub WrittenInClusters : Type 0
WrittenInClusters = (c : Content) (g : Geometry) (clusters : ℕ) (v : Volume) (mirror : Extents) (op : Op) (n stamp most : ℕ) (a : Node) (t : Tree) (e : Extents) (r : Record) (z : Resized) (fresh : ℕ) (p : Record) (old mid new : List Touched) → g.per_cluster ≡ 8 → Stands (drafted old c) g clusters v
    → WritesInClusters c v mirror op n stamp most a t e r z fresh p old mid new
    → Stands (drafted new c) g clusters (with_record (sized_volume v n z) n (written_record p)) × HasChanged t most op a stamp (tree_of (drafted new c) (with_record (sized_volume v n z) n (written_record p)))
