-- A file that isn't made in the place that was found for it.
use Rattle.std.specs.Prelude.{◌≡◌, ◌≢◌, ℕ, ◌+◌, ◌<◌, ◌≤◌, ◌^◌, ◌==◌, if◌then◌else◌, List, [], ◌∷◌, length, drop, IfSome, None, Some, Ok}
use Rattle.utf16_name.specs.Lawful.{IsName}
use Rattle.disk_model.specs.Content.{Content, HasSizes}
use Rattle.record_model.specs.declared.entry.Entry.{Entry as Raw}
use Rattle.record_model.specs.Nodes.{children_flag, entry_length, root_at}
use Rattle.record_model.specs.Records.{Record, used_of}
use Rattle.file_tree.specs.declared.node.Node.{Node}
use Rattle.index_model.specs.declared.key.Key.{Key}
use Rattle.index_model.specs.Trees.{Tree, raw, levels}
use Rattle.index_model.specs.Indexes.{most_levels}
use Rattle.index_model.specs.Laws.{HoldsIndex}
use Rattle.index_change.specs.declared.nodes_plan.NodesPlan.{NodesPlan}
use Rattle.index_change.specs.NodePlans.{PlansNodes, TakesFront}
use Rattle.state_model.specs.declared.geometry.Geometry.{Geometry}
use Rattle.volume_model.specs.Indexes.{index_place, root_value}
use Rattle.volume_model.specs.Volumes.{Volume, file_in, upper_of, cluster_bits}
use Rattle.tree_model.specs.declared.script.Op.TheVariants.{Create}
use Rattle.tree_model.specs.declared.reply.Reply.TheVariants.{IndexDeep, RecordFull}
use Rattle.record_streams.specs.Fitting.{FitsButRoom}
use Rattle.place_makes.specs.made_trees.step_model.Used.{most_used}
use Rattle.place_makes.specs.made_trees.step_model.Steps.{Step}
use Rattle.place_makes.specs.made_trees.file_makes.declared.newfile.NewFile.{NewFile}
use Rattle.place_makes.specs.made_trees.made_files.Made.{made_key}
use Rattle.made_steps.specs.Behind.{MayRise}
use Rattle.place_makes.specs.found_places.Places.{IsFoundPlace, LieBehind}
use Rattle.place_makes.specs.index_grows.Counted.{IsTooFull}
use Rattle.place_makes.specs.Placing.{IsPlaceFull}

-- ---- the root

-- by how many bytes at most an entry more makes a root with this value longer: in an index without blocks, by its own
abbrev pub more_bytes : Key → List ℕ → ℕ
more_bytes key value = if children_flag (drop 0x10 value) == 0 then entry_length (raw key None) else 600

-- with so many more the record has at most 1,024 used bytes, or has above
abbrev pub HasFree : NewFile → Record → Type 0
HasFree m r = IfSome (root_value r) (λ value. used_of r.attrs + more_bytes (made_key m) value ≤ most_used)

abbrev pub HasNoneFree : NewFile → Record → Type 0
HasNoneFree m r = IfSome (root_value r) (λ value. most_used < used_of r.attrs + more_bytes (made_key m) value)

-- the planned nodes have another root than the index, of one entry alone
abbrev pub IsRaisedBy : List ℕ → NodesPlan → Type 0
IsRaisedBy value nodes = (length nodes.root ≡ 1) × ((entries : List Raw) → root_at value ≡ Ok entries → nodes.root ≢ entries)

-- ---- the place

-- An operation was found to make this file in this directory, of which this is the record.
pub record FindsPlace (c : Content) (g : Geometry) (clusters : ℕ) (v : Volume) (path : List (List ℕ)) (directory : Node) (m : NewFile) (r : Record) : Type 0 where
  pub sized : HasSizes c
  pub found : IsFoundPlace c g clusters v path directory m
  pub is_name : IsName m.name
  pub seq : m.file.seq < 2 ^ 16
  pub soon : m.stamp < 2 ^ 64
  pub file : file_in v m.parent.number ≡ Some r
  pub fits : FitsButRoom r

-- By the count of a step its record would have so many used bytes in its place, which are too many.
pub record RefusesInPlace (c : Content) (g : Geometry) (clusters : ℕ) (v : Volume) (path : List (List ℕ)) (directory : Node) (m : NewFile) (r : Record) (used : ℕ) : Type 0 where
  pub finds : FindsPlace c g clusters v path directory m r
  pub full : IsPlaceFull c (cluster_bits c v) (upper_of c v) m r [] used

-- So is the operation refused, where the record has free bytes for an entry more, so that a step allows no level; and where the plan needs a level.
pub record FullPlacesAreSteps : Type 0 where
  pub flat : (c : Content) (g : Geometry) (clusters : ℕ) (v : Volume) (path : List (List ℕ)) (directory : Node) (m : NewFile) (r : Record) (used : ℕ) → RefusesInPlace c g clusters v path directory m r used → HasFree m r → Step g clusters (Create path) m.stamp (RecordFull used) c c
  pub raised : (c : Content) (g : Geometry) (clusters : ℕ) (v : Volume) (path : List (List ℕ)) (directory : Node) (m : NewFile) (r : Record) (used : ℕ) (k : RefusesInPlace c g clusters v path directory m r used) → IsRaisedBy k.full.plans.value k.full.nodes → Step g clusters (Create path) m.stamp (RecordFull used) c c

-- ---- a level more

-- what is so of each index that stands below the root with this value: it is this tree
abbrev pub OfIndex : Content → Volume → Record → List ℕ → (Tree → Type 0) → Type 0
OfIndex c v r value P = (t : Tree) → HoldsIndex c (index_place 8 r) (upper_of c v) value t → P t

-- The index may get a level, and has fewer than sixteen. For a record without other used bytes these nodes are planned, of fresh VCNs behind the blocks
-- and behind one that is kept for the level. By the count of a step, with a root of one entry, the blocks that the plan takes and the one for the level,
-- the record would have so many used bytes, which are too many.
pub record RefusesRaised (c : Content) (g : Geometry) (clusters : ℕ) (v : Volume) (path : List (List ℕ)) (directory : Node) (m : NewFile) (r : Record) (used : ℕ) : Type 0 where
  pub finds : FindsPlace c g clusters v path directory m r
  pub value : List ℕ
  pub root : root_value r ≡ Some value
  pub may : OfIndex c v r value (λ t. MayRise c v m.parent.number r value (made_key m) t)
  pub low : OfIndex c v r value (λ t. levels t < most_levels)
  pub kept : ℕ
  pub fresh : List ℕ
  pub enough : 17 ≤ length fresh
  pub lie : LieBehind 8 r (kept ∷ fresh)
  pub nodes : NodesPlan
  pub planned : PlansNodes c (index_place 8 r) (upper_of c v) value 0 (made_key m) fresh (Ok nodes)
  pub front : TakesFront fresh nodes
  pub full : IsTooFull (cluster_bits c v) r 56 (1 + length nodes.taken.items) used

-- So is the operation refused.
abbrev pub RaisedFullAreSteps : Type 0
RaisedFullAreSteps = (c : Content) (g : Geometry) (clusters : ℕ) (v : Volume) (path : List (List ℕ)) (directory : Node) (m : NewFile) (r : Record) (used : ℕ) → RefusesRaised c g clusters v path directory m r used → Step g clusters (Create path) m.stamp (RecordFull used) c c

-- Where the place is full and the record has no free bytes for an entry more, the index may get a level; so the operation is refused with the levels of
-- an index that has sixteen.
pub record DeepPlacesAreSteps : Type 0 where
  pub rises : (c : Content) (g : Geometry) (clusters : ℕ) (v : Volume) (path : List (List ℕ)) (directory : Node) (m : NewFile) (r : Record) (used : ℕ) (k : RefusesInPlace c g clusters v path directory m r used) → HasNoneFree m r
      → OfIndex c v r k.full.plans.value (λ t. MayRise c v m.parent.number r k.full.plans.value (made_key m) t)
  pub deep : (c : Content) (g : Geometry) (clusters : ℕ) (v : Volume) (path : List (List ℕ)) (directory : Node) (m : NewFile) (r : Record) (used : ℕ) (k : RefusesInPlace c g clusters v path directory m r used) → HasNoneFree m r
      → OfIndex c v r k.full.plans.value (λ t. levels t ≡ most_levels) → Step g clusters (Create path) m.stamp (IndexDeep most_levels) c c
