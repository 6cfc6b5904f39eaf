-- What a draft puts of a file below a level more of its directory's index.
use Rattle.std.specs.Prelude.{◌≡◌, ℕ, ◌+◌, ◌*◌, ◌/◌, ◌<◌, ◌≤◌, Bool, true, false, not, List, [], ◌∷◌, length, count_by, Some, Ok}
use Rattle.std.specs.List.{range_with_len}
use Rattle.disk_model.specs.Content.{Content}
use Rattle.record_model.specs.Constants.{standard_information}
use Rattle.record_model.specs.Nodes.{last_entry}
use Rattle.record_model.specs.Records.{Record, used_of}
use Rattle.index_model.specs.Indexes.{most_levels, node_of_body}
use Rattle.index_model.specs.Laws.{HoldsIndex}
use Rattle.index_model.specs.Trees.{Tree, levels, raws_of}
use Rattle.index_node.specs.Roots.{root_spelling}
use Rattle.index_change.specs.declared.nodes_plan.NodesPlan.{NodesPlan}
use Rattle.index_change.specs.NodePlans.{PlansNodes, TakesFront}
use Rattle.index_change.specs.Plans.{clusters_of}
use Rattle.state_model.specs.declared.stream.Extents.{Extents}
use Rattle.state_model.specs.Files.{has_type}
use Rattle.volume_model.specs.Indexes.{index_place, root_value}
use Rattle.plan_draft.specs.declared.touched.Touched.{Touched}
use Rattle.plan_draft.specs.Drafts.{drafted}
use Rattle.record_streams.specs.Fitting.{FitsButRoom}
use Rattle.draft_records.specs.Records.{fits_room, written_record}
use Rattle.resized_streams.specs.declared.resized.Resized.{Resized}
use Rattle.draft_indexes.specs.declared.blocks.IndexBlocks.{IndexBlocks}
use Rattle.draft_indexes.specs.Growing.{wanted_clusters, taken_for, raised_file, MayGrowBlocks, RaisesBlocks}
use Rattle.place_makes.specs.made_trees.file_puts.declared.streams.VolumeStreams.{VolumeStreams}
use Rattle.place_makes.specs.made_trees.file_puts.Puts.{PutsTimes}
use Rattle.place_makes.specs.made_trees.file_makes.declared.newfile.NewFile.{NewFile}
use Rattle.place_makes.specs.made_trees.made_files.Made.{made_key}
use Rattle.place_makes.specs.made_trees.Created.{timed_directory}
use Rattle.place_makes.specs.found_places.Places.{LieBehind}
use Rattle.index_edits.specs.Grown.{HasStreams}
use Rattle.index_edits.specs.Raised.{first_fresh}
use Rattle.place_makes.specs.index_grows.Counted.{file_with_streams, CountsOf, IsTooFull}
use Rattle.place_makes.specs.Placing.{IsQuiet, PutsMadeIn}

-- the VCN of the first block that comes, which is behind all blocks of the directory's index
abbrev pub level_vcn : Record → ℕ
level_vcn r = length (index_place 8 r).blocks

-- the bytes of the value of a root with one entry alone, which has a child
abbrev pub root_size : ℕ
root_size = 56

-- ---- what is planned

-- The VCNs that the nodes may take are seventeen, from one behind that of the level on.
pub record LieBehindLevel (r : Record) (fresh : List ℕ) : Type 0 where
  pub are : fresh ≡ range_with_len (level_vcn r + 1) 17
  pub lie : LieBehind 8 r fresh

-- A level more of an index below a root with this value, whose node gets this VCN: each index that is there has fewer than sixteen levels; the body is
-- that of a node with the entries of its root, and the new root has one entry alone, whose child is that node.
pub record IsLevel (c : Content) (r : Record) (value root node : List ℕ) : Type 0 where
  pub old_root : root_value r ≡ Some value
  pub low : (upper : List ℕ) (t : Tree) → HoldsIndex c (index_place 8 r) upper value t → levels t < most_levels
  pub new_root : root ≡ root_spelling (clusters_of value) (last_entry (Some (level_vcn r)) ∷ [])
  pub long : length node ≡ 4096
  pub entries : (upper : List ℕ) (t : Tree) → HoldsIndex c (index_place 8 r) upper value t → node_of_body (level_vcn r) (record { bytes = node; torn = false }) ≡ Ok (raws_of t)

-- Nodes of the directory's index are planned with the key of the new file, as if no byte of its record were used: so its root has room, and the plan
-- takes as many blocks as one below the level does.
pub record CountsNodes (c : Content) (upper : List ℕ) (m : NewFile) (r : Record) (value fresh : List ℕ) (old : List Touched) (first : NodesPlan) : Type 0 where
  pub root : root_value r ≡ Some value
  pub lie : LieBehindLevel r fresh
  pub planned : PlansNodes (drafted old c) (index_place 8 r) upper value 0 (made_key m) fresh (Ok first)
  pub front : TakesFront fresh first

-- both
pub record PlansLevel (c : Content) (upper : List ℕ) (m : NewFile) (r : Record) (old : List Touched) (root node fresh : List ℕ) (first : NodesPlan) : Type 0 where
  pub value : List ℕ
  pub level : IsLevel (drafted old c) r value root node
  pub counts : CountsNodes c upper m r value fresh old first

-- ---- the blocks and the level

-- The blocks of the index are put so into a draft with this root and this node; the directory's record is then this one, and has room.
pub record RaisesInto (c : Content) (bits : List Bool) (s : VolumeStreams) (index : IndexBlocks) (more : ℕ) (root node : List ℕ) (old new : List Touched) (q : Record) : Type 0 where
  pub z : Resized
  pub raises : RaisesBlocks c 8 bits s.bitmap s.table s.mirror index more root node old new z
  pub space : wanted_clusters 8 more index.extents ≤ count_by not bits
  pub room : fits_room (raised_file 8 (taken_for 8 bits more index.extents) more root index) ≡ Ok tt
  pub is : q ≡ written_record z.file
  pub fits : FitsButRoom q

-- The index, whose bitmap stands in the record, gets so many whole blocks, which take some clusters of these bits, and the level, whose node is
-- the first block. With the level's root a step counts the same.
pub record RaisesCounted (c : Content) (bits : List Bool) (s : VolumeStreams) (n : ℕ) (r : Record) (root node : List ℕ) (more : ℕ) (old new : List Touched) (q : Record) : Type 0 where
  pub index : IndexBlocks
  pub number : index.number ≡ n
  pub streams : HasStreams r index
  pub file : index.file ≡ file_with_streams r
  pub whole : index.extents.real ≡ 4096 * (index.extents.real / 4096)
  pub some : 0 < wanted_clusters 8 more index.extents
  pub first : first_fresh index ≡ level_vcn r
  pub stands : MayGrowBlocks 8 (length bits) more index
  pub into : RaisesInto c bits s index more root node old new q
  pub counts : CountsOf bits r root_size more

-- ---- the file

-- Nodes of the index of a directory whose record is this one are planned with the key of the new file, for the used bytes of the record.
pub record PlansBehind (c : Content) (upper : List ℕ) (m : NewFile) (r : Record) (fresh : List ℕ) (old : List Touched) (nodes : NodesPlan) : Type 0 where
  pub value : List ℕ
  pub root : root_value r ≡ Some value
  pub planned : PlansNodes (drafted old c) (index_place 8 r) upper value (used_of r.attrs) (made_key m) fresh (Ok nodes)
  pub front : TakesFront fresh nodes

-- the file in the index of a directory whose record is this one, with nodes that are planned there
pub record PutsPlanned (c : Content) (s : VolumeStreams) (numbers : Extents) (upper : List ℕ) (m : NewFile) (r : Record) (fresh : List ℕ) (old new : List Touched) : Type 0 where
  pub nodes : NodesPlan
  pub plans : PlansBehind c upper m r fresh old nodes
  pub made : PutsMadeIn c s numbers m r nodes old new

-- the directory's times, and behind them the file
pub record PutsBehind (c : Content) (s : VolumeStreams) (numbers : Extents) (upper : List ℕ) (m : NewFile) (q : Record) (fresh : List ℕ) (old new : List Touched) : Type 0 where
  pub timed : List Touched
  pub times : PutsTimes c s m.parent.number m.stamp q old timed
  pub made : PutsPlanned c s numbers upper m (timed_directory m.stamp q) fresh timed new

-- the blocks that the level and the nodes take, with the level, and behind them the file
pub record PutsLevel (c : Content) (bits : List Bool) (s : VolumeStreams) (numbers : Extents) (upper : List ℕ) (m : NewFile) (r : Record) (root node fresh : List ℕ) (more : ℕ) (old new : List Touched) : Type 0 where
  pub q : Record
  pub grown : List Touched
  pub raises : RaisesCounted c bits s m.parent.number r root node more old grown q
  pub behind : PutsBehind c s numbers upper m q fresh grown new

-- The level and nodes are planned; the index gets the level and the blocks that both take; and behind them come the directory's times and the file, with
-- nodes that are planned there. The directory has standard information, and its index is quiet.
pub record PutsRaised (c : Content) (bits : List Bool) (s : VolumeStreams) (numbers : Extents) (upper : List ℕ) (m : NewFile) (r : Record) (old new : List Touched) : Type 0 where
  pub info : has_type standard_information r ≡ true
  pub quiet : IsQuiet r
  pub root : List ℕ
  pub node : List ℕ
  pub fresh : List ℕ
  pub first : NodesPlan
  pub plans : PlansLevel c upper m r old root node fresh first
  pub put : PutsLevel c bits s numbers upper m r root node fresh (1 + length first.taken.items) old new

-- ---- what refuses it

-- With the blocks that the level and the planned nodes take, by the count of a step the directory's record would have so many used bytes, which are too many.
pub record IsRaisedFull (c : Content) (bits : List Bool) (upper : List ℕ) (m : NewFile) (r : Record) (old : List Touched) (used : ℕ) : Type 0 where
  pub root : List ℕ
  pub node : List ℕ
  pub fresh : List ℕ
  pub first : NodesPlan
  pub plans : PlansLevel c upper m r old root node fresh first
  pub full : IsTooFull bits r root_size (1 + length first.taken.items) used

-- Each index that is there has sixteen levels.
pub record IsDeep (c : Content) (r : Record) (old : List Touched) (height : ℕ) : Type 0 where
  pub value : List ℕ
  pub root : root_value r ≡ Some value
  pub deep : (upper : List ℕ) (t : Tree) → HoldsIndex (drafted old c) (index_place 8 r) upper value t → levels t ≡ height
  pub sixteen : most_levels ≤ height
