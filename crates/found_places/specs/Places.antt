-- The place of a new file that an operation was found to make, as the call that makes it asks for it.
use Rattle.std.specs.Prelude.{◌≡◌, ◌≢◌, ℕ, ◌<◌, ◌≤◌, ◌^◌, true, false, List, [], length, None, Some, Ok}
use Rattle.utf16_name.specs.Lawful.{IsName}
use Rattle.disk_model.specs.Content.{Content, HasSizes}
use Rattle.record_model.specs.Constants.{standard_information}
use Rattle.record_model.specs.Pairs.{cluster_limit}
use Rattle.record_model.specs.Records.{Record, used_of}
use Rattle.file_tree.specs.declared.node.Node.{Node}
use Rattle.file_tree.specs.Trees.{node_at as node_by_number}
use Rattle.index_model.specs.Trees.{Tree, walk, times}
use Rattle.index_model.specs.Indexes.{node_block, node_of_block, links_of}
use Rattle.index_model.specs.Laws.{HoldsIndex}
use Rattle.index_change.specs.declared.nodes_plan.NodesPlan.{NodesPlan}
use Rattle.index_change.specs.NodePlans.{PlansNodes, TakesFront}
use Rattle.state_model.specs.declared.geometry.Geometry.{Geometry}
use Rattle.state_model.specs.declared.stream.Extents.{Extents}
use Rattle.state_model.specs.Files.{is_directory_record, has_type}
use Rattle.state_model.specs.Trees.{is_in_system}
use Rattle.volume_model.specs.Indexes.{index_stream, index_place, root_value}
use Rattle.volume_model.specs.Volumes.{Volume, count_of, files_by_number, file_in, upper_of, size_or}
use Rattle.volume_state.specs.Trees.{tree_of}
use Rattle.stream_laws.specs.Owners.{initialised_in}
use Rattle.tree_model.specs.declared.script.Op.TheVariants.{Create}
use Rattle.change_lookup.specs.declared.found.Found.TheVariants.{Place}
use Rattle.plan_owners.specs.States.{Stands}
use Rattle.plan_draft.specs.declared.touched.Touched.{Touched}
use Rattle.plan_draft.specs.Drafts.{drafted}
use Rattle.draft_bits.specs.Effects.{IsKept}
use Rattle.draft_records.specs.Records.{file_of}
use Rattle.made_trees.specs.plan_model.PlannedIndexes.{AreBeside}
use Rattle.made_trees.specs.change_steps.plan_values.Values.{IsOwnFile}
use Rattle.made_trees.specs.change_steps.Found.{HasChange, Finds}
use Rattle.made_trees.specs.file_puts.declared.streams.VolumeStreams.{VolumeStreams}
use Rattle.made_trees.specs.file_puts.Puts.{PutsTimes}
use Rattle.made_trees.specs.file_puts.Written.{AreStreamsOf}
use Rattle.made_trees.specs.file_makes.declared.newfile.NewFile.{NewFile}
use Rattle.made_trees.specs.made_files.Made.{made_link, made_key, IsSpare, HasNumbers}
use Rattle.made_trees.specs.file_makes.Making.{PutsMade}
use Rattle.made_trees.specs.Created.{timed_directory, timed_volume}
use Rattle.record_streams.specs.Fitting.{FitsButRoom}
use Rattle.found_places.specs.Steady.{IsSteady}

-- ---- what is found

-- An operation was found to make this file in this directory, at a number of the file table as it is.
pub record IsFoundPlace (c : Content) (g : Geometry) (clusters : ℕ) (v : Volume) (path : List (List ℕ)) (directory : Node) (m : NewFile) : Type 0 where
  pub has : HasChange c g clusters v (Create path)
  pub finds : Finds c v (Create path) (Place directory m.name m.file)
  pub parent : m.parent ≡ record { number = directory.number; seq = directory.seq }
  pub within : m.file.number < count_of v
  pub few : clusters ≤ cluster_limit

-- The directory has this node and this record, which is read of the file table as it stands; none of the volume's own but the root is it or above it.
-- The number is spare.
pub record HasPlace (c : Content) (v : Volume) (directory : Node) (m : NewFile) (a : Node) (r : Record) : Type 0 where
  pub node : node_by_number (tree_of c v).nodes directory.number ≡ Some a
  pub referred : m.parent ≡ record { number = a.number; seq = a.seq }
  pub number : a.number ≡ directory.number
  pub seq : a.seq ≡ r.head.seq
  pub own : IsOwnFile v m.parent.number r
  pub is_directory : is_directory_record r ≡ true
  pub high : 4 ≤ m.parent.number
  pub not_extend : m.parent.number ≢ 11
  pub outside : is_in_system (files_by_number v) (count_of v) m.parent.number ≡ false
  pub reads : file_of c v.per v.table m.parent.number ≡ Some r
  pub small : m.parent.number < 2 ^ 48
  pub spare : IsSpare c v m.file.number
  pub low : m.file.number < 2 ^ 32

-- its index is this tree below the root with this value, and no name of it has the units of the new one
pub record HasNames (c : Content) (v : Volume) (m : NewFile) (r : Record) (value : List ℕ) (t : Tree) : Type 0 where
  pub root : root_value r ≡ Some value
  pub holds : HoldsIndex c (index_place v.per r) (upper_of c v) value t
  pub beside : AreBeside (upper_of c v) (made_link m) (links_of (walk t))

-- ---- with the directory's times

-- A state with a directory that has standard information. The draft that touched nothing has put its times.
pub record PutsDirectory (c : Content) (g : Geometry) (clusters : ℕ) (v : Volume) (s : VolumeStreams) (m : NewFile) (r : Record) (timed : List Touched) : Type 0 where
  pub sized : HasSizes c
  pub eight : g.per_cluster ≡ 8
  pub stands : Stands c g clusters v
  pub streams : AreStreamsOf v s
  pub own : IsOwnFile v m.parent.number r
  pub high : 4 ≤ m.parent.number
  pub info : has_type standard_information r ≡ true
  pub times : PutsTimes c s m.parent.number m.stamp r [] timed

-- Then the draft stands for the volume with that record, of which the streams, the bits of the numbers, the table of upper-case units and the directory's index
-- are those of before.
pub record HasTimes (c : Content) (g : Geometry) (clusters : ℕ) (v : Volume) (s : VolumeStreams) (m : NewFile) (r : Record) (timed : List Touched) : Type 0 where
  pub kept : IsKept timed
  pub stands : Stands (drafted timed c) g clusters (timed_volume v m r)
  pub streams : AreStreamsOf (timed_volume v m r) s
  pub file : IsOwnFile (timed_volume v m r) m.parent.number (timed_directory m.stamp r)
  pub upper : upper_of (drafted timed c) (timed_volume v m r) ≡ upper_of c v
  pub place : index_place v.per (timed_directory m.stamp r) ≡ index_place v.per r
  pub nodes : node_of_block (drafted timed c) (index_place v.per r) ≡ node_of_block c (index_place v.per r)
  pub root : root_value (timed_directory m.stamp r) ≡ root_value r

-- ---- what is put

-- These VCNs have no block in a directory's index, and stand once in the list.
pub record LieBehind (per : ℕ) (r : Record) (fresh : List ℕ) : Type 0 where
  pub enough : 17 ≤ length fresh
  pub single : (w : ℕ) → times w fresh ≤ 1
  pub behind : (w : ℕ) → 0 < times w fresh → node_block (index_place per r) w ≡ None

-- The operation was found to make this file. The draft that touched nothing has put its directory's times, and behind them the file, of which the nodes were
-- planned over the draft between, with fresh VCNs behind the blocks of the directory's index, which are all initialised.
pub record PutsPlace (c : Content) (g : Geometry) (clusters : ℕ) (v : Volume) (s : VolumeStreams) (numbers : Extents) (path : List (List ℕ)) (directory : Node) (m : NewFile) (r : Record) (value : List ℕ) (used : ℕ) (fresh : List ℕ) (nodes : NodesPlan) (timed new : List Touched) : Type 0 where
  pub sized : HasSizes c
  pub found : IsFoundPlace c g clusters v path directory m
  pub is_name : IsName m.name
  pub seq : m.file.seq < 2 ^ 16
  pub soon : m.stamp < 2 ^ 64
  pub streams : AreStreamsOf v s
  pub bits : HasNumbers v numbers
  pub file : file_in v m.parent.number ≡ Some r
  pub info : has_type standard_information r ≡ true
  pub fits : FitsButRoom r
  pub root : root_value r ≡ Some value
  pub begun : size_or (index_stream r) ≤ initialised_in (index_stream r)
  pub times : PutsTimes c s m.parent.number m.stamp r [] timed
  pub lie : LieBehind v.per (timed_directory m.stamp r) fresh
  pub planned : PlansNodes (drafted timed c) (index_place v.per (timed_directory m.stamp r)) (upper_of c v) value used (made_key m) fresh (Ok nodes)
  pub front : TakesFront fresh nodes
  pub put : PutsMade c s numbers m (timed_directory m.stamp r) (index_place v.per (timed_directory m.stamp r)) value nodes timed new

-- ---- without a block more

-- The nodes were planned for the used bytes that the record has, and the index is steady.
pub record PutsFlat (c : Content) (g : Geometry) (clusters : ℕ) (v : Volume) (s : VolumeStreams) (numbers : Extents) (path : List (List ℕ)) (directory : Node) (m : NewFile) (r : Record) (value : List ℕ) (fresh : List ℕ) (nodes : NodesPlan) (timed new : List Touched) : Type 0 where
  pub puts : PutsPlace c g clusters v s numbers path directory m r value (used_of r.attrs) fresh nodes timed new
  pub steady : IsSteady r
