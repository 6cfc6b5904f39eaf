-- What a draft puts of a file in the place that was found for it.
use Rattle.std.specs.Prelude.{◌≡◌, ℕ, zero, suc, ◌+◌, ◌<◌, ◌≤◌, Bool, true, List, length, Option, Some, Ok}
use Rattle.disk_model.specs.Content.{Content}
use Rattle.record_model.specs.Constants.{standard_information, index_allocation, names_index}
use Rattle.record_model.specs.Nodes.{entries_length}
use Rattle.record_model.specs.Records.{Record, used_of}
use Rattle.index_change.specs.declared.nodes_plan.NodesPlan.{NodesPlan}
use Rattle.index_change.specs.NodePlans.{PlansNodes, TakesFront}
use Rattle.state_model.specs.declared.stream.Extents.{Extents}
use Rattle.state_model.specs.declared.stream.Stream.{Stream}
use Rattle.state_model.specs.Files.{has_type}
use Rattle.state_model.specs.Streams.{stream_of}
use Rattle.volume_model.specs.Indexes.{index_place, root_value}
use Rattle.volume_model.specs.Volumes.{size_or}
use Rattle.stream_laws.specs.Owners.{initialised_in}
use Rattle.plan_draft.specs.declared.touched.Touched.{Touched}
use Rattle.plan_draft.specs.Drafts.{drafted}
use Rattle.index_grows.specs.Counted.{IsTooFull}
use Rattle.index_grows.specs.Growing.{GrowsCounted}
use Rattle.made_trees.specs.file_puts.declared.streams.VolumeStreams.{VolumeStreams}
use Rattle.made_trees.specs.file_puts.Puts.{PutsTimes}
use Rattle.made_trees.specs.file_makes.declared.newfile.NewFile.{NewFile}
use Rattle.made_trees.specs.file_makes.Making.{PutsMade}
use Rattle.made_trees.specs.made_files.Made.{made_key}
use Rattle.made_trees.specs.Created.{timed_directory}
use Rattle.found_places.specs.Steady.{IsSteady}
use Rattle.found_places.specs.Places.{LieBehind}

-- all of a stream is initialised
abbrev pub IsBegun : Option Stream → Type 0
IsBegun o = size_or o ≤ initialised_in o

-- an index that is steady, and all of whose blocks are initialised
pub record IsQuiet (r : Record) : Type 0 where
  pub steady : IsSteady r
  pub begun : IsBegun (stream_of index_allocation names_index r.attrs)

-- The directory's record and the draft once its index has so many blocks more, counted for a root of so many bytes; both are those from before where there are none.
abbrev pub HasBlocksFor : ℕ → Content → List Bool → VolumeStreams → ℕ → Record → ℕ → List Touched → List Touched → Record → Type 0
HasBlocksFor zero c bits s n r root old new q = (q ≡ r) × (new ≡ old)
HasBlocksFor (suc more) c bits s n r root old new q = GrowsCounted c bits s n r root (suc more) old new q

-- the file with these nodes, laid out where the directory's index lies by its record
pub record PutsMadeIn (c : Content) (s : VolumeStreams) (numbers : Extents) (m : NewFile) (q : Record) (nodes : NodesPlan) (old new : List Touched) : Type 0 where
  pub value : List ℕ
  pub root : root_value q ≡ Some value
  pub put : PutsMade c s numbers m q (index_place 8 q) value nodes old new

-- the directory's times, and behind them the file with these nodes
pub record PutsTimed (c : Content) (s : VolumeStreams) (numbers : Extents) (m : NewFile) (q : Record) (nodes : NodesPlan) (old new : List Touched) : Type 0 where
  pub timed : List Touched
  pub times : PutsTimes c s m.parent.number m.stamp q old timed
  pub made : PutsMadeIn c s numbers m (timed_directory m.stamp q) nodes timed new

-- the blocks that these nodes take, and behind them the file
pub record PutsNodes (c : Content) (bits : List Bool) (s : VolumeStreams) (numbers : Extents) (m : NewFile) (r : Record) (nodes : NodesPlan) (old new : List Touched) : Type 0 where
  pub q : Record
  pub grown : List Touched
  pub blocks : HasBlocksFor (length nodes.taken.items) c bits s m.parent.number r (0x20 + entries_length nodes.root) old grown q
  pub behind : PutsTimed c s numbers m q nodes grown new

-- Nodes of the directory's index are planned with the key of the new file, for the used bytes of its record.
pub record PlansPlace (c : Content) (upper : List ℕ) (m : NewFile) (r : Record) (old : List Touched) (nodes : NodesPlan) : Type 0 where
  pub value : List ℕ
  pub root : root_value r ≡ Some value
  pub fresh : List ℕ
  pub lie : LieBehind 8 r fresh
  pub planned : PlansNodes (drafted old c) (index_place 8 r) upper value (used_of r.attrs) (made_key m) fresh (Ok nodes)
  pub front : TakesFront fresh nodes

-- Nodes are planned; the index gets the blocks that the plan takes; and behind them come the directory's times and the file. The directory has standard information,
-- and its index is quiet.
pub record PutsInPlace (c : Content) (bits : List Bool) (s : VolumeStreams) (numbers : Extents) (upper : List ℕ) (m : NewFile) (r : Record) (old new : List Touched) : Type 0 where
  pub info : has_type standard_information r ≡ true
  pub quiet : IsQuiet r
  pub nodes : NodesPlan
  pub plans : PlansPlace c upper m r old nodes
  pub put : PutsNodes c bits s numbers m r nodes old new

-- With the blocks that the planned nodes take, by the count of a step the directory's record would have so many used bytes, which are too many. The
-- directory has standard information, and its index is quiet.
pub record IsPlaceFull (c : Content) (bits : List Bool) (upper : List ℕ) (m : NewFile) (r : Record) (old : List Touched) (used : ℕ) : Type 0 where
  pub info : has_type standard_information r ≡ true
  pub quiet : IsQuiet r
  pub nodes : NodesPlan
  pub plans : PlansPlace c upper m r old nodes
  pub takes : 0 < length nodes.taken.items
  pub full : IsTooFull bits r (0x20 + entries_length nodes.root) (length nodes.taken.items) used
