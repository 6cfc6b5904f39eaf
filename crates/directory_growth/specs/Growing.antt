-- What comes of a directory's index that gets more blocks, in the words of a step.
use Rattle.std.specs.Prelude.{◌≡◌, ⊤, ℕ, ◌+◌, ◌-◌, ◌*◌, ◌/◌, ◌^◌, ◌<◌, ◌≤◌, ◌==◌, if◌then◌else◌, Bool, true, false, not, List, [], ◌∷◌, ◌++◌, length, count_by, Option, Some, None, Result, IfOk, OnErr}
use Rattle.disk_model.specs.Bytes.{zeros}
use Rattle.record_model.specs.Constants.{standard_information, index_root, index_allocation, bitmap_type, names_index}
use Rattle.record_model.specs.Nodes.{entries_length}
use Rattle.record_model.specs.Records.{Record}
use Rattle.index_model.specs.Trees.{Tree, raws_of}
use Rattle.state_model.specs.declared.stream.Extents.{Extents}
use Rattle.state_model.specs.declared.stream.Stream.{Stream}
use Rattle.state_model.specs.declared.stream.Stream.TheVariants.{Held, Placed}
use Rattle.state_model.specs.Files.{has_type}
use Rattle.state_model.specs.Loads.{total_clusters, has_all_pairs}
use Rattle.state_model.specs.Streams.{attributes_of, stream_of}
use Rattle.volume_model.specs.Volumes.{size_or}
use Rattle.tree_model.specs.declared.reply.Reply.{Reply}
use Rattle.space_model.specs.Choosing.{with_runs}
use Rattle.plan_space.specs.Choices.{TakesFirst}
use Rattle.data_plan.specs.record_streams.Fitting.{FitsButRoom}
use Rattle.data_plan.specs.record_streams.Placing.{placed_record}
use Rattle.data_plan.specs.record_values.Values.{valued_record}
use Rattle.data_plan.specs.resized_streams.declared.resized.Resized.{Resized}
use Rattle.data_plan.specs.resized_streams.Resizing.{unplaced}
use Rattle.data_plan.specs.step_model.Placing.{Growth, more_of, runs_after, taken_runs, wanted_by}
use Rattle.data_plan.specs.step_model.Used.{used_after}
use Rattle.data_plan.specs.step_model.Streams.{in_clusters, wanted_blocks, wanted_used, index_comes}
use Rattle.data_plan.specs.step_model.Plans.{full_row, used_in}
use Rattle.data_plan.specs.declared.fault.DataFault.{DataFault}
use Rattle.data_plan.specs.declared.fault.DataFault.TheVariants as fault
use Rattle.data_plan.specs.Faults.{IsShortOf, HasRow}
use Rattle.data_plan.specs.Changes.{BeginsAtZero, LiesBelow, StandsBelow, IsReady}
use Rattle.directory_growth.specs.declared.change.BitsChange.{BitsChange}
use Rattle.directory_growth.specs.declared.change.BitsChange.TheVariants as change
use Rattle.directory_growth.specs.declared.change.IndexChange.{IndexChange}

-- ---- the directory

-- the blocks of its index, and the bitmap of these
abbrev pub blocks_in : Record → Option Stream
blocks_in r = stream_of index_allocation names_index r.attrs

abbrev pub bits_in : Record → Option Stream
bits_in r = stream_of bitmap_type names_index r.attrs

-- the blocks stand in clusters
abbrev pub LieBelow : ℕ → Option Stream → Type 0
LieBelow clusters None = ⊥
LieBelow clusters (Some (Held value)) = ⊥
LieBelow clusters (Some (Placed e)) = LiesBelow clusters e

-- a bitmap that stands in its record has at most the bytes of a cluster
abbrev pub IsShortValue : Option Stream → Type 0
IsShortValue None = ⊤
IsShortValue (Some (Held value)) = length value ≤ 4096
IsShortValue (Some (Placed e)) = ⊤

-- A directory with standard information whose index has an allocation and a bitmap, in a volume of so many clusters.
pub record HasIndex (clusters : ℕ) (r : Record) : Type 0 where
  pub fits : FitsButRoom r
  pub pairs : has_all_pairs r ≡ true
  pub info : has_type standard_information r ≡ true
  pub root : BeginsAtZero (attributes_of index_root names_index r.attrs)
  pub blocks : BeginsAtZero (attributes_of index_allocation names_index r.attrs)
  pub bits : BeginsAtZero (attributes_of bitmap_type names_index r.attrs)
  pub placed : LieBelow clusters (blocks_in r)
  pub stands : StandsBelow clusters (bits_in r)
  pub short : IsShortValue (bits_in r)

-- The blocks have at least one with those that come, and not too many; the root that the index comes to have isn't too long.
pub record GrowsLittle (r : Record) (root more : ℕ) : Type 0 where
  pub some : 4096 ≤ size_or (blocks_in r) + 4096 * more
  pub real : size_or (blocks_in r) ≤ 2 ^ 30
  pub few : more ≤ 2 ^ 14
  pub short : root ≤ 2 ^ 16

-- ---- what the step says

-- the bytes of the value of a root with the entries of this tree
abbrev pub root_bytes : Tree → ℕ
root_bytes t = 0x20 + entries_length (raws_of t)

-- the bytes of the bitmap of blocks of this size: 8 for each 64 of them
abbrev pub bits_size : ℕ → ℕ
bits_size size = 8 * ((size / 4096 + 63) / 64)

-- the clusters that the blocks take, and those that both streams take
abbrev pub blocks_growth : List Bool → ℕ → Record → ℕ → Growth
blocks_growth bits n r more = (in_clusters bits r (wanted_blocks n r more)).growth

abbrev pub growths_of : List Bool → ℕ → Record → Tree → ℕ → List Growth
growths_of bits n r t more = (index_comes bits n r t more).growths

-- the used bytes of the record then, and its row where it would be too full
abbrev pub used_with : List Bool → ℕ → Record → Tree → ℕ → ℕ
used_with bits n r t more = used_after (index_comes bits n r t more).attrs r

abbrev pub row_of : List Bool → ℕ → Record → Tree → ℕ → Option Reply
row_of bits n r t more = full_row (used_in (Some r) (index_comes bits n r t more))

-- ---- what comes of a stream

-- in its clusters then, with this size, all of it initialised; where clusters come, all of them are allocated
abbrev pub extents_after : Growth → Extents → ℕ → Extents
extents_after g e size = record { runs = runs_after g; allocated = if g.clusters == total_clusters g.old then e.allocated else 4096 * total_clusters (runs_after g); real = size; initialised = size }

-- The stream of this type takes the clusters that the step says, and the record has it in these.
pub record ComesInto (kind : ℕ) (g : Growth) (r : Record) (e : Extents) (size : ℕ) (z : Resized) : Type 0 where
  pub clusters : g.stands ≡ false
  pub taken : z.taken.items ≡ g.runs
  pub freed : z.freed.items ≡ []
  pub extents : z.extents ≡ extents_after g e size
  pub file : z.file ≡ placed_record 8 kind names_index (extents_after g e size) r

-- the blocks come into the directory's record with their new size
pub record BlocksCome (g : Growth) (r : Record) (size : ℕ) (z : Resized) : Type 0 where
  pub e : Extents
  pub placed : blocks_in r ≡ Some (Placed e)
  pub come : ComesInto index_allocation g r e size z

-- the bitmap stays in the record, with zeros behind
pub record BitsStay (g : Growth) (old : Option Stream) (r : Record) (size : ℕ) (file : Record) : Type 0 where
  pub stands : g.stands ≡ true
  pub value : List ℕ
  pub held : old ≡ Some (Held value)
  pub file_is : file ≡ valued_record bitmap_type names_index (value ++ zeros (size - length value)) r

-- its value leaves the record for clusters
pub record BitsLeave (g : Growth) (old : Option Stream) (r : Record) (size : ℕ) (z : Resized) : Type 0 where
  pub value : List ℕ
  pub held : old ≡ Some (Held value)
  pub come : ComesInto bitmap_type g r (unplaced size) size z

-- it stands in clusters
pub record BitsComeInto (g : Growth) (old : Option Stream) (r : Record) (size : ℕ) (z : Resized) : Type 0 where
  pub e : Extents
  pub placed : old ≡ Some (Placed e)
  pub come : ComesInto bitmap_type g r e size z

-- what comes of the bitmap that stood so, in this record
abbrev pub BitsCome : Growth → Option Stream → Record → ℕ → BitsChange → Type 0
BitsCome g old r size (change.Stays file) = BitsStay g old r size file
BitsCome g old r size (change.Leaves z) = BitsLeave g old r size z
BitsCome g old r size (change.Placed z) = BitsComeInto g old r size z

-- The blocks and behind them their bitmap take the clusters that the step says, and the record has room with them and the root.
pub record IsIndexChange (bits : List Bool) (n : ℕ) (r : Record) (t : Tree) (more : ℕ) (a : IndexChange) : Type 0 where
  pub blocks_grow : Growth
  pub bits_grow : Growth
  pub growths : growths_of bits n r t more ≡ blocks_grow ∷ bits_grow ∷ []
  pub blocks : BlocksCome blocks_grow r (wanted_blocks n r more).real a.blocks
  pub bitmap : BitsCome bits_grow (bits_in r) a.blocks.file (wanted_used n r more).real a.bits
  pub used : a.used ≡ used_with bits n r t more
  pub room : a.used ≤ 1024

-- what a draft asks of it: records have a spelling but for their room, and runs aren't too many or too far
abbrev pub AreReadyBits : BitsChange → Type 0
AreReadyBits (change.Stays file) = FitsButRoom file
AreReadyBits (change.Leaves z) = IsReady z
AreReadyBits (change.Placed z) = IsReady z

pub record IsReadyIndex (a : IndexChange) : Type 0 where
  pub blocks : IsReady a.blocks
  pub bitmap : AreReadyBits a.bits

-- ---- the answer

-- a fault that tells the clusters that were free at first
abbrev pub at_first : ℕ → DataFault → DataFault
at_first room (fault.Full used) = fault.Full used
at_first room (fault.Short clear) = fault.Short room
at_first room fault.Memory = fault.Memory

-- What comes of the index is what the step says, and the bits of the runs that it takes are set. It is Short where fewer bits are clear than
-- both streams want, and none is set where fewer are than the blocks want; else it is Full exactly where the record would be too full.
pub record IndexAfter (bits new : List Bool) (n : ℕ) (r : Record) (t : Tree) (more : ℕ) (result : Result IndexChange DataFault) : Type 0 where
  pub is_change : IfOk result (IsIndexChange bits n r t more)
  pub taken : IfOk result (λ _. new ≡ with_runs (taken_runs (growths_of bits n r t more)) bits)
  pub short : count_by not bits < wanted_by (growths_of bits n r t more) → IsShortOf (count_by not bits) result
  pub unchanged : count_by not bits < more_of (blocks_growth bits n r more) → new ≡ bits
  pub full : wanted_by (growths_of bits n r t more) ≤ count_by not bits → HasRow (row_of bits n r t more) result
  pub first : OnErr result (TakesFirst (taken_runs (growths_of bits n r t more)) bits new)
