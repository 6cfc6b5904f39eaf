-- A directory's index that gets more blocks.
use Rattle.std.specs.Prelude.{◌≡◌, ℕ, zero, suc, ◌+◌, ◌-◌, ◌*◌, ◌/◌, ◌<◌, ◌≤◌, ◌^◌, ◌&&◌, ◌||◌, nat_le, nat_lt, max, if◌then◌else◌, ⊤, Bool, true, IfSome, List, [], length, map}
use Rattle.std.specs.List.{range_with_len}
use Rattle.disk_model.specs.declared.block.BlockKind.TheVariants.{Index}
use Rattle.disk_model.specs.Bytes.{zeros}
use Rattle.disk_model.specs.Content.{Content}
use Rattle.record_model.specs.Constants.{bitmap_type, index_allocation, index_root, names_index}
use Rattle.record_model.specs.declared.runs.Run.{Run}
use Rattle.record_model.specs.Pairs.{cluster_limit, HasSpelling}
use Rattle.record_model.specs.Records.{Record}
use Rattle.bit_set.specs.Words.{byte_bit}
use Rattle.state_model.specs.declared.stream.Extents.{Extents}
use Rattle.state_model.specs.Loads.{total_clusters}
use Rattle.state_model.specs.Streams.{block_at}
use Rattle.space_model.specs.Choosing.{chosen}
use Rattle.stream_runs.specs.Runs.{last_cluster}
use Rattle.draft_growth.specs.record_streams.Fitting.{FitsButRoom}
use Rattle.draft_growth.specs.record_streams.Placing.{placed_record}
use Rattle.draft_growth.specs.record_values.Values.{valued_record}
use Rattle.plan_draft.specs.declared.touched.Touched.{Touched}
use Rattle.draft_growth.specs.resized_streams.declared.resized.Resized.{Resized}
use Rattle.draft_growth.specs.resized_streams.Resizing.{lengthened, clusters_for, with_sizes}
use Rattle.draft_growth.specs.draft_records.Records.{touch_if}
use Rattle.draft_growth.specs.draft_resized.Resized.{PutsResized}
use Rattle.draft_growth.specs.declared.fault.GrowthFault.{GrowthFault}
use Rattle.draft_growth.specs.declared.fault.GrowthFault.TheVariants.{Full, Short, Fault, Memory}
use Rattle.draft_indexes.specs.declared.blocks.IndexBlocks.{IndexBlocks}

-- ---- the bits of the blocks

-- the block with this number is in use, or it is one of those that come, from first on, below end
unfoldable pub is_used : ℕ → ℕ → List ℕ → ℕ → Bool
is_used first end bits i = (nat_le first i && nat_lt i end) || byte_bit bits i

-- the number of which so many low bits are these
unfoldable pub low_bits : (ℕ → Bool) → ℕ → ℕ
low_bits f zero = 0
low_bits f (suc n) = low_bits f n + (if f n then 2 ^ n else 0)

-- so many bytes of these bits, the low bit of each first
unfoldable pub bytes_of_bits : (ℕ → Bool) → ℕ → List ℕ
bytes_of_bits f n = map (λ j. low_bits (λ k. f (8 * j + k)) 8) (range_with_len 0 n)

-- ---- the directory's record

-- the size of its blocks with so many more
abbrev pub size_with : ℕ → Extents → ℕ
size_with more e = e.real + 4096 * more

-- how many clusters they lack then
abbrev pub wanted_clusters : ℕ → ℕ → Extents → ℕ
wanted_clusters per more e = clusters_for per (size_with more e) - total_clusters e.runs

-- those that they take among these bits
abbrev pub taken_for : ℕ → List Bool → ℕ → Extents → List Run
taken_for per bits more e = chosen bits (last_cluster e.runs) (wanted_clusters per more e)

-- the blocks with these clusters behind their own, all of them initialised
abbrev pub blocks_with : ℕ → List Run → ℕ → Extents → Extents
blocks_with per taken more e = with_sizes (size_with more e) (size_with more e) (lengthened per taken e)

-- the bytes of the bitmap of blocks of this size: 8 for each 64 of them
abbrev pub bits_size : ℕ → ℕ
bits_size size = 8 * ((size / 4096 + 63) / 64)

-- the bitmap with at least so many, in which the bits of the blocks that come are set
abbrev pub bits_with : ℕ → Extents → List ℕ → List ℕ
bits_with more e bits = bytes_of_bits (is_used (e.real / 4096) (size_with more e / 4096) bits) (max (length bits) (bits_size (size_with more e)))

-- the record with both
abbrev pub grown_file : ℕ → List Run → ℕ → IndexBlocks → Record
grown_file per taken more i = valued_record bitmap_type names_index (bits_with more i.extents i.bits) (placed_record per index_allocation names_index (blocks_with per taken more i.extents) i.file)

-- and with this value of the root of its index
abbrev pub raised_file : ℕ → List Run → ℕ → List ℕ → IndexBlocks → Record
raised_file per runs more root i = valued_record index_root names_index root (grown_file per runs more i)

-- its blocks take these runs, and none of their clusters is given back
pub record IsLongerIndex (per : ℕ) (runs : List Run) (more : ℕ) (i : IndexBlocks) (z : Resized) : Type 0 where
  pub extents : z.extents ≡ blocks_with per runs more i.extents
  pub file : z.file ≡ grown_file per runs more i
  pub taken : z.taken.items ≡ runs
  pub freed : z.freed.items ≡ []

-- with this root too
pub record IsRaisedIndex (per : ℕ) (runs : List Run) (more : ℕ) (root : List ℕ) (i : IndexBlocks) (z : Resized) : Type 0 where
  pub extents : z.extents ≡ blocks_with per runs more i.extents
  pub file : z.file ≡ raised_file per runs more root i
  pub taken : z.taken.items ≡ runs
  pub freed : z.freed.items ≡ []

-- bounds on an index that gets so many blocks more, in a volume with so many clusters: its runs follow one another, and it has room for
-- the clusters and the bytes
pub record MayGrowBlocks (per clusters more : ℕ) (i : IndexBlocks) : Type 0 where
  pub clusters_few : clusters ≤ cluster_limit
  pub spelled : HasSpelling 0 i.extents.runs
  pub last : IfSome (last_cluster i.extents.runs) (λ at. at < clusters)
  pub total : total_clusters i.extents.runs + wanted_clusters per more i.extents ≤ cluster_limit
  pub few : length i.extents.runs + wanted_clusters per more i.extents ≤ 2 ^ 16
  pub blocks : more ≤ 2 ^ 16
  pub real : i.extents.real ≤ 2 ^ 30
  pub initialised : i.extents.initialised ≤ 2 ^ 40
  pub bits : length i.bits ≤ 2 ^ 15
  pub fits : FitsButRoom i.file
  pub number : i.number < 2 ^ 48

-- ---- the blocks

-- how many blocks begin below so many bytes
abbrev pub blocks_in : ℕ → ℕ
blocks_in bytes = (bytes + 4095) / 4096

-- a body put into a block of the index, which is fresh
abbrev pub with_block : Content → ℕ → Extents → List ℕ → ℕ → List Touched → List Touched
with_block c per e body m touched = touch_if c (block_at per e.runs Index m) true body touched

-- into so many from this number on
unfoldable pub with_blocks : Content → ℕ → Extents → List ℕ → ℕ → ℕ → List Touched → List Touched
with_blocks c per e body first zero touched = touched
with_blocks c per e body first (suc n) touched = with_block c per e body (first + n) (with_blocks c per e body first n touched)

-- ---- what is put

-- the directory is put with the bits of its clusters, and then so many blocks from this one on as zeros
abbrev pub PutsIndex : Content → ℕ → Extents → Extents → Extents → ℕ → Resized → ℕ → ℕ → List Touched → List Touched → Type 0
PutsIndex c per bitmap table mirror n z first count old new = (mid : List Touched) × (PutsResized c per bitmap table mirror n z old mid × (new ≡ with_blocks c per z.extents (zeros 4096) first count mid))

-- the directory is put with the bits of its clusters, then this body into this block, and so many blocks behind it as zeros
abbrev pub PutsRaised : Content → ℕ → Extents → Extents → Extents → ℕ → Resized → ℕ → ℕ → List ℕ → List Touched → List Touched → Type 0
PutsRaised c per bitmap table mirror n z first count node old new = (mid : List Touched) × (PutsResized c per bitmap table mirror n z old mid × (new ≡ with_blocks c per z.extents (zeros 4096) (first + 1) count (with_block c per z.extents node first mid)))

-- The index grows: the directory's record has the longer streams, the bits of the clusters that came are set, and each block that comes to
-- be initialised is zeros, written whole.
pub record GrowsBlocks (c : Content) (per : ℕ) (bits : List Bool) (bitmap table mirror : Extents) (i : IndexBlocks) (more : ℕ) (old new : List Touched) (z : Resized) : Type 0 where
  pub longer : IsLongerIndex per (taken_for per bits more i.extents) more i z
  pub fits : FitsButRoom z.file
  pub put : PutsIndex c per bitmap table mirror i.number z (blocks_in i.extents.initialised) (blocks_in (size_with more i.extents) - blocks_in i.extents.initialised) old new

-- The index grows with another root: this body goes into the first block that comes to be initialised, and each other one is zeros.
pub record RaisesBlocks (c : Content) (per : ℕ) (bits : List Bool) (bitmap table mirror : Extents) (i : IndexBlocks) (more : ℕ) (root node : List ℕ) (old new : List Touched) (z : Resized) : Type 0 where
  pub longer : IsRaisedIndex per (taken_for per bits more i.extents) more root i z
  pub fits : FitsButRoom z.file
  pub put : PutsRaised c per bitmap table mirror i.number z (blocks_in i.extents.initialised) (blocks_in (size_with more i.extents) - (blocks_in i.extents.initialised + 1)) node old new

-- where there is no room, in the record or among the clusters, nothing is touched
abbrev pub StaysWhereRefused : List Touched → List Touched → GrowthFault → Type 0
StaysWhereRefused old new (Full used) = new ≡ old
StaysWhereRefused old new (Short room) = new ≡ old
StaysWhereRefused old new Fault = ⊤
StaysWhereRefused old new Memory = ⊤
