-- Which blocks of a stream changes may be of, and which records are read anew.
use Rattle.std.specs.Prelude.{◌≡◌, ℕ, ◌+◌, ◌-◌, ◌*◌, ◌/◌, ◌<◌, ◌≤◌, Bool, ◌==◌, nat_le, nat_lt, if◌then◌else◌, List, [], ◌++◌, Option, Some, None, find}
use Rattle.std.specs.List.{filter_map, flat_map, range_with_len}
use Rattle.disk_model.specs.declared.block.Block.{Block}
use Rattle.disk_model.specs.declared.block.Change.{Change}
use Rattle.disk_model.specs.declared.block.BlockKind.{BlockKind}
use Rattle.disk_model.specs.declared.block.BlockKind.TheVariants.{FileRec}
use Rattle.disk_model.specs.Sectors.{sectors, same_kind}
use Rattle.volume_map.specs.record_model.declared.runs.Run.{Run}
use Rattle.volume_map.specs.state_model.declared.stream.Extents.{Extents}
use Rattle.volume_map.specs.state_model.Streams.{block_at, holds, lcn_in}
use Rattle.volume_map.specs.state_model.Loads.{record_count}
use Rattle.volume_map.specs.volume_model.Owners.{covers}

-- ---- blocks of a stream

abbrev pub number_by : ℕ → ℕ → ℕ → ℕ → ℕ → Option ℕ → Option ℕ
number_by size per count first vcn None = None
number_by size per count first vcn (Some lcn) = if nat_lt ((vcn * per + first - lcn * per) / size) count then Some ((vcn * per + first - lcn * per) / size) else None

-- the place, below so many of the size of the block's kind, at which a stream would have the block by this run
unfoldable pub number_at : ℕ → ℕ → Block → Run → Option ℕ
number_at per count b r = if covers (b.first / per) r then number_by (sectors b.kind) per count b.first r.vcn r.lcn else None

-- those that the change may be of, where its block is of this kind
unfoldable pub numbers_of : BlockKind → ℕ → ℕ → List Run → Change → List ℕ
numbers_of kind per count runs c = if same_kind c.block.kind kind then filter_map (number_at per count c.block) runs else []

unfoldable pub touched_numbers : BlockKind → ℕ → ℕ → List Run → List Change → List ℕ
touched_numbers kind per count runs changes = flat_map (numbers_of kind per count runs) changes

abbrev pub is_number : ℕ → ℕ → Bool
is_number n m = m == n

-- ---- records

-- Below so many VCNs two lists of runs put what is in one run at the same clusters.
abbrev pub AgreeBelow : List Run → List Run → ℕ → Type 0
AgreeBelow old new n = (v w : ℕ) → v ≤ w → w < n → lcn_in v (find (holds v w) new) ≡ lcn_in v (find (holds v w) old)

-- no run begins below so many VCNs
abbrev pub NoneBelow : List Run → ℕ → Type 0
NoneBelow runs n = (v w : ℕ) → v ≤ w → w < n → find (holds v w) runs ≡ None

-- So many records lie by both extents of a file table at the same places, and begin below the initialised sizes of both, or of neither.
pub record KeepsPlaces (per : ℕ) (e f : Extents) (n : ℕ) : Type 0 where
  pub old : n ≤ record_count e
  pub new : n ≤ record_count f
  pub places : (m : ℕ) → m < n → block_at per f.runs FileRec m ≡ block_at per e.runs FileRec m
  pub begun : (m : ℕ) → m < n → nat_le f.initialised (1024 * m) ≡ nat_le e.initialised (1024 * m)

-- of so many records that keep their places those that changes may be of, and all behind them
abbrev pub changed_numbers : ℕ → Extents → Extents → ℕ → List Change → List ℕ
changed_numbers per e f n changes = touched_numbers FileRec per n e.runs changes ++ range_with_len n (record_count f - n)
