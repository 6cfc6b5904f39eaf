-- What a change of a map does to it.
use Rattle.std.specs.Prelude.{ℕ, ◌+◌, ◌-◌, ◌≤◌, Bool, ◌&&◌, nat_le, nat_lt, if◌then◌else◌, List, [], ◌∷◌, ◌++◌, length, map, take, replicate, unwrap_or, Option, Some, None, slice_set, vec_capacity, ⊤}
use Rattle.std.specs.List.{range_with_len}
use Rattle.bit_set.specs.Bits.{bit}
use Rattle.volume_map.specs.state_model.declared.stream.Extents.{Extents}
use Rattle.volume_map.specs.state_model.Loads.{record_count}
use Rattle.stream_laws.specs.Rewrites.{with_files, with_table}
use Rattle.volume_map.specs.Heads.{no_head}
use Rattle.map_change.specs.Parts.{MapParts, live_parts}
use Rattle.map_change.specs.declared.live.LiveMap.{LiveMap}
use Rattle.map_change.specs.declared.change.RecordChange.{RecordChange}
use Rattle.map_change.specs.declared.change.BitRun.{BitRun}
use Rattle.map_change.specs.declared.change.BitsChange.{BitsChange}
use Rattle.map_change.specs.declared.change.BitsChange.TheVariants.{Whole, Runs}
use Rattle.map_change.specs.declared.change.PartsChange.{PartsChange}
use Rattle.map_change.specs.declared.change.MapChange.{MapChange}
use Rattle.map_change.specs.declared.change.MapChange.TheVariants.{Anew, Parts}

-- ---- the table

-- the first so many elements, with this one for each that there isn't
abbrev pub resized : {A : Type 0} → ℕ → A → List A → List A
resized n a xs = take n xs ++ replicate (n - length xs) a

-- the file table has these extents, and as many records; those that are new aren't in use
abbrev pub tabled : Extents → MapParts → MapParts
tabled f p = record { volume = with_table p.volume f (resized (record_count f) None p.volume.files); heads = resized (record_count f) no_head p.heads; records = p.records; clusters = p.clusters }

-- ---- records

-- one record is put in its place
abbrev pub applied_one : RecordChange → MapParts → MapParts
applied_one x p = record { volume = with_files p.volume (slice_set p.volume.files x.number x.file); heads = slice_set p.heads x.number x.head; records = p.records; clusters = p.clusters }

-- several, of two with one number the first one last
abbrev pub applied_all : List RecordChange → MapParts → MapParts
applied_all [] p = p
applied_all (x ∷ xs) p = applied_one x (applied_all xs p)

-- ---- bits

abbrev pub has_bit : BitRun → ℕ → Bool
has_bit x i = nat_le x.first i && nat_lt i (x.first + x.len)

-- the value of a bit by the first run that has it
abbrev pub told : List BitRun → ℕ → Option Bool
told [] i = None
told (x ∷ xs) i = if has_bit x i then Some x.value else told xs i

-- the bits of the runs have the values that these tell
unfoldable pub runs_put : List BitRun → List Bool → List Bool
runs_put xs bits = map (λ i. unwrap_or (told xs i) (bit bits i)) (range_with_len 0 (length bits))

abbrev pub bits_put : BitsChange → List Bool → List Bool
bits_put (Whole bits) old = bits
bits_put (Runs runs) old = runs_put runs.items old

-- ---- the map

-- the bits are put in their places
abbrev pub bits_applied : PartsChange → MapParts → MapParts
bits_applied x p = record { volume = p.volume; heads = p.heads; records = bits_put x.record_bits p.records; clusters = bits_put x.cluster_bits p.clusters }

-- the table's extents first, then the records
abbrev pub records_applied : PartsChange → MapParts → MapParts
records_applied x p = applied_all x.records.items (tabled x.table p)

abbrev pub applied : MapChange → MapParts → MapParts
applied (Anew live) p = live_parts live
applied (Parts x) p = bits_applied x (records_applied x p)

-- the map has room for as many records as it then has
pub record HasRoomFor (live : LiveMap) (count : ℕ) : Type 0 where
  pub files : count ≤ vec_capacity live.map.files
  pub heads : count ≤ vec_capacity live.map.heads

abbrev pub HasRoom : LiveMap → MapChange → Type 0
HasRoom live (Anew other) = ⊤
HasRoom live (Parts x) = HasRoomFor live (record_count x.table)
