-- Parts of a map as a content has them.
use Rattle.std.specs.Prelude.{◌≡◌, ℕ, ◌+◌, ◌/◌, ◌<◌, Bool, true, false, List, [], ◌∷◌, Option, Some, Ok, ⊤, is_some}
use Rattle.std.specs.List.{list_all, list_any}
use Rattle.disk_model.specs.Content.{Content}
use Rattle.disk_model.specs.declared.block.Change.{Change}
use Rattle.disk_model.specs.declared.block.BlockKind.TheVariants.{Plain, FileRec}
use Rattle.volume_map.specs.state_model.declared.geometry.Geometry.{Geometry}
use Rattle.volume_map.specs.state_model.declared.stream.Extents.{Extents}
use Rattle.volume_map.specs.state_model.Files.{only_base}
use Rattle.volume_map.specs.state_model.Streams.{has_cut_block}
use Rattle.volume_map.specs.state_model.Loads.{table_of, table_slot, used_record, record_count}
use Rattle.volume_map.specs.state_model.declared.stream.Stream.{Stream}
use Rattle.bit_set.specs.Words.{byte_bit, bits_of_bytes}
use Rattle.volume_map.specs.volume_model.Volumes.{count_of, bytes_or, record_bitmap, cluster_bitmap}
use Rattle.stream_laws.specs.Sharing.{runs_in}
use Rattle.stream_laws.specs.Rewrites.{StandsAlone}
use Rattle.volume_map.specs.declared.head.Head.{Head}
use Rattle.volume_map.specs.declared.slot.Slot.{Slot}
use Rattle.volume_map.specs.Heads.{table_head}
use Rattle.volume_map.specs.Slots.{seen}
use Rattle.map_change.specs.declared.change.RecordChange.{RecordChange}
use Rattle.map_change.specs.declared.change.BitRun.{BitRun}
use Rattle.map_change.specs.declared.change.BitsChange.{BitsChange}
use Rattle.map_change.specs.declared.change.BitsChange.TheVariants.{Whole, Runs}
use Rattle.map_change.specs.declared.change.PartsChange.{PartsChange}
use Rattle.map_change.specs.Parts.{MapParts}
use Rattle.map_change.specs.Plain.{is_plain}
use Rattle.map_change.specs.Applying.{told, records_applied}
use Rattle.map_change.specs.Touching.{is_number, touched_numbers, KeepsPlaces, changed_numbers}

-- ---- records

-- the change of a record with this slot and head, which stands alone
pub record IsAlone (per n : ℕ) (slot : Slot) (seen_head : Head) (x : RecordChange) : Type 0 where
  pub number : x.number ≡ n
  pub file : x.file ≡ only_base (used_record (seen slot))
  pub head : x.head ≡ seen_head
  pub alone : StandsAlone per (seen slot)

-- the change of a record to what it is in this content, where it stands alone
pub record IsRead (d : Content) (per : ℕ) (e : Extents) (n : ℕ) (x : RecordChange) : Type 0 where
  pub number : x.number ≡ n
  pub file : x.file ≡ only_base (used_record (table_slot d per e n))
  pub head : x.head ≡ table_head d per e n
  pub alone : StandsAlone per (table_slot d per e n)

-- the changes of the records with these numbers, in order
abbrev pub AreRead : Content → ℕ → Extents → List ℕ → List RecordChange → Type 0
AreRead d per e [] [] = ⊤
AreRead d per e [] (x ∷ xs) = ⊥
AreRead d per e (n ∷ ns) [] = ⊥
AreRead d per e (n ∷ ns) (x ∷ xs) = IsRead d per e n x × AreRead d per e ns xs

-- ---- bits

-- what the runs tell of bits is so
abbrev pub TellTrue : (ℕ → Bool) → List BitRun → Type 0
TellTrue bits xs = (i : ℕ) (b : Bool) → told xs i ≡ Some b → bits i ≡ b

abbrev pub tells : List BitRun → ℕ → Bool
tells xs i = is_some (told xs i)

-- Runs tell what the first so many bits are of bytes in this content, and each one that lies in a sector with one of the numbers.
pub record TellBits (bits : ℕ → Bool) (count : ℕ) (numbers : List ℕ) (xs : List BitRun) : Type 0 where
  pub right : TellTrue bits xs
  pub all : (i : ℕ) → i < count → list_any (is_number (i / 4096)) numbers ≡ true → tells xs i ≡ true

-- the sectors of so many bits of a stream that changes may be of
abbrev pub touched_sectors : ℕ → Option Stream → ℕ → List Change → List ℕ
touched_sectors per s count changes = touched_numbers Plain per (count / 4096 + 1) (runs_in s) changes

-- The first so many bits of a bitmap in this content; or the bits of its sectors that changes may be of, where it is the old
-- bitmap and has as many.
abbrev pub IsBits : Content → ℕ → Option Stream → ℕ → Option Stream → ℕ → List Change → BitsChange → Type 0
IsBits d per s n now count changes (Whole bits) = bits ≡ bits_of_bytes (bytes_or d per now) count
IsBits d per s n now count changes (Runs runs) = (now ≡ s) × (count ≡ n) × TellBits (byte_bit (bytes_or d per s)) n (touched_sectors per s n changes) runs.items

-- ---- the map

-- What of a map without attribute lists changes make anew: the extents of its file table, of which so many first records keep their
-- places; the records that they may be of, and all behind those; and the bits of both bitmaps.
pub record AreFound (d : Content) (p : MapParts) (g : Geometry) (changes : List Change) (x : PartsChange) : Type 0 where
  pub some : 0 < p.volume.per
  pub plain : list_all is_plain p.volume.files ≡ true
  pub table : table_of d g ≡ Ok x.table
  pub uncut : has_cut_block p.volume.per FileRec (record_count x.table) x.table.runs ≡ false
  pub same : ℕ
  pub keeps : KeepsPlaces p.volume.per p.volume.table x.table same
  pub read : AreRead d p.volume.per x.table (changed_numbers p.volume.per p.volume.table x.table same changes) x.records.items
  pub records : IsBits d p.volume.per (record_bitmap p.volume) (count_of p.volume) (record_bitmap (records_applied x p).volume) (count_of (records_applied x p).volume) changes x.record_bits
  pub clusters : IsBits d p.volume.per (cluster_bitmap p.volume) p.volume.clusters (cluster_bitmap (records_applied x p).volume) p.volume.clusters changes x.cluster_bits
