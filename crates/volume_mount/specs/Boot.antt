-- The first cluster of a volume, in which the boot sector lies: no stream but $Boot's data has it, and its bit is set.
use Rattle.std.specs.Prelude.{◌≡◌, ◌≢◌, ℕ, Bool, true, false, not, ◌&&◌, ◌==◌, List, [], Option, Some, None, Result, Ok}
use Rattle.std.specs.List.{list_any, range_with_len}
use Rattle.host_base.specs.Answers.{◌>>=◌, needs}
use Rattle.disk_model.specs.Content.{Content}
use Rattle.state_model.specs.record_model.declared.attribute.Attr.{Attr}
use Rattle.state_model.specs.record_model.Constants.{data_type}
use Rattle.state_model.specs.record_model.Records.{Record}
use Rattle.bit_set.specs.Bits.{bit}
use Rattle.state_model.specs.declared.stream.Stream.{Stream}
use Rattle.state_model.specs.Streams.{is_attribute_of, stream_of}
use Rattle.volume_state.specs.volume_model.Volumes.{Volume, file_in, count_of, cluster_bits}
use Rattle.volume_state.specs.volume_model.Owners.{covers, uses}
use Rattle.volume_shadows.specs.stream_laws.Sharing.{StreamKey, stream_at, runs_in}
use Rattle.image_read.specs.image_open.declared.refusal.Refusal.{Refusal}
use Rattle.image_read.specs.image_open.declared.refusal.Refusal.TheVariants.{BadVolume}

-- the unnamed data of $Boot
abbrev pub boot_key : StreamKey
boot_key = record { file = 7; kind = data_type; name = [] }

-- no stream but $Boot's data has the first cluster
abbrev pub IsBootsAlone : Volume → Type 0
IsBootsAlone v = (t : StreamKey) → t ≢ boot_key → uses (runs_in (stream_at v t)) 0 ≡ 0

-- And its bit is set: so what is written to files, and what they take, never lies there.
pub record KeepsBoot (c : Content) (v : Volume) : Type 0 where
  pub others : IsBootsAlone v
  pub marked : bit (cluster_bits c v) 0 ≡ true

-- ---- how it is tried

-- the stream has the first cluster
abbrev pub has_first : Option Stream → Bool
has_first s = list_any (covers 0) (runs_in s)

-- an attribute of the file with this number is one of $Boot's data
abbrev pub is_boot_data : ℕ → Attr → Bool
is_boot_data n a = n == 7 && is_attribute_of data_type [] a

-- it is of another stream, and this one has the first cluster, by all attributes of the file
unfoldable pub takes_first : ℕ → List Attr → Attr → Bool
takes_first n attrs a = not (is_boot_data n a) && has_first (stream_of a.head.kind a.name attrs)

-- some attribute of the file is so
abbrev pub file_takes_first : ℕ → Option Record → Bool
file_takes_first n None = false
file_takes_first n (Some r) = list_any (takes_first n r.attrs) r.attrs

-- some file has such an attribute
abbrev pub is_taken : Volume → Bool
is_taken v = list_any (λ n. file_takes_first n (file_in v n)) (range_with_len 0 (count_of v))

-- The first cluster is refused as one in two streams, where another stream has it; and else as one that is owned and free, where its bit is clear among these.
unfoldable pub keeps_boot : List Bool → Volume → Result (Unit {0}) Refusal
keeps_boot bits v = needs (not (is_taken v)) (BadVolume 5 0) >>= λ _. needs (bit bits 0) (BadVolume 6 0)

-- ---- what the test says

-- It is passed exactly where the boot sector is kept.
pub record BootIsTried : Type 0 where
  pub passed : (c : Content) (v : Volume) → keeps_boot (cluster_bits c v) v ≡ Ok tt → KeepsBoot c v
  pub passes : (c : Content) (v : Volume) → KeepsBoot c v → keeps_boot (cluster_bits c v) v ≡ Ok tt
