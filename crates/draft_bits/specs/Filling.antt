-- Bits of a bitmap that a plan sets or clears.
use Rattle.std.specs.Prelude.{◌≡◌, ◌⊎◌, ℕ, ◌+◌, ◌-◌, ◌/◌, ◌%◌, ◌<◌, ◌≤◌, Bool, List, length, map}
use Rattle.std.specs.List.{range_with_len}
use Rattle.draft_streams.specs.disk_model.Content.{Content}
use Rattle.bit_set.specs.Words.{byte_bit}
use Rattle.draft_streams.specs.state_model.declared.stream.Extents.{Extents}
use Rattle.draft_streams.specs.state_model.Streams.{byte_at}
use Rattle.draft_streams.specs.plan_draft.declared.touched.Touched.{Touched}
use Rattle.draft_streams.specs.plan_draft.Drafts.{drafted}
use Rattle.draft_streams.specs.Parts.{touch_bytes, IsFrontOf}

-- the bits from first on, below end, have this value; each other bit and the count of bytes stay
pub record FillsBytes (old new : List ℕ) (first end : ℕ) (value : Bool) : Type 0 where
  pub same_count : length new ≡ length old
  pub inside : (i : ℕ) → first ≤ i → i < end → byte_bit new i ≡ value
  pub others : (i : ℕ) → (i < first) ⊎ (end ≤ i) → byte_bit new i ≡ byte_bit old i

-- how many bytes have these bits
abbrev pub byte_count : ℕ → ℕ → ℕ
byte_count first len = (first + len + 7) / 8 - first / 8

-- so many bytes of a stream from a place on, as the draft has them
abbrev pub bytes_from : Content → ℕ → Extents → ℕ → ℕ → List ℕ
bytes_from c per e at n = map (byte_at c per e) (range_with_len at n)

-- sectors from this one on lie wholly past the initialised size
abbrev pub first_past : Extents → ℕ
first_past e = (e.initialised + 511) / 512

-- the bytes that have these bits are the draft's own, with the bits filled
abbrev pub AreFilled : Content → ℕ → Extents → ℕ → ℕ → Bool → List Touched → List ℕ → Type 0
AreFilled c per e first len value touched bytes = FillsBytes (bytes_from (drafted touched c) per e (first / 8) (byte_count first len)) bytes (first % 8) (first % 8 + len) value

-- they are put into the stream
abbrev pub PutsBits : Content → ℕ → Extents → ℕ → ℕ → Bool → List Touched → List Touched → Type 0
PutsBits c per e first len value old new = (bytes : List ℕ) × (AreFilled c per e first len value old bytes × (new ≡ touch_bytes c per e.runs (first_past e) (first / 8) bytes old))

-- nothing is put, or the first of their sectors
abbrev pub PutsFront : Content → ℕ → Extents → ℕ → ℕ → Bool → List Touched → List Touched → Type 0
PutsFront c per e first len value old new = (new ≡ old) ⊎ ((bytes : List ℕ) × (AreFilled c per e first len value old bytes × IsFrontOf c per e.runs (first_past e) (first / 8) bytes old new))
