-- The bytes of a stream that gets other clusters and sizes.
use Rattle.std.proofs.Common.{◌≡◌, ℕ, ◌+◌, ◌-◌, ◌/◌, ◌%◌, ◌<◌, ◌≤◌, Bool, true, false, cond, ◌&&◌, leb, ltb, List, [], ◌∷◌, length, get_or, take, replicate, Option, Some, None, refl, sym, ap, ◌∙◌, inl, inr, arith}
use Rattle.std.specs.Prelude.{unwrap_or, is_some}
use Rattle.std.proofs.lemmas.Bool.{cases_lt, and_from, lt-leb, le-leb, lt-ltb, le-ltb}
use Rattle.std.proofs.lemmas.List.{length-append, length-replicate, get_or_past, get_or_append_left, get_or-append_right, get_or-replicate, length-take-le, get_or-take}
use Rattle.volume_model.specs.disk_model.declared.block.Block.{Block}
use Rattle.volume_model.specs.disk_model.declared.block.BlockKind.TheVariants.{Plain}
use Rattle.volume_model.specs.disk_model.Bytes.{written, zeros}
use Rattle.volume_model.specs.disk_model.Content.{Content, HasSizes}
use Rattle.volume_model.specs.disk_model.Writes.{Write, overlay, later}
use Rattle.volume_model.proofs.disk_model.Frames.{written_within, written_before, written_behind, length-written}
use Rattle.volume_model.specs.state_model.declared.stream.Extents.{Extents}
use Rattle.volume_model.specs.state_model.declared.stream.Stream.{Stream}
use Rattle.volume_model.specs.state_model.declared.stream.Stream.TheVariants.{Held, Placed}
use Rattle.volume_model.specs.state_model.Streams.{block_at, sector_bytes, byte_at, extent_bytes}
use Rattle.volume_model.specs.Volumes.{bytes_or, size_or}
use Rattle.stream_laws.specs.Places.{AreOnce}
use Rattle.stream_laws.specs.Puts.{Put, all_put, ArePuts}
use Rattle.stream_laws.specs.Growth.{byte_of_put, put_byte, ArePut, filled, held_bytes, StreamGoesOn, StreamIsCut}
use Rattle.stream_laws.proofs.Changing.{length-extent_bytes, byte_of_extents}
use Rattle.stream_laws.proofs.Counting.{same_list}
use Rattle.stream_laws.proofs.Putting.{puts_written}

-- ---- puts, byte by byte

pub length-all_put : (puts : List Put) (bytes : List ℕ) → length (all_put puts bytes) ≡ length bytes
length-all_put [] bytes = refl
length-all_put (p ∷ puts) bytes = length-all_put puts (written p.at p.bytes bytes) ∙ length-written p.at p.bytes bytes

one_byte : (p : Put) (bytes : List ℕ) (i : ℕ) → i < length bytes → get_or (written p.at p.bytes bytes) i 0 ≡ unwrap_or (byte_of_put p i) (get_or bytes i 0)
one_byte p bytes i within =
    let old = get_or bytes i 0 in
    let new : ℕ = get_or p.bytes (i - p.at) 0 in
    elim (cases_lt i p.at) [
      | inl before ↦
          written_before p.at p.bytes bytes i 0 before
          ∙ sym (ap (λ (t : Bool). unwrap_or (cond (t && ltb i (p.at + length p.bytes)) (Some new) None) old) (lt-leb p.at i before))
      | inr from ↦ elim (cases_lt i (p.at + length p.bytes)) [
        | inl to ↦
            (let both : (leb p.at i && ltb i (p.at + length p.bytes)) ≡ true = and_from _ _ (le-leb p.at i from) (lt-ltb i (p.at + length p.bytes) to) in
            written_within p.at p.bytes bytes i (i - p.at) 0 (omega arith) (omega arith) within ∙ sym (ap (λ (t : Bool). unwrap_or (cond t (Some new) None) old) both))
        | inr behind ↦
            (let both : (leb p.at i && ltb i (p.at + length p.bytes)) ≡ false = ap (λ (t : Bool). t && ltb i (p.at + length p.bytes)) (le-leb p.at i from) ∙ le-ltb i (p.at + length p.bytes) behind in
            written_behind p.at p.bytes bytes i 0 behind ∙ sym (ap (λ (t : Bool). unwrap_or (cond t (Some new) None) old) both))
      ]
    ]

later_or : (a b : Option ℕ) (x : ℕ) → unwrap_or a (unwrap_or b x) ≡ unwrap_or (later a b) x
later_or None b x = refl
later_or (Some y) b x = refl

pub byte_after_puts : (puts : List Put) (bytes : List ℕ) (i : ℕ) → i < length bytes → get_or (all_put puts bytes) i 0 ≡ unwrap_or (put_byte puts i) (get_or bytes i 0)
byte_after_puts [] bytes i within = refl
byte_after_puts (p ∷ puts) bytes i within =
    byte_after_puts puts (written p.at p.bytes bytes) i (omega (arith, length-written p.at p.bytes bytes))
    ∙ ap (unwrap_or (put_byte puts i)) (one_byte p bytes i within)
    ∙ later_or (put_byte puts i) (byte_of_put p i) (get_or bytes i 0)

-- puts over bytes that agree where nothing is put
same_or : (o : Option ℕ) (x y : ℕ) → (o ≡ None → x ≡ y) → unwrap_or o x ≡ unwrap_or o y
same_or None x y same = same refl
same_or (Some z) x y same = refl

pub same_puts : (puts : List Put) (xs ys : List ℕ) → length xs ≡ length ys → ((i : ℕ) → i < length ys → put_byte puts i ≡ None → get_or xs i 0 ≡ get_or ys i 0) → all_put puts xs ≡ all_put puts ys
same_puts puts xs ys size same = same_list 0 (all_put puts ys) (all_put puts xs) (length-all_put puts xs ∙ size ∙ sym (length-all_put puts ys)) (λ i. elim (cases_lt i (length ys)) [
  | inl within ↦
      byte_after_puts puts xs i (omega (arith, size, within))
      ∙ same_or (put_byte puts i) (get_or xs i 0) (get_or ys i 0) (same i within)
      ∙ sym (byte_after_puts puts ys i within)
  | inr past ↦ get_or_past (all_put puts xs) i 0 (omega (arith, length-all_put puts xs, size, past)) ∙ sym (get_or_past (all_put puts ys) i 0 (omega (arith, length-all_put puts ys, past)))
])

-- ---- bytes and zeros

pub length-filled : (size : ℕ) (bytes : List ℕ) → length bytes ≤ size → length (filled size bytes) ≡ size
unfolding zeros
length-filled size bytes le = length-append bytes (replicate (size - length bytes) 0) ∙ omega (arith, le, length-replicate {A = ℕ} (size - length bytes) 0)

pub filled_below : (size : ℕ) (bytes : List ℕ) (i : ℕ) → i < length bytes → get_or (filled size bytes) i 0 ≡ get_or bytes i 0
filled_below size bytes i within = get_or_append_left bytes (zeros (size - length bytes)) 0 i within

pub filled_past : (size : ℕ) (bytes : List ℕ) (i : ℕ) → length bytes ≤ i → get_or (filled size bytes) i 0 ≡ 0
unfolding zeros
filled_past size bytes i past =
    get_or-append_right bytes (replicate (size - length bytes) 0) (length bytes) i 0 refl past
    ∙ elim (cases_lt (i - length bytes) (size - length bytes)) [
      | inl within ↦ get_or-replicate (size - length bytes) (i - length bytes) 0 0 within
      | inr behind ↦ get_or_past (replicate (size - length bytes) 0) (i - length bytes) 0 (omega (arith, behind, length-replicate {A = ℕ} (size - length bytes) 0))
    ]

-- ---- streams

pub length-bytes_or : (c : Content) (per : ℕ) (s : Option Stream) → length (bytes_or c per s) ≡ size_or s
length-bytes_or c per None = refl
length-bytes_or c per (Some (Held value)) = refl
length-bytes_or c per (Some (Placed e)) = length-extent_bytes c per e

zero_past : (c : Content) (per : ℕ) (e : Extents) (i : ℕ) → e.initialised ≤ i → byte_at c per e i ≡ 0
unfolding byte_at
zero_past c per e i past = rw (le-ltb i e.initialised past) refl

-- a byte of a sector that lies where it lay
same_place : (c : Content) (per : ℕ) (e f : Extents) (i : ℕ) → i < e.initialised → i < f.initialised → block_at per f.runs Plain (i / 512) ≡ block_at per e.runs Plain (i / 512) → byte_at c per f i ≡ byte_at c per e i
unfolding byte_at
same_place c per e f i old new same =
    rw (lt-ltb i e.initialised old, lt-ltb i f.initialised new) (ap (λ (o : Option Block). get_or (sector_bytes c o) (i % 512) 0) same)

not_none : (o : Option ℕ) → is_some o ≡ true → o ≡ None → ⊥
not_none None is none = absurd cc
not_none (Some x) is none = cc

stream_byte : (c : Content) (per : ℕ) (e f : Extents) (puts : List Put) (i : ℕ) → StreamGoesOn per e f → ArePut puts (held_bytes e) (held_bytes f) → i < f.real → put_byte puts i ≡ None → byte_at c per f i ≡ get_or (filled f.real (extent_bytes c per e)) i 0
stream_byte c per e f puts i goes are within none = elim (cases_lt i (held_bytes e)) [
  | inl held ↦
      same_place c per e f i (omega (arith, held)) (omega (arith, held, goes.initialised)) (goes.places (i / 512) (omega (arith, held)))
      ∙ sym (byte_of_extents c per e i (omega (arith, held)))
      ∙ sym (filled_below f.real (extent_bytes c per e) i (omega (arith, held, length-extent_bytes c per e)))
  | inr past ↦ elim (cases_lt i (held_bytes f)) [
    | inl now ↦ absurd (not_none (put_byte puts i) (are i past now) none)
    | inr behind ↦
        zero_past c per f i (omega (arith, behind, within))
        ∙ elim (cases_lt i e.real) [
          | inl below ↦
              sym (zero_past c per e i (omega (arith, past, below)))
              ∙ sym (byte_of_extents c per e i below)
              ∙ sym (filled_below f.real (extent_bytes c per e) i (omega (arith, below, length-extent_bytes c per e)))
          | inr above ↦ sym (filled_past f.real (extent_bytes c per e) i (omega (arith, above, length-extent_bytes c per e)))
        ]
  ]
]

pub stream_grown : (c : Content) (writes : List Write) (per : ℕ) (e f : Extents) (puts : List Put) → HasSizes c → 0 < per → AreOnce f.runs → StreamGoesOn per e f → ArePuts per f writes puts → ArePut puts (held_bytes e) (held_bytes f)
    → extent_bytes (overlay c writes) per f ≡ all_put puts (filled f.real (extent_bytes c per e))
stream_grown c writes per e f puts sized some once goes puts_are are =
    let size = length-filled f.real (extent_bytes c per e) (omega (arith, goes.real, length-extent_bytes c per e)) in
    puts_written c writes per f puts sized some once puts_are
    ∙ same_puts puts (extent_bytes c per f) (filled f.real (extent_bytes c per e)) (length-extent_bytes c per f ∙ sym size) (λ i below none.
    let within : i < f.real = omega (arith, below, size) in
    byte_of_extents c per f i within ∙ stream_byte c per e f puts i goes are within none)

value_byte : (c : Content) (per : ℕ) (value : List ℕ) (f : Extents) (puts : List Put) (i : ℕ) → length value ≤ f.initialised → ArePut puts 0 (held_bytes f) → i < f.real → put_byte puts i ≡ None → byte_at c per f i ≡ get_or (filled f.real value) i 0
value_byte c per value f puts i fits are within none = elim (cases_lt i (held_bytes f)) [
  | inl now ↦ absurd (not_none (put_byte puts i) (are i (omega arith) now) none)
  | inr behind ↦ zero_past c per f i (omega (arith, behind, within)) ∙ sym (filled_past f.real value i (omega (arith, behind, within, fits)))
]

pub value_grown : (c : Content) (writes : List Write) (per : ℕ) (value : List ℕ) (f : Extents) (puts : List Put) → HasSizes c → 0 < per → AreOnce f.runs → length value ≤ f.initialised → length value ≤ f.real → ArePuts per f writes puts → ArePut puts 0 (held_bytes f)
    → extent_bytes (overlay c writes) per f ≡ all_put puts (filled f.real value)
value_grown c writes per value f puts sized some once fits le puts_are are =
    let size = length-filled f.real value le in
    puts_written c writes per f puts sized some once puts_are
    ∙ same_puts puts (extent_bytes c per f) (filled f.real value) (length-extent_bytes c per f ∙ sym size) (λ i below none.
    let within : i < f.real = omega (arith, below, size) in
    byte_of_extents c per f i within ∙ value_byte c per value f puts i fits are within none)

-- ---- a front

front_byte : (c : Content) (per : ℕ) (e f : Extents) (i : ℕ) → StreamIsCut per e f → i < f.real → byte_at c per f i ≡ byte_at c per e i
front_byte c per e f i cut within = elim (cases_lt i f.initialised) [
  | inl held ↦ same_place c per e f i (omega (arith, held, cut.initialised)) held (cut.places (i / 512) (omega (arith, held, within)))
  | inr past ↦ zero_past c per f i past ∙ sym (zero_past c per e i (omega (arith, past, within, cut.initialised)))
]

pub stream_cut : (c : Content) (per : ℕ) (e f : Extents) → StreamIsCut per e f → extent_bytes c per f ≡ take f.real (extent_bytes c per e)
stream_cut c per e f cut =
    let size = length-extent_bytes c per e in
    let front : length (take f.real (extent_bytes c per e)) ≡ f.real = length-take-le f.real (extent_bytes c per e) (omega (arith, size, cut.real)) in
    same_list 0 (take f.real (extent_bytes c per e)) (extent_bytes c per f) (length-extent_bytes c per f ∙ sym front) (λ i. elim (cases_lt i f.real) [
      | inl within ↦
          byte_of_extents c per f i within
          ∙ front_byte c per e f i cut within
          ∙ sym (byte_of_extents c per e i (omega (arith, within, cut.real)))
          ∙ sym (get_or-take f.real (extent_bytes c per e) i 0 within)
      | inr past ↦ get_or_past (extent_bytes c per f) i 0 (omega (arith, past, length-extent_bytes c per f)) ∙ sym (get_or_past (take f.real (extent_bytes c per e)) i 0 (omega (arith, past, front)))
    ])
