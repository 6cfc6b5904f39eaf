-- Bits of bitmaps after changes, as runs tell them.
use Rattle.std.proofs.Common.{◌≡◌, ◌⊎◌, ℕ, zero, suc, ◌+◌, ◌-◌, ◌*◌, ◌/◌, ◌%◌, ◌<◌, ◌≤◌, min, drop, replicate, Bool, true, false, cond, eqb, ltb, List, [], ◌∷◌, ◌++◌, take, length, get_or, map, Option, Some, None, refl, sym, ap, subst, ◌∙◌, inl, inr, arith}
use Rattle.std.specs.Prelude.{unwrap_or, is_some, slice_index, IfSome}
use Rattle.std.specs.List.{list_any, range_with_len}
use Rattle.std.proofs.lemmas.Bool.{cases_Bool, cases_lt, or_cases, lt-ltb, le-leb, leb-true, ltb-true, and_parts, and_from, eqb-true, false_from_ne_true, both_ways}
use Rattle.std.proofs.lemmas.List.{ext_get_or, get_or_past, take_more}
use Rattle.std.proofs.lemmas.List.Folds.{list_any-append}
use Rattle.std.proofs.lemmas.List.FromFn.{get_or-map-range_with_len, length-map-range_with_len}
use Rattle.host_base.proofs.Known.{both, one}
use Rattle.bit_set.specs.Bits.{bit, PutsRun}
use Rattle.bit_set.specs.Words.{is_one, byte_bit, bits_of_bytes}
use Rattle.disk_model.specs.declared.block.Body.{Body}
use Rattle.disk_model.specs.declared.block.Change.{Change}
use Rattle.disk_model.specs.declared.block.BlockKind.TheVariants.{Plain}
use Rattle.disk_model.specs.Bytes.{zeros}
use Rattle.disk_model.specs.Content.{Content, HasSizes}
use Rattle.volume_map.specs.state_model.declared.stream.Extents.{Extents}
use Rattle.volume_map.specs.state_model.declared.stream.Stream.{Stream}
use Rattle.volume_map.specs.state_model.declared.stream.Stream.TheVariants.{Held, Placed}
use Rattle.volume_map.specs.state_model.Streams.{block_at, sector_bytes, byte_at, extent_bytes, stream_bytes}
use Rattle.volume_map.specs.volume_model.Volumes.{bytes_or}
use Rattle.volume_map.specs.block_view.Changes.{writes_of, content_after}
use Rattle.stream_laws.specs.Sharing.{runs_in}
use Rattle.stream_laws.proofs.Framing.{same_map, same_sector}
use Rattle.stream_laws.proofs.Changing.{length-extent_bytes, byte_of_extents, body_elsewhere}
use Rattle.map_change.specs.declared.change.BitRun.{BitRun}
use Rattle.map_change.specs.Touching.{is_number, touched_numbers}
use Rattle.map_change.specs.Applying.{has_bit, told, runs_put}
use Rattle.map_change.specs.Reading.{TellTrue, tells, TellBits, touched_sectors}
use Rattle.map_change.specs.Marking.{TellsMore, TellsSector}
use Rattle.map_change.proofs.Blocks.{leaves_block}

-- ---- one run more

pub told_some : (xs : List BitRun) (x : BitRun) (i : ℕ) (b : Bool) → told xs i ≡ Some b → told (xs ++ x ∷ []) i ≡ Some b
told_some [] x i b is = absurd cc
told_some (a ∷ xs) x i b is = elim (cases_Bool (has_bit a i)) [
  | inl hit ↦ ap (λ (t : Bool). cond t (Some a.value) (told (xs ++ x ∷ []) i)) hit ∙ sym (ap (λ (t : Bool). cond t (Some a.value) (told xs i)) hit) ∙ is
  | inr miss ↦ ap (λ (t : Bool). cond t (Some a.value) (told (xs ++ x ∷ []) i)) miss ∙ told_some xs x i b (sym (ap (λ (t : Bool). cond t (Some a.value) (told xs i)) miss) ∙ is)
]

pub told_none : (xs : List BitRun) (x : BitRun) (i : ℕ) → told xs i ≡ None → told (xs ++ x ∷ []) i ≡ told (x ∷ []) i
told_none [] x i none = refl
told_none (a ∷ xs) x i none = elim (cases_Bool (has_bit a i)) [
  | inl hit ↦ (let here : Some a.value ≡ None = sym (ap (λ (t : Bool). cond t (Some a.value) (told xs i)) hit) ∙ none in absurd cc)
  | inr miss ↦ ap (λ (t : Bool). cond t (Some a.value) (told (xs ++ x ∷ []) i)) miss ∙ told_none xs x i (sym (ap (λ (t : Bool). cond t (Some a.value) (told xs i)) miss) ∙ none)
]

-- a value that is told or isn't
told_cases : (o : Option Bool) → ((b : Bool) × (o ≡ Some b)) ⊎ (o ≡ None)
told_cases None = inr refl
told_cases (Some b) = inl (b, refl)

has_it : (x : BitRun) (i : ℕ) → x.first ≤ i → i < x.first + x.len → has_bit x i ≡ true
has_it x i low high = and_from _ _ (le-leb x.first i low) (lt-ltb i (x.first + x.len) high)

told_one : (x : BitRun) (i : ℕ) (b : Bool) → told (x ∷ []) i ≡ Some b → (has_bit x i ≡ true) × (x.value ≡ b)
told_one x i b is = elim (cases_Bool (has_bit x i)) [
  | inl hit ↦ (let here : Some x.value ≡ Some b = sym (ap (λ (t : Bool). cond t (Some x.value) None) hit) ∙ is in (hit, cc))
  | inr miss ↦ (let here : None ≡ Some b = sym (ap (λ (t : Bool). cond t (Some x.value) None) miss) ∙ is in absurd cc)
]

-- ---- runs that are put

pub length_runs : (xs : List BitRun) (bits : List Bool) → length (runs_put xs bits) ≡ length bits
unfolding runs_put
length_runs xs bits = length-map-range_with_len (λ i. unwrap_or (told xs i) (bit bits i)) 0 (length bits)

pub bit_put : (xs : List BitRun) (bits : List Bool) (i : ℕ) → i < length bits → bit (runs_put xs bits) i ≡ unwrap_or (told xs i) (bit bits i)
unfolding runs_put
bit_put xs bits i below = get_or-map-range_with_len (λ k. unwrap_or (told xs k) (bit bits k)) 0 (length bits) i i false below (omega arith)

-- none of them
pub none_put : (bits : List Bool) → runs_put [] bits ≡ bits
none_put bits = ext_get_or false (runs_put [] bits) bits (length_runs [] bits) (λ i inside. bit_put [] bits i (omega (arith, inside, length_runs [] bits)))

-- the last one is put first
pub last_put : (xs : List BitRun) (x : BitRun) (bits : List Bool) → runs_put (xs ++ x ∷ []) bits ≡ runs_put xs (runs_put (x ∷ []) bits)
last_put xs x bits =
    let one = runs_put (x ∷ []) bits in
    let first = length_runs (xs ++ x ∷ []) bits in
    let second = length_runs xs one in
    let third = length_runs (x ∷ []) bits in
    ext_get_or false (runs_put (xs ++ x ∷ []) bits) (runs_put xs one) (omega (arith, first, second, third)) (λ i inside.
    let below : i < length bits = omega (arith, inside, first) in
    bit_put (xs ++ x ∷ []) bits i below ∙ same i below ∙ sym (bit_put xs one i (omega (arith, below, third))))
  where
    same : (i : ℕ) → i < length bits → unwrap_or (told (xs ++ x ∷ []) i) (bit bits i) ≡ unwrap_or (told xs i) (bit (runs_put (x ∷ []) bits) i)
    same i below = elim (told_cases (told xs i)) [
      | inl is ↦ ap (λ (o : Option Bool). unwrap_or o (bit bits i)) (told_some xs x i is.0 is.1) ∙ sym (ap (λ (o : Option Bool). unwrap_or o (bit (runs_put (x ∷ []) bits) i)) is.1)
      | inr none ↦
          ap (λ (o : Option Bool). unwrap_or o (bit bits i)) (told_none xs x i none)
          ∙ sym (bit_put (x ∷ []) bits i below)
          ∙ sym (ap (λ (o : Option Bool). unwrap_or o (bit (runs_put (x ∷ []) bits) i)) none)
    ]

unwrapped : (x : BitRun) (i : ℕ) (b : Bool) (t : Bool) → has_bit x i ≡ t → unwrap_or (told (x ∷ []) i) b ≡ cond t x.value b
unwrapped x i b true is = ap (λ (t : Bool). unwrap_or (cond t (Some x.value) None) b) is
unwrapped x i b false is = ap (λ (t : Bool). unwrap_or (cond t (Some x.value) None) b) is

-- a run that has none of the bits
pub past_put : (x : BitRun) (bits : List Bool) → ((i : ℕ) → i < length bits → x.first ≤ i → i < x.first + x.len → ⊥) → bits ≡ runs_put (x ∷ []) bits
past_put x bits none = sym (ext_get_or false (runs_put (x ∷ []) bits) bits (length_runs (x ∷ []) bits) (λ i inside.
    let below : i < length bits = omega (arith, inside, length_runs (x ∷ []) bits) in
    bit_put (x ∷ []) bits i below ∙ unwrapped x i (bit bits i) false (false_from_ne_true (has_bit x i) (λ has.
    let parts = and_parts _ _ has in
    none i below (leb-true x.first i parts.0) (ltb-true i (x.first + x.len) parts.1)))))

-- the run from its first bit up to where it ends, or the bits do
pub run_put : (x : BitRun) (old new : List Bool) (len : ℕ) → PutsRun old new x.first len x.value → ((i : ℕ) → i < length old → i < x.first + x.len → i < x.first + len) → len ≤ x.len → new ≡ runs_put (x ∷ []) old
run_put x old new len puts covers less =
    let size = length_runs (x ∷ []) old in
    ext_get_or false new (runs_put (x ∷ []) old) (omega (arith, size, puts.same_count)) (λ i inside.
    let below : i < length old = omega (arith, inside, puts.same_count) in
    same i below ∙ sym (bit_put (x ∷ []) old i below))
  where
    outside : (i : ℕ) → has_bit x i ≡ false → (i < x.first) ⊎ (x.first + len ≤ i)
    outside i hasnt = elim (cases_lt i x.first) [
      | inl before ↦ inl before
      | inr from ↦ elim (cases_lt i (x.first + len)) [
        | inl inside ↦ absurd (both_ways _ hasnt (has_it x i from (omega (arith, inside, less))))
        | inr past ↦ inr past
      ]
    ]

    same : (i : ℕ) → i < length old → bit new i ≡ unwrap_or (told (x ∷ []) i) (bit old i)
    same i below = elim (cases_Bool (has_bit x i)) [
      | inl has ↦
          (let parts = and_parts _ _ has in
          puts.inside i (leb-true x.first i parts.0) (covers i below (ltb-true i (x.first + x.len) parts.1)) ∙ sym (unwrapped x i (bit old i) true has))
      | inr hasnt ↦ puts.others i (outside i hasnt) ∙ sym (unwrapped x i (bit old i) false hasnt)
    ]

-- ---- what runs tell

not_told : (o : Option Bool) → o ≡ None → is_some o ≡ true → ⊥
not_told None none is = absurd cc
not_told (Some b) none is = absurd cc

is_told : (o : Option Bool) → is_some o ≡ true → (b : Bool) × (o ≡ Some b)
is_told None is = absurd cc
is_told (Some b) is = (b, refl)

some_told : (o : Option Bool) (b : Bool) → o ≡ Some b → is_some o ≡ true
some_told o b is = ap is_some is

pub tells_itself : (bits : ℕ → Bool) (from : ℕ) (xs : List BitRun) → TellsMore bits from from xs xs
tells_itself bits from xs = record { right = λ is. is; kept = λ i is. is; more = λ i low high. absurd (omega (arith, low, high)) }

-- a run more, which tells what is so
pub tells_one_more : (bits : ℕ → Bool) (from at end : ℕ) (old xs new : List BitRun) (x : BitRun) → TellsMore bits from at old xs → new ≡ xs ++ x ∷ [] → x.first ≡ at → x.first + x.len ≡ end → ((i : ℕ) → at ≤ i → i < end → bits i ≡ x.value)
    → TellsMore bits from end old new
tells_one_more bits from at end old xs new x before is first ends so =
    subst (TellsMore bits from end old) (sym is) (record { right = λ all. right (before.right all); kept = λ i told_before. keeps i (before.kept i told_before); more = more })
  where
    right : TellTrue bits xs → TellTrue bits (xs ++ x ∷ [])
    right all i b told_now = elim (told_cases (told xs i)) [
      | inl has ↦ (let same : Some has.0 ≡ Some b = sym (told_some xs x i has.0 has.1) ∙ told_now in let value : has.0 ≡ b = cc in all i has.0 has.1 ∙ value)
      | inr none ↦
          (let one = told_one x i b (sym (told_none xs x i none) ∙ told_now) in
          let parts = and_parts _ _ one.0 in
          so i (omega (arith, first, leb-true x.first i parts.0)) (omega (arith, ends, ltb-true i (x.first + x.len) parts.1)) ∙ one.1)
    ]

    keeps : (i : ℕ) → tells xs i ≡ true → tells (xs ++ x ∷ []) i ≡ true
    keeps i is_told_before = let has = is_told (told xs i) is_told_before in some_told (told (xs ++ x ∷ []) i) has.0 (told_some xs x i has.0 has.1)

    here : (i : ℕ) → at ≤ i → i < end → tells (xs ++ x ∷ []) i ≡ true
    here i low high = elim (told_cases (told xs i)) [
      | inl has ↦ some_told (told (xs ++ x ∷ []) i) has.0 (told_some xs x i has.0 has.1)
      | inr none ↦
          some_told (told (xs ++ x ∷ []) i) x.value
          (told_none xs x i none ∙ ap (λ (t : Bool). cond t (Some x.value) None) (has_it x i (omega (arith, low, first)) (omega (arith, high, ends))))
    ]

    more : (i : ℕ) → from ≤ i → i < end → tells (xs ++ x ∷ []) i ≡ true
    more i low high = elim (cases_lt i at) [
      | inl below ↦ keeps i (before.more i low below)
      | inr past ↦ here i past high
    ]

-- ---- sectors

-- a sector behind all bits
pub sector_past : (bits : ℕ → Bool) (count sector : ℕ) (xs : List BitRun) → count ≤ 4096 * sector → TellsSector bits count sector xs xs
sector_past bits count sector xs past = record { right = λ is. is; kept = λ i is. is; more = λ i below is. absurd (omega (arith, below, is, past)) }

pub sector_told : (bits : ℕ → Bool) (count sector first n : ℕ) (old new : List BitRun) → first ≡ 4096 * sector → ((i : ℕ) → i < count → i / 4096 ≡ sector → i < first + n) → TellsMore bits first (first + n) old new → TellsSector bits count sector old new
sector_told bits count sector first n old new is ends more = record { right = more.right; kept = more.kept; more = λ i below at. more.more i (omega (arith, is, at)) (ends i below at) }

pub sectors_none : (bits : ℕ → Bool) (count : ℕ) → TellBits bits count [] []
sectors_none bits count = record { right = λ i b is. absurd cc; all = λ i below is. absurd cc }

pub sectors_more : (bits : ℕ → Bool) (count : ℕ) (numbers : List ℕ) (i d : ℕ) (xs new : List BitRun) → i < length numbers → TellBits bits count (take i numbers) xs → TellsSector bits count (get_or numbers i d) xs new → TellBits bits count (take (i + 1) numbers) new
sectors_more bits count numbers i d xs new inside before one = record {
  right = one.right before.right;
  all = λ k below is. elim (or_cases (list_any (is_number (k / 4096)) (take i numbers)) (list_any (is_number (k / 4096)) (get_or numbers i d ∷ [])) (sym (list_any-append (is_number (k / 4096)) (take i numbers) (get_or numbers i d ∷ [])) ∙ ap (list_any (is_number (k / 4096))) (sym (take_more numbers i d inside)) ∙ is)) [
    | inl earlier ↦ one.kept k (before.all k below earlier)
    | inr last ↦ one.more k below (sym (the_one k last))
  ];
}
  where
    the_one : (k : ℕ) → list_any (is_number (k / 4096)) (get_or numbers i d ∷ []) ≡ true → get_or numbers i d ≡ k / 4096
    the_one k last = elim (or_cases (eqb (get_or numbers i d) (k / 4096)) false last) [
      | inl same ↦ eqb-true (get_or numbers i d) (k / 4096) same
      | inr none ↦ absurd cc
    ]

front_at : (bytes : List ℕ) (k n i : ℕ) → i < k → get_or (take k (bytes ++ replicate n 0)) i 0 ≡ get_or bytes i 0
front_at bytes zero n i lt = absurd (omega (arith, lt))
front_at [] (suc k) zero i lt = refl
front_at [] (suc k) (suc n) zero lt = refl
front_at [] (suc k) (suc n) (suc i) lt = front_at [] k n i (omega (arith, lt))
front_at (b ∷ bytes) (suc k) n zero lt = refl
front_at (b ∷ bytes) (suc k) n (suc i) lt = front_at bytes k n i (omega (arith, lt))

dropped : (k : ℕ) (xs : List ℕ) (i : ℕ) → get_or (drop k xs) i 0 ≡ get_or xs (k + i) 0
dropped zero xs i = let e : 0 + i ≡ i = omega arith in sym (ap (λ (m : ℕ). get_or xs m 0) e)
dropped (suc k) [] i = refl
dropped (suc k) (x ∷ xs) i = let e : suc k + i ≡ suc (k + i) = omega arith in dropped k xs i ∙ sym (ap (λ (m : ℕ). get_or (x ∷ xs) m 0) e)

-- the bits of a sector that was read
sector_bit : (bytes room : List ℕ) (k sector i : ℕ) → k ≡ 512 → room ≡ take k (drop (512 * sector) bytes ++ zeros k) → i < 4096 → byte_bit bytes (4096 * sector + i) ≡ byte_bit room i
unfolding zeros
sector_bit bytes room k sector i size is below =
    let place : (4096 * sector + i) / 8 ≡ 512 * sector + i / 8 = omega arith in
    let one : (4096 * sector + i) % 8 ≡ i % 8 = omega arith in
    ap (λ (m : ℕ). is_one (get_or bytes m 0) ((4096 * sector + i) % 8)) place
    ∙ ap (λ (m : ℕ). is_one (get_or bytes (512 * sector + i / 8) 0) m) one
    ∙ ap (λ (b : ℕ). is_one b (i % 8)) (sym (ap (λ (l : List ℕ). get_or l (i / 8) 0) is ∙ front_at (drop (512 * sector) bytes) k k (i / 8) (omega (arith, size, below)) ∙ dropped (512 * sector) bytes (i / 8)))

abbrev tells_sector : ℕ → Stream → ℕ → ℕ → List BitRun → List BitRun → Content → Type 0
tells_sector per stream count sector old new d = TellsSector (byte_bit (stream_bytes d per stream)) count sector old new

pub sector_read : (known : Option Content) (per : ℕ) (stream : Stream) (count sector n k : ℕ) (room : List ℕ) (old new : List BitRun) → k ≡ 512 → n ≡ min 4096 (count - 4096 * sector) → IfSome known (λ d. room ≡ take k (drop (512 * sector) (stream_bytes d per stream) ++ zeros k))
    → ((bits : ℕ → Bool) → ((i : ℕ) → i < n → bits (4096 * sector + i) ≡ byte_bit room i) → TellsMore bits (4096 * sector) (4096 * sector + n) old new) → IfSome known (tells_sector per stream count sector old new)
sector_read known per stream count sector n k room old new size least read all =
    one known (λ d. room ≡ take k (drop (512 * sector) (stream_bytes d per stream) ++ zeros k)) (tells_sector per stream count sector old new) (λ d is.
    let bits = byte_bit (stream_bytes d per stream) in
    sector_told bits count sector (4096 * sector) n old new refl (λ i below at. omega (arith, below, at, least)) (all bits (λ i inside. sector_bit (stream_bytes d per stream) room k sector i size is (omega (arith, inside, least))))) read

abbrev tell_those : ℕ → Stream → ℕ → List ℕ → List BitRun → Content → Type 0
tell_those per stream count sectors xs d = TellBits (byte_bit (stream_bytes d per stream)) count sectors xs

pub sectors_next : (known : Option Content) (per : ℕ) (stream : Stream) (count : ℕ) (numbers : List ℕ) (i z : ℕ) (xs new : List BitRun) → i < length numbers → IfSome known (tell_those per stream count (take i numbers) xs) → IfSome known (tells_sector per stream count (get_or numbers i z) xs new)
    → IfSome known (tell_those per stream count (take (i + 1) numbers) new)
sectors_next known per stream count numbers i z xs new inside before next =
    both known (tell_those per stream count (take i numbers) xs) (tells_sector per stream count (get_or numbers i z) xs new) (tell_those per stream count (take (i + 1) numbers) new)
    (λ d are one_more. sectors_more (byte_bit (stream_bytes d per stream)) count numbers i z xs new inside are one_more) before next

-- the bits of a run that is pushed
pub run_pushed : (bits : ℕ → Bool) (bytes : List ℕ) (first at end count : ℕ) (value : Bool) (old xs new : List BitRun) → at < end → end ≤ count → TellsMore bits first (first + at) old xs → ((i : ℕ) → i < count → bits (first + i) ≡ byte_bit bytes i)
    → new ≡ xs ++ record { first = first + at; len = end - at; value = value } ∷ [] → value ≡ byte_bit bytes at → ((i : ℕ) → at ≤ i → i < end → byte_bit bytes i ≡ byte_bit bytes at) → TellsMore bits first (first + end) old new
run_pushed bits bytes first at end count value old xs new some most before so is value_is same =
    tells_one_more bits first (first + at) (first + end) old xs new (record { first = first + at; len = end - at; value = value }) before is refl (omega (arith, some)) (λ i low high.
    let there : i ≡ first + (i - first) = omega (arith, low) in
    ap bits there ∙ so (i - first) (omega (arith, low, high, most)) ∙ same (i - first) (omega (arith, low)) (omega (arith, low, high)) ∙ sym value_is)

-- ---- bytes that stay

module _ (c : Content) (per : ℕ) (changes : List Change) (sized : HasSizes c) (some : 0 < per) where
  abbrev after : Content
  after = content_after changes c

  sector_stays : (e : Extents) (count s : ℕ) → s < count → list_any (is_number s) (touched_numbers Plain per count e.runs changes) ≡ false → sector_bytes after (block_at per e.runs Plain s) ≡ sector_bytes c (block_at per e.runs Plain s)
  sector_stays e count s below other = same_sector c after (block_at per e.runs Plain s) (λ b is. ap (λ (x : Body). x.bytes) (body_elsewhere c (writes_of changes) b sized (leaves_block Plain per count e.runs s b changes some below is other)))

  byte_stays : (e : Extents) (count j : ℕ) → j / 512 < count → list_any (is_number (j / 512)) (touched_numbers Plain per count e.runs changes) ≡ false → byte_at after per e j ≡ byte_at c per e j
  unfolding byte_at
  byte_stays e count j below other = ap (λ (bytes : List ℕ). cond (ltb j e.initialised) (slice_index bytes (j % 512)) 0) (sector_stays e count (j / 512) below other)

  placed_stays : (e : Extents) (count j : ℕ) → j / 512 < count → list_any (is_number (j / 512)) (touched_numbers Plain per count e.runs changes) ≡ false → get_or (extent_bytes after per e) j 0 ≡ get_or (extent_bytes c per e) j 0
  placed_stays e count j below other = elim (cases_lt j e.real) [
    | inl inside ↦ byte_of_extents after per e j inside ∙ byte_stays e count j below other ∙ sym (byte_of_extents c per e j inside)
    | inr past ↦
        get_or_past (extent_bytes after per e) j 0 (omega (arith, past, length-extent_bytes after per e))
        ∙ sym (get_or_past (extent_bytes c per e) j 0 (omega (arith, past, length-extent_bytes c per e)))
  ]

  stream_stays : (s : Option Stream) (count j : ℕ) → j / 512 < count → list_any (is_number (j / 512)) (touched_numbers Plain per count (runs_in s) changes) ≡ false → get_or (bytes_or after per s) j 0 ≡ get_or (bytes_or c per s) j 0
  stream_stays None count j below other = refl
  stream_stays (Some (Held value)) count j below other = refl
  stream_stays (Some (Placed e)) count j below other = placed_stays e count j below other

  bit_stays : (s : Option Stream) (count i : ℕ) → i < count → list_any (is_number (i / 4096)) (touched_sectors per s count changes) ≡ false → byte_bit (bytes_or after per s) i ≡ byte_bit (bytes_or c per s) i
  bit_stays s count i below other =
      let same : i / 8 / 512 ≡ i / 4096 = omega arith in
      ap (λ (b : ℕ). is_one b (i % 8)) (stream_stays s (count / 4096 + 1) (i / 8) (omega (arith, same, below)) (ap (λ (k : ℕ). list_any (is_number k) (touched_sectors per s count changes)) same ∙ other))

  -- the old bits with those that runs tell are the new ones
  pub bits_after : (s : Option Stream) (count : ℕ) (xs : List BitRun) → TellBits (byte_bit (bytes_or after per s)) count (touched_sectors per s count changes) xs → runs_put xs (bits_of_bytes (bytes_or c per s) count) ≡ bits_of_bytes (bytes_or after per s) count
  unfolding runs_put bits_of_bytes
  bits_after s count xs tell =
      let old = byte_bit (bytes_or c per s) in
      let new = byte_bit (bytes_or after per s) in
      let size = length-map-range_with_len old 0 count in
      ap (λ (k : ℕ). map (λ i. unwrap_or (told xs i) (bit (map old (range_with_len 0 count)) i)) (range_with_len 0 k)) size
      ∙ same_map (λ i. unwrap_or (told xs i) (bit (map old (range_with_len 0 count)) i)) new 0 count (λ i low high.
      let below : i < count = omega (arith, high) in
      ap (λ (b : Bool). unwrap_or (told xs i) b) (get_or-map-range_with_len old 0 count i i false below (omega arith)) ∙ now i below)
    where
      now : (i : ℕ) → i < count → unwrap_or (told xs i) (byte_bit (bytes_or c per s) i) ≡ byte_bit (bytes_or after per s) i
      now i below = elim (told_cases (told xs i)) [
        | inl is ↦ ap (λ (o : Option Bool). unwrap_or o (byte_bit (bytes_or c per s) i)) is.1 ∙ sym (tell.right i is.0 is.1)
        | inr none ↦
            ap (λ (o : Option Bool). unwrap_or o (byte_bit (bytes_or c per s) i)) none
            ∙ sym (bit_stays s count i below (false_from_ne_true (list_any (is_number (i / 4096)) (touched_sectors per s count changes)) (λ is. not_told (told xs i) none (tell.all i below is))))
      ]
