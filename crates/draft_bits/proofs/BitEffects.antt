-- What bits that are put into a bitmap make of it.
use Rattle.std.proofs.Common.{◌≡◌, ◌≢◌, ◌⊎◌, ℕ, ◌+◌, ◌-◌, ◌*◌, ◌/◌, ◌%◌, ◌<◌, ◌≤◌, Bool, true, false, cond, List, length, get_or, Option, Some, None, refl, sym, ap, subst, ◌∙◌, inl, inr, arith}
use Rattle.std.specs.Prelude.{slice_index, nat_le}
use Rattle.std.proofs.lemmas.Bool.{cases_lt, lt-ltb, lt-leb}
use Rattle.std.proofs.lemmas.List.FromFn.{length-map-range_with_len, get_or-map-range_with_len}
use Rattle.draft_streams.specs.disk_model.declared.block.Block.{Block}
use Rattle.draft_streams.specs.disk_model.declared.block.BlockKind.TheVariants.{Plain}
use Rattle.draft_streams.specs.disk_model.Bodies.{BodyOf}
use Rattle.draft_streams.specs.disk_model.Content.{Content, HasSizes}
use Rattle.draft_streams.specs.disk_model.Sectors.{same_block}
use Rattle.bit_set.specs.Words.{is_one, byte_bit}
use Rattle.draft_streams.specs.state_model.declared.stream.Extents.{Extents}
use Rattle.draft_streams.specs.state_model.Streams.{block_at, byte_at, sector_bytes}
use Rattle.draft_streams.specs.plan_bodies.Bodies.{AreBodies, body_in, body_or}
use Rattle.draft_streams.proofs.plan_bodies.Putting.{body_put}
use Rattle.draft_streams.specs.plan_draft.declared.touched.Touched.{Touched}
use Rattle.draft_streams.specs.plan_draft.Touching.{bodies_of}
use Rattle.draft_streams.specs.plan_draft.Drafts.{drafted}
use Rattle.draft_streams.specs.plan_draft.Writing.{present}
use Rattle.draft_streams.proofs.plan_draft.Touching.{are_bodies}
use Rattle.draft_streams.specs.Parts.{touch_bytes, first_sector, sector_count}
use Rattle.draft_streams.specs.Effects.{HasOwnSectors, byte_put, BytesArePut}
use Rattle.draft_streams.proofs.Effecting.{effects}
use Rattle.draft_bits.specs.Filling.{FillsBytes, byte_count, bytes_from, first_past, PutsBits}
use Rattle.draft_bits.specs.Effects.{stream_bit, IsKept, IsNoSector, BitsArePut}

-- ---- bytes of the stream

when_so : (t : Bool) (x : ℕ) → t ≡ true → cond t x 0 ≡ x
when_so true x is = refl
when_so false x is = absurd cc

pub byte_of : (c : Content) (per : ℕ) (e : Extents) (k : ℕ) (o : Option Block) → k < e.initialised → block_at per e.runs Plain (k / 512) ≡ o → byte_at c per e k ≡ slice_index (sector_bytes c o) (k % 512)
unfolding byte_at
byte_of c per e k o below lies =
    when_so _ (slice_index (sector_bytes c (block_at per e.runs Plain (k / 512))) (k % 512)) (lt-ltb k e.initialised below)
    ∙ ap (λ (p : Option Block). slice_index (sector_bytes c p) (k % 512)) lies

are_of : (touched : List Touched) → IsKept touched → AreBodies (bodies_of touched)
are_of touched is = are_bodies touched is.rises is.whole

pub drafted_body : (c : Content) (touched : List Touched) (b : Block) (bytes : List ℕ) → HasSizes c → IsKept touched → body_in (bodies_of touched) b ≡ Some bytes → (drafted touched c b).bytes ≡ bytes
drafted_body c touched b bytes sized is put = ap (λ (x : BodyOf). x.bytes) (body_put c (bodies_of touched) b sized (are_of touched is) ∙ ap (body_or (c b)) put)

pub drafted_same : (c : Content) (old new : List Touched) (b : Block) → HasSizes c → IsKept old → IsKept new → body_in (bodies_of new) b ≡ body_in (bodies_of old) b → drafted new c b ≡ drafted old c b
drafted_same c old new b sized old_is new_is same = body_put c (bodies_of new) b sized (are_of new new_is) ∙ ap (body_or (c b)) same ∙ sym (body_put c (bodies_of old) b sized (are_of old old_is))

-- a byte that is put
pub byte_there : (c : Content) (per : ℕ) (e : Extents) (new : List Touched) (b : Block) (k value : ℕ) → HasSizes c → IsKept new → k < e.initialised → block_at per e.runs Plain (k / 512) ≡ Some b → byte_put new b k value → byte_at (drafted new c) per e k ≡ value
byte_there c per e new b k value sized is below lies put =
    byte_of (drafted new c) per e k (Some b) below lies
    ∙ ap (λ (l : List ℕ). slice_index l (k % 512)) (drafted_body c new b put.0 sized is put.1.0)
    ∙ put.1.1

-- ---- the bytes with the bits

counted : (c : Content) (per : ℕ) (e : Extents) (first len : ℕ) (value : Bool) (old bytes : List ℕ) (at n : ℕ) → old ≡ bytes_from c per e at n → FillsBytes old bytes (first % 8) (first % 8 + len) value → length bytes ≡ n
counted c per e first len value old bytes at n is fills = fills.same_count ∙ ap length is ∙ length-map-range_with_len (byte_at c per e) at n

-- the bit of a byte at its place among them
bit_among : (bytes : List ℕ) (at i : ℕ) → 8 * at ≤ i → byte_bit bytes (i - 8 * at) ≡ is_one (slice_index bytes (i / 8 - at)) (i % 8)
bit_among bytes at i le =
    let byte : (i - 8 * at) / 8 ≡ i / 8 - at = omega (arith, le) in
    let bit : (i - 8 * at) % 8 ≡ i % 8 = omega (arith, le) in
    ap (λ (k : ℕ). is_one (slice_index bytes k) ((i - 8 * at) % 8)) byte ∙ ap (λ (k : ℕ). is_one (slice_index bytes (i / 8 - at)) k) bit

-- ---- one bit

module _ (c : Content) (per : ℕ) (e : Extents) (first len i : ℕ) (value : Bool) (old new : List Touched) (sized : HasSizes c) (old_is : IsKept old) (new_is : IsKept new) (own : HasOwnSectors per e.runs) (put : PutsBits c per e first len value old new) (below : i / 8 < e.initialised) where
  abbrev k : ℕ
  k = i / 8

  abbrev at : ℕ
  at = first / 8

  abbrev bytes : List ℕ
  bytes = put.0

  abbrev olds : List ℕ
  olds = bytes_from (drafted old c) per e at (byte_count first len)

  long : length bytes ≡ byte_count first len
  long = counted (drafted old c) per e first len value olds bytes at (byte_count first len) refl put.1.0

  put_at : (b : Block) → block_at per e.runs Plain (k / 512) ≡ Some b → at ≤ k → k < at + byte_count first len → byte_at (drafted new c) per e k ≡ slice_index bytes (k - at)
  put_at b lies low high =
      byte_there c per e new b k (slice_index bytes (k - at)) sized new_is below lies
      (subst (λ (t : List Touched). byte_put t b k (slice_index bytes (k - at))) (sym put.1.1)
      (effects.inside c per e.runs (first_past e) at k bytes old b sized old_is.rises old_is.whole own lies low (subst (λ (n : ℕ). k < at + n) (sym long) high)))

  bit_at_place : (b : Block) → block_at per e.runs Plain (k / 512) ≡ Some b → at ≤ k → k < at + byte_count first len → stream_bit (drafted new c) per e i ≡ byte_bit bytes (i - 8 * at)
  bit_at_place b lies low high = ap (λ (x : ℕ). is_one x (i % 8)) (put_at b lies low high) ∙ sym (bit_among bytes at i (omega (arith, low)))

  is_inside : (b : Block) → block_at per e.runs Plain (k / 512) ≡ Some b → first ≤ i → i < first + len → stream_bit (drafted new c) per e i ≡ value
  is_inside b lies low high = bit_at_place b lies (omega (arith, low)) (omega (arith, low, high)) ∙ put.1.0.inside (i - 8 * at) (omega (arith, low)) (omega (arith, low, high))

  old_at : at ≤ k → k < at + byte_count first len → slice_index olds (k - at) ≡ byte_at (drafted old c) per e k
  old_at low high = get_or-map-range_with_len (byte_at (drafted old c) per e) at (byte_count first len) (k - at) k 0 (omega (arith, low, high)) (omega (arith, low))

  moved : (i < first) ⊎ (first + len ≤ i) → at ≤ k → (i - 8 * at < first % 8) ⊎ (first % 8 + len ≤ i - 8 * at)
  moved (inl lt) low = inl (omega (arith, lt, low))
  moved (inr le) low = inr (omega (arith, le, low))

  is_other : (b : Block) → block_at per e.runs Plain (k / 512) ≡ Some b → at ≤ k → k < at + byte_count first len → (i < first) ⊎ (first + len ≤ i) → stream_bit (drafted new c) per e i ≡ stream_bit (drafted old c) per e i
  is_other b lies low high out =
      bit_at_place b lies low high
      ∙ put.1.0.others (i - 8 * at) (moved out low)
      ∙ bit_among olds at i (omega (arith, low))
      ∙ ap (λ (x : ℕ). is_one x (i % 8)) (old_at low high)

  -- a byte beside them, in one of their sectors and in another one
  near : (b : Block) → block_at per e.runs Plain (k / 512) ≡ Some b → first_sector at ≤ k / 512 → k / 512 < first_sector at + sector_count at (length bytes) → (k < at) ⊎ (at + length bytes ≤ k) → byte_at (drafted new c) per e k ≡ byte_at (drafted old c) per e k
  near b lies low high out =
      let live : nat_le (first_past e) (k / 512) ≡ false = lt-leb (first_past e) (k / 512) (omega (arith, below)) in
      byte_there c per e new b k (slice_index (drafted old c b).bytes (k % 512)) sized new_is below lies
      (subst (λ (t : List Touched). byte_put t b k (slice_index (drafted old c b).bytes (k % 512))) (sym put.1.1)
      (subst (λ (f : Bool). byte_put (touch_bytes c per e.runs (first_past e) at bytes old) b k (slice_index (present c (bodies_of old) b f) (k % 512))) live
      (effects.beside c per e.runs (first_past e) at k bytes old b sized old_is.rises old_is.whole own lies low high out)))
      ∙ sym (byte_of (drafted old c) per e k (Some b) below lies)

  far : (b : Block) → block_at per e.runs Plain (k / 512) ≡ Some b → ((s : ℕ) → first_sector at ≤ s → s < first_sector at + sector_count at (length bytes) → k / 512 ≢ s) → byte_at (drafted new c) per e k ≡ byte_at (drafted old c) per e k
  far b lies apart =
      let same : body_in (bodies_of new) b ≡ body_in (bodies_of old) b =
      ap (λ (t : List Touched). body_in (bodies_of t) b) put.1.1
      ∙ effects.others c per e.runs (first_past e) at bytes old b (λ s a low high there. own (k / 512) s b a (apart s low high) lies there)
      in
      byte_of (drafted new c) per e k (Some b) below lies
      ∙ ap (λ (x : BodyOf). slice_index x.bytes (k % 512)) (drafted_same c old new b sized old_is new_is same)
      ∙ sym (byte_of (drafted old c) per e k (Some b) below lies)

  beside : (b : Block) → block_at per e.runs Plain (k / 512) ≡ Some b → (k < at) ⊎ (at + length bytes ≤ k) → byte_at (drafted new c) per e k ≡ byte_at (drafted old c) per e k
  beside b lies out = elim (cases_lt (k / 512) (first_sector at)) [
    | inl less ↦ far b lies (λ s low high is. absurd (omega (arith, less, low, is)))
    | inr ge ↦ elim (cases_lt (k / 512) (first_sector at + sector_count at (length bytes))) [
      | inl within ↦ near b lies ge within out
      | inr past ↦ far b lies (λ s low high is. absurd (omega (arith, past, high, is)))
    ]
  ]

  out_of : (k < at) ⊎ (at + byte_count first len ≤ k) → (k < at) ⊎ (at + length bytes ≤ k)
  out_of out = subst (λ (n : ℕ). (k < at) ⊎ (at + n ≤ k)) (sym long) out

  at_block : (b : Block) → block_at per e.runs Plain (k / 512) ≡ Some b → (i < first) ⊎ (first + len ≤ i) → stream_bit (drafted new c) per e i ≡ stream_bit (drafted old c) per e i
  at_block b lies out = elim (cases_lt k at) [
    | inl less ↦ ap (λ (x : ℕ). is_one x (i % 8)) (beside b lies (out_of (inl less)))
    | inr ge ↦ elim (cases_lt k (at + byte_count first len)) [
      | inl within ↦ is_other b lies ge within out
      | inr past ↦ ap (λ (x : ℕ). is_one x (i % 8)) (beside b lies (out_of (inr past)))
    ]
  ]

  anywhere : (o : Option Block) → block_at per e.runs Plain (k / 512) ≡ o → (i < first) ⊎ (first + len ≤ i) → stream_bit (drafted new c) per e i ≡ stream_bit (drafted old c) per e i
  anywhere None lies out = ap (λ (x : ℕ). is_one x (i % 8)) (byte_of (drafted new c) per e k None below lies ∙ sym (byte_of (drafted old c) per e k None below lies))
  anywhere (Some b) lies out = at_block b lies out

-- ---- what else is touched

same_at : (c : Content) (per : ℕ) (e : Extents) (i : ℕ) (old new : List Touched) (o : Option Block) → HasSizes c → IsKept old → IsKept new → i / 8 < e.initialised → block_at per e.runs Plain (i / 8 / 512) ≡ o
    → ((b : Block) → o ≡ Some b → body_in (bodies_of new) b ≡ body_in (bodies_of old) b) → stream_bit (drafted new c) per e i ≡ stream_bit (drafted old c) per e i
same_at c per e i old new None sized old_is new_is below lies same =
    ap (λ (x : ℕ). is_one x (i % 8)) (byte_of (drafted new c) per e (i / 8) None below lies ∙ sym (byte_of (drafted old c) per e (i / 8) None below lies))
same_at c per e i old new (Some b) sized old_is new_is below lies same =
    ap (λ (x : ℕ). is_one x (i % 8))
    (byte_of (drafted new c) per e (i / 8) (Some b) below lies
    ∙ ap (λ (x : BodyOf). slice_index x.bytes (i / 8 % 512)) (drafted_same c old new b sized old_is new_is (same b refl))
    ∙ sym (byte_of (drafted old c) per e (i / 8) (Some b) below lies))

-- a bit whose sector has the same body is the same
pub same_bit : (c : Content) (per : ℕ) (e : Extents) (i : ℕ) (old new : List Touched) → HasSizes c → IsKept old → IsKept new → i / 8 < e.initialised
    → ((b : Block) → block_at per e.runs Plain (i / 8 / 512) ≡ Some b → body_in (bodies_of new) b ≡ body_in (bodies_of old) b) → stream_bit (drafted new c) per e i ≡ stream_bit (drafted old c) per e i
same_bit c per e i old new sized old_is new_is below same = same_at c per e i old new (block_at per e.runs Plain (i / 8 / 512)) sized old_is new_is below refl same

are_elsewhere : (c : Content) (per : ℕ) (e : Extents) (first len : ℕ) (value : Bool) (old new : List Touched) (b : Block) → PutsBits c per e first len value old new → IsNoSector per e.runs b → body_in (bodies_of new) b ≡ body_in (bodies_of old) b
are_elsewhere c per e first len value old new b put apart =
    ap (λ (t : List Touched). body_in (bodies_of t) b) put.1.1 ∙ effects.others c per e.runs (first_past e) (first / 8) put.0 old b (λ s a low high there. apart s a there)

stay_kept : (c : Content) (per : ℕ) (e : Extents) (first len : ℕ) (value : Bool) (old new : List Touched) → HasSizes c → IsKept old → PutsBits c per e first len value old new → IsKept new
stay_kept c per e first len value old new sized is put = subst IsKept (sym put.1.1) (record {
  rises = effects.order c per e.runs (first_past e) (first / 8) put.0 old sized is.rises is.whole;
  whole = effects.sizes c per e.runs (first_past e) (first / 8) put.0 old sized is.rises is.whole;
})

pub bits_put : BitsArePut
bits_put = record {
  inside = λ c per e first len i value old new b sized old_is new_is own put below lies low high. is_inside c per e first len i value old new sized old_is new_is own put below b lies low high;
  others = λ c per e first len i value old new sized old_is new_is own put below out. anywhere c per e first len i value old new sized old_is new_is own put below (block_at per e.runs Plain (i / 8 / 512)) refl out;
  elsewhere = are_elsewhere;
  kept = stay_kept;
}
