-- What bits that are put into a bitmap make of it, wherever it stands.
use Rattle.std.proofs.Common.{◌≡◌, ◌⊎◌, ℕ, zero, suc, ◌+◌, ◌-◌, ◌*◌, ◌/◌, ◌%◌, ◌<◌, ◌≤◌, Bool, true, false, cond, List, [], length, replicate, Option, Some, None, Ok, refl, sym, ap, ap₂, subst, ◌∙◌, inl, inr, arith}
use Rattle.std.specs.Prelude.{slice_index, nat_lt, ◌==◌}
use Rattle.std.proofs.lemmas.Bool.{and_right, cases_lt, le-ltb, leb-true}
use Rattle.std.proofs.lemmas.List.{get_or_past, length-replicate}
use Rattle.std.proofs.lemmas.Nat.Bits.{bit_at-zero}
use Rattle.std.proofs.lemmas.List.FromFn.{length-map-range_with_len, get_or-map-range_with_len}
use Rattle.disk_model.specs.declared.block.Block.{Block}
use Rattle.disk_model.specs.declared.block.BlockKind.TheVariants.{Plain, FileRec}
use Rattle.disk_model.specs.Bodies.{BodyOf}
use Rattle.disk_model.specs.Bytes.{zeros}
use Rattle.disk_model.specs.Content.{Content, HasSizes}
use Rattle.disk_model.specs.Sectors.{same_block, same_kind, zero_sector}
use Rattle.bit_set.specs.Words.{is_one, byte_bit}
use Rattle.draft_resized.specs.state_model.declared.stream.Extents.{Extents}
use Rattle.draft_resized.specs.state_model.declared.stream.Stream.{Stream}
use Rattle.draft_resized.specs.state_model.declared.stream.Stream.TheVariants.{Held, Placed}
use Rattle.draft_resized.specs.state_model.Streams.{block_at, byte_at, sector_bytes}
use Rattle.draft_resized.proofs.stream_map.Reading.{kind-block_at}
use Rattle.plan_bodies.specs.Bodies.{NewBody, body_in}
use Rattle.plan_bodies.proofs.Putting.{block_itself}
use Rattle.draft_resized.specs.plan_draft.declared.touched.Touched.{Touched}
use Rattle.draft_resized.specs.plan_draft.Touching.{bodies_of, touch}
use Rattle.draft_resized.specs.plan_draft.Drafts.{drafted}
use Rattle.draft_resized.proofs.plan_draft.Puts.{bodies_touch}
use Rattle.draft_resized.proofs.plan_draft.Same.{one_in_order}
use Rattle.record_values.proofs.record_streams.Kept.{but_room_fits}
use Rattle.draft_resized.specs.draft_streams.Parts.{touch_bytes}
use Rattle.draft_resized.specs.draft_streams.Effects.{HasOwnSectors}
use Rattle.draft_resized.proofs.draft_streams.Effecting.{effects}
use Rattle.draft_resized.specs.draft_bits.Filling.{FillsBytes, byte_count, bytes_from, first_past, PutsBits}
use Rattle.draft_resized.specs.draft_bits.Effects.{stream_bit, IsKept, IsNoSector}
use Rattle.draft_resized.proofs.draft_bits.BitEffects.{byte_of, byte_there, same_bit, bits_put}
use Rattle.draft_resized.specs.draft_records.Records.{record_block, is_past, has_mirror, fits_room, touch_if}
use Rattle.draft_resized.proofs.FileEffects.{long_of, kept_both, away_both}
use Rattle.draft_bitmaps.specs.declared.bitmap.Bitmap.{Bitmap}
use Rattle.draft_bitmaps.specs.Bitmaps.{bitmap_bit, with_value, with_extents, with_record, own_bytes, byte_end, is_below, raised, with_zeros, IsBitmap, PutsPast, PutsRaised, PutsPlacedBy, PutsInto}
use Rattle.draft_bitmaps.specs.Effects.{room_in, HasApartSectors, LiesInRun, IsNoneOf, IsNoRecord, PutsBitmap, BitmapIsPut}
use Rattle.draft_bitmaps.proofs.Room.{same_room}

-- ---- the record

after_touch : (touched : List Touched) (a b : Block) (fresh : Bool) (bytes : List ℕ) (old : BodyOf) → body_in (bodies_of (touch a fresh bytes old touched)) b ≡ cond (same_block b a) (Some bytes) (body_in (bodies_of touched) b)
after_touch touched a b fresh bytes old = ap (λ (l : List NewBody). body_in l b) (bodies_touch touched a fresh bytes old) ∙ one_in_order (record { block = a; bytes = bytes }) (bodies_of touched) b

away : (c : Content) (o : Option Block) (fresh : Bool) (bytes : List ℕ) (touched : List Touched) (b : Block) → ((a : Block) → o ≡ Some a → same_block b a ≡ false) → body_in (bodies_of (touch_if c o fresh bytes touched)) b ≡ body_in (bodies_of touched) b
away c None fresh bytes touched b apart = refl
away c (Some a) fresh bytes touched b apart = after_touch touched a b fresh bytes (c a) ∙ ap (λ (t : Bool). cond t (Some bytes) (body_in (bodies_of touched) b)) (apart a refl)

here : (c : Content) (o : Option Block) (fresh : Bool) (bytes : List ℕ) (touched : List Touched) (b : Block) → o ≡ Some b → body_in (bodies_of (touch_if c o fresh bytes touched)) b ≡ Some bytes
here c o fresh bytes touched b is =
    ap (λ (p : Option Block). body_in (bodies_of (touch_if c p fresh bytes touched)) b) is
    ∙ after_touch touched b b fresh bytes (c b)
    ∙ ap (λ (t : Bool). cond t (Some bytes) (body_in (bodies_of touched) b)) (block_itself b)

either : (t : Bool) (o : Option (List ℕ)) (bytes : List ℕ) → o ≡ Some bytes → cond t (Some bytes) o ≡ Some bytes
either true o bytes is = refl
either false o bytes is = is

stays : (c : Content) (o : Option Block) (fresh : Bool) (bytes : List ℕ) (touched : List Touched) (b : Block) → body_in (bodies_of touched) b ≡ Some bytes → body_in (bodies_of (touch_if c o fresh bytes touched)) b ≡ Some bytes
stays c None fresh bytes touched b is = is
stays c (Some a) fresh bytes touched b is = after_touch touched a b fresh bytes (c a) ∙ either (same_block b a) (body_in (bodies_of touched) b) bytes is

module _ (c : Content) (per : ℕ) (table mirror : Extents) (n : ℕ) (bytes : List ℕ) (old : List Touched) where
  abbrev own : List Touched
  own = touch_if c (record_block per table n) (is_past table n) bytes old

  abbrev both : Bool → List Touched
  both t = cond t (touch_if c (record_block per mirror n) (is_past mirror n) bytes own) own

  pub record_away : (t : Bool) (b : Block) → IsNoRecord per table n b → IsNoRecord per mirror n b → body_in (bodies_of (both t)) b ≡ body_in (bodies_of old) b
  record_away true b apart mirrored = away c (record_block per mirror n) (is_past mirror n) bytes own b mirrored ∙ away c (record_block per table n) (is_past table n) bytes old b apart
  record_away false b apart mirrored = away c (record_block per table n) (is_past table n) bytes old b apart

  pub record_here : (t : Bool) (b : Block) → record_block per table n ≡ Some b → body_in (bodies_of (both t)) b ≡ Some bytes
  record_here true b lies = stays c (record_block per mirror n) (is_past mirror n) bytes own b (here c (record_block per table n) (is_past table n) bytes old b lies)
  record_here false b lies = here c (record_block per table n) (is_past table n) bytes old b lies

-- ---- bytes past the initialised size

no_so : (t : Bool) (x : ℕ) → t ≡ false → cond t x 0 ≡ 0
no_so false x is = refl
no_so true x is = absurd cc

none_past : (c : Content) (per : ℕ) (e : Extents) (k : ℕ) → e.initialised ≤ k → byte_at c per e k ≡ 0
unfolding byte_at
none_past c per e k past = no_so (nat_lt k e.initialised) (slice_index (sector_bytes c (block_at per e.runs Plain (k / 512))) (k % 512)) (le-ltb k e.initialised past)

zero_in : (n i : ℕ) → slice_index (replicate n 0) i ≡ 0
zero_in zero i = refl
zero_in (suc n) zero = refl
zero_in (suc n) (suc i) = zero_in n i

zero_of : (n i : ℕ) → slice_index (zeros n) i ≡ 0
unfolding zeros
zero_of n i = zero_in n i

zero_sector_at : (o : Option Block) (c : Content) (i : ℕ) → o ≡ None → slice_index (sector_bytes c o) i ≡ 0
unfolding zero_sector
zero_sector_at None c i is = zero_in 512 i
zero_sector_at (Some b) c i is = absurd cc

zeros_long : (n : ℕ) → length (zeros n) ≡ n
unfolding zeros
zeros_long n = length-replicate n 0

clear_bit : (x j : ℕ) → x ≡ 0 → is_one x j ≡ false
clear_bit x j is = ap (λ (n : ℕ). is_one n j) is ∙ ap (λ (n : ℕ). n == 1) (bit_at-zero j)

-- the zeros are bits that are put, each clear
past_list : (c : Content) (per : ℕ) (e : Extents) (at n i : ℕ) → e.initialised ≤ at → byte_bit (bytes_from c per e at n) i ≡ false
past_list c per e at n i past = elim (cases_lt (i / 8) n) [
  | inl less ↦ clear_bit (slice_index (bytes_from c per e at n) (i / 8)) (i % 8) (get_or-map-range_with_len (byte_at c per e) at n (i / 8) (at + i / 8) 0 less refl ∙ none_past c per e (at + i / 8) (omega (arith, past)))
  | inr ge ↦
      (let long = length-map-range_with_len (byte_at c per e) at n in
      clear_bit (slice_index (bytes_from c per e at n) (i / 8)) (i % 8) (get_or_past (bytes_from c per e at n) (i / 8) 0 (omega (arith, long, ge))))
]

zeros_fill : (olds : List ℕ) (n m from end : ℕ) → length olds ≡ m → m ≡ n → ((i : ℕ) → byte_bit olds i ≡ false) → FillsBytes olds (zeros n) from end false
zeros_fill olds n m from end long same clear = record {
  same_count = zeros_long n ∙ sym same ∙ sym long;
  inside = λ i low high. clear_bit (slice_index (zeros n) (i / 8)) (i % 8) (zero_of n (i / 8));
  others = λ i out. clear_bit (slice_index (zeros n) (i / 8)) (i % 8) (zero_of n (i / 8)) ∙ sym (clear i);
}

-- ---- bits past the initialised size

module _ (c : Content) (per : ℕ) (e : Extents) (first len : ℕ) (bit : Bool) (mid new : List Touched) (sized : HasSizes c) (kept : IsKept mid) (own : HasOwnSectors per e.runs) (put : PutsPast c per e first len bit mid new) where
  abbrev end : ℕ
  end = byte_end first len

  abbrev more : ℕ
  more = end - e.initialised

  abbrev high : Extents
  high = raised first len e

  abbrev zeroed : List Touched
  zeroed = with_zeros c per e end mid

  zeroed_kept : IsKept zeroed
  zeroed_kept = record {
    rises = effects.order c per e.runs (first_past e) e.initialised (zeros more) mid sized kept.rises kept.whole;
    whole = effects.sizes c per e.runs (first_past e) e.initialised (zeros more) mid sized kept.rises kept.whole;
  }

  past_kept : IsKept new
  past_kept = bits_put.kept c per high first len bit zeroed new sized zeroed_kept put

  place : 8 * e.initialised / 8 ≡ e.initialised
  place = omega arith

  count : byte_count (8 * e.initialised) (8 * more) ≡ more
  count = omega arith

  -- the zeros, as bits that are put
  as_bits : PutsBits c per e (8 * e.initialised) (8 * more) false mid zeroed
  as_bits =
      let n = byte_count (8 * e.initialised) (8 * more) in
      let at = 8 * e.initialised / 8 in (
        zeros more,
        (
          zeros_fill (bytes_from (drafted mid c) per e at n) more n (8 * e.initialised % 8) (8 * e.initialised % 8 + 8 * more) (length-map-range_with_len (byte_at (drafted mid c) per e) at n) count
              (λ i. past_list (drafted mid c) per e at n i (omega (arith, place))),
          ap (λ (k : ℕ). touch_bytes c per e.runs (first_past e) k (zeros more) mid) (sym place),
        ),
      )

  below_same : (i : ℕ) → i / 8 < e.initialised → stream_bit (drafted zeroed c) per e i ≡ stream_bit (drafted mid c) per e i
  below_same i below = bits_put.others c per e (8 * e.initialised) (8 * more) i false mid zeroed sized kept zeroed_kept own as_bits below (inl (omega (arith, below)))

  size_same : (x : Content) (i : ℕ) → i / 8 < e.initialised → stream_bit x per high i ≡ stream_bit x per e i
  size_same x i below =
      let o = block_at per e.runs Plain (i / 8 / 512) in
      ap (λ (v : ℕ). is_one v (i % 8)) (byte_of x per high (i / 8) o (omega (arith, below)) refl ∙ sym (byte_of x per e (i / 8) o below refl))

  -- a byte that came
  new_zero : (i : ℕ) (o : Option Block) → block_at per e.runs Plain (i / 8 / 512) ≡ o → e.initialised ≤ i / 8 → i / 8 < high.initialised → byte_at (drafted zeroed c) per high (i / 8) ≡ 0
  new_zero i None lies past below = byte_of (drafted zeroed c) per high (i / 8) None below lies ∙ zero_sector_at None (drafted zeroed c) (i / 8 % 512) refl
  new_zero i (Some b) lies past below =
      let long = zeros_long more in
      byte_there c per high zeroed b (i / 8) (slice_index (zeros more) (i / 8 - e.initialised)) sized zeroed_kept below lies
      (effects.inside c per e.runs (first_past e) e.initialised (i / 8) (zeros more) mid b sized kept.rises kept.whole own lies past (omega (arith, long, past, below)))
      ∙ zero_of more (i / 8 - e.initialised)

  mid_same : (i : ℕ) → i / 8 < high.initialised → stream_bit (drafted zeroed c) per high i ≡ stream_bit (drafted mid c) per e i
  mid_same i below = elim (cases_lt (i / 8) e.initialised) [
    | inl less ↦ size_same (drafted zeroed c) i less ∙ below_same i less
    | inr past ↦
        clear_bit (byte_at (drafted zeroed c) per high (i / 8)) (i % 8) (new_zero i (block_at per e.runs Plain (i / 8 / 512)) refl past below)
        ∙ sym (clear_bit (byte_at (drafted mid c) per e (i / 8)) (i % 8) (none_past (drafted mid c) per e (i / 8) past))
  ]

  past_inside : (i : ℕ) → LiesInRun per (Placed e) i → first ≤ i → i < first + len → stream_bit (drafted new c) per high i ≡ bit
  past_inside i lies low up = bits_put.inside c per high first len i bit zeroed new lies.0 sized zeroed_kept past_kept own put (omega (arith, up)) lies.1 low up

  past_others : (i : ℕ) → (i < first) ⊎ (first + len ≤ i) → stream_bit (drafted new c) per high i ≡ stream_bit (drafted mid c) per e i
  past_others i out = elim (cases_lt (i / 8) high.initialised) [
    | inl less ↦ bits_put.others c per high first len i bit zeroed new sized zeroed_kept past_kept own put less out ∙ mid_same i less
    | inr past ↦
        clear_bit (byte_at (drafted new c) per high (i / 8)) (i % 8) (none_past (drafted new c) per high (i / 8) past)
        ∙ sym (clear_bit (byte_at (drafted mid c) per e (i / 8)) (i % 8) (none_past (drafted mid c) per e (i / 8) (omega (arith, past))))
  ]

  past_elsewhere : (b : Block) → IsNoSector per e.runs b → body_in (bodies_of new) b ≡ body_in (bodies_of mid) b
  past_elsewhere b apart = bits_put.elsewhere c per high first len bit zeroed new b put apart ∙ effects.others c per e.runs (first_past e) e.initialised (zeros more) mid b (λ s a low up there. apart s a there)

-- ---- the record before them

module _ (c : Content) (per : ℕ) (table mirror : Extents) (after : Bitmap) (old : List Touched) (sized : HasSizes c) (kept : IsKept old) (stands : IsBitmap after) (room : fits_room after.file ≡ Ok tt) where
  abbrev mid : List Touched
  mid = with_record c per table mirror after old

  mid_kept : IsKept mid
  mid_kept = kept_both c per table mirror after.number (own_bytes after) old (has_mirror mirror after.number) sized (long_of after.file (but_room_fits after.file stands.fits) room) kept

  record_bit : (e : Extents) (i : ℕ) → stream_bit (drafted mid c) per e i ≡ stream_bit (drafted old c) per e i
  record_bit e i = elim (cases_lt (i / 8) e.initialised) [
    | inl less ↦
        same_bit c per e i old mid sized kept mid_kept less
        (λ b lies. away_both c per table mirror after.number (own_bytes after) old (has_mirror mirror after.number) b (kind-block_at per e.runs Plain (i / 8 / 512) b (sym lies)))
    | inr past ↦
        clear_bit (byte_at (drafted mid c) per e (i / 8)) (i % 8) (none_past (drafted mid c) per e (i / 8) past)
        ∙ sym (clear_bit (byte_at (drafted old c) per e (i / 8)) (i % 8) (none_past (drafted old c) per e (i / 8) past))
  ]

  mid_own : (block : Block) → record_block per table after.number ≡ Some block → body_in (bodies_of mid) block ≡ Some (own_bytes after)
  mid_own block lies = record_here c per table mirror after.number (own_bytes after) old (has_mirror mirror after.number) block lies

  mid_elsewhere : (block : Block) → IsNoRecord per table after.number block → IsNoRecord per mirror after.number block → body_in (bodies_of mid) block ≡ body_in (bodies_of old) block
  mid_elsewhere block apart mirrored = record_away c per table mirror after.number (own_bytes after) old (has_mirror mirror after.number) block apart mirrored

-- ---- by where it stands

file_apart : (a b : Block) → a.kind ≡ Plain → b.kind ≡ FileRec → same_block b a ≡ false
file_apart a b plain file = and_right _ (same_kind b.kind a.kind) (ap₂ same_kind file plain)

-- what is known of the bitmap after
record Goes (c : Content) (per : ℕ) (table mirror : Extents) (s : Stream) (b after : Bitmap) (first len : ℕ) (bit : Bool) (old new : List Touched) : Type 0 where
  inside : (i : ℕ) → LiesInRun per s i → first ≤ i → i < first + len → bitmap_bit (drafted new c) per after.stream i ≡ bit
  others : (i : ℕ) → (i < first) ⊎ (first + len ≤ i) → bitmap_bit (drafted new c) per after.stream i ≡ bitmap_bit (drafted old c) per s i
  own : (block : Block) → record_block per table b.number ≡ Some block → (body_in (bodies_of new) block ≡ Some (own_bytes after)) ⊎ ((after ≡ b) × (body_in (bodies_of new) block ≡ body_in (bodies_of old) block))
  elsewhere : (block : Block) → IsNoneOf per s block → IsNoRecord per table b.number block → IsNoRecord per mirror b.number block → body_in (bodies_of new) block ≡ body_in (bodies_of old) block
  whole : IsKept new

no_sector_of : (per : ℕ) (e table : Extents) (n : ℕ) (block : Block) → record_block per table n ≡ Some block → IsNoSector per e.runs block
no_sector_of per e table n block lies = λ s a there. file_apart a block (kind-block_at per e.runs Plain s a (sym there)) (kind-block_at per table.runs FileRec n block (sym lies))

module _ (c : Content) (per : ℕ) (table mirror : Extents) (b : Bitmap) (first len : ℕ) (bit : Bool) (old new : List Touched) (sized : HasSizes c) (kept : IsKept old) where
  abbrev Goal : Stream → Bitmap → Type 0
  Goal s x = Goes c per table mirror s b x first len bit old new

  held : (value bytes : List ℕ) → IsBitmap (with_value bytes b) → fits_room (with_value bytes b).file ≡ Ok tt → FillsBytes value bytes first (first + len) bit → new ≡ with_record c per table mirror (with_value bytes b) old → Goal (Held value) (with_value bytes b)
  held value bytes stands room fills put = subst (λ (t : List Touched). Goes c per table mirror (Held value) b (with_value bytes b) first len bit old t) (sym put) (record {
    inside = λ i lies low high. fills.inside i low high;
    others = λ i out. fills.others i out;
    own = λ block lies. inl (mid_own c per table mirror (with_value bytes b) old sized kept stands room block lies);
    elsewhere = λ block apart away mirrored. mid_elsewhere c per table mirror (with_value bytes b) old sized kept stands room block away mirrored;
    whole = mid_kept c per table mirror (with_value bytes b) old sized kept stands room;
  })

  below_others : (e : Extents) → HasOwnSectors per e.runs → PutsBits c per e first len bit old new → IsKept new → (i : ℕ) → (i < first) ⊎ (first + len ≤ i) → stream_bit (drafted new c) per e i ≡ stream_bit (drafted old c) per e i
  below_others e own put new_kept i out = elim (cases_lt (i / 8) e.initialised) [
    | inl less ↦ bits_put.others c per e first len i bit old new sized kept new_kept own put less out
    | inr past ↦
        clear_bit (byte_at (drafted new c) per e (i / 8)) (i % 8) (none_past (drafted new c) per e (i / 8) past)
        ∙ sym (clear_bit (byte_at (drafted old c) per e (i / 8)) (i % 8) (none_past (drafted old c) per e (i / 8) past))
  ]

  below : (e : Extents) → byte_end first len ≤ e.initialised → HasOwnSectors per e.runs → b.stream ≡ Placed e → PutsBits c per e first len bit old new → Goal (Placed e) b
  below e within own is put =
      let new_kept : IsKept new = bits_put.kept c per e first len bit old new sized kept put in
      let same : (x : Content) (i : ℕ) → bitmap_bit x per b.stream i ≡ stream_bit x per e i = λ x i. ap (λ (s : Stream). bitmap_bit x per s i) is in
      record {
        inside = λ i lies low high. same (drafted new c) i ∙ bits_put.inside c per e first len i bit old new lies.0 sized kept new_kept own put (omega (arith, within, high)) lies.1 low high;
        others = λ i out. same (drafted new c) i ∙ below_others e own put new_kept i out;
        own = λ block lies. inr (refl, bits_put.elsewhere c per e first len bit old new block put (no_sector_of per e table b.number block lies));
        elsewhere = λ block apart away mirrored. bits_put.elsewhere c per e first len bit old new block put apart;
        whole = new_kept;
      }

  past : (e : Extents) → IsBitmap (with_extents per (raised first len e) b) → fits_room (with_extents per (raised first len e) b).file ≡ Ok tt → HasOwnSectors per e.runs
      → PutsRaised c per table mirror (with_extents per (raised first len e) b) e first len bit old new → Goal (Placed e) (with_extents per (raised first len e) b)
  past e stands room own put =
      let x = with_extents per (raised first len e) b in
      let mid = with_record c per table mirror x old in
      let mid_is : IsKept mid = mid_kept c per table mirror x old sized kept stands room in
      record {
        inside = λ i lies low high. past_inside c per e first len bit mid new sized mid_is own put i lies low high;
        others = λ i out. past_others c per e first len bit mid new sized mid_is own put i out ∙ record_bit c per table mirror x old sized kept stands room e i;
        own = λ block lies. inl (past_elsewhere c per e first len bit mid new sized mid_is own put block (no_sector_of per e table b.number block lies) ∙ mid_own c per table mirror x old sized kept stands room block lies);
        elsewhere = λ block apart away mirrored. past_elsewhere c per e first len bit mid new sized mid_is own put block apart ∙ mid_elsewhere c per table mirror x old sized kept stands room block away mirrored;
        whole = past_kept c per e first len bit mid new sized mid_is own put;
      }

  by_below : (t : Bool) (e : Extents) (after : Bitmap) → is_below e first len ≡ t → b.stream ≡ Placed e → IsBitmap after → cond t (Ok tt) (fits_room (with_extents per (raised first len e) b).file) ≡ Ok tt → HasOwnSectors per e.runs
      → PutsPlacedBy t c per table mirror b e first len bit old new after → Goal (Placed e) after
  by_below true e after is stream stands room own put = subst (Goal (Placed e)) (sym put.1) (below e (leb-true (byte_end first len) e.initialised is) own stream put.0)
  by_below false e after is stream stands room own put =
      subst (Goal (Placed e)) (sym put.1)
      (past e (subst IsBitmap put.1 stands) room own (subst (λ (x : Bitmap). PutsRaised c per table mirror x e first len bit old new) put.1 put.0))

  by_stream : (s : Stream) (after : Bitmap) → b.stream ≡ s → IsBitmap after → room_in s per b first len ≡ Ok tt → HasApartSectors per s → PutsInto s c per table mirror b first len bit old new after → Goal s after
  by_stream (Held value) after stream stands room apart put =
      let bytes = put.0.0 in
      let is = put.0.1.1 in
      subst (Goal (Held value)) (sym is)
      (held value bytes (subst IsBitmap is stands) (same_room b.kind [] bytes value b.file put.0.1.0.same_count ∙ room) put.0.1.0 (subst (λ (x : Bitmap). new ≡ with_record c per table mirror x old) is put.1))
  by_stream (Placed e) after stream stands room apart put = by_below (is_below e first len) e after refl stream stands room apart put

goes : (c : Content) (per : ℕ) (table mirror : Extents) (b after : Bitmap) (first len : ℕ) (bit : Bool) (old new : List Touched) → PutsBitmap c per table mirror b first len bit old new after → Goes c per table mirror b.stream b after first len bit old new
goes c per table mirror b after first len bit old new is = by_stream c per table mirror b first len bit old new is.sized is.kept b.stream after refl is.stands is.room is.own is.put

pub bitmap_put : BitmapIsPut
bitmap_put = record {
  inside = λ c per table mirror b after first len i bit old new is. (goes c per table mirror b after first len bit old new is).inside i;
  others = λ c per table mirror b after first len i bit old new is. (goes c per table mirror b after first len bit old new is).others i;
  own = λ c per table mirror b after first len bit old new block is. (goes c per table mirror b after first len bit old new is).own block;
  elsewhere = λ c per table mirror b after first len bit old new block is. (goes c per table mirror b after first len bit old new is).elsewhere block;
  whole = λ c per table mirror b after first len bit old new is. (goes c per table mirror b after first len bit old new is).whole;
}
