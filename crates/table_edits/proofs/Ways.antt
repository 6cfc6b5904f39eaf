-- Whether the bitmap of numbers stays where it is, or leaves record 0.
use Rattle.std.proofs.Common.{◌≡◌, ◌⊎◌, ℕ, ◌+◌, ◌-◌, ◌*◌, ◌^◌, ◌<◌, ◌≤◌, max, List, [], ◌++◌, length, refl, sym, ap, subst, ◌∙◌, inl, inr, arith}
use Rattle.std.specs.Prelude.{Result, Ok, Err}
use Rattle.std.proofs.lemmas.List.{length-append}
use Rattle.disk_model.specs.Bytes.{zeros}
use Rattle.record_model.specs.declared.runs.Run.{Run}
use Rattle.state_model.specs.declared.stream.Extents.{Extents}
use Rattle.state_model.specs.declared.stream.Stream.{Stream}
use Rattle.state_model.specs.declared.stream.Stream.TheVariants.{Held, Placed}
use Rattle.plan_edits.specs.resized_streams.Resizing.{unplaced}
use Rattle.plan_draft.proofs.Parts.{zeros_long}
use Rattle.plan_edits.specs.draft_records.Records.{fits_room}
use Rattle.draft_growth.specs.draft_bitmaps.declared.bitmap.Bitmap.{Bitmap}
use Rattle.draft_growth.specs.draft_bitmaps.Bitmaps.{with_value}
use Rattle.draft_growth.specs.Growing.{filled_up, leaving, MayGrowIn, size_in, standing_in, stays_or_leaves}
use Rattle.plan_table.specs.Growing.{BitmapBecomes, TakesBits}

-- it is as it was, and nothing leaves
pub record Stays (size : ℕ) (b : Bitmap) (s : Stream) : Type 0 where
  pub same : standing_in s size b ≡ s
  pub none : leaving s (standing_in s size b) size ≡ []

-- it was a value, of which all bytes leave
pub record Leaves (size : ℕ) (b : Bitmap) (s : Stream) : Type 0 where
  pub value : List ℕ
  pub held : s ≡ Held value
  pub stands : standing_in s size b ≡ Placed (unplaced size)
  pub bytes : leaving s (standing_in s size b) size ≡ filled_up size value

abbrev HeldWays : Result (Unit {0}) ℕ → ℕ → List ℕ → Type 0
HeldWays m size value =
    ((stays_or_leaves m value size ≡ Held value) × (leaving (Held value) (stays_or_leaves m value size) size ≡ []))
    ⊎ ((stays_or_leaves m value size ≡ Placed (unplaced size)) × (leaving (Held value) (stays_or_leaves m value size) size ≡ filled_up size value))

held_ways : (m : Result (Unit {0}) ℕ) (size : ℕ) (value : List ℕ) → HeldWays m size value
held_ways (Ok done) size value = inl (refl, refl)
held_ways (Err used) size value = inr (refl, refl)

pub ways : (size : ℕ) (b : Bitmap) (s : Stream) → Stays size b s ⊎ Leaves size b s
ways size b (Held value) = elim (held_ways (fits_room (with_value (filled_up size value) b).file) size value) [
  | inl stays ↦ inl (record { same = stays.0; none = stays.1 })
  | inr leaves ↦ inr (record { value = value; held = refl; stands = leaves.0; bytes = leaves.1 })
]
ways size b (Placed e) = inl (record { same = refl; none = refl })

-- ---- sizes

pub size_small : (clusters n most : ℕ) (s : Stream) → MayGrowIn clusters n s → n ≤ most → 2 ^ 15 ≤ most → size_in s n ≤ most
size_small clusters n most (Held value) may few least = (let short = may.0 in omega (arith, short, few, least))
size_small clusters n most (Placed e) may few least = few

-- a value that stays is the one that was
pub held_short : (clusters n : ℕ) (value : List ℕ) (s : Stream) → s ≡ Held value → MayGrowIn clusters n s → (length value ≤ 2 ^ 15) × (size_in s n ≤ 2 ^ 16)
held_short clusters n value s is may =
    let at = subst (λ (x : Stream). MayGrowIn clusters n x) is may in
    let short = at.0 in
    let few = at.1 in
    let most : max (length value) n ≤ 2 ^ 16 = omega (arith, short, few) in
    (short, subst (λ (x : Stream). size_in x n ≤ 2 ^ 16) (sym is) most)

pub filled_long : (size : ℕ) (value : List ℕ) → size ≤ length (filled_up size value)
filled_long size value = (let total = length-append value (zeros (size - length value)) in let behind = zeros_long (size - length value) in omega (arith, total, behind))

-- ---- what it becomes

from_none : (per : ℕ) (more : List Run) (size : ℕ) (f : Extents) → TakesBits per more (unplaced size) f → TakesBits per more (unplaced 0) f
from_none per more size f k = record {
  spelled = k.spelled;
  few = k.few;
  runs = k.runs;
  allocated = k.allocated;
  initialised = omega arith;
  lawful = k.lawful;
  room = k.room;
}

left_becomes : (per : ℕ) (more : List Run) (size : ℕ) (value : List ℕ) (new : Stream) → BitmapBecomes per more (Placed (unplaced size)) new → BitmapBecomes per more (Held value) new
left_becomes per more size value (Held bytes) becomes = absurd becomes
left_becomes per more size value (Placed f) becomes = from_none per more size f becomes

-- what becomes of the stream that gets the room becomes of the one that was
pub becomes_of : (per : ℕ) (more : List Run) (size : ℕ) (b : Bitmap) (s new : Stream) → Stays size b s ⊎ Leaves size b s → BitmapBecomes per more (standing_in s size b) new → BitmapBecomes per more s new
becomes_of per more size b s new (inl stays) becomes = subst (λ (x : Stream). BitmapBecomes per more x new) stays.same becomes
becomes_of per more size b s new (inr leaves) becomes =
    subst (λ (x : Stream). BitmapBecomes per more x new) (sym leaves.held) (left_becomes per more size leaves.value new (subst (λ (x : Stream). BitmapBecomes per more x new) leaves.stands becomes))
