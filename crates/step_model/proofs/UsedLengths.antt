-- How many bytes the attributes of a record that would be take.
use Rattle.std.proofs.Common.{◌≡◌, ℕ, ℤ, pos, negsuc, suc, ◌+◌, ◌*◌, ◌^◌, ◌≤◌, ◌-ℤ◌, true, List, [], ◌∷◌, length, Option, Some, None, refl, ap, ◌∙◌, arith, length-append}
use Rattle.std.specs.Prelude.{IfSome, unwrap_or}
use Rattle.std.specs.List.{AllByRecursion}
use Rattle.std.proofs.lemmas.Bool.{lt-ltb, le-leb}
use Rattle.std.proofs.lemmas.Int.{ints}
use Rattle.record_writer.specs.disk_model.Bytes.{up8}
use Rattle.plan_model.specs.record_model.declared.attribute.OwnForm.TheVariants.{Resident, Mapped}
use Rattle.plan_model.specs.record_model.declared.attribute.Attr.{Attr}
use Rattle.plan_model.specs.record_model.declared.attribute.Sizes.{Sizes}
use Rattle.plan_model.specs.record_model.declared.runs.Run.{Run}
use Rattle.plan_model.specs.record_model.Attributes.{spelling, held_bytes}
use Rattle.plan_model.specs.record_model.Pairs.{fits_bytes, signed_bytes, delta_bytes, pair_of, pairs_from, pairs_of}
use Rattle.plan_model.proofs.record_model.PairsSigned.{length-signed_bytes, signed_width-least}
use Rattle.record_writer.specs.Edits.{whole_length, form_length}
use Rattle.record_writer.proofs.Measures.{length-spelling, held_short}
use Rattle.step_model.specs.UsedLaws.{HasShortValue, AreFew}

-- ---- numbers

pub within_eights : (n m : ℕ) → n ≤ 8 * m → up8 n ≤ 8 * m
within_eights n m le = omega arith

-- ---- mapping pairs

small_width : (z : ℤ) → fits_bytes 4 z ≡ true → length (signed_bytes z) ≤ 4
small_width z fits = omega (arith, length-signed_bytes z, signed_width-least 4 z (omega arith) fits)

small_length : (n : ℕ) → n ≤ 2 ^ 24 → length (signed_bytes (pos n)) ≤ 4
small_length n le = small_width (pos n) (lt-ltb n (2 ^ 31) (omega arith))

small_difference : (z : ℤ) (a b : ℕ) → z ≡ pos a -ℤ pos b → a ≤ 2 ^ 24 → b ≤ 2 ^ 24 → fits_bytes 4 z ≡ true
small_difference (pos n) a b is low high = lt-ltb n (2 ^ 31) (omega (arith, ints))
small_difference (negsuc n) a b is low high = le-leb (suc n) (2 ^ 31) (omega (arith, ints))

small_delta : (before : ℕ) (lcn : Option ℕ) → before ≤ 2 ^ 24 → IfSome lcn (λ l. l ≤ 2 ^ 24) → length (delta_bytes before lcn) ≤ 4
small_delta before None low inside = omega arith
small_delta before (Some lcn) low inside = small_width (pos lcn -ℤ pos before) (small_difference (pos lcn -ℤ pos before) lcn before refl inside low)

small_pair : (before : ℕ) (r : Run) → before ≤ 2 ^ 24 → r.len ≤ 2 ^ 24 → IfSome r.lcn (λ l. l ≤ 2 ^ 24) → length (pair_of before r) ≤ 9
unfolding pair_of
small_pair before r low len lcn =
    let a = small_length r.len len in
    let b = small_delta before r.lcn low lcn in
    let both = length-append (signed_bytes (pos r.len)) (delta_bytes before r.lcn) in
    omega arith

next_low : (lcn : Option ℕ) (before : ℕ) → before ≤ 2 ^ 24 → IfSome lcn (λ l. l ≤ 2 ^ 24) → unwrap_or lcn before ≤ 2 ^ 24
next_low None before low inside = low
next_low (Some lcn) before low inside = inside

abbrev IsInside : Run → Type 0
IsInside r = (r.len ≤ 2 ^ 24) × IfSome r.lcn (λ lcn. lcn ≤ 2 ^ 24)

small_pairs : (before : ℕ) (runs : List Run) → before ≤ 2 ^ 24 → AllByRecursion IsInside runs → length (pairs_from before runs) ≤ 9 * length runs + 1
unfolding pairs_from
small_pairs before [] low inside = omega arith
small_pairs before (r ∷ runs) low inside =
    let one = small_pair before r low inside.0.0 inside.0.1 in
    let others = small_pairs (unwrap_or r.lcn before) runs (next_low r.lcn before low inside.0.1) inside.1 in
    let both = length-append (pair_of before r) (pairs_from (unwrap_or r.lcn before) runs) in
    omega arith

pub few_pairs : (runs : List Run) → AreFew runs → length (pairs_of runs) ≤ 181
unfolding pairs_of
few_pairs runs f = omega (arith, small_pairs 0 runs (omega arith) f.inside, f.few)

-- ---- attributes

pub value_length : (a : Attr) (value : List ℕ) (indexed : ℕ) → a.form ≡ Resident value indexed → length (spelling a) ≡ whole_length 0x18 (length a.name) (length value)
value_length a value indexed is = length-spelling a ∙ ap (form_length (length a.name)) is

pub mapped_length : (a : Attr) (sizes : Sizes) (pairs : List ℕ) → a.form ≡ Mapped sizes pairs → length (spelling a) ≡ whole_length (0x40 + length (held_bytes sizes.held)) (length a.name) (length pairs)
mapped_length a sizes pairs is = length-spelling a ∙ ap (form_length (length a.name)) is

pub short_value : (kind most : ℕ) (a : Attr) (m : ℕ) → HasShortValue kind most a → 0x18 + most ≤ 8 * m → length (spelling a) ≤ 8 * m
short_value kind most a m short le =
    let is = value_length a short.value short.indexed short.form in
    let unnamed = ap length short.unnamed in
    let fits = within_eights (0x18 + length short.value) m (omega (arith, short.short)) in
    let none : whole_length 0x18 (length a.name) (length short.value) ≡ whole_length 0x18 0 (length short.value) = ap (λ n. whole_length 0x18 n (length short.value)) unnamed in
    let eights : whole_length 0x18 0 (length short.value) ≡ up8 (0x18 + length short.value) = refl in
    omega (arith, is, none, fits, eights)

pub few_placed : (a : Attr) (sizes : Sizes) (pairs : List ℕ) → a.form ≡ Mapped sizes pairs → a.name ≡ [] → length pairs ≤ 181 → length (spelling a) ≤ 256
few_placed a sizes pairs form unnamed short =
    let is = mapped_length a sizes pairs form in
    let held = held_short sizes.held in
    let none : whole_length (0x40 + length (held_bytes sizes.held)) (length a.name) (length pairs) ≡ whole_length (0x40 + length (held_bytes sizes.held)) 0 (length pairs) = ap (λ n. whole_length (0x40 + length (held_bytes sizes.held)) n (length pairs)) (ap length unnamed) in
    let head = within_eights (0x40 + length (held_bytes sizes.held) + 2 * 0) 9 (omega (arith, held)) in
    let fits = within_eights (up8 (0x40 + length (held_bytes sizes.held) + 2 * 0) + length pairs) 32 (omega (arith, head, short)) in
    omega (arith, is, none, fits)
