-- What the bits of words say of the list that contracts see.
use Rattle.std.proofs.Common.{◌≡◌, ℕ, zero, suc, ◌+◌, ◌-◌, ◌<◌, ◌≤◌, Bool, true, false, cond, List, ◌++◌, length, take, drop, map, refl, sym, ap, ap₂, ◌∙◌, inl, inr, arith, add-zero, add_assoc}
use Rattle.std.specs.Prelude.{not, count_by}
use Rattle.std.specs.List.{range_with_len}
use Rattle.std.proofs.lemmas.Bool.{cases_lt}
use Rattle.std.proofs.lemmas.List.{get_or_past, drop_all, append-nil, take_all}
use Rattle.std.proofs.lemmas.List.FromFn.{length-map-range_with_len, get_or-map-range_with_len, fill_by_all}
use Rattle.std.proofs.lemmas.List.Sums.{sum_by-cons}
use Rattle.bit_set.specs.Bits.{bit, PutsRun}
use Rattle.bit_set.specs.Words.{word_bit, byte_bit, bits_of, bits_of_bytes, clear_count, FillsRun, IsCounted}
use Rattle.bit_set.proofs.Bitwise.{clear_count-zero, clear_count-suc, clear_count-add, clear_count-same}

-- the list has the bits of the words
pub record IsView (bits : List Bool) (words : List ℕ) (n : ℕ) : Type 0 where
  pub count : length bits ≡ n
  pub inside : (i : ℕ) → i < n → bit bits i ≡ word_bit words i

pub length-bits_of : (words : List ℕ) (n : ℕ) → length (bits_of words n) ≡ n
unfolding bits_of
length-bits_of words n = length-map-range_with_len (word_bit words) 0 n

pub bit-bits_of : (words : List ℕ) (n i : ℕ) → i < n → bit (bits_of words n) i ≡ word_bit words i
unfolding bits_of
bit-bits_of words n i lt = get_or-map-range_with_len (word_bit words) 0 n i i false lt (omega arith)

pub is_view : (words : List ℕ) (n : ℕ) (bits : List Bool) → bits_of words n ≡ bits → IsView bits words n
is_view words n bits e = record {
  count = ap length (sym e) ∙ length-bits_of words n;
  inside = λ i lt. ap (λ (b : List Bool). bit b i) (sym e) ∙ bit-bits_of words n i lt;
}

turned : (b : Bool) → cond {A = ℕ} (not b) 1 0 ≡ cond {A = ℕ} b 0 1
turned true = refl
turned false = refl

count_range : (f : ℕ → Bool) (a n : ℕ) → count_by not (map f (range_with_len a n)) ≡ clear_count f a n
count_range f a zero = sym (clear_count-zero f a)
count_range f a (suc n) =
    sum_by-cons (λ (b : Bool). cond {A = ℕ} (not b) 1 0) (f a) (map f (range_with_len (a + 1) n)) ∙ ap₂ ◌+◌ (turned (f a)) (count_range f (a + 1) n) ∙ sym (clear_count-suc f a n)

pub count_by-bits_of : (words : List ℕ) (n : ℕ) → count_by not (bits_of words n) ≡ clear_count (word_bit words) 0 n
unfolding bits_of
count_by-bits_of words n = count_range (word_bit words) 0 n

pub bits_of-same : (words bytes : List ℕ) (n : ℕ) → ((i : ℕ) → i < n → word_bit words i ≡ byte_bit bytes i) → bits_of words n ≡ bits_of_bytes bytes n
unfolding bits_of_bytes
bits_of-same words bytes n h = fill_by_all (byte_bit bytes) (bits_of words n) n false (length-bits_of words n) (λ k lt. bit-bits_of words n k lt ∙ h k lt)

-- ---- a run that was put

-- a Vec that was lent whole and came back
pub lent_back : {A : Type 0} (n : ℕ) (new items : List A) → length new ≡ n → length items ≡ n → take n (new ++ drop (length new) items) ≡ new
lent_back n new items e f = rw (drop_all (length new) items (omega arith), append-nil new, take_all n new (omega arith)) refl

pub put : (old new : List Bool) (words filled : List ℕ) (n first len : ℕ) (v : Bool) → IsView old words n → IsView new filled n → first + len ≤ n → FillsRun words filled first (first + len) v → PutsRun old new first len v
put old new words filled n first len v was is within fills = record {
  same_count = is.count ∙ sym was.count;
  inside = λ i le lt. is.inside i (omega arith) ∙ fills.inside i le lt;
  others = λ i out. elim (cases_lt i n) [
    | inl lt ↦ is.inside i lt ∙ fills.others i out ∙ sym (was.inside i lt)
    | inr ge ↦ get_or_past new i false (omega (arith, is.count)) ∙ sym (get_or_past old i false (omega (arith, was.count)))
  ];
}

nothing : (v : Bool) → cond {A = ℕ} v 0 0 ≡ 0
nothing true = refl
nothing false = refl

one_more : (v : Bool) (n : ℕ) → cond {A = ℕ} v 0 1 + cond {A = ℕ} v 0 n ≡ cond {A = ℕ} v 0 (suc n)
one_more true n = omega arith
one_more false n = omega arith

constant : (f : ℕ → Bool) (v : Bool) (a n : ℕ) → ((j : ℕ) → j < n → f (a + j) ≡ v) → clear_count f a n ≡ cond v 0 n
constant f v a zero h = clear_count-zero f a ∙ sym (nothing v)
constant f v a (suc n) h =
    let here : f a ≡ v = rw (add-zero a) at (h 0 (omega arith)) in
    let later : (j : ℕ) → j < n → f (a + 1 + j) ≡ v = λ j lt. rw (add_assoc a 1 j) (h (1 + j) (omega arith)) in
    clear_count-suc f a n ∙ ap₂ ◌+◌ (ap (λ (b : Bool). cond {A = ℕ} b 0 1) here) (constant f v (a + 1) n later) ∙ one_more v n

three : (f : ℕ → Bool) (first len more n : ℕ) → first + len + more ≡ n → clear_count f 0 n ≡ clear_count f 0 first + clear_count f first len + clear_count f (first + len) more
three f first len more n e =
    let whole : clear_count f 0 n ≡ clear_count f 0 (first + len + more) = ap (λ (x : ℕ). clear_count f 0 x) (sym e) in
    let front : clear_count f (0 + first) len ≡ clear_count f first len = ap (λ (x : ℕ). clear_count f x len) (omega arith) in
    let back : clear_count f (0 + (first + len)) more ≡ clear_count f (first + len) more = ap (λ (x : ℕ). clear_count f x more) (omega arith) in
    omega (arith, clear_count-add f 0 (first + len) more, clear_count-add f 0 first len)

pub counted_after : (words filled : List ℕ) (n clear first len : ℕ) (v : Bool) → IsCounted words n clear → first + len ≤ n → FillsRun words filled first (first + len) v → IsCounted filled n (clear - clear_count (word_bit words) first len + cond v 0 len)
counted_after words filled n clear first len v counted within fills =
    let whole : first + len + (n - (first + len)) ≡ n = omega arith in
    let before = three (word_bit words) first len (n - (first + len)) n whole in
    let after = three (word_bit filled) first len (n - (first + len)) n whole in
    let low : clear_count (word_bit filled) 0 first ≡ clear_count (word_bit words) 0 first = clear_count-same (word_bit filled) (word_bit words) 0 0 first (λ j lt. fills.others (0 + j) (inl (omega arith))) in
    let high : clear_count (word_bit filled) (first + len) (n - (first + len)) ≡ clear_count (word_bit words) (first + len) (n - (first + len)) = clear_count-same (word_bit filled) (word_bit words) (first + len) (first + len) _ (λ j lt. fills.others (first + len + j) (inr (omega arith))) in
    let run : clear_count (word_bit filled) first len ≡ cond {A = ℕ} v 0 len = constant (word_bit filled) v first len (λ j lt. fills.inside (first + j) (omega arith) (omega arith)) in
    let was = counted.count in
    record { room = omega (arith, counted.room, fills.same_count); fits = counted.fits; count = omega arith }

-- the clear bits of a run are among those that are counted
pub run_counted : (words : List ℕ) (n clear first len : ℕ) → IsCounted words n clear → first + len ≤ n → clear_count (word_bit words) first len ≤ clear
run_counted words n clear first len counted within =
    let whole : first + len + (n - (first + len)) ≡ n = omega arith in
    omega (arith, three (word_bit words) first len (n - (first + len)) n whole, counted.count)

-- ---- bits of bytes, for callers

pub length-bits_of_bytes : (bytes : List ℕ) (n : ℕ) → length (bits_of_bytes bytes n) ≡ n
unfolding bits_of_bytes
length-bits_of_bytes bytes n = length-map-range_with_len (byte_bit bytes) 0 n

pub bit-bits_of_bytes : (bytes : List ℕ) (n i : ℕ) → i < n → bit (bits_of_bytes bytes n) i ≡ byte_bit bytes i
unfolding bits_of_bytes
bit-bits_of_bytes bytes n i lt = get_or-map-range_with_len (byte_bit bytes) 0 n i i false lt (omega arith)
