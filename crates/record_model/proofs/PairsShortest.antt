-- No bytes that spell runs are fewer than those that are written.
use Rattle.std.proofs.Common.{◌≡◌, ℕ, ℤ, pos, negsuc, zero, suc, ◌+◌, ◌*◌, ◌-◌, ◌^◌, ◌<◌, ◌≤◌, ◌+ℤ◌, ◌-ℤ◌, ◌≤ℤ◌, Bool, true, cond, List, [], ◌∷◌, ◌++◌, length, get_or, Option, Some, None, sym, ap, subst, ◌∙◌, inl, inr, arith, unwrap_or}
use Rattle.std.proofs.lemmas.Bool.{cases_lt, lt-ltb, le-ltb, le-leb}
use Rattle.std.proofs.lemmas.Int.{ints}
use Rattle.std.proofs.lemmas.List.{length-append}
use Rattle.byteorder.specs.Endian.{little_number}
use Rattle.byteorder.specs.Numbers.{little_from-lt}
use Rattle.byteorder.proofs.Bytes.{pow256, sign_bit}
use Rattle.record_model.specs.declared.runs.Run.{Run}
use Rattle.record_model.specs.Pairs.{signed, fits_bytes, signed_bytes, signed_width, delta_bytes, pair_of, pairs_from, pairs_of, IsPair, SpellsLcn, SpellsRuns}
use Rattle.record_model.proofs.PairsSigned.{length-signed_bytes, signed_width-least}

-- each is a byte
abbrev AreBytes : List ℕ → Type 0
AreBytes bytes = (i : ℕ) → get_or bytes i 0 < 256

tail_bytes : (b : ℕ) (bytes : List ℕ) → AreBytes (b ∷ bytes) → AreBytes bytes
tail_bytes b bytes each = λ i. each (suc i)

back_bytes : (front bytes : List ℕ) → AreBytes (front ++ bytes) → AreBytes bytes
back_bytes [] bytes each = each
back_bytes (b ∷ front) bytes each = back_bytes front bytes (tail_bytes b (front ++ bytes) each)

front_bytes : (front bytes : List ℕ) → AreBytes (front ++ bytes) → AreBytes front
front_bytes [] bytes each i = omega arith
front_bytes (b ∷ front) bytes each zero = each zero
front_bytes (b ∷ front) bytes each (suc i) = front_bytes front bytes (tail_bytes b (front ++ bytes) each) i

held_between : (n : ℕ) (z : ℤ) → (z +ℤ pos 1) ≤ℤ pos (2 ^ (8 * n - 1)) → pos 0 ≤ℤ (z +ℤ pos (2 ^ (8 * n - 1))) → fits_bytes n z ≡ true
held_between n (pos v) high low = lt-ltb v (2 ^ (8 * n - 1)) (omega (arith, ints))
held_between n (negsuc v) high low = le-leb (suc v) (2 ^ (8 * n - 1)) (omega (arith, ints))

-- bytes hold the number that they spell
signed_held : (bytes : List ℕ) → 1 ≤ length bytes → length bytes ≤ 8 → AreBytes bytes → fits_bytes (length bytes) (signed bytes) ≡ true
unfolding signed
signed_held bytes some few each =
    let n = length bytes in
    let x = little_number n bytes in
    let half = 2 ^ (8 * n - 1) in
    let p = 2 ^ (8 * n) in
    let below : x < 256 ^ n = little_from-lt 0 n bytes each in
    let twice : p ≡ 2 * half = sym (pow256 n) ∙ (sign_bit n some few).2 in
    let whole : 256 ^ n ≡ p = pow256 n in
    elim (cases_lt x half) [
      | inl low ↦ ap (λ (b : Bool). fits_bytes n (cond b (pos x) (pos x -ℤ pos p))) (lt-ltb x half low) ∙ lt-ltb x half low
      | inr high ↦ ap (λ (b : Bool). fits_bytes n (cond b (pos x) (pos x -ℤ pos p))) (le-ltb x half high) ∙ held_between n (pos x -ℤ pos p) (omega (arith, ints)) (omega (arith, ints))
    ]

-- no bytes that spell a number are fewer
number_shortest : (z : ℤ) (bytes : List ℕ) → 1 ≤ length bytes → length bytes ≤ 8 → AreBytes bytes → signed bytes ≡ z → length (signed_bytes z) ≤ length bytes
number_shortest z bytes some few each is =
    let least : signed_width z ≤ length bytes = signed_width-least (length bytes) z some (ap (fits_bytes (length bytes)) (sym is) ∙ signed_held bytes some few each) in
    omega (arith, length-signed_bytes z)

delta_shortest : (before : ℕ) (lcn : Option ℕ) (bytes : List ℕ) → length bytes ≤ 8 → AreBytes bytes → SpellsLcn before lcn bytes → length (delta_bytes before lcn) ≤ length bytes
delta_shortest before None bytes few each is = omega arith
delta_shortest before (Some lcn) bytes few each is =
    let there : pos before +ℤ signed bytes ≡ pos lcn = is.1 in
    let d : signed bytes ≡ pos lcn -ℤ pos before = omega (arith, ints) in
    number_shortest (pos lcn -ℤ pos before) bytes is.0 few each d

pair_shortest : (before : ℕ) (r : Run) (bytes rest : List ℕ) → AreBytes bytes → (pair : IsPair before r bytes rest) → (length (pair_of before r) + length rest ≤ length bytes) × AreBytes rest
unfolding pair_of
pair_shortest before r bytes rest each pair =
    let all : AreBytes (pair.header ∷ (pair.len ++ (pair.delta ++ rest))) = subst AreBytes pair.whole each in
    let behind_header = tail_bytes pair.header (pair.len ++ (pair.delta ++ rest)) all in
    let behind_len = back_bytes pair.len (pair.delta ++ rest) behind_header in
    let len_short : length (signed_bytes (pos r.len)) ≤ length pair.len = number_shortest (pos r.len) pair.len pair.len_some pair.len_width (front_bytes pair.len (pair.delta ++ rest) behind_header) pair.len_is in
    let delta_short : length (delta_bytes before r.lcn) ≤ length pair.delta = delta_shortest before r.lcn pair.delta pair.delta_width (front_bytes pair.delta rest behind_len) pair.lcn_is in
    (omega (arith, ap length pair.whole, length-append pair.len (pair.delta ++ rest), length-append pair.delta rest, length-append (signed_bytes (pos r.len)) (delta_bytes before r.lcn)), back_bytes pair.delta rest behind_len)

shortest_from : (before : ℕ) (runs : List Run) (bytes : List ℕ) → AreBytes bytes → SpellsRuns before runs bytes → length (pairs_from before runs) ≤ length bytes
unfolding pairs_from
shortest_from before [] bytes each spelled = omega (arith, ap length spelled.1)
shortest_from before (r ∷ runs) bytes each spelled =
    let rest = spelled.0 in
    let one = pair_shortest before r bytes rest each spelled.1.0 in
    let next = unwrap_or r.lcn before in
    let later : length (pairs_from next runs) ≤ length rest = shortest_from next runs rest one.1 spelled.1.1 in
    omega (arith, one.0, length-append (pair_of before r) (pairs_from next runs))

pub shortest : (runs : List Run) (bytes : List ℕ) → AreBytes bytes → SpellsRuns 0 runs bytes → length (pairs_of runs) ≤ length bytes
unfolding pairs_of
shortest runs bytes each spelled = shortest_from 0 runs bytes each spelled
