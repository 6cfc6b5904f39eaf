-- Runs that have a spelling are spelled by what is written.
use Rattle.std.proofs.Common.{◌≡◌, ℕ, ℤ, pos, negsuc, suc, ◌≤ℤ◌, ◌+◌, ◌*◌, ◌/◌, ◌%◌, ◌^◌, ◌<◌, ◌≤◌, ◌+ℤ◌, ◌-ℤ◌, true, List, [], ◌∷◌, ◌++◌, length, Option, Some, None, IfSome, refl, sym, ap, ◌∙◌, subst, arith, unwrap_or}
use Rattle.std.proofs.lemmas.Bool.{lt-ltb, le-leb}
use Rattle.std.proofs.lemmas.Int.{ints}
use Rattle.std.proofs.lemmas.List.{append_assoc}
use Rattle.record_model.specs.declared.runs.Run.{Run}
use Rattle.record_model.specs.Pairs.{cluster_limit, fits_bytes, signed_bytes, signed_width, delta_bytes, pair_of, pairs_from, pairs_of, Follow, IsNext, HasSpelling, IsPair, SpellsLcn, SpellsRuns}
use Rattle.record_model.proofs.PairsSigned.{length-signed_bytes, signed-signed_bytes, signed_width-ge, signed_width-le}

-- the difference of two places below the limit has 64 bits
delta_held : (before lcn : ℕ) → before < cluster_limit → lcn < cluster_limit → fits_bytes 8 (pos lcn -ℤ pos before) ≡ true
delta_held before lcn low below = held (pos lcn -ℤ pos before) (omega (arith, ints)) (omega (arith, ints))
  where
    held : (z : ℤ) → z ≤ℤ pos cluster_limit → pos 0 ≤ℤ (z +ℤ pos cluster_limit) → fits_bytes 8 z ≡ true
    held (pos n) high low = lt-ltb n (2 ^ 63) (omega (arith, ints))
    held (negsuc n) high low = le-leb (suc n) (2 ^ 63) (omega (arith, ints))

lcn_spelled : (before : ℕ) (lcn : Option ℕ) → before < cluster_limit → IfSome lcn (λ n. n < cluster_limit) → SpellsLcn before lcn (delta_bytes before lcn)
lcn_spelled before None low below = refl
lcn_spelled before (Some lcn) low below =
    let z = pos lcn -ℤ pos before in
    let back : pos before +ℤ z ≡ pos lcn = omega (arith, ints) in
    (omega (arith, length-signed_bytes z, signed_width-ge z), ap (λ (d : ℤ). pos before +ℤ d) (signed-signed_bytes z (delta_held before lcn low below)) ∙ back)

delta_short : (before : ℕ) (lcn : Option ℕ) → length (delta_bytes before lcn) ≤ 8
delta_short before None = omega arith
delta_short before (Some lcn) = let z = pos lcn -ℤ pos before in omega (arith, length-signed_bytes z, signed_width-le z)

low_nibble_is : (a b : ℕ) → a ≤ 8 → (a + 16 * b) % 16 ≡ a
low_nibble_is a b small = omega arith

high_nibble_is : (a b : ℕ) → a ≤ 8 → (a + 16 * b) / 16 ≡ b
high_nibble_is a b small = omega arith

pair_spelled : (first clusters before : ℕ) (r : Run) (rest : List ℕ) → before < cluster_limit → IsNext first clusters r → IsPair before r (pair_of before r ++ rest) rest
unfolding pair_of
pair_spelled first clusters before r rest low next =
    let len = signed_bytes (pos r.len) in
    let delta = delta_bytes before r.lcn in
    let len_is : length len ≡ signed_width (pos r.len) = length-signed_bytes (pos r.len) in
    let short : length len ≤ 8 = omega (arith, signed_width-le (pos r.len)) in
    let held : fits_bytes 8 (pos r.len) ≡ true = lt-ltb r.len (2 ^ 63) (omega (arith, next.within)) in
    record {
      header = length len + 16 * length delta;
      len = len;
      delta = delta;
      whole = ap (λ (l : List ℕ). (length len + 16 * length delta) ∷ l) (append_assoc len delta rest);
      low_nibble = low_nibble_is (length len) (length delta) short;
      high_nibble = high_nibble_is (length len) (length delta) short;
      len_some = omega (arith, signed_width-ge (pos r.len));
      len_width = short;
      delta_width = delta_short before r.lcn;
      len_is = signed-signed_bytes (pos r.len) held;
      lcn_is = lcn_spelled before r.lcn low next.lcn;
    }

-- the LCN that the next delta is relative to
pub lcn_low : (before : ℕ) (lcn : Option ℕ) → before < cluster_limit → IfSome lcn (λ n. n < cluster_limit) → unwrap_or lcn before < cluster_limit
lcn_low before None low below = low
lcn_low before (Some lcn) low below = below

spelled_on : (first clusters before : ℕ) (runs : List Run) (rest : List ℕ) → before < cluster_limit → Follow first clusters runs → SpellsRuns before runs (pairs_from before runs ++ rest)
unfolding pairs_from
spelled_on first clusters before [] rest low follow = (rest, refl)
spelled_on first clusters before (r ∷ runs) rest low follow =
    let next = unwrap_or r.lcn before in
    let behind = pairs_from next runs ++ rest in
    let split : pair_of before r ++ behind ≡ (pair_of before r ++ pairs_from next runs) ++ rest = sym (append_assoc (pair_of before r) (pairs_from next runs) rest) in
    (behind, (subst (λ (l : List ℕ). IsPair before r l behind) split (pair_spelled first clusters before r behind low follow.0), spelled_on first (clusters + r.len) next runs rest (lcn_low before r.lcn low follow.0.lcn) follow.1))

pub written_spelled : (first : ℕ) (runs : List Run) (rest : List ℕ) → HasSpelling first runs → SpellsRuns 0 runs (pairs_of runs ++ rest)
unfolding pairs_of
written_spelled first runs rest follow = spelled_on first 0 0 runs rest (omega arith) follow
