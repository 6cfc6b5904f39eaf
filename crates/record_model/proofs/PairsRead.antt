-- Bytes that spell runs are read as these runs.
use Rattle.std.proofs.Common.{◌≡◌, ◌≢◌, ℕ, ℤ, pos, zero, suc, ◌+◌, ◌%◌, ◌^◌, ◌<◌, ◌≤◌, Bool, true, leb, List, [], ◌∷◌, ◌++◌, length, take, drop, Option, Some, None, IfSome, Result, Ok, refl, sym, ap, ◌∙◌, arith, unwrap_or, unsigned_abs}
use Rattle.std.proofs.lemmas.Bool.{le-leb, lt-ltb, and_from}
use Rattle.std.proofs.lemmas.List.{take_at, drop_at, drop-drop, length-append}
use Rattle.disk_model.specs.host_base.Answers.{◌>>=◌, needs}
use Rattle.record_model.specs.declared.runs.Run.{Run}
use Rattle.record_model.specs.declared.runs.PairsFault.{PairsFault}
use Rattle.record_model.specs.declared.runs.PairsFault.TheVariants.{Header, Cut, Range}
use Rattle.record_model.specs.Pairs.{Place, start, signed, cluster_limit, length_width, delta_width, is_header, is_length, is_lcn, length_at, lcn_at, run_at, behind, runs_from, runs_of, Follow, IsNext, HasSpelling, IsPair, SpellsLcn, SpellsRuns}

-- what a read from a header on answers, where it is not the end
pub at_header : (more first : ℕ) (p : Place) (h : ℕ) (bytes : List ℕ) → h ≢ 0 → runs_from (suc more) first p (h ∷ bytes) ≡ (run_at first p h bytes >>= λ run. runs_from more first (behind p h run) (drop (length_width h + delta_width h) bytes) >>= λ runs. Ok (run ∷ runs))
unfolding runs_from
at_header more first p zero bytes not = absurd (not refl)
at_header more first p (suc h) bytes not = refl

-- ---- one pair

length_is_read : (p : Place) (n : ℕ) (bytes : List ℕ) → signed bytes ≡ pos n → 0 < n → p.clusters + n ≤ cluster_limit → length_at p bytes ≡ Ok n
unfolding length_at
length_is_read p n bytes is some within =
    ap (λ (z : ℤ). needs (is_length p.clusters z) (Range p.at) >>= λ _. Ok (unsigned_abs z)) is
    ∙ ap (λ (b : Bool). needs b (Range p.at) >>= λ _. Ok n) (and_from _ _ (lt-ltb 0 n some) (le-leb (p.clusters + n) cluster_limit within))

lcn_is_read : (p : Place) (lcn : Option ℕ) (bytes : List ℕ) → SpellsLcn p.lcn lcn bytes → IfSome lcn (λ n. n < cluster_limit) → lcn_at p bytes ≡ Ok lcn
unfolding lcn_at
lcn_is_read p None [] is low = refl
lcn_is_read p None (b ∷ bytes) is low = absurd (omega arith)
lcn_is_read p (Some n) [] is low = absurd (omega (arith, is.0))
lcn_is_read p (Some n) (b ∷ bytes) is low =
    ap (λ (z : ℤ). needs (is_lcn (Some z)) (Range p.at) >>= λ _. Ok (Some (unsigned_abs z))) is.1
    ∙ ap (λ (c : Bool). needs c (Range p.at) >>= λ _. Ok (Some n)) (lt-ltb n cluster_limit low)

-- the parts that a run is read from
parts : ℕ → Place → Bool → Bool → List ℕ → List ℕ → Result Run PairsFault
parts first p header room len delta =
    needs header (Header p.at)
    >>= λ _. needs room (Cut p.at)
    >>= λ _. length_at p len
    >>= λ len. lcn_at p delta
    >>= λ lcn. Ok (record { vcn = (first + p.clusters) % 2 ^ 64; lcn = lcn; len = len })

parts_read : (first : ℕ) (p : Place) (r : Run) (len delta : List ℕ) → length_at p len ≡ Ok r.len → lcn_at p delta ≡ Ok r.lcn → r.vcn ≡ (first + p.clusters) % 2 ^ 64 → parts first p true true len delta ≡ Ok r
unfolding parts
parts_read first p r len delta len_read lcn_read vcn =
    ap (λ (x : Result ℕ PairsFault). x >>= λ len. lcn_at p delta >>= λ lcn. make ((first + p.clusters) % 2 ^ 64) lcn len) len_read
    ∙ ap (λ (x : Result (Option ℕ) PairsFault). x >>= λ lcn. make ((first + p.clusters) % 2 ^ 64) lcn r.len) lcn_read
    ∙ ap (λ (v : ℕ). make v r.lcn r.len) (sym vcn)
  where
    make : ℕ → Option ℕ → ℕ → Result Run PairsFault
    make vcn lcn len = Ok (record { vcn = vcn; lcn = lcn; len = len })

module _ (first : ℕ) (p : Place) (r : Run) (bytes rest : List ℕ) (pair : IsPair p.lcn r bytes rest) where
  abbrev pub tail : List ℕ
  tail = pair.len ++ (pair.delta ++ rest)

  len_taken : take (length_width pair.header) tail ≡ pair.len
  len_taken = take_at pair.len (pair.delta ++ rest) (length_width pair.header) (sym pair.low_nibble)

  len_dropped : drop (length_width pair.header) tail ≡ pair.delta ++ rest
  len_dropped = drop_at pair.len (pair.delta ++ rest) (length_width pair.header) (sym pair.low_nibble)

  delta_taken : take (delta_width pair.header) (drop (length_width pair.header) tail) ≡ pair.delta
  delta_taken = ap (take (delta_width pair.header)) len_dropped ∙ take_at pair.delta rest (delta_width pair.header) (sym pair.high_nibble)

  pub pair_dropped : drop (length_width pair.header + delta_width pair.header) tail ≡ rest
  pair_dropped = sym (drop-drop (delta_width pair.header) (length_width pair.header) tail) ∙ ap (drop (delta_width pair.header)) len_dropped ∙ drop_at pair.delta rest (delta_width pair.header) (sym pair.high_nibble)

  pub header_some : pair.header ≢ 0
  header_some zero_is = let none : pair.header % 16 ≡ 0 = ap (λ (n : ℕ). n % 16) zero_is in absurd (omega (arith, pair.low_nibble, pair.len_some))

  header_ok : is_header pair.header ≡ true
  header_ok = and_from _ _ (and_from _ _ (lt-ltb 0 (length_width pair.header) (omega (arith, pair.low_nibble, pair.len_some))) (le-leb (length_width pair.header) 8 (omega (arith, pair.low_nibble, pair.len_width)))) (le-leb (delta_width pair.header) 8 (omega (arith, pair.high_nibble, pair.delta_width)))

  room_ok : leb (length_width pair.header + delta_width pair.header) (length tail) ≡ true
  room_ok = le-leb _ _ (omega (arith, pair.low_nibble, pair.high_nibble, length-append pair.len (pair.delta ++ rest), length-append pair.delta rest))

  pub pair_is_read : IsNext first p.clusters r → run_at first p pair.header tail ≡ Ok r
  unfolding run_at parts
  pair_is_read next =
      ap (λ (b : Bool). parts first p b (leb (length_width pair.header + delta_width pair.header) (length tail)) (take (length_width pair.header) tail) (take (delta_width pair.header) (drop (length_width pair.header) tail))) header_ok
      ∙ ap (λ (b : Bool). parts first p true b (take (length_width pair.header) tail) (take (delta_width pair.header) (drop (length_width pair.header) tail))) room_ok
      ∙ ap (λ (l : List ℕ). parts first p true true l (take (delta_width pair.header) (drop (length_width pair.header) tail))) len_taken
      ∙ ap (λ (l : List ℕ). parts first p true true pair.len l) delta_taken
      ∙ parts_read first p r pair.len pair.delta (length_is_read p r.len pair.len pair.len_is next.some next.within) (lcn_is_read p r.lcn pair.delta pair.lcn_is next.lcn) next.vcn

-- ---- all

pub read_on : (more first : ℕ) (p : Place) (runs : List Run) (bytes : List ℕ) → Follow first p.clusters runs → SpellsRuns p.lcn runs bytes → length runs ≤ more → runs_from (suc more) first p bytes ≡ Ok runs
unfolding runs_from
read_on more first p [] bytes follow spelled few = ap (runs_from (suc more) first p) spelled.1
read_on zero first p (r ∷ runs) bytes follow spelled few = absurd (omega arith)
read_on (suc more) first p (r ∷ runs) bytes follow spelled few =
    let rest = spelled.0 in
    let pair = spelled.1.0 in
    let later : runs_from (suc more) first (behind p pair.header r) rest ≡ Ok runs = read_on more first (behind p pair.header r) runs rest follow.1 spelled.1.1 (omega arith) in
    ap (runs_from (suc (suc more)) first p) pair.whole
    ∙ at_header (suc more) first p pair.header (tail first p r bytes rest pair) (header_some first p r bytes rest pair)
    ∙ ap (λ (x : Result Run PairsFault). x >>= λ run. runs_from (suc more) first (behind p pair.header run) (drop (length_width pair.header + delta_width pair.header) (tail first p r bytes rest pair)) >>= λ runs. Ok (run ∷ runs)) (pair_is_read first p r bytes rest pair follow.0)
    ∙ ap (λ (l : List ℕ). runs_from (suc more) first (behind p pair.header r) l >>= λ runs. Ok (r ∷ runs)) (pair_dropped first p r bytes rest pair)
    ∙ ap (λ (x : Result (List Run) PairsFault). x >>= λ runs. Ok (r ∷ runs)) later

fewer : (before : ℕ) (runs : List Run) (bytes : List ℕ) → SpellsRuns before runs bytes → length runs < length bytes
fewer before [] bytes spelled = omega (arith, ap length spelled.1)
fewer before (r ∷ runs) bytes spelled =
    let rest = spelled.0 in
    let pair = spelled.1.0 in
    let later : length runs < length rest = fewer (unwrap_or r.lcn before) runs rest spelled.1.1 in
    omega (arith, ap length pair.whole, length-append pair.len (pair.delta ++ rest), length-append pair.delta rest)

pub spelled_read : (first : ℕ) (runs : List Run) (bytes : List ℕ) → HasSpelling first runs → SpellsRuns 0 runs bytes → runs_of first bytes ≡ Ok runs
unfolding runs_of
spelled_read first runs bytes follow spelled = read_on (length bytes) first start runs bytes follow spelled (omega (arith, fewer 0 runs bytes spelled))
