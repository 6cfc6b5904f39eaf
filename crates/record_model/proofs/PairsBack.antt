-- What is read spells the runs that were read.
use Rattle.std.proofs.Common.{◌≡◌, ℕ, ℤ, pos, negsuc, zero, suc, ◌+◌, ◌%◌, ◌^◌, ◌<◌, ◌≤◌, ◌+ℤ◌, Bool, true, false, ◌&&◌, leb, ltb, List, [], ◌∷◌, ◌++◌, length, take, drop, Option, Some, None, IfSome, Result, Ok, Err, refl, sym, ap, ◌∙◌, subst, arith, unsigned_abs}
use Rattle.std.proofs.lemmas.Bool.{ltb-true, leb-true, and_parts}
use Rattle.std.proofs.lemmas.List.{take-append-drop, drop-drop, length-take-le, length-drop}
use Rattle.disk_model.specs.host_base.Answers.{◌>>=◌, needs}
use Rattle.record_model.specs.declared.runs.Run.{Run}
use Rattle.record_model.specs.declared.runs.PairsFault.{PairsFault}
use Rattle.record_model.specs.declared.runs.PairsFault.TheVariants.{Header, Cut, Range}
use Rattle.record_model.specs.Pairs.{Place, start, signed, cluster_limit, length_width, delta_width, is_header, is_length, is_lcn, length_at, lcn_at, run_at, behind, runs_from, runs_of, Follow, IsNext, HasSpelling, IsPair, SpellsLcn, SpellsRuns}

-- what goes on to a value went through a value
bind_ok : {A B F : Type 0} → (x : Result A F) (f : A → Result B F) (b : B) → (x >>= f) ≡ Ok b → (a : A) × ((x ≡ Ok a) × (f a ≡ Ok b))
bind_ok (Ok a) f b is = (a, (refl, is))
bind_ok (Err e) f b is = cc

needs_ok : {B F : Type 0} → (test : Bool) (fault : F) (rest : Result B F) (b : B) → (needs test fault >>= λ _. rest) ≡ Ok b → (test ≡ true) × (rest ≡ Ok b)
needs_ok true fault rest b is = (refl, is)
needs_ok false fault rest b is = cc

ok_same : {A : Type 0} → (F : Type 0) (a b : A) → ◌≡◌ {A = Result A F} (Ok a) (Ok b) → a ≡ b
ok_same F a b is = cc

length_back : (p : Place) (n : ℕ) (z : ℤ) → (needs (is_length p.clusters z) (Range p.at) >>= λ _. Ok (unsigned_abs z)) ≡ Ok n → (z ≡ pos n) × ((0 < n) × (p.clusters + n ≤ cluster_limit))
length_back p n (pos m) is =
    let went = needs_ok (is_length p.clusters (pos m)) (Range p.at) (Ok m) n is in
    let tests = and_parts (ltb 0 m) (leb (p.clusters + m) cluster_limit) went.0 in
    let same : m ≡ n = ok_same PairsFault m n went.1 in
    let some : 0 < m = ltb-true 0 m tests.0 in
    let within : p.clusters + m ≤ cluster_limit = leb-true (p.clusters + m) cluster_limit tests.1 in
    (ap pos same, (omega arith, omega arith))
length_back p n (negsuc m) is = cc

place_back : (p : Place) (z : ℤ) (lcn : Option ℕ) → (needs (is_lcn (Some z)) (Range p.at) >>= λ _. Ok (Some (unsigned_abs z))) ≡ Ok lcn → (n : ℕ) × ((lcn ≡ Some n) × ((z ≡ pos n) × (n < cluster_limit)))
place_back p (pos m) lcn is =
    let went = needs_ok (is_lcn (Some (pos m))) (Range p.at) (Ok (Some m)) lcn is in
    (m, (sym (ok_same PairsFault (Some m) lcn went.1), (refl, ltb-true m cluster_limit went.0)))
place_back p (negsuc m) lcn is = cc

lcn_back : (p : Place) (lcn : Option ℕ) (bytes : List ℕ) → lcn_at p bytes ≡ Ok lcn → SpellsLcn p.lcn lcn bytes × IfSome lcn (λ n. n < cluster_limit)
unfolding lcn_at
lcn_back p None [] is = (refl, tt)
lcn_back p (Some n) [] is = cc
lcn_back p lcn (b ∷ bytes) is =
    let back = place_back p (pos p.lcn +ℤ signed (b ∷ bytes)) lcn is in
    let some : 0 < length (b ∷ bytes) = omega arith in
    subst (λ (o : Option ℕ). SpellsLcn p.lcn o (b ∷ bytes) × IfSome o (λ n. n < cluster_limit)) (sym back.1.0) ((some, back.1.1.0), back.1.1.1)

made : ℕ → Place → ℕ → Option ℕ → Run
made first p len lcn = record { vcn = (first + p.clusters) % 2 ^ 64; lcn = lcn; len = len }

-- the bytes of a pair and what stands behind it
whole_again : (n d : ℕ) (bytes : List ℕ) → take n bytes ++ (take d (drop n bytes) ++ drop (n + d) bytes) ≡ bytes
whole_again n d bytes =
    ap (λ (l : List ℕ). take n bytes ++ (take d (drop n bytes) ++ l)) (sym (drop-drop d n bytes))
    ∙ ap (λ (l : List ℕ). take n bytes ++ l) (take-append-drop d (drop n bytes))
    ∙ take-append-drop n bytes

pair_back : (first : ℕ) (p : Place) (h : ℕ) (bytes : List ℕ) (r : Run) → run_at first p h bytes ≡ Ok r → IsNext first p.clusters r × IsPair p.lcn r (h ∷ bytes) (drop (length_width h + delta_width h) bytes)
unfolding run_at length_at made
pair_back first p h bytes r is =
    let n = length_width h in
    let d = delta_width h in
    let len = take n bytes in
    let delta = take d (drop n bytes) in
    let at_header = needs_ok (is_header h) (Header p.at) (needs (leb (n + d) (length bytes)) (Cut p.at) >>= λ _. length_at p len >>= λ k. lcn_at p delta >>= λ lcn. Ok (made first p k lcn)) r is in
    let at_room = needs_ok (leb (n + d) (length bytes)) (Cut p.at) (length_at p len >>= λ k. lcn_at p delta >>= λ lcn. Ok (made first p k lcn)) r at_header.1 in
    let at_len = bind_ok (length_at p len) (λ k. lcn_at p delta >>= λ lcn. Ok (made first p k lcn)) r at_room.1 in
    let at_lcn = bind_ok (lcn_at p delta) (λ lcn. Ok (made first p at_len.0 lcn)) r at_len.1.1 in
    let run_is : made first p at_len.0 at_lcn.0 ≡ r = ok_same PairsFault (made first p at_len.0 at_lcn.0) r at_lcn.1.1 in
    let lengths = length_back p at_len.0 (signed len) at_len.1.0 in
    let places = lcn_back p at_lcn.0 delta at_lcn.1.0 in
    let tests = and_parts (ltb 0 n && leb n 8) (leb d 8) at_header.0 in
    let narrow = and_parts (ltb 0 n) (leb n 8) tests.0 in
    let some : 0 < n = ltb-true 0 n narrow.0 in
    let n_low : n ≤ 8 = leb-true n 8 narrow.1 in
    let d_low : d ≤ 8 = leb-true d 8 tests.1 in
    let room : n + d ≤ length bytes = leb-true (n + d) (length bytes) at_room.0 in
    let len_long : length len ≡ n = length-take-le n bytes (omega arith) in
    let delta_long : length delta ≡ d = length-take-le d (drop n bytes) (omega (arith, length-drop n bytes)) in
    let next : IsNext first p.clusters (made first p at_len.0 at_lcn.0) = record { vcn = refl; some = lengths.1.0; within = lengths.1.1; lcn = places.1 } in
    let pair : IsPair p.lcn (made first p at_len.0 at_lcn.0) (h ∷ bytes) (drop (n + d) bytes) = record {
      header = h;
      len = len;
      delta = delta;
      whole = ap (λ (l : List ℕ). h ∷ l) (sym (whole_again n d bytes));
      low_nibble = sym len_long;
      high_nibble = sym delta_long;
      len_some = omega arith;
      len_width = omega arith;
      delta_width = omega arith;
      len_is = lengths.0;
      lcn_is = places.0;
    } in
    (subst (λ (x : Run). IsNext first p.clusters x) run_is next, subst (λ (x : Run). IsPair p.lcn x (h ∷ bytes) (drop (n + d) bytes)) run_is pair)

read_back : (more first : ℕ) (p : Place) (bytes : List ℕ) (runs : List Run) → runs_from more first p bytes ≡ Ok runs → Follow first p.clusters runs × SpellsRuns p.lcn runs bytes
unfolding runs_from
read_back zero first p bytes runs is = cc
read_back (suc more) first p [] runs is = cc
read_back (suc more) first p (zero ∷ rest) [] is = (tt, (rest, refl))
read_back (suc more) first p (zero ∷ rest) (r ∷ runs) is = cc
read_back (suc more) first p (suc h ∷ bytes) runs is =
    let behind_it = drop (length_width (suc h) + delta_width (suc h)) bytes in
    let one = bind_ok (run_at first p (suc h) bytes) (λ run. runs_from more first (behind p (suc h) run) behind_it >>= λ later. Ok (run ∷ later)) runs is in
    let r = one.0 in
    let others = bind_ok (runs_from more first (behind p (suc h) r) behind_it) (λ later. Ok (r ∷ later)) runs one.1.1 in
    let all_is : r ∷ others.0 ≡ runs = ok_same PairsFault (r ∷ others.0) runs others.1.1 in
    let pair = pair_back first p (suc h) bytes r one.1.0 in
    let later = read_back more first (behind p (suc h) r) behind_it others.0 others.1.0 in
    subst (λ (l : List Run). Follow first p.clusters l × SpellsRuns p.lcn l (suc h ∷ bytes)) all_is ((pair.0, later.0), (behind_it, (pair.1, later.1)))

pub read_spelled : (first : ℕ) (runs : List Run) (bytes : List ℕ) → runs_of first bytes ≡ Ok runs → HasSpelling first runs × SpellsRuns 0 runs bytes
unfolding runs_of
read_spelled first runs bytes is = read_back (suc (length bytes)) first start bytes runs is
