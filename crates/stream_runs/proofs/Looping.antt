-- Steps of loops over runs.
use Rattle.std.proofs.Common.{◌≡◌, ℕ, zero, suc, ◌+◌, ◌-◌, ◌^◌, ◌<◌, ◌≤◌, ◌%◌, Bool, true, false, cond, eqb, List, [], ◌∷◌, ◌++◌, length, get_or, drop, Option, Some, None, refl, sym, ap, ◌∙◌, subst, add-one, drop-cons, arith}
use Rattle.std.specs.Prelude.{option_map, slice_get, All, IfSome}
use Rattle.std.proofs.lemmas.Bool.{ne_eqb}
use Rattle.std.proofs.lemmas.List.{append_assoc, append-nil}
use Rattle.std.proofs.lemmas.List.Elements.{All-nil, All-cons, All-weaker}
use Rattle.volume_model.specs.record_model.declared.runs.Run.{Run}
use Rattle.volume_model.specs.record_model.Pairs.{cluster_limit, Follow}
use Rattle.volume_model.specs.record_model.Runs.{IsSmall, AreSmall}
use Rattle.volume_model.specs.state_model.Loads.{total_clusters}
use Rattle.stream_runs.specs.Runs.{touches, in_front, merged, front, last_cluster, IsNear}
use Rattle.stream_runs.proofs.Merging.{both, merge_both, merge_parted, merged-cons, merged-nil}
use Rattle.stream_runs.proofs.Places.{cut, kept, front_whole, front_cut}

-- ---- one run more

pub next_is : (runs : List Run) (i : ℕ) (d : Run) → i < length runs → drop i runs ≡ get_or runs i d ∷ drop (i + 1) runs
next_is runs i d lt = rw (add-one, drop-cons runs i d) refl

pub none_left : (runs : List Run) (i : ℕ) → length runs ≤ i → drop i runs ≡ []
none_left [] zero le = refl
none_left [] (suc i) le = refl
none_left (r ∷ runs) zero le = absurd (omega arith)
none_left (r ∷ runs) (suc i) le = none_left runs i (omega arith)

pub total_next : (runs : List Run) (i : ℕ) (d : Run) → i < length runs → total_clusters (drop i runs) ≡ (get_or runs i d).len + total_clusters (drop (i + 1) runs)
total_next runs i d lt = ap total_clusters (next_is runs i d lt)

-- ---- joined runs

pub joins : (all new : List Run) (last : Run) (rest : List Run) (i : ℕ) (d : Run) → i < length rest → touches last.lcn last.len (get_or rest i d).lcn ≡ true → new ++ in_front last (merged (drop i rest)) ≡ all → new ++ in_front (both last (get_or rest i d)) (merged (drop (i + 1) rest)) ≡ all
joins all new last rest i d lt touch so_far =
    let next : Run = get_or rest i d in
    let behind : List Run = drop (i + 1) rest in
    ap (λ (l : List Run). new ++ l) (sym (ap (λ (l : List Run). in_front last (merged l)) (next_is rest i d lt) ∙ ap (in_front last) (merged-cons next behind) ∙ merge_both last next (merged behind) touch)) ∙ so_far

pub parts : (all new : List Run) (last : Run) (rest : List Run) (i : ℕ) (d : Run) → i < length rest → touches last.lcn last.len (get_or rest i d).lcn ≡ false → new ++ in_front last (merged (drop i rest)) ≡ all → (new ++ last ∷ []) ++ in_front (get_or rest i d) (merged (drop (i + 1) rest)) ≡ all
parts all new last rest i d lt apart so_far =
    let next : Run = get_or rest i d in
    let behind : List Run = drop (i + 1) rest in
    append_assoc new (last ∷ []) (in_front next (merged behind))
    ∙ ap (λ (l : List Run). new ++ l) (sym (ap (λ (l : List Run). in_front last (merged l)) (next_is rest i d lt) ∙ ap (in_front last) (merged-cons next behind) ∙ merge_parted last next (merged behind) apart))
    ∙ so_far

pub all_joined : (all new : List Run) (last : Run) (rest : List Run) (i : ℕ) → length rest ≤ i → new ++ in_front last (merged (drop i rest)) ≡ all → new ++ last ∷ [] ≡ all
all_joined all new last rest i le so_far = sym (ap (λ (l : List Run). new ++ in_front last l) (ap merged (none_left rest i le) ∙ merged-nil)) ∙ so_far

-- ---- small ones

pub small_follow : (first n : ℕ) (runs : List Run) → Follow first n runs → AreSmall runs
small_follow first n [] follow = All-nil IsSmall
small_follow first n (r ∷ runs) follow =
    let next = follow.0 in
    let vcn : r.vcn < 2 ^ 64 = omega (arith, next.vcn) in
    let len : r.len ≤ cluster_limit = omega (arith, next.within) in
    All-cons IsSmall r runs (record { vcn = vcn; lcn = next.lcn; len = len }) (small_follow first (n + r.len) runs follow.1)

pub vcn_at : (n : ℕ) (runs : List Run) (i : ℕ) (d : Run) → Follow 0 n runs → i < length runs → (get_or runs i d).vcn ≤ cluster_limit
vcn_at n [] i d follow lt = absurd (omega arith)
vcn_at n (r ∷ runs) zero d follow lt = omega (arith, follow.0.vcn, follow.0.within)
vcn_at n (r ∷ runs) (suc i) d follow lt = vcn_at (n + r.len) runs i d follow.1 (omega arith)

near_by : (len : ℕ) (lcn : Option ℕ) → len ≤ cluster_limit → IfSome lcn (λ n. n < cluster_limit) → IfSome lcn (λ n. n + len < 2 ^ 34)
near_by len None short small = tt
near_by len (Some n) short small = omega (arith, short, small)

small_near : (r : Run) → IsSmall r → IsNear r
small_near r small = near_by r.len r.lcn small.len small.lcn

pub all_near : (runs : List Run) → AreSmall runs → All IsNear runs
all_near runs small = All-weaker IsSmall IsNear small_near runs small

-- ---- the first clusters

pub takes : (all new : List Run) (runs : List Run) (i left : ℕ) (d : Run) → i < length runs → (get_or runs i d).len ≤ left → new ++ front left (drop i runs) ≡ all → (new ++ get_or runs i d ∷ []) ++ front (left - (get_or runs i d).len) (drop (i + 1) runs) ≡ all
takes all new runs i left d lt le so_far =
    let next : Run = get_or runs i d in
    append_assoc new (next ∷ []) (front (left - next.len) (drop (i + 1) runs))
    ∙ ap (λ (l : List Run). new ++ l) (sym (ap (front left) (next_is runs i d lt) ∙ front_whole left next (drop (i + 1) runs) le))
    ∙ so_far

cuts : (all new : List Run) (runs : List Run) (i left : ℕ) (d : Run) → i < length runs → left < (get_or runs i d).len → new ++ front left (drop i runs) ≡ all → new ++ kept left (get_or runs i d) ≡ all
cuts all new runs i left d lt less so_far =
    ap (λ (l : List Run). new ++ l) (sym (ap (front left) (next_is runs i d lt) ∙ front_cut left (get_or runs i d) (drop (i + 1) runs) less)) ∙ so_far

pub cuts_some : (all new : List Run) (runs : List Run) (i left : ℕ) (d : Run) → i < length runs → left < (get_or runs i d).len → 0 < left → new ++ front left (drop i runs) ≡ all → new ++ cut left (get_or runs i d) ∷ [] ≡ all
cuts_some all new runs i left d lt less some so_far =
    let ne : eqb left 0 ≡ false = ne_eqb left 0 (λ e. omega (arith, e)) in
    ap (λ (t : Bool). new ++ cond t [] (cut left (get_or runs i d) ∷ [])) (sym ne) ∙ cuts all new runs i left d lt less so_far

pub cuts_none : (all new : List Run) (runs : List Run) (i left : ℕ) (d : Run) → i < length runs → left < (get_or runs i d).len → left ≤ 0 → new ++ front left (drop i runs) ≡ all → new ≡ all
cuts_none all new runs i left d lt less none so_far =
    let zero_left : left ≡ 0 = omega arith in
    sym (append-nil new) ∙ ap (λ (n : ℕ). new ++ kept n (get_or runs i d)) (sym zero_left) ∙ cuts all new runs i left d lt less so_far

front-nil : (left : ℕ) → front left [] ≡ []
unfolding front
front-nil left = refl

pub all_taken : (all new : List Run) (runs : List Run) (i left : ℕ) → length runs ≤ i → new ++ front left (drop i runs) ≡ all → new ≡ all
all_taken all new runs i left le so_far = sym (append-nil new) ∙ ap (λ (l : List Run). new ++ l) (sym (ap (front left) (none_left runs i le) ∙ front-nil left)) ∙ so_far

-- ---- the last one

abbrev pub end_of : Run → Option ℕ
end_of r = option_map (λ (lcn : ℕ). lcn + r.len - 1) r.lcn

last_at : (runs : List Run) (r : Run) (k : ℕ) → suc k ≡ length runs → slice_get runs k ≡ Some r → last_cluster runs ≡ end_of r
last_at [] r k is found = absurd (omega arith)
last_at (q ∷ []) r zero is found = (let e : q ≡ r = cc in ap end_of e)
last_at (q ∷ []) r (suc k) is found = absurd (omega arith)
last_at (q ∷ s ∷ runs) r zero is found = absurd (omega arith)
last_at (q ∷ s ∷ runs) r (suc k) is found = last_at (s ∷ runs) r k (omega arith) found

pub last_is : (runs : List Run) (r : Run) → slice_get runs (length runs - 1) ≡ Some r → last_cluster runs ≡ end_of r
last_is [] r found = absurd cc
last_is (q ∷ runs) r found = last_at (q ∷ runs) r (length (q ∷ runs) - 1) (omega arith) found
