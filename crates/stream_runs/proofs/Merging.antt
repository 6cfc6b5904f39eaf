-- Runs that touch as one: their clusters, and how they are met from the front.
use Rattle.std.proofs.Common.{◌≡◌, ℕ, ◌+◌, ◌*◌, ◌^◌, ◌<◌, ◌≤◌, ◌%◌, Bool, true, false, cond, eqb, leb, ltb, List, [], ◌∷◌, ◌++◌, map, Option, Some, None, refl, sym, ap, ap₂, ◌∙◌, subst, arith}
use Rattle.std.specs.Prelude.{◌==◌, IfSome}
use Rattle.std.proofs.lemmas.Bool.{eqb-true}
use Rattle.std.proofs.lemmas.Bool.Decides.{nat_tests}
use Rattle.std.proofs.lemmas.List.Sums.{sum_by-cons, sum_by-append}
use Rattle.volume_model.specs.record_model.declared.runs.Run.{Run}
use Rattle.volume_model.specs.record_model.Pairs.{cluster_limit, IsNext, Follow, HasSpelling}
use Rattle.volume_model.specs.state_model.Loads.{total_clusters}
use Rattle.volume_model.specs.Owners.{covers, covers_from, uses}
use Rattle.stream_runs.specs.Runs.{touches, in_front, merged, moved, grown}
use Rattle.stream_runs.specs.Laws.{AreParted}

-- both as one run
abbrev pub both : Run → Run → Run
both r s = record { vcn = r.vcn; lcn = r.lcn; len = r.len + s.len }

-- what touches both touches the second
touches_behind : (a b o : Option ℕ) (len more : ℕ) → touches a len b ≡ true → touches a (len + more) o ≡ touches b more o
touches_behind None None None len more t = refl
touches_behind None None (Some x) len more t = refl
touches_behind None (Some b) o len more t = absurd cc
touches_behind (Some a) None o len more t = absurd cc
touches_behind (Some a) (Some b) None len more t = refl
touches_behind (Some a) (Some b) (Some x) len more t =
    let e : a + (len + more) ≡ b + more = omega (arith, eqb-true (a + len) b t) in
    ap (λ (n : ℕ). n == x) e

-- ---- in front of others

front_is : (r s : Run) (runs : List Run) (t : Bool) → touches r.lcn r.len s.lcn ≡ t → in_front r (s ∷ runs) ≡ cond t (both r s ∷ runs) (r ∷ s ∷ runs)
front_is r s runs t is = ap (λ (v : Bool). cond v (both r s ∷ runs) (r ∷ s ∷ runs)) is

both_by : (r s q : Run) (runs : List Run) (t : Bool) → touches s.lcn s.len q.lcn ≡ t → touches r.lcn r.len s.lcn ≡ true → in_front r (in_front s (q ∷ runs)) ≡ in_front (both r s) (q ∷ runs)
both_by r s q runs true next touch =
    let e : r.len + (s.len + q.len) ≡ (r.len + s.len) + q.len = omega arith in
    ap (in_front r) (front_is s q runs true next)
    ∙ front_is r (both s q) runs true touch
    ∙ ap (λ (n : ℕ). record { vcn = r.vcn; lcn = r.lcn; len = n } ∷ runs) e
    ∙ sym (front_is (both r s) q runs true (touches_behind r.lcn s.lcn q.lcn r.len s.len touch ∙ next))
both_by r s q runs false next touch =
    ap (in_front r) (front_is s q runs false next)
    ∙ front_is r s (q ∷ runs) true touch
    ∙ sym (front_is (both r s) q runs false (touches_behind r.lcn s.lcn q.lcn r.len s.len touch ∙ next))

pub merge_both : (r s : Run) (runs : List Run) → touches r.lcn r.len s.lcn ≡ true → in_front r (in_front s runs) ≡ in_front (both r s) runs
merge_both r s [] touch = front_is r s [] true touch
merge_both r s (q ∷ runs) touch = both_by r s q runs (touches s.lcn s.len q.lcn) refl touch

parted_by : (r s q : Run) (runs : List Run) (t : Bool) → touches s.lcn s.len q.lcn ≡ t → touches r.lcn r.len s.lcn ≡ false → in_front r (in_front s (q ∷ runs)) ≡ r ∷ in_front s (q ∷ runs)
parted_by r s q runs true next apart =
    ap (in_front r) (front_is s q runs true next) ∙ front_is r (both s q) runs false apart ∙ sym (ap (λ (l : List Run). r ∷ l) (front_is s q runs true next))
parted_by r s q runs false next apart =
    ap (in_front r) (front_is s q runs false next) ∙ front_is r s (q ∷ runs) false apart ∙ sym (ap (λ (l : List Run). r ∷ l) (front_is s q runs false next))

pub merge_parted : (r s : Run) (runs : List Run) → touches r.lcn r.len s.lcn ≡ false → in_front r (in_front s runs) ≡ r ∷ in_front s runs
merge_parted r s [] apart = front_is r s [] false apart
merge_parted r s (q ∷ runs) apart = parted_by r s q runs (touches s.lcn s.len q.lcn) refl apart

pub merged-cons : (r : Run) (runs : List Run) → merged (r ∷ runs) ≡ in_front r (merged runs)
unfolding merged
merged-cons r runs = refl

pub merged-nil : merged [] ≡ []
unfolding merged
merged-nil = refl

-- ---- how many clusters

total_by : (r s : Run) (runs : List Run) (t : Bool) → touches r.lcn r.len s.lcn ≡ t → total_clusters (in_front r (s ∷ runs)) ≡ r.len + total_clusters (s ∷ runs)
total_by r s runs true is = ap total_clusters (front_is r s runs true is) ∙ omega arith
total_by r s runs false is = ap total_clusters (front_is r s runs false is)

pub total-in_front : (r : Run) (runs : List Run) → total_clusters (in_front r runs) ≡ r.len + total_clusters runs
total-in_front r [] = refl
total-in_front r (s ∷ runs) = total_by r s runs (touches r.lcn r.len s.lcn) refl

pub total-merged : (runs : List Run) → total_clusters (merged runs) ≡ total_clusters runs
unfolding merged
total-merged [] = refl
total-merged (r ∷ runs) = total-in_front r (merged runs) ∙ ap (λ (n : ℕ). r.len + n) (total-merged runs)

pub total-append : (runs others : List Run) → total_clusters (runs ++ others) ≡ total_clusters runs + total_clusters others
total-append [] others = omega arith
total-append (r ∷ runs) others = omega (arith, total-append runs others)

pub total-moved : (n : ℕ) (runs : List Run) → total_clusters (map (moved n) runs) ≡ total_clusters runs
total-moved n [] = refl
total-moved n (r ∷ runs) = ap (λ (k : ℕ). r.len + k) (total-moved n runs)

-- ---- which clusters

pub uses-cons : (r : Run) (runs : List Run) (x : ℕ) → uses (r ∷ runs) x ≡ cond (covers x r) 1 0 + uses runs x
unfolding uses
uses-cons r runs x = sum_by-cons (λ (q : Run). cond (covers x q) 1 0) r runs

pub uses-append : (runs others : List Run) (x : ℕ) → uses (runs ++ others) x ≡ uses runs x + uses others x
unfolding uses
uses-append runs others x = sum_by-append (λ (q : Run). cond (covers x q) 1 0) runs others

-- the clusters of a stretch are those of its front and those behind it
pub stretch : (x a len more : ℕ) → cond (covers_from x (len + more) (Some a)) 1 0 ≡ cond (covers_from x len (Some a)) 1 0 + cond (covers_from x more (Some (a + len))) 1 0
stretch x a len more = grind (arith, nat_tests)

covers_both : (x : ℕ) (a b : Option ℕ) (len more : ℕ) → touches a len b ≡ true → cond (covers_from x (len + more) a) 1 0 ≡ cond (covers_from x len a) 1 0 + cond (covers_from x more b) 1 0
covers_both x None None len more t = refl
covers_both x None (Some b) len more t = absurd cc
covers_both x (Some a) None len more t = absurd cc
covers_both x (Some a) (Some b) len more t = stretch x a len more ∙ ap (λ (n : ℕ). cond (covers_from x len (Some a)) 1 0 + cond (covers_from x more (Some n)) 1 0) (eqb-true (a + len) b t)

uses_by : (r s : Run) (runs : List Run) (x : ℕ) (t : Bool) → touches r.lcn r.len s.lcn ≡ t → uses (in_front r (s ∷ runs)) x ≡ uses (r ∷ s ∷ runs) x
uses_by r s runs x true is =
    let one = ap (λ (l : List Run). uses l x) (front_is r s runs true is) in
    let sum = covers_both x r.lcn s.lcn r.len s.len is in
    omega (arith, one, sum, uses-cons (both r s) runs x, uses-cons r (s ∷ runs) x, uses-cons s runs x)
uses_by r s runs x false is = ap (λ (l : List Run). uses l x) (front_is r s runs false is)

uses-in_front : (r : Run) (runs : List Run) (x : ℕ) → uses (in_front r runs) x ≡ uses (r ∷ runs) x
uses-in_front r [] x = refl
uses-in_front r (s ∷ runs) x = uses_by r s runs x (touches r.lcn r.len s.lcn) refl

pub uses-merged : (runs : List Run) (x : ℕ) → uses (merged runs) x ≡ uses runs x
unfolding merged
uses-merged [] x = refl
uses-merged (r ∷ runs) x =
    uses-in_front r (merged runs) x ∙ uses-cons r (merged runs) x ∙ ap (λ (n : ℕ). cond (covers x r) 1 0 + n) (uses-merged runs x) ∙ sym (uses-cons r runs x)

pub uses-moved : (n : ℕ) (runs : List Run) (x : ℕ) → uses (map (moved n) runs) x ≡ uses runs x
uses-moved n [] x = refl
uses-moved n (r ∷ runs) x =
    uses-cons (moved n r) (map (moved n) runs) x ∙ ap (λ (k : ℕ). cond (covers x r) 1 0 + k) (uses-moved n runs x) ∙ sym (uses-cons r runs x)

-- ---- their spelling

follow_by : (first n : ℕ) (r s : Run) (runs : List Run) (t : Bool) → touches r.lcn r.len s.lcn ≡ t → IsNext first n r → Follow first (n + r.len) (s ∷ runs) → Follow first n (in_front r (s ∷ runs))
follow_by first n r s runs true is next follow =
    let e : (n + r.len) + s.len ≡ n + (r.len + s.len) = omega arith in
    let some : 0 < r.len + s.len = omega (arith, next.some) in
    let within : n + (r.len + s.len) ≤ cluster_limit = omega (arith, follow.0.within) in
    subst (Follow first n) (sym (front_is r s runs true is)) (record { vcn = next.vcn; some = some; within = within; lcn = next.lcn }, subst (λ (k : ℕ). Follow first k runs) e follow.1)
follow_by first n r s runs false is next follow = subst (Follow first n) (sym (front_is r s runs false is)) (next, follow)

follow-in_front : (first n : ℕ) (r : Run) (runs : List Run) → IsNext first n r → Follow first (n + r.len) runs → Follow first n (in_front r runs)
follow-in_front first n r [] next follow = (next, follow)
follow-in_front first n r (s ∷ runs) next follow = follow_by first n r s runs (touches r.lcn r.len s.lcn) refl next follow

pub follow-merged : (first n : ℕ) (runs : List Run) → Follow first n runs → Follow first n (merged runs)
unfolding merged
follow-merged first n [] follow = follow
follow-merged first n (r ∷ runs) follow = follow-in_front first n r (merged runs) follow.0 (follow-merged first (n + r.len) runs follow.1)

pub follow-append : (first n : ℕ) (runs others : List Run) → Follow first n runs → Follow first (n + total_clusters runs) others → Follow first n (runs ++ others)
follow-append first n [] others follow more = (let e : n + 0 ≡ n = omega arith in subst (λ (k : ℕ). Follow first k others) e more)
follow-append first n (r ∷ runs) others follow more =
    let e : n + (r.len + total_clusters runs) ≡ (n + r.len) + total_clusters runs = omega arith in
    (follow.0, follow-append first (n + r.len) runs others follow.1 (subst (λ (k : ℕ). Follow first k others) e more))

pub follow-moved : (by n : ℕ) (runs : List Run) → Follow 0 n runs → by + n + total_clusters runs ≤ cluster_limit → Follow 0 (by + n) (map (moved by) runs)
follow-moved by n [] follow room = tt
follow-moved by n (r ∷ runs) follow room =
    let e : by + (n + r.len) ≡ (by + n) + r.len = omega arith in
    let vcn : by + r.vcn ≡ (0 + (by + n)) % 2 ^ 64 = omega (arith, follow.0.vcn, follow.0.within) in
    let within : by + n + r.len ≤ cluster_limit = omega (arith, room) in
    (record { vcn = vcn; some = follow.0.some; within = within; lcn = follow.0.lcn }, subst (λ (k : ℕ). Follow 0 k (map (moved by) runs)) e (follow-moved by (n + r.len) runs follow.1 (omega (arith, room))))

pub follow-grown : (runs more : List Run) → HasSpelling 0 runs → HasSpelling 0 more → total_clusters runs + total_clusters more ≤ cluster_limit → HasSpelling 0 (grown runs more)
unfolding grown
follow-grown runs more follow others room =
    let t : ℕ = total_clusters runs in
    let e : t + 0 ≡ 0 + t = omega arith in
    let behind = follow-moved t 0 more others (omega (arith, room)) in
    follow-merged 0 0 (runs ++ map (moved t) more) (follow-append 0 0 runs (map (moved t) more) follow (subst (λ (k : ℕ). Follow 0 k (map (moved t) more)) e behind))

-- ---- none touches the next

parted_twice : (r s : Run) (runs : List Run) → touches r.lcn r.len s.lcn ≡ true → AreParted (s ∷ runs) → AreParted (both r s ∷ runs)
parted_twice r s [] touch parted = tt
parted_twice r s (q ∷ runs) touch parted = (touches_behind r.lcn s.lcn q.lcn r.len s.len touch ∙ parted.0, parted.1)

parts_by : (r s : Run) (runs : List Run) (t : Bool) → touches r.lcn r.len s.lcn ≡ t → AreParted (s ∷ runs) → AreParted (in_front r (s ∷ runs))
parts_by r s runs true is parted = subst AreParted (sym (front_is r s runs true is)) (parted_twice r s runs is parted)
parts_by r s runs false is parted = subst AreParted (sym (front_is r s runs false is)) (is, parted)

parted-in_front : (r : Run) (runs : List Run) → AreParted runs → AreParted (in_front r runs)
parted-in_front r [] parted = tt
parted-in_front r (s ∷ runs) parted = parts_by r s runs (touches r.lcn r.len s.lcn) refl parted

pub parted-merged : (runs : List Run) → AreParted (merged runs)
unfolding merged
parted-merged [] = tt
parted-merged (r ∷ runs) = parted-in_front r (merged runs) (parted-merged runs)
