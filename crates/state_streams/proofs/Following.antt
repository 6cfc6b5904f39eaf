-- The runs of joined attributes follow one another.
use Rattle.std.proofs.Common.{◌≡◌, ℕ, ◌+◌, ◌≤◌, true, ◌&&◌, eqb, ltb, List, [], ◌∷◌, ◌++◌, Result, Ok, Err, refl, subst, arith}
use Rattle.std.specs.List.{flat_map}
use Rattle.std.proofs.lemmas.Bool.{and_parts, eqb-true}
use Rattle.plan_growth.specs.record_model.declared.attribute.Attr.{Attr}
use Rattle.plan_growth.specs.record_model.declared.attribute.OwnForm.{OwnForm}
use Rattle.plan_growth.specs.record_model.declared.attribute.OwnForm.TheVariants.{Resident, Mapped}
use Rattle.plan_growth.specs.record_model.declared.runs.PairsFault.{PairsFault}
use Rattle.plan_growth.specs.record_model.declared.runs.Run.{Run}
use Rattle.plan_growth.specs.record_model.Pairs.{cluster_limit, runs_of, Follow, HasSpelling}
use Rattle.plan_growth.proofs.record_model.PairsBack.{read_spelled}
use Rattle.plan_growth.specs.state_model.Loads.{total_clusters}
use Rattle.plan_growth.specs.state_model.Streams.{first_vcn, form_first, form_runs, runs_or, attribute_runs}
use Rattle.plan_growth.proofs.stream_runs.Merging.{total-append}
use Rattle.plan_growth.specs.volume_model.Sizes.{follow, are_joined}

-- runs that follow from one VCN on, behind so many clusters, follow from 0 on behind as many more
moved_on : (first n : ℕ) (runs : List Run) → Follow first n runs → first + n + total_clusters runs ≤ cluster_limit → Follow 0 (first + n) runs
moved_on first n [] is room = tt
moved_on first n (r ∷ runs) is room = (
  record { vcn = omega (arith, is.0.vcn); some = is.0.some; within = omega (arith, room); lcn = is.0.lcn },
  subst (λ (k : ℕ). Follow 0 k runs) (omega arith) (moved_on first (n + r.len) runs is.1 (omega (arith, room))),
)

followed : (n : ℕ) (runs others : List Run) → Follow 0 n runs → Follow 0 (n + total_clusters runs) others → Follow 0 n (runs ++ others)
followed n [] others one two = subst (λ (k : ℕ). Follow 0 k others) (omega arith) two
followed n (r ∷ runs) others one two = (one.0, followed (n + r.len) runs others one.1 (subst (λ (k : ℕ). Follow 0 k others) (omega arith) two))

read_by : (first : ℕ) (pairs : List ℕ) (result : Result (List Run) PairsFault) → runs_of first pairs ≡ result → HasSpelling first (runs_or result)
read_by first pairs (Ok runs) is = (read_spelled first runs pairs is).0
read_by first pairs (Err fault) is = tt

form_spelled : (form : OwnForm) → HasSpelling (form_first form) (form_runs form)
form_spelled (Resident value indexed) = tt
form_spelled (Mapped sizes pairs) = read_by sizes.first pairs (runs_of sizes.first pairs) refl

-- the runs of an attribute have a spelling from its first VCN on
attribute_spelled : (a : Attr) → HasSpelling (first_vcn a) (attribute_runs a)
unfolding attribute_runs
attribute_spelled a = form_spelled a.form

one_follows : (a : Attr) (n : ℕ) → first_vcn a ≡ n → n + total_clusters (attribute_runs a) ≤ cluster_limit → Follow 0 n (attribute_runs a)
one_follows a n is room =
    subst (λ (k : ℕ). Follow 0 k (attribute_runs a)) (omega (arith, is))
    (moved_on (first_vcn a) 0 (attribute_runs a) (attribute_spelled a) (omega (arith, is, room)))

all_follow : (n : ℕ) (attributes : List Attr) → follow n attributes ≡ true → n + total_clusters (flat_map attribute_runs attributes) ≤ cluster_limit → Follow 0 n (flat_map attribute_runs attributes)
all_follow n [] is room = tt
all_follow n (a ∷ attributes) is room =
    let parts = and_parts (eqb (first_vcn a) n && ltb 0 (total_clusters (attribute_runs a))) (follow (n + total_clusters (attribute_runs a)) attributes) is in
    let here = and_parts (eqb (first_vcn a) n) (ltb 0 (total_clusters (attribute_runs a))) parts.0 in
    let begins : first_vcn a ≡ n = eqb-true (first_vcn a) n here.0 in
    let sum = total-append (attribute_runs a) (flat_map attribute_runs attributes) in
    followed n (attribute_runs a) (flat_map attribute_runs attributes)
    (one_follows a n begins (omega (arith, room, sum)))
    (all_follow (n + total_clusters (attribute_runs a)) attributes parts.1 (omega (arith, room, sum)))

-- those of a stream's attributes that are joined have one from 0 on, where their clusters don't pass the limit
pub joined_follow : (attributes : List Attr) → are_joined attributes ≡ true → total_clusters (flat_map attribute_runs attributes) ≤ cluster_limit → HasSpelling 0 (flat_map attribute_runs attributes)
joined_follow [] is room = tt
joined_follow (a ∷ []) is room =
    let sum = total-append (attribute_runs a) [] in
    followed 0 (attribute_runs a) [] (one_follows a 0 (eqb-true (first_vcn a) 0 is) (omega (arith, room, sum))) tt
joined_follow (a ∷ b ∷ attributes) is room = all_follow 0 (a ∷ b ∷ attributes) is (omega (arith, room))
