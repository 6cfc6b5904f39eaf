-- Attributes that follow one another.
use Rattle.std.proofs.Common.{◌≡◌, ℕ, ◌+◌, ◌<◌, Bool, true, false, eqb, ltb, List, length, get_or, drop, Bor, sym, ap, ◌∙◌, arith}
use Rattle.std.specs.Prelude.{◌&&◌}
use Rattle.std.proofs.lemmas.Bool.{and_from, and_left, and_parts, false_from_ne_true, eq-eqb, eqb-true, lt-ltb, ltb-true}
use Rattle.stream_map.specs.record_model.declared.attribute.Attr.{Attr}
use Rattle.state_model.specs.Streams.{first_vcn, form_runs, attribute_runs}
use Rattle.state_model.specs.Loads.{total_clusters}
use Rattle.stream_map.specs.Attributes.{behind}
use Rattle.stream_map.proofs.Inserting.{behind-item}
use Rattle.volume_model.specs.Sizes.{follow}

follow_here : (vcn : ℕ) (refs : List (Bor Attr)) (i : ℕ) (r : Bor Attr) → i < length refs → r ≡ get_or refs i r
    → follow vcn (drop i (behind refs)) ≡ (eqb (first_vcn r.now) vcn && ltb 0 (total_clusters (form_runs r.now.form)) && follow (vcn + total_clusters (form_runs r.now.form)) (drop (i + 1) (behind refs)))
unfolding attribute_runs
follow_here vcn refs i r lt is = ap (follow vcn) (behind-item refs i r lt is)

-- an attribute that begins elsewhere, or has no clusters
pub breaks_off : (vcn : ℕ) (refs : List (Bor Attr)) (i : ℕ) (r : Bor Attr) (clusters : ℕ) (all : Bool) → i < length refs → r ≡ get_or refs i r → clusters ≡ total_clusters (form_runs r.now.form) → (first_vcn r.now ≡ vcn → 0 < clusters → ⊥) → follow vcn (drop i (behind refs)) ≡ all → false ≡ all
breaks_off vcn refs i r clusters all lt is count stops so_far =
    let n = total_clusters (form_runs r.now.form) in
    let here = eqb (first_vcn r.now) vcn in
    let ends : (here && ltb 0 n) ≡ false = false_from_ne_true (here && ltb 0 n) (λ goes.
    let parts = and_parts here (ltb 0 n) goes in
    let some : 0 < n = ltb-true 0 n parts.1 in
    stops (eqb-true (first_vcn r.now) vcn parts.0) (omega (arith, some, count))) in
    sym (and_left (here && ltb 0 n) (follow (vcn + n) (drop (i + 1) (behind refs))) ends) ∙ sym (follow_here vcn refs i r lt is) ∙ so_far

-- one with clusters that begins there
pub goes_on : (vcn : ℕ) (refs : List (Bor Attr)) (i : ℕ) (r : Bor Attr) (clusters : ℕ) (all : Bool) → i < length refs → r ≡ get_or refs i r → clusters ≡ total_clusters (form_runs r.now.form) → first_vcn r.now ≡ vcn → 0 < clusters → follow vcn (drop i (behind refs)) ≡ all → follow (vcn + clusters) (drop (i + 1) (behind refs)) ≡ all
goes_on vcn refs i r clusters all lt is count begins some so_far =
    let n = total_clusters (form_runs r.now.form) in
    let here = eqb (first_vcn r.now) vcn in
    let goes : (here && ltb 0 n) ≡ true = and_from here (ltb 0 n) (eq-eqb (first_vcn r.now) vcn begins) (lt-ltb 0 n (omega (arith, some, count))) in
    ap (λ (k : ℕ). follow (vcn + k) (drop (i + 1) (behind refs))) count
    ∙ sym (ap (λ (b : Bool). b && follow (vcn + n) (drop (i + 1) (behind refs))) goes)
    ∙ sym (follow_here vcn refs i r lt is)
    ∙ so_far
