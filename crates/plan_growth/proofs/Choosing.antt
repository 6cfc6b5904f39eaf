-- Runs that are free one after the other may be taken.
use Rattle.std.proofs.Common.{◌≡◌, ◌⊎◌, ℕ, ◌+◌, ◌<◌, ◌≤◌, Bool, true, false, ◌&&◌, cond, leb, ltb, List, [], ◌∷◌, length, Option, refl, sym, ap, subst, ◌∙◌, inl, inr, arith}
use Rattle.std.specs.Prelude.{IfSome}
use Rattle.std.specs.List.{list_all, list_any}
use Rattle.std.proofs.lemmas.Bool.{cases_Bool, cases_lt, and_parts, and_from, or_from, both_ways, leb-true, ltb-true, le-leb, lt-ltb}
use Rattle.plan_model.specs.record_model.declared.runs.Run.{Run}
use Rattle.plan_model.specs.record_model.Pairs.{cluster_limit, Follow}
use Rattle.plan_model.specs.bit_set.Bits.{bit}
use Rattle.plan_model.specs.state_model.Loads.{total_clusters}
use Rattle.plan_model.specs.volume_model.Owners.{covers_from, covers, uses}
use Rattle.plan_model.specs.volume_model.Sizes.{lies_below, lies_inside, is_hole}
use Rattle.resized_streams.specs.space_model.Choosing.{with_run, chosen}
use Rattle.resized_streams.specs.space_model.Laws.{AreFree}
use Rattle.resized_streams.proofs.space_model.Lawful.{chosen_are_free}
use Rattle.resized_streams.proofs.space_model.Searching.{length-with_run, with_run-inside, with_run-others}
use Rattle.resized_streams.proofs.stream_runs.Merging.{uses-cons}
use Rattle.plan_growth.specs.Streams.{MayTake}

free_follow : (bits : List Bool) (n : ℕ) (runs : List Run) → AreFree bits n runs → length bits ≤ cluster_limit → n + total_clusters runs ≤ cluster_limit → Follow 0 n runs
free_follow bits n [] free few room = tt
free_follow bits n (r ∷ runs) free few room =
    let is = free.1 in
    let vcn : r.vcn ≡ n = is.vcn_is in
    let some : 0 < r.len = is.some in
    let inside : free.0 + r.len ≤ length bits = is.clear.inside in (
      record { vcn = omega (arith, vcn, room); some = some; within = omega (arith, room); lcn = subst (λ (o : Option ℕ). IfSome o (λ lcn. lcn < cluster_limit)) (sym is.lcn) (omega (arith, some, inside, few)) },
      free_follow (with_run free.0 r.len bits) (n + r.len) runs free.2 (omega (arith, few, length-with_run free.0 r.len bits)) (omega (arith, room)),
    )

free_whole : (bits : List Bool) (n : ℕ) (runs : List Run) → AreFree bits n runs → list_any is_hole runs ≡ false
free_whole bits n [] free = refl
free_whole bits n (r ∷ runs) free = or_from _ _ (rw free.1.lcn refl) (free_whole (with_run free.0 r.len bits) (n + r.len) runs free.2)

free_inside : (bits : List Bool) (n clusters : ℕ) (runs : List Run) → length bits ≡ clusters → AreFree bits n runs → list_all (lies_inside clusters) runs ≡ true
free_inside bits n clusters [] same free = refl
free_inside bits n clusters (r ∷ runs) same free =
    let inside : free.0 + r.len ≤ length bits = free.1.clear.inside in
    and_from _ _ (ap (lies_below clusters r.len) free.1.lcn ∙ le-leb (free.0 + r.len) clusters (omega (arith, inside, same)))
    (free_inside (with_run free.0 r.len bits) (n + r.len) clusters runs (length-with_run free.0 r.len bits ∙ same) free.2)

-- each cluster lies there once, and was clear
free_once : (bits : List Bool) (n : ℕ) (runs : List Run) (x : ℕ) → AreFree bits n runs → (uses runs x ≤ 1) × (0 < uses runs x → bit bits x ≡ false)
unfolding uses
free_once bits n [] x free = (omega arith, λ some. absurd (omega (arith, some)))
free_once bits n (r ∷ runs) x free =
    let first : ℕ = free.0 in
    let after : List Bool = with_run first r.len bits in
    let rest = free_once after (n + r.len) runs x free.2 in
    let parts : uses (r ∷ runs) x ≡ cond (covers x r) 1 0 + uses runs x = uses-cons r runs x in
    let test : covers x r ≡ (leb first x && ltb x (first + r.len)) = ap (covers_from x r.len) free.1.lcn in
    elim (cases_Bool (leb first x && ltb x (first + r.len))) [
      | inl here ↦
          (let both = and_parts (leb first x) (ltb x (first + r.len)) here in
          let low : first ≤ x = leb-true first x both.0 in
          let high : x < first + r.len = ltb-true x (first + r.len) both.1 in
          let inside : first + r.len ≤ length bits = free.1.clear.inside in
          let one : cond {A = ℕ} (covers x r) 1 0 ≡ 1 = ap (λ (t : Bool). cond {A = ℕ} t 1 0) (test ∙ here) in
          let set : bit after x ≡ true = with_run-inside first r.len bits x low high (omega (arith, high, inside)) in
          let none : uses runs x ≤ 0 = elim (cases_lt 0 (uses runs x)) [ inl some ↦ absurd (both_ways (bit after x) (rest.1 some) set) | inr none ↦ none ] in
          (omega (arith, parts, one, none), λ some. free.1.clear.clear x low high))
      | inr other ↦
          (let zero_of : cond {A = ℕ} (covers x r) 1 0 ≡ 0 = ap (λ (t : Bool). cond {A = ℕ} t 1 0) (test ∙ other) in
          let same : bit after x ≡ bit bits x = with_run-others first r.len bits x (outside first r.len x other) in
          let at_most = rest.0 in
          (omega (arith, parts, zero_of, at_most), λ some. sym same ∙ rest.1 (omega (arith, parts, zero_of, some))))
    ]
  where
    outside : (first len x : ℕ) → (leb first x && ltb x (first + len)) ≡ false → (x < first) ⊎ (first + len ≤ x)
    outside first len x is = elim (cases_lt x first) [
      | inl before ↦ inl before
      | inr low ↦ elim (cases_lt x (first + len)) [
        | inl high ↦ absurd (both_ways (leb first x && ltb x (first + len)) is (and_from _ _ (le-leb first x low) (lt-ltb x (first + len) high)))
        | inr behind ↦ inr behind
      ]
    ]

pub may_be_taken : (bits others : List Bool) (last : Option ℕ) (n : ℕ) → ((x : ℕ) → bit bits x ≡ false → bit others x ≡ false) → length bits ≤ cluster_limit → total_clusters (chosen bits last n) ≤ cluster_limit → MayTake (length bits) others (chosen bits last n)
may_be_taken bits others last n less few room =
    let free : AreFree bits 0 (chosen bits last n) = chosen_are_free.free bits last n in
    record {
      spelled = free_follow bits 0 (chosen bits last n) free few (omega (arith, room));
      whole = free_whole bits 0 (chosen bits last n) free;
      inside = free_inside bits 0 (length bits) (chosen bits last n) refl free;
      once = λ x. (free_once bits 0 (chosen bits last n) x free).0;
      clear = λ x some. less x ((free_once bits 0 (chosen bits last n) x free).1 some);
    }
