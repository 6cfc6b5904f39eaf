-- What is found in places, as the least cluster below a count at which a rule of runs is broken.
use Rattle.std.proofs.Common.{◌≡◌, ℕ, ◌<◌, ◌≤◌, Bool, true, List, length, Option, Some, None, MatchOption, subst, inl, inr, arith}
use Rattle.std.proofs.lemmas.Bool.{cases_lt, le-leb, lt-leb, or_left, or_right, or_from, not_from_true, not_from_false}
use Rattle.stream_map.specs.record_model.declared.runs.Run.{Run}
use Rattle.bit_set.specs.Bits.{bit}
use Rattle.state_model.specs.Rules.{first_failing}
use Rattle.volume_model.specs.Owners.{uses, keeps_owner, keeps_cluster_bit}
use Rattle.stream_rules.specs.declared.places.Place.{Place}
use Rattle.stream_rules.specs.Places.{times, AreBelow}
use Rattle.stream_rules.specs.Breaches.{IsLeastShared, IsLeastUnmarked}
use Rattle.stream_rules.proofs.Counting.{times_past}
use Rattle.stream_rules.proofs.Failing.{failing_none, failing_some}
use Rattle.stream_rules.proofs.RunPlaces.{CountSame}

-- a cluster that a place has lies below them
owned_below : (clusters : ℕ) (places : List Place) (x : ℕ) → AreBelow clusters places → 0 < times places x → x < clusters
owned_below clusters places x below owned =
    elim (cases_lt x clusters) [
      | inl lt ↦ lt
      | inr past ↦ absurd (omega (arith, times_past clusters places x below past))
    ]

pub first_shared_is : (clusters : ℕ) (runs : List Run) (places : List Place) (found : Option ℕ) → AreBelow clusters places → CountSame clusters runs places → MatchOption found ((x : ℕ) → times places x ≤ 1) (IsLeastShared places) → found ≡ first_failing (keeps_owner runs) clusters
first_shared_is clusters runs places None below same answer =
    failing_none (keeps_owner runs) clusters (λ y lt. le-leb (uses runs y) 1 (omega (arith, same y lt, answer y)))
first_shared_is clusters runs places (Some x) below same answer =
    let lt = owned_below clusters places x below (omega (arith, answer.shared)) in
    failing_some (keeps_owner runs) clusters x lt (lt-leb (uses runs x) 1 (omega (arith, same x lt, answer.shared))) (λ y less. le-leb (uses runs y) 1 (omega (arith, same y (omega arith), answer.least y less)))

-- a cluster that is marked where it is owned
is_kept : (bits : List Bool) (runs : List Run) (y : ℕ) → (0 < uses runs y → bit bits y ≡ true) → keeps_cluster_bit bits runs y ≡ true
is_kept bits runs y marked =
    elim (cases_lt 0 (uses runs y)) [
      | inl owned ↦ or_right _ _ (marked owned)
      | inr none ↦ or_left _ _ (not_from_false _ (lt-leb 1 (uses runs y) (omega arith)))
    ]

pub first_unmarked_is : (bits : List Bool) (runs : List Run) (places : List Place) (found : Option ℕ) → AreBelow (length bits) places → CountSame (length bits) runs places → MatchOption found ((x : ℕ) → 0 < times places x → bit bits x ≡ true) (IsLeastUnmarked bits places) → found ≡ first_failing (keeps_cluster_bit bits runs) (length bits)
first_unmarked_is bits runs places None below same answer =
    failing_none (keeps_cluster_bit bits runs) (length bits) (λ y lt. is_kept bits runs y (λ owned. answer y (omega (arith, same y lt))))
first_unmarked_is bits runs places (Some x) below same answer =
    let lt = owned_below (length bits) places x below answer.owned in
    let owned : 1 ≤ uses runs x = omega (arith, same x lt, answer.owned) in
    failing_some (keeps_cluster_bit bits runs) (length bits) x lt (or_from _ _ (not_from_true _ (le-leb 1 (uses runs x) owned)) answer.clear) (λ y less. is_kept bits runs y (λ here. answer.least y less (omega (arith, same y (omega arith)))))

-- ---- as they are called: over a slice of the places

pub shared_called : (clusters : ℕ) (runs : List Run) (places seen : List Place) (found : Option ℕ) → AreBelow clusters places → CountSame clusters runs places → seen ≡ places → MatchOption found ((x : ℕ) → times seen x ≤ 1) (IsLeastShared seen) → found ≡ first_failing (keeps_owner runs) clusters
shared_called clusters runs places seen found below same is answer =
    first_shared_is clusters runs places found below same (subst (λ (l : List Place). MatchOption found ((x : ℕ) → times l x ≤ 1) (IsLeastShared l)) is answer)

pub unmarked_called : (bits : List Bool) (clusters : ℕ) (runs : List Run) (places seen : List Place) (found : Option ℕ) → clusters ≡ length bits → AreBelow clusters places → CountSame clusters runs places → seen ≡ places → MatchOption found ((x : ℕ) → 0 < times seen x → bit bits x ≡ true) (IsLeastUnmarked bits seen) → found ≡ first_failing (keeps_cluster_bit bits runs) (length bits)
unmarked_called bits clusters runs places seen found count below same is answer =
    first_unmarked_is bits runs places found
    (subst (λ n. AreBelow n places) count below)
    (subst (λ n. CountSame n runs places) count same)
    (subst (λ (l : List Place). MatchOption found ((x : ℕ) → 0 < times l x → bit bits x ≡ true) (IsLeastUnmarked bits l)) is answer)
