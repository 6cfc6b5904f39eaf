-- Runs and their places.
use Rattle.std.proofs.Common.{◌≡◌, ℕ, ◌+◌, ◌<◌, cond, List, [], ◌∷◌, ◌++◌, length, get_or, take, Some, None, sym, subst, ap, ◌∙◌, arith}
use Rattle.std.specs.List.Sorted.{IsPermutation}
use Rattle.std.proofs.lemmas.List.Elements.{All-nil, All-push}
use Rattle.std.proofs.lemmas.List.Sums.{sum_by_more}
use Rattle.stream_map.specs.record_model.declared.runs.Run.{Run}
use Rattle.volume_model.specs.Owners.{covers, uses}
use Rattle.stream_rules.specs.declared.places.Place.{Place}
use Rattle.stream_rules.specs.Places.{is_in_some, times, IsBelow, AreBelow}
use Rattle.stream_rules.proofs.Counting.{once, times-nil, times_push, times-permutation}

-- as many of the places as of the runs have each cluster below so many
abbrev pub CountSame : ℕ → List Run → List Place → Type 0
CountSame clusters runs places = (x : ℕ) → x < clusters → times places x ≡ uses runs x

uses_more : (runs : List Run) (i : ℕ) (d : Run) (x : ℕ) → i < length runs → uses (take (i + 1) runs) x ≡ uses (take i runs) x + once (covers x (get_or runs i d))
unfolding uses
uses_more runs i d x lt = sum_by_more (λ s. cond (covers x s) 1 0) runs i d lt

count_none : (clusters : ℕ) (runs : List Run) → CountSame clusters (take 0 runs) []
unfolding uses
count_none clusters runs x lt = times-nil x

-- the places of these runs
pub record ArePlaces (clusters : ℕ) (runs : List Run) (places : List Place) : Type 0 where
  pub below : AreBelow clusters places
  pub same : CountSame clusters runs places

pub places_none : (clusters : ℕ) (runs : List Run) (places : List Place) → places ≡ [] → ArePlaces clusters (take 0 runs) places
places_none clusters runs places none = subst (ArePlaces clusters (take 0 runs)) (sym none) (record { below = All-nil (IsBelow clusters); same = count_none clusters runs })

-- a run that has no cluster there
pub places_without : (clusters : ℕ) (runs : List Run) (i : ℕ) (d : Run) (places after : List Place) → i < length runs → ((x : ℕ) → x < clusters → is_in_some x None ≡ covers x (get_or runs i d)) → after ≡ places → ArePlaces clusters (take i runs) places → ArePlaces clusters (take (i + 1) runs) after
places_without clusters runs i d places after lt none stays so_far =
    subst (ArePlaces clusters (take (i + 1) runs)) (sym stays) (record {
      below = so_far.below;
      same = λ x inside. omega (arith, so_far.same x inside, uses_more runs i d x lt, ap once (none x inside));
    })

-- a run with its place
pub places_with : (clusters : ℕ) (runs : List Run) (i : ℕ) (d : Run) (places after : List Place) (p : Place) → i < length runs → IsBelow clusters p → ((x : ℕ) → x < clusters → is_in_some x (Some p) ≡ covers x (get_or runs i d)) → after ≡ places ++ p ∷ [] → ArePlaces clusters (take i runs) places → ArePlaces clusters (take (i + 1) runs) after
places_with clusters runs i d places after p lt below same pushed so_far =
    subst (ArePlaces clusters (take (i + 1) runs)) (sym pushed) (record {
      below = All-push (IsBelow clusters) places p so_far.below below;
      same = λ x inside. times_push places p x ∙ omega (arith, so_far.same x inside, uses_more runs i d x lt, ap once (same x inside));
    })

-- ---- sorted

pub sorted_same : (clusters : ℕ) (runs : List Run) (places sorted : List Place) → IsPermutation places sorted → CountSame clusters runs places → CountSame clusters runs sorted
sorted_same clusters runs places sorted moved same x inside = times-permutation places sorted x moved ∙ same x inside
