use Rattle.std.proofs.Common.{rules}
use Rattle.std.proofs.lemmas.List.Sorted.{IsNonDecreasingBy-from_sort_by_key}
use Rattle.stream_rules.specs.declared.places.Place.{Place}
use Rattle.stream_rules.proofs.RunPlaces.{sorted_same}
use Rattle.stream_rules.proofs.places.sorted_places.Goals as goal

pub returns-clause-rising : goal.returns-clause-rising
returns-clause-rising c = IsNonDecreasingBy-from_sort_by_key (λ (p : Place). p.first) _ c.sort_unstable_by_key.ensures.sorted (λ a r q k. search rules)

pub returns-clause-same : goal.returns-clause-same
returns-clause-same c = sorted_same c.args.clusters c.args.runs.now _ _ c.sort_unstable_by_key.ensures.permutation c.in_ok-places.ensures.same
