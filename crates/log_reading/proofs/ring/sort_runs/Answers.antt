use Rattle.std.proofs.Common.{rules}
use Rattle.std.proofs.lemmas.List.Sorted.{IsNonDecreasingBy-from_sort_by_key}
use Rattle.log_page.specs.declared.places.Extent.{Extent}
use Rattle.log_reading.proofs.ring.sort_runs.Goals as goal

pub returns-clause-rising : goal.returns-clause-rising
returns-clause-rising c = IsNonDecreasingBy-from_sort_by_key (λ (r : Extent). r.first) _ c.sort_unstable_by_key.ensures.sorted (λ a r q k. search rules)
