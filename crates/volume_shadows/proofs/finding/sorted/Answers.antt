use Rattle.std.proofs.Common.{rules}
use Rattle.std.proofs.lemmas.List.Sorted.{IsNonDecreasingBy-from_sort_by_key}
use Rattle.log_recovery.specs.declared.found.Shadow.{Shadow}
use Rattle.volume_shadows.proofs.finding.sorted.Goals as goal

pub returns-clause-rising : goal.returns-clause-rising
returns-clause-rising c = IsNonDecreasingBy-from_sort_by_key (λ (s : Shadow). s.block.first) _ c.sort_unstable_by_key.ensures.sorted (λ a r q k. search rules)
