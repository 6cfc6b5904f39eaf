use Rattle.std.proofs.Common.{ltb, get_or, rules, arith, ltb-true, ◌∙◌}
use Rattle.std.proofs.lemmas.List.Sorted.{IsPartitionPoint-from_clause, IsPartitionedBy-ltb}
use Rattle.log_recovery.specs.declared.found.Shadow.{Shadow}
use Rattle.volume_shadows.proofs.Sorting.{least_rest, least_dropped}
use Rattle.volume_shadows.proofs.searching.shadows_from.Goals as goal

pub returns-clause-same : goal.returns-clause-same
returns-clause-same c =
    let found = c.partition_point-begin in
    let parted = IsPartitionedBy-ltb (λ (s : Shadow). s.block.first) c.args.sorted.now c.args.sector (λ i j d le lt. omega (arith, c.requires.rising i j d le lt)) in
    let point = IsPartitionPoint-from_clause (λ (s : Shadow). ltb s.block.first c.args.sector) c.args.sorted.now found.result found.ensures.partitioned parted (λ a r q k. search rules) in
    λ f none. least_rest f found.result c.args.sorted.now (omega (arith, found.ensures.bound))
    ∙ least_dropped f found.result c.args.sorted.now (omega (arith, found.ensures.bound)) (λ k d lt. none (get_or c.args.sorted.now k d) (ltb-true (get_or c.args.sorted.now k d).block.first c.args.sector (point.0 k d (omega arith) lt)))
