use Rattle.std.proofs.Common.{ltb, get_or, rules, arith}
use Rattle.std.proofs.lemmas.Bool.{ltb-false}
use Rattle.std.proofs.lemmas.List.Sorted.{IsPartitionPoint-from_clause, IsPartitionedBy-ltb}
use Rattle.log_recovery.specs.declared.found.Shadow.{Shadow}
use Rattle.volume_shadows.proofs.Sorting.{least_taken}
use Rattle.volume_shadows.proofs.searching.shadows_before.Goals as goal

pub returns : goal.returns
returns c =
    let found = c.partition_point-end in
    let parted = IsPartitionedBy-ltb (λ (s : Shadow). s.block.first) c.args.sorted.now c.args.sector (λ i j d le lt. omega (arith, c.requires.rising i j d le lt)) in
    let point = IsPartitionPoint-from_clause (λ (s : Shadow). ltb s.block.first c.args.sector) c.args.sorted.now found.result found.ensures.partitioned parted (λ a r q k. search rules) in
    record {
      same = λ f none. least_taken f found.result c.args.sorted.now (λ k d le lt. none (get_or c.args.sorted.now k d) (ltb-false (get_or c.args.sorted.now k d).block.first c.args.sector (point.1 k d le lt)));
    }
