use Rattle.std.proofs.Common.{◌-◌, ltb, arith, rules}
use Rattle.std.proofs.lemmas.List.Sorted.{IsPartitionPoint-from_clause, IsPartitionedBy-ltb}
use Rattle.log_reading.specs.disk_model.Sectors.{sectors}
use Rattle.log_recovery.specs.declared.own.Stretch.{Stretch}
use Rattle.log_recovery.proofs.own.count_before.Goals as goal

pub returns-clause-before : goal.returns-clause-before
returns-clause-before c =
    let first = c.args.block.first in
    let parted = IsPartitionedBy-ltb (λ (s : Stretch). s.first - first) c.args.stretches.now (sectors c.args.block.kind) (λ i j d le lt. omega (arith, c.requires i j d le lt)) in
    let point = IsPartitionPoint-from_clause (λ (s : Stretch). ltb (s.first - first) (sectors c.args.block.kind)) c.args.stretches.now c.partition_point.result c.partition_point.ensures.partitioned parted (λ a r q k. search rules) in
    λ k d h. point.0 k d (omega arith) h

pub returns-clause-behind : goal.returns-clause-behind
returns-clause-behind c =
    let first = c.args.block.first in
    let parted = IsPartitionedBy-ltb (λ (s : Stretch). s.first - first) c.args.stretches.now (sectors c.args.block.kind) (λ i j d le lt. omega (arith, c.requires i j d le lt)) in
    let point = IsPartitionPoint-from_clause (λ (s : Stretch). ltb (s.first - first) (sectors c.args.block.kind)) c.args.stretches.now c.partition_point.result c.partition_point.ensures.partitioned parted (λ a r q k. search rules) in
    λ k d h lt. point.1 k d h lt
