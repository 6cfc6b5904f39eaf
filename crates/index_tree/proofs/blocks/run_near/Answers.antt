use Rattle.std.proofs.Common.{leb, rules}
use Rattle.std.proofs.lemmas.List.Sorted.{IsPartitionPoint-from_clause, IsPartitionedBy-leb}
use Rattle.stream_map.specs.record_model.declared.runs.Run.{Run}
use Rattle.index_tree.proofs.Near.{rising, near_holds}
use Rattle.index_tree.proofs.blocks.run_near.Goals as goal

pub returns-clause-same : goal.returns-clause-same
returns-clause-same c =
    let parted = IsPartitionedBy-leb (λ (r : Run). r.vcn) _ c.args.vcn (rising c.args.runs.now c.requires.apart) in
    let point = IsPartitionPoint-from_clause (λ (r : Run). leb r.vcn c.args.vcn) _ _ c.partition_point-behind.ensures.partitioned parted (λ a r q k. search rules) in
    λ last order. near_holds c.args.vcn last c.args.runs.now c.saturating_sub.result c.partition_point-behind.result order c.requires.apart c.partition_point-behind.ensures.bound c.saturating_sub.ensures point
