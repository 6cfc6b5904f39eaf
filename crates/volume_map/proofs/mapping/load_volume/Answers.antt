use Rattle.volume_map.proofs.Mapped.{map_answered, map_parts}
use Rattle.volume_map.proofs.mapping.load_volume.Goals as goal

pub returns-clause-answer : goal.returns-clause-answer
returns-clause-answer g c =
    map_answered _ c.args.geometry.now c.args.clusters c.in_ok-table.table c.in_ok-read.read.files.items c.with_bits.result c.with_bits.ensures.certain c.with_bits.ensures.volume c.in_ok-table.ensures.answer
    (rw c.in_ok-table.ensures.kept.same at c.in_ok-read.ensures.answer)

pub returns-clause-parts : goal.returns-clause-parts
returns-clause-parts g c =
    map_parts _ c.args.geometry.now c.args.clusters c.in_ok-table.table c.in_ok-read.read.files.items c.in_ok-read.read.heads.items c.with_bits.result c.with_bits.ensures.volume c.with_bits.ensures.heads
    (rw c.in_ok-table.ensures.kept.same at c.in_ok-read.ensures.heads) (rw (c.in_ok-read.ensures.kept.same, c.in_ok-table.ensures.kept.same) at c.with_bits.ensures.records)
    (rw (c.in_ok-read.ensures.kept.same, c.in_ok-table.ensures.kept.same) at c.with_bits.ensures.clusters)
