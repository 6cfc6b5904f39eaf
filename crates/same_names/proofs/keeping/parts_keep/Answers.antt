use Rattle.std.proofs.Common.{◌≡◌, ◌/◌, length, arith}
use Rattle.map_change.specs.Parts.{live_parts}
use Rattle.same_names.proofs.Kept.{other_count, left_all, all_left}
use Rattle.same_names.proofs.keeping.parts_keep.Goals as goal

pub returns-then-parts-len-clause-only : goal.returns-then-parts-len-clause-only
returns-then-parts-len-clause-only c same =
    let count : c.args.parts.now.table.real / 1024 ≡ length c.args.live.now.map.files.items = other_count (live_parts c.args.live.now) c.args.parts.now.table c.args.parts.now.records.items same in
    absurd (omega (arith, count, c.len.ensures, c.if-parts-len.true))

pub returns-clause-same : goal.returns-clause-same
returns-clause-same c =
    left_all (live_parts c.args.live.now) c.args.parts.now.table c.args.parts.now.records.items c.deref.result.now c.deref-2.result.now c.keeps_all.result c.deref.ensures.value c.deref-2.ensures.value
    (omega (arith, c.if-parts-len.false, c.len.ensures)) c.keeps_all.ensures.same

pub returns-clause-only : goal.returns-clause-only
returns-clause-only c =
    all_left (live_parts c.args.live.now) c.args.parts.now.table c.args.parts.now.records.items c.deref.result.now c.deref-2.result.now c.keeps_all.result c.deref.ensures.value c.deref-2.ensures.value c.keeps_all.ensures.only
