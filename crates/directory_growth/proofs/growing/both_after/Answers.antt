use Rattle.std.proofs.Common.{sym, subst}
use Rattle.std.proofs.lemmas.Result.{err_from_is_err_and}
use Rattle.data_plan.specs.declared.fault.DataFault.{DataFault}
use Rattle.space_model.specs.Choosing.{chosen}
use Rattle.stream_runs.specs.Runs.{last_cluster}
use Rattle.std.specs.Prelude.{length, Result}
use Rattle.directory_growth.specs.declared.change.IndexChange.{IndexChange}
use Rattle.directory_growth.specs.Growing.{IndexAfter}
use Rattle.directory_growth.proofs.Step.{Gets}
use Rattle.directory_growth.proofs.Answering.{blocks_err, memory_behind, counted_is, joined_after, gives_bits, at_least}
use Rattle.directory_growth.proofs.growing.both_after.Goals as goal

pub returns-in_err-z-clause-after : goal.returns-in_err-z-clause-after
returns-in_err-z-clause-after g c = λ n t root_is.
    let bits = g.B.FreeBits.bits c.args.bits.now in
    let size = c.size_with-size.result in
    let wanted = c.lacking-wanted.result in
    let gets : Gets c.args.file.now t c.args.more c.args.root c.args.blocks.now c.args.bitmap.now size wanted = record {
      clusters = length bits;
      has = c.requires.has;
      little = c.requires.little;
      blocks = c.requires.blocks;
      bitmap = c.requires.bitmap;
      root_is = root_is;
      size_is = c.size_with-size.ensures;
      wanted_is = c.lacking-wanted.ensures.value;
    } in
    let p = err_from_is_err_and c.from_residual.result c.from_residual.ensures.1 in
    rw (p.1, p.2) (blocks_err bits (g.B.FreeBits.bits c.longer.new.bits) n c.args.file.now t c.args.more c.args.root c.args.blocks.now c.args.bitmap.now size wanted c.in_err-z.field-0.0 gets c.in_err-z.ensures.short c.in_err-z.ensures.unchanged c.in_err-z.ensures.enough c.in_err-z.ensures.first)

pub returns-in_err-with-clause-after : goal.returns-in_err-with-clause-after
returns-in_err-with-clause-after g c = λ n t root_is.
    let bits = g.B.FreeBits.bits c.args.bits.now in
    let size = c.size_with-size.result in
    let wanted = c.lacking-wanted.result in
    let gets : Gets c.args.file.now t c.args.more c.args.root c.args.blocks.now c.args.bitmap.now size wanted = record {
      clusters = length bits;
      has = c.requires.has;
      little = c.requires.little;
      blocks = c.requires.blocks;
      bitmap = c.requires.bitmap;
      root_is = root_is;
      size_is = c.size_with-size.ensures;
      wanted_is = c.lacking-wanted.ensures.value;
    } in
    let p = err_from_is_err_and c.from_residual-in_err-with.result c.from_residual-in_err-with.ensures.1 in
    rw (p.1, p.2) (memory_behind bits (g.B.FreeBits.bits c.longer.new.bits) n c.args.file.now t c.args.more c.args.root c.args.blocks.now c.args.bitmap.now size wanted gets c.in_ok-z.ensures.bits c.in_ok-z.ensures.short)

pub bits_after-answer-requires-clause-clusters : goal.bits_after-answer-requires-clause-clusters
bits_after-answer-requires-clause-clusters g c =
    let bits = g.B.FreeBits.bits c.args.bits.now in
    let size = c.size_with-size.result in
    let wanted = c.lacking-wanted.result in
    let counted = counted_is c.args.per bits c.args.root c.args.file.now c.in_ok-with.with c.args.blocks.now c.in_ok-z.z.extents size wanted c.requires.per c.in_ok-z.ensures.value.extents c.in_ok-with.ensures.value in
    (gives_bits bits (g.B.FreeBits.bits c.longer.new.bits) (chosen bits (last_cluster c.args.blocks.now.runs) wanted) c.args.file.now c.in_ok-with.with c.args.blocks.now c.args.bitmap.now c.args.root c.args.more size wanted c.bits_size-least.result c.requires.clusters c.requires.has c.requires.little c.requires.blocks c.requires.bitmap c.size_with-size.ensures c.in_ok-z.ensures.bits counted c.bits_size-least.ensures).clusters

pub bits_after-answer-requires-clause-begins : goal.bits_after-answer-requires-clause-begins
bits_after-answer-requires-clause-begins g c =
    let bits = g.B.FreeBits.bits c.args.bits.now in
    let size = c.size_with-size.result in
    let wanted = c.lacking-wanted.result in
    let counted = counted_is c.args.per bits c.args.root c.args.file.now c.in_ok-with.with c.args.blocks.now c.in_ok-z.z.extents size wanted c.requires.per c.in_ok-z.ensures.value.extents c.in_ok-with.ensures.value in
    (gives_bits bits (g.B.FreeBits.bits c.longer.new.bits) (chosen bits (last_cluster c.args.blocks.now.runs) wanted) c.args.file.now c.in_ok-with.with c.args.blocks.now c.args.bitmap.now c.args.root c.args.more size wanted c.bits_size-least.result c.requires.clusters c.requires.has c.requires.little c.requires.blocks c.requires.bitmap c.size_with-size.ensures c.in_ok-z.ensures.bits counted c.bits_size-least.ensures).begins

pub bits_after-answer-requires-clause-is : goal.bits_after-answer-requires-clause-is
bits_after-answer-requires-clause-is g c =
    let bits = g.B.FreeBits.bits c.args.bits.now in
    let size = c.size_with-size.result in
    let wanted = c.lacking-wanted.result in
    let counted = counted_is c.args.per bits c.args.root c.args.file.now c.in_ok-with.with c.args.blocks.now c.in_ok-z.z.extents size wanted c.requires.per c.in_ok-z.ensures.value.extents c.in_ok-with.ensures.value in
    (gives_bits bits (g.B.FreeBits.bits c.longer.new.bits) (chosen bits (last_cluster c.args.blocks.now.runs) wanted) c.args.file.now c.in_ok-with.with c.args.blocks.now c.args.bitmap.now c.args.root c.args.more size wanted c.bits_size-least.result c.requires.clusters c.requires.has c.requires.little c.requires.blocks c.requires.bitmap c.size_with-size.ensures c.in_ok-z.ensures.bits counted c.bits_size-least.ensures).is

pub bits_after-answer-requires-clause-stands : goal.bits_after-answer-requires-clause-stands
bits_after-answer-requires-clause-stands g c =
    let bits = g.B.FreeBits.bits c.args.bits.now in
    let size = c.size_with-size.result in
    let wanted = c.lacking-wanted.result in
    let counted = counted_is c.args.per bits c.args.root c.args.file.now c.in_ok-with.with c.args.blocks.now c.in_ok-z.z.extents size wanted c.requires.per c.in_ok-z.ensures.value.extents c.in_ok-with.ensures.value in
    (gives_bits bits (g.B.FreeBits.bits c.longer.new.bits) (chosen bits (last_cluster c.args.blocks.now.runs) wanted) c.args.file.now c.in_ok-with.with c.args.blocks.now c.args.bitmap.now c.args.root c.args.more size wanted c.bits_size-least.result c.requires.clusters c.requires.has c.requires.little c.requires.blocks c.requires.bitmap c.size_with-size.ensures c.in_ok-z.ensures.bits counted c.bits_size-least.ensures).stands

pub bits_after-answer-requires-clause-short : goal.bits_after-answer-requires-clause-short
bits_after-answer-requires-clause-short g c =
    let bits = g.B.FreeBits.bits c.args.bits.now in
    let size = c.size_with-size.result in
    let wanted = c.lacking-wanted.result in
    let counted = counted_is c.args.per bits c.args.root c.args.file.now c.in_ok-with.with c.args.blocks.now c.in_ok-z.z.extents size wanted c.requires.per c.in_ok-z.ensures.value.extents c.in_ok-with.ensures.value in
    (gives_bits bits (g.B.FreeBits.bits c.longer.new.bits) (chosen bits (last_cluster c.args.blocks.now.runs) wanted) c.args.file.now c.in_ok-with.with c.args.blocks.now c.args.bitmap.now c.args.root c.args.more size wanted c.bits_size-least.result c.requires.clusters c.requires.has c.requires.little c.requires.blocks c.requires.bitmap c.size_with-size.ensures c.in_ok-z.ensures.bits counted c.bits_size-least.ensures).short

pub bits_after-answer-requires-clause-some : goal.bits_after-answer-requires-clause-some
bits_after-answer-requires-clause-some g c =
    let bits = g.B.FreeBits.bits c.args.bits.now in
    let size = c.size_with-size.result in
    let wanted = c.lacking-wanted.result in
    let counted = counted_is c.args.per bits c.args.root c.args.file.now c.in_ok-with.with c.args.blocks.now c.in_ok-z.z.extents size wanted c.requires.per c.in_ok-z.ensures.value.extents c.in_ok-with.ensures.value in
    (gives_bits bits (g.B.FreeBits.bits c.longer.new.bits) (chosen bits (last_cluster c.args.blocks.now.runs) wanted) c.args.file.now c.in_ok-with.with c.args.blocks.now c.args.bitmap.now c.args.root c.args.more size wanted c.bits_size-least.result c.requires.clusters c.requires.has c.requires.little c.requires.blocks c.requires.bitmap c.size_with-size.ensures c.in_ok-z.ensures.bits counted c.bits_size-least.ensures).some

pub bits_after-answer-requires-clause-least : goal.bits_after-answer-requires-clause-least
bits_after-answer-requires-clause-least g c =
    let bits = g.B.FreeBits.bits c.args.bits.now in
    let size = c.size_with-size.result in
    let wanted = c.lacking-wanted.result in
    let counted = counted_is c.args.per bits c.args.root c.args.file.now c.in_ok-with.with c.args.blocks.now c.in_ok-z.z.extents size wanted c.requires.per c.in_ok-z.ensures.value.extents c.in_ok-with.ensures.value in
    (gives_bits bits (g.B.FreeBits.bits c.longer.new.bits) (chosen bits (last_cluster c.args.blocks.now.runs) wanted) c.args.file.now c.in_ok-with.with c.args.blocks.now c.args.bitmap.now c.args.root c.args.more size wanted c.bits_size-least.result c.requires.clusters c.requires.has c.requires.little c.requires.blocks c.requires.bitmap c.size_with-size.ensures c.in_ok-z.ensures.bits counted c.bits_size-least.ensures).few

pub returns-clause-after : goal.returns-clause-after
returns-clause-after g c = λ n t root_is.
    let bits = g.B.FreeBits.bits c.args.bits.now in
    let now = g.B.FreeBits.bits c.longer.new.bits in
    let new = g.B.FreeBits.bits c.bits_after-answer.new.bits in
    let size = c.size_with-size.result in
    let wanted = c.lacking-wanted.result in
    let r = c.args.file.now in
    let e = c.args.blocks.now in
    let s = c.args.bitmap.now in
    let gets : Gets r t c.args.more c.args.root e s size wanted = record {
      clusters = length bits;
      has = c.requires.has;
      little = c.requires.little;
      blocks = c.requires.blocks;
      bitmap = c.requires.bitmap;
      root_is = root_is;
      size_is = c.size_with-size.ensures;
      wanted_is = c.lacking-wanted.ensures.value;
    } in
    let counted = counted_is c.args.per bits c.args.root r c.in_ok-with.with e c.in_ok-z.z.extents size wanted c.requires.per c.in_ok-z.ensures.value.extents c.in_ok-with.ensures.value in
    let after = joined_after c.args.per bits now new n r c.in_ok-with.with t c.args.more c.args.root e s size wanted c.room_in-room.result c.in_ok-z.z c.bits_after-answer.result c.requires.per gets c.in_ok-z.ensures.value c.in_ok-z.ensures.bits c.in_ok-z.ensures.short counted c.room_in-room.ensures
    (at_least now new c.in_ok-with.with c.in_ok-z.z.file s n c.bits_size-least.result size c.bits_after-answer.result c.bits_size-least.ensures (c.bits_after-answer.ensures.after n)) in
    subst (λ (answer : Result IndexChange DataFault). IndexAfter bits new n r t c.args.more answer) (sym c.joined.ensures) after
