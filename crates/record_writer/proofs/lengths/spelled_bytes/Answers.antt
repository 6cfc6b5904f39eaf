use Rattle.std.proofs.Common.{length, ap, arith}
use Rattle.record_model.specs.declared.attribute.Attr.{Attr}
use Rattle.record_model.specs.Attributes.{spelling}
use Rattle.record_writer.proofs.Measures.{spelled_part}
use Rattle.record_writer.proofs.Whole.{spelled_more}
use Rattle.record_writer.proofs.lengths.spelled_bytes.Goals as goal

pub spelled_length-sum-requires : goal.spelled_length-sum-requires
spelled_length-sum-requires c =
    let part = spelled_part c.args.attrs.now c.loop-attr.attr-index c.attr-item.result c.loop-attr-test.true in
    let item = ap (λ (a : Attr). length (spelling a)) c.attr-item.is in
    omega (arith, part, item, c.requires)

pub overflow_add-sum : goal.overflow_add-sum
overflow_add-sum c =
    let part = spelled_part c.args.attrs.now c.loop-attr.attr-index c.attr-item.result c.loop-attr-test.true in
    let item = ap (λ (a : Attr). length (spelling a)) c.attr-item.is in
    omega (arith, part, item, c.requires, c.loop-attr.invariant, c.spelled_length-sum.ensures)

pub loop-attr-preserved : goal.loop-attr-preserved
loop-attr-preserved c =
    let more = spelled_more c.args.attrs.now c.loop-attr.attr-index c.attr-item.result c.loop-attr-test.true in
    let item = ap (λ (a : Attr). length (spelling a)) c.attr-item.is in
    omega (arith, more, item, c.loop-attr.invariant, c.spelled_length-sum.ensures)
