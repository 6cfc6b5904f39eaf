use Rattle.std.proofs.Common.{length, ap, arith}
use Rattle.record_model.specs.declared.attribute.Attr.{Attr}
use Rattle.record_model.specs.Attributes.{spelling}
use Rattle.record_writer.proofs.Measures.{spelled_part}
use Rattle.record_writer.proofs.Pieces.{nothing_put}
use Rattle.record_writer.proofs.Whole.{spelled_more, attr_put}
use Rattle.record_writer.proofs.attrs.put_attrs.Goals as goal

pub loop-attr-init : goal.loop-attr-init
loop-attr-init c = record { place = omega arith; bytes = nothing_put c.args.at c.args.out.now }

pub put_attr-place-requires-clause-room : goal.put_attr-place-requires-clause-room
put_attr-place-requires-clause-room c =
    let part = spelled_part c.args.attrs.now c.loop-attr.attr-index c.attr-item.result c.loop-attr-test.true in
    let item = ap (λ (a : Attr). length (spelling a)) c.attr-item.is in
    omega (arith, part, item, c.requires.room, c.loop-attr.invariant.place, c.loop-attr.auto.out)

pub loop-attr-preserved : goal.loop-attr-preserved
loop-attr-preserved c =
    let more = spelled_more c.args.attrs.now c.loop-attr.attr-index c.attr-item.result c.loop-attr-test.true in
    let item = ap (λ (a : Attr). length (spelling a)) c.attr-item.is in
    record {
      place = omega (arith, more, item, c.loop-attr.invariant.place, c.put_attr-place.ensures.place);
      bytes =
          attr_put
          c.args.attrs.now
          c.loop-attr.attr-index
          c.attr-item.result
          c.attr-item.result
          c.args.at
          c.loop-attr.place
          c.args.out.now
          c.loop-attr.out
          c.put_attr-place.new.out
          c.loop-attr-test.true
          c.attr-item.is
          c.loop-attr.invariant.place
          c.loop-attr.invariant.bytes
          c.put_attr-place.ensures.bytes;
    }
