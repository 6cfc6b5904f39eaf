use Rattle.std.proofs.Common.{length, get_or, ap, arith}
use Rattle.record_model.specs.declared.attribute.Attr.{Attr}
use Rattle.record_model.specs.Attributes.{spelling}
use Rattle.record_writer.proofs.Measures.{spelled_part, spelled_short}
use Rattle.record_writer.proofs.Whole.{spelled_more}
use Rattle.record_writer.proofs.spelled.have_room.Goals as goal

pub spelled_length-bytes-requires : goal.spelled_length-bytes-requires
spelled_length-bytes-requires c =
    let fits = c.requires c.loop-attr.attr-index c.attr-item.result c.loop-attr-test.true in
    let short = spelled_short (get_or c.args.attrs.now c.loop-attr.attr-index c.attr-item.result) fits.attr in
    let item = ap (λ (a : Attr). length (spelling a)) c.attr-item.is in
    omega (arith, short, item)

pub returns-then-left-bytes : goal.returns-then-left-bytes
returns-then-left-bytes c =
    let part = spelled_part c.args.attrs.now c.loop-attr.attr-index c.attr-item.result c.loop-attr-test.true in
    let item = ap (λ (a : Attr). length (spelling a)) c.attr-item.is in
    (λ e. absurd cc, λ room. absurd (omega (arith, part, item, room, c.loop-attr.invariant, c.spelled_length-bytes.ensures, c.if-left-bytes.true)))

pub loop-attr-preserved : goal.loop-attr-preserved
loop-attr-preserved c =
    let more = spelled_more c.args.attrs.now c.loop-attr.attr-index c.attr-item.result c.loop-attr-test.true in
    let item = ap (λ (a : Attr). length (spelling a)) c.attr-item.is in
    omega (arith, more, item, c.loop-attr.invariant, c.spelled_length-bytes.ensures, c.if-left-bytes.false)
