use Rattle.std.proofs.Common.{length, ap, ◌∙◌, arith}
use Rattle.record_writer.specs.Edits.{form_length}
use Rattle.record_writer.proofs.Measures.{length-spelling, spelled_short}
use Rattle.record_writer.proofs.attrs.put_attr.Goals as goal

pub put_resident-requires-clause-room : goal.put_resident-requires-clause-room
put_resident-requires-clause-room c =
    let e = length-spelling c.args.attr.now ∙ ap (form_length (length c.args.attr.now.name)) c.in-Resident.is in
    let name = ap length c.as_slice-name.ensures in
    let value = ap length c.as_slice.ensures in
    omega (arith, e, name, value, c.requires.room)

pub put_mapped-requires-clause-room : goal.put_mapped-requires-clause-room
put_mapped-requires-clause-room c =
    let e = length-spelling c.args.attr.now ∙ ap (form_length (length c.args.attr.now.name)) c.in-Mapped.is in
    let name = ap length c.as_slice-name.ensures in
    let pairs = ap length c.as_slice-in-Mapped.ensures in
    omega (arith, e, name, pairs, c.requires.room)

pub spelled_length-requires : goal.spelled_length-requires
spelled_length-requires c = spelled_short c.args.attr.now c.requires.fits
