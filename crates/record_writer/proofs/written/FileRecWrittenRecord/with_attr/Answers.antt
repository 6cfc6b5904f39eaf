use Rattle.std.proofs.Common.{◌+◌, sym, ap, ◌∙◌, Ok, arith}
use Rattle.record_writer.proofs.Measures.{used_with-sum, used_with_below, is_full, has_room}
use Rattle.record_writer.proofs.written.FileRecWrittenRecord.with_attr.Goals as goal

pub used-requires : goal.used-requires
used-requires c = omega (arith, used_with-sum c.args.self.now c.args.at c.args.attr.now, used_with_below c.args.self.now c.args.at c.args.attr.now c.requires.fits c.requires.spelled)

pub spelled_length-requires : goal.spelled_length-requires
spelled_length-requires c = omega (arith, used_with-sum c.args.self.now c.args.at c.args.attr.now, used_with_below c.args.self.now c.args.at c.args.attr.now c.requires.fits c.requires.spelled)

pub overflow_cast-used : goal.overflow_cast-used
overflow_cast-used c = omega (arith, used_with-sum c.args.self.now c.args.at c.args.attr.now, used_with_below c.args.self.now c.args.at c.args.attr.now c.requires.fits c.requires.spelled, c.spelled_length.ensures)

pub overflow_add-used : goal.overflow_add-used
overflow_add-used c = omega (arith, used_with-sum c.args.self.now c.args.at c.args.attr.now, used_with_below c.args.self.now c.args.at c.args.attr.now c.requires.fits c.requires.spelled, c.used.ensures.value, c.spelled_length.ensures)

pub returns-then-used-gt-RECORD_BYTES : goal.returns-then-used-gt-RECORD_BYTES
returns-then-used-gt-RECORD_BYTES c = record {
  value = is_full c.args.self.now c.args.at (c.used.result + c.spelled_length.result) c.args.attr.now (omega (arith, c.used.ensures.value, c.spelled_length.ensures)) c.if-used-gt-RECORD_BYTES.true;
}

pub returns : goal.returns
returns c = record {
  value = has_room c.args.self.now c.args.at (c.used.result + c.spelled_length.result) c.args.attr.now (omega (arith, c.used.ensures.value, c.spelled_length.ensures)) c.if-used-gt-RECORD_BYTES.false ∙ ap Ok (sym c.in_ok-inserted.ensures);
}
