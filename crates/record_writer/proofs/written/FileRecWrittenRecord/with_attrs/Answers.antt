use Rattle.std.proofs.Common.{sym, ap, ◌∙◌, Ok}
use Rattle.record_writer.proofs.Measures.{made_full, made_whole}
use Rattle.record_writer.proofs.written.FileRecWrittenRecord.with_attrs.Goals as goal

pub returns-then-whole-gt-RECORD_BYTES : goal.returns-then-whole-gt-RECORD_BYTES
returns-then-whole-gt-RECORD_BYTES c = record { value = made_full c.args.head c.args.attrs.now c.used_by-whole.result c.used_by-whole.ensures c.if-whole-gt-RECORD_BYTES.true }

pub returns : goal.returns
returns c = record { value = made_whole c.args.head c.args.attrs.now c.used_by-whole.result c.used_by-whole.ensures c.if-whole-gt-RECORD_BYTES.false ∙ ap Ok (sym c.in_ok-copied.ensures) }
