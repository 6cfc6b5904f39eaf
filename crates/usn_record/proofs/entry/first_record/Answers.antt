use Rattle.std.proofs.Common.{sym, ◌∙◌}
use Rattle.std.proofs.lemmas.Result.{err_from_is_err_and}
use Rattle.journal_model.specs.UsnRecords.{usn_of}
use Rattle.journal_model.proofs.UsnRead.{sound_parts}
use Rattle.usn_record.proofs.Judged.{layout_sound}
use Rattle.usn_record.proofs.Chained.{known_is, other_is, refused_too, entry_read}
use Rattle.usn_record.proofs.entry.first_record.Goals as goal

pub returns-in_err-length-clause-value : goal.returns-in_err-length-clause-value
returns-in_err-length-clause-value c =
    let p = err_from_is_err_and c.from_residual.result c.from_residual.ensures.1 in
    rw (p.1, p.2) (refused_too c.args.bytes.now c.args.at _ c.in_err-length.ensures.value)

pub returns-then-not-is_known-clause-value : goal.returns-then-not-is_known-clause-value
returns-then-not-is_known-clause-value c =
    other_is c.args.bytes.now c.args.at c.in_ok-length.length c.in_ok-length.ensures.value c.split_at.result.0.now c.split_at.ensures.front (sym c.is_known.ensures ∙ c.if-not-is_known.true)

pub entry-requires-clause-inside : goal.entry-requires-clause-inside
entry-requires-clause-inside c =
    let k = known_is c.args.bytes.now c.args.at c.in_ok-length.length c.in_ok-length.ensures.value c.split_at.result.0.now c.split_at.ensures.front (sym c.is_known.ensures ∙ c.if-not-is_known.false) in
    layout_sound c.args.at c.split_at.result.0.now k.1

pub entry-requires-clause-name : goal.entry-requires-clause-name
entry-requires-clause-name c =
    let k = known_is c.args.bytes.now c.args.at c.in_ok-length.length c.in_ok-length.ensures.value c.split_at.result.0.now c.split_at.ensures.front (sym c.is_known.ensures ∙ c.if-not-is_known.false) in
    (sound_parts c.args.at c.split_at.result.0.now k.1).name

pub returns-clause-value : goal.returns-clause-value
returns-clause-value c =
    let k = known_is c.args.bytes.now c.args.at c.in_ok-length.length c.in_ok-length.ensures.value c.split_at.result.0.now c.split_at.ensures.front (sym c.is_known.ensures ∙ c.if-not-is_known.false) in
    entry_read c.args.bytes.now c.args.at c.in_ok-length.length (usn_of c.split_at.result.0.now) _ k.0 c.in_ok-entry.ensures
