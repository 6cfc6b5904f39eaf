use Rattle.std.proofs.Common.{◌≡◌, ap, ◌∙◌, arith}
use Rattle.std.specs.Prelude.{map}
use Rattle.record_model.specs.Records.{Record, used_of}
use Rattle.resized_streams.specs.record_writer.Normal.{normal}
use Rattle.draft_records.specs.Records.{name_count}
use Rattle.draft_records.proofs.Written.{few_names}
use Rattle.draft_records.proofs.records.written_file.Goals as goal

pub overflow_cast-links : goal.overflow_cast-links
overflow_cast-links c =
    let same : used_of c.in_ok-new.new.attrs ≡ used_of (map normal c.args.file.now.attrs) = ap (λ (r : Record). used_of r.attrs) c.in_ok-new.ensures in
    let few = few_names c.args.file.now.attrs (omega (arith, same, c.used-used.ensures.value, c.if-used-gt-RECORD_BYTES.false)) in
    let count : c.name_count-links.result ≡ name_count c.args.file.now.attrs = c.name_count-links.ensures ∙ ap name_count (c.as_slice.ensures ∙ c.attrs.ensures.value) in
    omega (arith, few, count)
