use Rattle.std.proofs.Common.{◌≡◌, ap, ◌∙◌, arith}
use Rattle.std.proofs.lemmas.List.Sums.{count_by-le-length}
use Rattle.data_plan.specs.draft_records.Records.{is_name, name_count}
use Rattle.made_data.proofs.putting.written.Goals as goal

pub overflow_cast-links : goal.overflow_cast-links
overflow_cast-links c =
    let names = count_by-le-length is_name c.args.file.now.attrs in
    let count : c.name_count-links.result ≡ name_count c.args.file.now.attrs = c.name_count-links.ensures ∙ ap name_count (c.as_slice.ensures ∙ c.attrs.ensures.value) in
    omega (arith, names, count, c.requires)
