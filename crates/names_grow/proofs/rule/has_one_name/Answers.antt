use Rattle.std.proofs.Common.{rules, arith}
use Rattle.std.specs.Option.{option_copied}
use Rattle.names_grow.proofs.Links.{named_by}
use Rattle.names_grow.proofs.rule.has_one_name.Goals as goal

pub returns-in-len1-clause-same : goal.returns-in-len1-clause-same
returns-in-len1-clause-same c = λ same.
    named_by c.args.number c.args.link.now c.one-item.result (option_copied c.args.file) c.in-Some.file.now c.as_slice.result.now (search rules) (search rules) (omega (arith, c.in-len1.len_at_least, c.in-len1.len_below)) (search rules) (search rules)
