use Rattle.std.proofs.Common.{length, ◌∙◌}
use Rattle.state_model.specs.Loads.{table_in}
use Rattle.record_rules.proofs.Tallies.{names_known}
use Rattle.directory_index.proofs.Numbers.{kept_nowhere, kept_here, directory_file}
use Rattle.directory_index.proofs.breaking.keeps_index.Goals as goal

pub returns-in_default-clause-value : goal.returns-in_default-clause-value
returns-in_default-clause-value g c = kept_nowhere _ c.args.per c.args.up.now c.args.files.now c.args.number c.in_default.ensures

pub has_index-requires-clause-counted : goal.has_index-requires-clause-counted
has_index-requires-clause-counted g c =
    rw c.head.ensures.value (c.requires.counted c.args.number c.requires.inside ∙ names_known (table_in c.args.files.now) c.args.number (length c.args.files.now) c.in-Some.file.now (directory_file c.args.files.now c.args.number c.in-Some.file.now c.in-Some.ensures))

pub returns-clause-value : goal.returns-clause-value
returns-clause-value g c =
    kept_here _ c.args.per c.args.up.now c.args.files.now c.args.number c.in-Some.file.now _ c.in-Some.ensures (rw c.head.ensures.value at c.has_index.ensures.value)
