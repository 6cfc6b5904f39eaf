use Rattle.std.proofs.Common.{rules}
use Rattle.new_files.specs.Laws.{HasFields}
use Rattle.place_makes.proofs.Keys.{key_lawful}
use Rattle.place_makes.proofs.planning.key_of.Goals as goal

pub returns-clause-lawful : goal.returns-clause-lawful
returns-clause-lawful c =
    let has : HasFields 0 c.args.file c.args.parent c.args.name.now c.args.stamp = search rules in
    key_lawful c.new_file_reads.ensures c.args.file c.args.parent c.args.name.now c.args.stamp c.new_key.result has c.new_key.ensures.value
