use Rattle.std.proofs.lemmas.Result.{err_from_is_err_and}
use Rattle.image_read.specs.volume_map.Maps.{volume_in}
use Rattle.volume_mount.proofs.Tabling.{table_fails, table_read}
use Rattle.volume_mount.proofs.loading.upper_on.Goals as goal

pub returns-in_err-upper_table-clause-value : goal.returns-in_err-upper_table-clause-value
returns-in_err-upper_table-clause-value g c =
    let p = err_from_is_err_and c.from_residual-in_err-upper_table.result c.from_residual-in_err-upper_table.ensures.1 in
    rw p.1 (table_fails _ (volume_in c.args.map.now) _ _ p.2)

pub returns-clause-value : goal.returns-clause-value
returns-clause-value g c = table_read _ (volume_in c.args.map.now) c.in_ok-upper_table.field-0 c.in_ok-upper_table.ensures.value
