use Rattle.names_grow.proofs.Telling.{puts_more}
use Rattle.names_grow.proofs.making.put_name.Goals as goal

pub returns : goal.returns
returns c = record { named = puts_more c.grown_names.ensures c.args.name c.args.names.now c.put.new.names c.put.ensures.puts }
