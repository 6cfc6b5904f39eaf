use Rattle.std.proofs.Common.{◌∙◌, length, map}
use Rattle.state_model.specs.Loads.{table_in}
use Rattle.volume_map.specs.Lists.{read_of}
use Rattle.volume_map.proofs.Owners.{extras_first}
use Rattle.volume_map.proofs.extras.extras_of.Goals as goal

pub add_all-requires-clause-extras : goal.add_all-requires-clause-extras
add_all-requires-clause-extras c = c.as_mut_slice.ensures.value ∙ extras_first (map read_of c.args.lists.now) (table_in c.args.records.now) (length c.args.records.now) _ c.in_ok-extras.ensures
