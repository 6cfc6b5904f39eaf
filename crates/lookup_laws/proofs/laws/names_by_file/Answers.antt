use Rattle.lookup_laws.proofs.Owning.{own_names, own_long_names, own_parent}
use Rattle.lookup_laws.proofs.laws.names_by_file.Goals as goal

pub returns : goal.returns
returns c = record { own = own_names; long = own_long_names; parent = own_parent }
