use Rattle.tree_laws.proofs.Ascending.{way_kept, in_system_kept, of_system_kept, rule_8_kept, own_children}
use Rattle.tree_laws.proofs.laws.ways_kept.Goals as goal

pub returns : goal.returns
returns c = record { way_up = way_kept; in_system = in_system_kept; of_system = of_system_kept; rule_8 = rule_8_kept; own = own_children }
