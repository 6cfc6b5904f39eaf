use Rattle.tree_laws.proofs.Owning.{takes_5, takes_6, same_5, same_6, in_no_stream}
use Rattle.tree_laws.proofs.laws.owners_kept.Goals as goal

pub returns : goal.returns
returns c = record { rule_5 = takes_5; rule_6 = takes_6; same_5 = same_5; same_6 = same_6; clear = in_no_stream }
