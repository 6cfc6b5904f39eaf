use Rattle.tree_laws.proofs.LookingUp.{spare_found, all_exchanged, led_by_edits, led_by_growth}
use Rattle.tree_laws.proofs.laws.trees_by_look_up.Goals as goal

pub returns : goal.returns
returns c = record { spare = spare_found; links = all_exchanged; edited = led_by_edits; grown = led_by_growth }
