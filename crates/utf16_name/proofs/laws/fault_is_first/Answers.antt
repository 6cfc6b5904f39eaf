use Rattle.utf16_name.proofs.Grammar.{fault_is_first}
use Rattle.utf16_name.proofs.laws.fault_is_first.Goals as goal

pub returns : goal.returns
returns c = fault_is_first
