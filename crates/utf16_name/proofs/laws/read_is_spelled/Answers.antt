use Rattle.utf16_name.proofs.Grammar.{read_is_spelled}
use Rattle.utf16_name.proofs.laws.read_is_spelled.Goals as goal

pub returns : goal.returns
returns c = read_is_spelled
