use Rattle.utf16_name.proofs.Grammar.{spelled_is_read}
use Rattle.utf16_name.proofs.laws.spelled_is_read.Goals as goal

pub returns : goal.returns
returns c = spelled_is_read
