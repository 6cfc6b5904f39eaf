use Rattle.utf16_name.proofs.Printed.{printed_is_read}
use Rattle.utf16_name.proofs.laws.printed_is_read.Goals as goal

pub returns : goal.returns
returns c = printed_is_read
