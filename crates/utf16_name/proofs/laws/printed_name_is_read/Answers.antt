use Rattle.std.proofs.Common.{ap, ◌∙◌}
use Rattle.host_base.specs.Answers.{◌>>=◌}
use Rattle.utf16_name.specs.Names.{name_of}
use Rattle.utf16_name.proofs.Naming.{name_of-of_name}
use Rattle.utf16_name.proofs.Printed.{printed_is_read}
use Rattle.utf16_name.proofs.laws.printed_name_is_read.Goals as goal

pub returns : goal.returns
returns c units name =
    ap (λ read. read >>= name_of) (printed_is_read units (λ k d lt. (name.lawful k d lt).0)) ∙ name_of-of_name units name
