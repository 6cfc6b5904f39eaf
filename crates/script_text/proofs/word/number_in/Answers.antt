use Rattle.std.proofs.Common.{sym}
use Rattle.script_text.proofs.Spelled.{number_is_below}
use Rattle.script_text.proofs.word.number_in.Goals as goal

pub returns-in-Some-clause-below : goal.returns-in-Some-clause-below
returns-in-Some-clause-below c = number_is_below c.args.word.now c.in-Some.number (sym c.in-Some.ensures)
