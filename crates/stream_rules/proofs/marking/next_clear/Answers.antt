use Rattle.std.proofs.Common.{◌∙◌}
use Rattle.stream_rules.proofs.Clear.{next_is, next_none}
use Rattle.stream_rules.proofs.marking.next_clear.Goals as goal

pub returns-in-Some : goal.returns-in-Some
returns-in-Some c = next_is c.args.bits.now c.args.from c.in-Some.at c.in-Some.ensures

pub returns-in-None : goal.returns-in-None
returns-in-None c = c.bits.ensures ∙ next_none c.args.bits.now c.args.from c.in-None.ensures
