use Rattle.std.proofs.Common.{◌∙◌, sym, arith}
use Rattle.volume_map.specs.Lists.{rule_by}
use Rattle.volume_map.proofs.Steps.{no_rule, one_rule, no_rules}
use Rattle.volume_map.proofs.judging.check_rules.Goals as goal

pub loop-number-init : goal.loop-number-init
loop-number-init c = no_rules _

pub loop-number-preserved : goal.loop-number-preserved
loop-number-preserved c = no_rule (λ n. rule_by c.args.per c.args.cut n c.args.rules.now c.args.tens.now c.args.files.now) c.loop-number.number c.loop-number.invariant (sym c.in_ok-rule_at.ensures ∙ c.in-None.is)

pub returns-in-Some : goal.returns-in-Some
returns-in-Some c = one_rule (λ n. rule_by c.args.per c.args.cut n c.args.rules.now c.args.tens.now c.args.files.now) c.loop-number.number _ c.in-Some.rule (omega arith) c.loop-number.invariant (sym c.in_ok-rule_at.ensures ∙ c.in-Some.is)
