use Rattle.std.proofs.Common.{◌≡◌, None}
use Rattle.state_model.specs.Loads.{first_of, rule_refusal}
use Rattle.volume_map.specs.Lists.{rule_by}
use Rattle.volume_map.proofs.judging.check_rules.Given as goal

abbrev pub invariant-loop-number : goal.invariant-loop-number
invariant-loop-number l = first_of (λ n. rule_refusal n (rule_by l.per l.cut n l.rules l.tens l.files)) l.number ≡ None
