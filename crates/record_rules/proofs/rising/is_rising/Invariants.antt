use Rattle.std.proofs.Common.{◌≡◌, length}
use Rattle.state_model.specs.Rules.{is_rising}
use Rattle.record_rules.proofs.rising.is_rising.Given as goal

-- the rest rises where all do
abbrev pub invariant-loop-first : goal.invariant-loop-first
invariant-loop-first l = is_rising l.upper l.links ≡ is_rising l.upper l.rest

abbrev pub decreases-loop-first : goal.decreases-loop-first
decreases-loop-first l = length l.rest
