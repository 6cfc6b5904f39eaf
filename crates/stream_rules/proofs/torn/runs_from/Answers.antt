use Rattle.std.proofs.Common.{ap₂, ◌*◌, ◌/◌, ℕ, arith}
use Rattle.stream_rules.proofs.Passing.{block_in_rest}
use Rattle.stream_rules.proofs.torn.runs_from.Goals as goal

pub returns-clause-same : goal.returns-clause-same
returns-clause-same c = block_in_rest c.args.per c.args.runs.now c.args.kind c.args.n _ c.passed-begin.result (omega (arith, c.sectors-per.ensures.some, c.sectors-per.ensures.value)) (ap₂ (λ (s p : ℕ). s * c.args.n / p) c.sectors.ensures.value c.sectors-per.ensures.value) c.passed-begin.ensures.same
