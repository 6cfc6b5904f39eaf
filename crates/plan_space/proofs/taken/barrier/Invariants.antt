use Rattle.std.proofs.Common.{◌≡◌, drop}
use Rattle.plan_space.specs.Spans.{barrier}
use Rattle.plan_space.proofs.taken.barrier.Given as goal

abbrev pub invariant-loop-span : goal.invariant-loop-span
invariant-loop-span l = barrier l.first l.end (drop l.span-index l.spans) ≡ barrier l.first l.end l.spans
