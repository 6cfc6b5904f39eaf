use Rattle.std.proofs.Common.{◌≡◌, drop}
use Rattle.plan_space.specs.Spans.{is_taken}
use Rattle.plan_space.proofs.taken.is_taken.Given as goal

abbrev pub invariant-loop-span : goal.invariant-loop-span
invariant-loop-span l = is_taken (drop l.span-index l.spans) l.cluster ≡ is_taken l.spans l.cluster
