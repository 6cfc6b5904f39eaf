use Rattle.std.proofs.Common.{◌≡◌, None, vec_len}
use Rattle.index_plan.specs.Takings.{drawn}
use Rattle.index_plan.proofs.draft.Draft.pull.Given as goal

abbrev pub invariant-loop-link : goal.invariant-loop-link
invariant-loop-link l = record {
  drawn : drawn (record { taken = None; freed = l.freed }) l.chain.items ≡ drawn (record { taken = None; freed = l.initial.freed }) l.initial.chain.items;
  plan : l.self ≡ l.initial.self;
}

abbrev pub decreases-loop-link : goal.decreases-loop-link
decreases-loop-link l = vec_len l.chain
