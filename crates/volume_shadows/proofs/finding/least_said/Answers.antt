use Rattle.std.proofs.Common.{List, sym, subst, ◌∙◌}
use Rattle.std.specs.List.Sorted.{IsPermutation}
use Rattle.log_recovery.specs.declared.found.Shadow.{Shadow}
use Rattle.volume_shadows.proofs.Streaming.{live_said}
use Rattle.volume_shadows.proofs.finding.least_said.Goals as goal

pub returns : goal.returns
returns c =
    c.in_ok-least.ensures
    ∙ live_said c.args.per c.args.files.now c.args.shadows.now c.as_slice-slice.result.now (subst (λ (ys : List Shadow). IsPermutation c.args.shadows.now ys) (sym c.as_slice-slice.ensures.value) c.in_ok-sorted.ensures.same)
