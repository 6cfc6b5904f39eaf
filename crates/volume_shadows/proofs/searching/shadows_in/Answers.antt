use Rattle.std.proofs.Common.{arith, ◌∙◌}
use Rattle.volume_shadows.specs.Tries.{tried}
use Rattle.volume_shadows.proofs.Placing.{tried_before, tried_behind}
use Rattle.volume_shadows.proofs.searching.shadows_in.Goals as goal

pub returns : goal.returns
returns c = record {
  same = λ kind count near.
      c.shadows_before.ensures.same (tried c.args.per kind count near c.args.run.now) (λ s le. tried_behind c.args.per kind count near c.args.run.now s (omega (arith, le, c.run_end.ensures)))
      ∙ c.shadows_from-behind.ensures.same (tried c.args.per kind count near c.args.run.now) (λ s lt. tried_before c.args.per kind count near c.args.run.now s (omega (arith, lt, c.run_first.ensures)));
}
