use Rattle.std.proofs.Common.{◌≡◌, length, ◌∙◌, arith, rules}
use Rattle.std.proofs.lemmas.Grind.{common_steps}
use Rattle.stream_map.proofs.Reading.{next_filled}
use Rattle.stream_map.proofs.filling.fill_placed.Goals as goal

pub loop-done-preserved : goal.loop-done-preserved
loop-done-preserved g c =
    let known = g.V.View.content c.args.v.now in
    let now = g.V.View.content c.loop-done.v in
    let k = c.bytes_in_sector.result in
    let ys = c.fill_part.new.out in
    let size : length ys ≡ k = grind (arith, common_steps, c.fill_part.auto.out) in
    record {
      bytes = next_filled known now c.args.per c.args.runs.now c.args.at c.loop-done.done k _ _ c.loop-done.out ys c.loop-done.invariant.same c.loop-done.invariant.bytes c.in_ok-fill_part.ensures.bytes c.loop-done.invariant.inside size;
      inside = search rules;
      same = c.in_ok-fill_part.ensures.same ∙ c.loop-done.invariant.same;
      kept = c.in_ok-fill_part.ensures.kept ∙ c.loop-done.invariant.kept;
      counted = c.in_ok-fill_part.ensures.cause.unfailed ∙ c.loop-done.invariant.counted;
    }
