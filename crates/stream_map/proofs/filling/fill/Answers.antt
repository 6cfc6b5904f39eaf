use Rattle.std.proofs.Common.{◌≡◌, length, refl, arith}
use Rattle.std.proofs.lemmas.Grind.{common_steps}
use Rattle.stream_map.proofs.Reading.{all_filled}
use Rattle.stream_map.proofs.filling.fill.Goals as goal

pub returns-clause-bytes : goal.returns-clause-bytes
returns-clause-bytes g c =
    let b = c.bytes_below-known.result in
    let ys = c.fill_placed.new.out in
    let size : length ys ≡ b = grind (arith, common_steps, c.fill_placed.auto.out) in
    all_filled (g.V.View.content c.args.v.now) c.args.per c.args.extents.now c.args.extents.now.runs c.args.at (length c.args.out.now) b _ c.args.out.now ys c.clear_from.new.bytes refl c.in_ok-fill_placed.ensures.bytes c.bytes_below-known.ensures size refl c.clear_from.ensures
