use Rattle.std.proofs.Common.{◌≡◌, length, refl, arith}
use Rattle.std.proofs.lemmas.Grind.{common_steps}
use Rattle.stream_map.proofs.Reading.{front_copied}
use Rattle.stream_map.proofs.filling.copy_front.Goals as goal

pub returns : goal.returns
returns c =
    let b = c.bytes_below-known.result in
    let ys = c.copy_part.new.out in
    let size : length ys ≡ b = grind (arith, common_steps, c.copy_part.auto.out) in
    front_copied c.args.value.now c.args.at (length c.args.out.now) b c.bytes_below-from.result _ c.args.out.now ys c.clear_from.new.bytes c.copy_part.ensures c.bytes_below-known.ensures (omega (arith, c.bytes_below-from.ensures)) (grind (arith, common_steps)) size refl c.clear_from.ensures
