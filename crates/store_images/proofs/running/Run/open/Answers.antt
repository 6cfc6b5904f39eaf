use Rattle.std.proofs.Common.{◌^◌, ◌≤◌, arith}
use Rattle.std.proofs.Math.Pow.{pow_mono}
use Rattle.log_page.specs.Places.{sequence_bits}
use Rattle.log_area.proofs.Numbering.{few_bits}
use Rattle.store_images.proofs.running.Run.open.Goals as goal

pub open_log-requires-clause-lap : goal.open_log-requires-clause-lap
open_log-requires-clause-lap c =
    let few = few_bits c.in_ok-place.place.pages in
    let three : 3 ≤ sequence_bits c.in_ok-place.place.pages = omega arith in
    let most : 2 ^ 3 ≤ 2 ^ sequence_bits c.in_ok-place.place.pages = pow_mono three in
    omega arith
