use Rattle.std.proofs.Common.{◌^◌, ◌≤◌, arith}
use Rattle.std.proofs.Math.Pow.{pow_mono}
use Rattle.log_page.specs.Places.{sequence_bits}
use Rattle.log_area.proofs.Numbering.{few_bits}
use Rattle.area_rows.proofs.rings.ring.Goals as goal

pub start-requires-clause-lap : goal.start-requires-clause-lap
start-requires-clause-lap c =
    let few = few_bits c.in_ok-place.place.pages in
    let three : 3 ≤ sequence_bits c.in_ok-place.place.pages = omega arith in
    let most : 2 ^ 3 ≤ 2 ^ sequence_bits c.in_ok-place.place.pages = pow_mono three in
    omega (arith, c.if-lap-gt3.false)
