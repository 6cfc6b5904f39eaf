use Rattle.std.proofs.Common.{◌≡◌, ap, ◌∙◌, arith}
use Rattle.image_open.specs.LogPlaces.{first_of, stream_sector}
use Rattle.image_open.proofs.Stretches.{near}
use Rattle.image_open.proofs.place.stream_sector.Goals as goal

pub returns-clause-near : goal.returns-clause-near
unfolding stream_sector
returns-clause-near c =
    let is : c.first_of.result ≡ stream_sector c.args.per c.args.runs.now c.args.n = c.first_of.ensures.value ∙ ap first_of (rw c.as_slice.ensures.value at c.block_at.ensures) in
    omega (arith, is, near c.args.per c.args.runs.now c.args.n (omega (arith, c.sectors.ensures.some, c.sectors.ensures.value)) (omega (arith, c.sectors.ensures.few, c.sectors.ensures.value)) (rw c.as_slice.ensures.value at c.as_slice.ensures.small))
