use Rattle.log_page.proofs.PlacesFit.{few_laps}
use Rattle.log_page.proofs.places.lap_of.Goals as goal

pub returns-clause-small : goal.returns-clause-small
returns-clause-small c = λ some. few_laps c.args.pages c.args.lsn c.place_bits.result some c.requires c.place_bits.ensures.value c.place_bits.ensures.small c.ranges.lsn.fits
