use Rattle.std_values.proofs.Putting.{byte_put}
use Rattle.std_values.proofs.bytes.put_byte.Goals as goal

pub returns : goal.returns
returns c = byte_put c.args.at c.args.value c.args.bytes.now c.ranges.value.fits
