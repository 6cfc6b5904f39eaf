use Rattle.log_page.proofs.Shifts.{eight_places}
use Rattle.log_page.proofs.places.offset_of.Goals as goal

pub overflow_mul-result : goal.overflow_mul-result
overflow_mul-result c = eight_places c.args.lsn c.place_bits.result c.place_bits.ensures.small
