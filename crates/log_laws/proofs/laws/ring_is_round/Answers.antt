use Rattle.log_laws.proofs.Behind.{none_behind, one_behind, in_ring, met_once, lsns_rise}
use Rattle.log_laws.proofs.laws.ring_is_round.Goals as goal

pub returns : goal.returns
returns c = record {
  here = none_behind;
  next = one_behind;
  inside = λ pages page k begun inside few. in_ring pages 0 page begun inside k few;
  once = λ pages page i j begun inside lt few. met_once pages 0 page begun inside i j lt few;
  rises = λ pages lap page i j small begun inside lt few. lsns_rise pages lap page begun inside i j small lt few;
}
