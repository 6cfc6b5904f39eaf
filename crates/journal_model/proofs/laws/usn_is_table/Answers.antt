use Rattle.journal_model.proofs.UsnRead.{page_read, page_spelled, page_cut, page_cut_off, page_shape, page_misshapen}
use Rattle.journal_model.proofs.laws.usn_is_table.Goals as goal

pub returns : goal.returns
returns c = record {
  read = λ page at found n each. (page_read page at found n each, page_spelled page at found n);
  cut = λ page at k. (page_cut page at k, page_cut_off page at k);
  shape = λ page at k each. (page_shape page at k, page_misshapen page at k each);
}
