use Rattle.record_model.proofs.Attributes.{own_from_table, attr_from_table, inside_from_table, length_from_own, own_bytes}
use Rattle.record_model.proofs.record_laws.attr_table_is_read.Goals as goal

pub returns : goal.returns
returns c = record {
  length = λ s rest a t. length_from_own s rest (own_from_table s a t);
  own = λ s rest a t. own_bytes s rest (own_from_table s a t);
  inside = inside_from_table;
  read = attr_from_table;
}
