use Rattle.plan_model.proofs.Parting.{links_replaced, uses_replaced, types_same, info_same, attributes_same, stream_same, names_same, sizes_replaced, streams_replaced}
use Rattle.plan_model.proofs.laws.attrs_replaced.Goals as goal

pub returns : goal.returns
returns c = record {
  links = λ part new_part n r s k. links_replaced part new_part r s k n;
  uses_sum = λ part new_part r s x k. uses_replaced part new_part r s k x;
  types = λ part new_part r s kind k none. types_same part new_part r s k kind none;
  info = λ part new_part r s k none. info_same part new_part r s k none;
  attributes = λ part new_part r s kind name k none. attributes_same part new_part r s k kind name none;
  stream = λ part new_part r s kind name k none. stream_same part new_part r s k kind name none;
  names = λ part new_part n r s links k none. names_same part new_part r s k n links none;
  sizes = λ part new_part r s per clusters k kept come others. sizes_replaced part new_part r s k per clusters kept come others;
  streams = λ part new_part c v n r s k spares kept come others. streams_replaced part new_part r s k c v n spares kept come others;
}
