use Rattle.plan_model.proofs.Making.{leads_to_made, has_made, goes_on_made}
use Rattle.plan_model.proofs.laws.file_is_made.Goals as goal

pub returns : goal.returns
returns c = record {
  stands = λ c g clusters v n dir f r s link bodies sized state k. (leads_to_made c g clusters v n dir f r s link bodies sized state k).stands;
  tree = has_made;
  goes_on = λ first start c g clusters v n dir f r s link bodies gave sized state k clear. goes_on_made c g clusters v n dir f r s link bodies sized state k first start gave clear;
}
