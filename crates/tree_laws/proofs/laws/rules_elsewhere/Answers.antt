use Rattle.tree_laws.proofs.Ruling.{keeps_none, keeps_both, rule_1, rule_2, own_2, rule_3, rule_4, rule_7, rule_8, own_8}
use Rattle.tree_laws.proofs.laws.rules_elsewhere.Goals as goal

pub returns : goal.returns
returns c = record {
  neither = keeps_none;
  both = keeps_both;
  names = rule_1;
  directories = rule_2;
  own_directories = own_2;
  index = rule_3;
  sizes = rule_4;
  record_bit = rule_7;
  way_up = rule_8;
  own_way_up = own_8;
}
