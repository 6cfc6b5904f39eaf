use Rattle.record_model.proofs.NodeRules.{least_from_err, err_from_least, signature_refused, body_least, body_err, root_refused, root_least, root_err}
use Rattle.record_model.proofs.node_laws.node_rule_is_least.Goals as goal

pub returns : goal.returns
returns c = record {
  entries = λ node rule. (least_from_err node rule, err_from_least node rule);
  signature = signature_refused;
  body = λ body rule signed. (body_least body rule signed, body_err body rule signed);
  root_header = root_refused;
  root = λ value rule begins. (root_least value rule begins, root_err value rule begins);
}
