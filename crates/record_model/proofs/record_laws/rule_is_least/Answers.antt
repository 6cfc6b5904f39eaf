use Rattle.record_model.proofs.Rules.{least_from_err, err_from_least}
use Rattle.record_model.proofs.record_laws.rule_is_least.Goals as goal

pub returns : goal.returns
returns c = λ body rule long. (least_from_err body rule long, err_from_least body rule long)
