use Rattle.plans_lead.proofs.Welcoming.{kept_welcome}
use Rattle.plans_lead.proofs.laws.kept_is_welcome.Goals as goal

pub returns : goal.returns
returns c = kept_welcome
