use Rattle.plans_keep.proofs.Keeping.{kept}
use Rattle.plans_keep.proofs.laws.plans_keep.Goals as goal

pub returns : goal.returns
returns c = kept c.drafts_go_on.ensures c.plans_spare.ensures
