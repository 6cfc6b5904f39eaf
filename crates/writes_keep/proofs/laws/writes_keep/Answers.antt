use Rattle.writes_keep.proofs.Keeping.{all_kept}
use Rattle.writes_keep.proofs.laws.writes_keep.Goals as goal

pub returns : goal.returns
returns c = all_kept c.made_is_counted.ensures c.plans_keep.ensures c.record_is_body.ensures
