use Rattle.plans_lead.proofs.Leading.{all_lead}
use Rattle.plans_lead.proofs.laws.plans_lead_on.Goals as goal

pub returns : goal.returns
returns c = all_lead c.blocks_off_log.ensures c.writes_keep.ensures c.writes_keep_names.ensures c.writes_keep_lists.ensures
