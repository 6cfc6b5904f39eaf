use Rattle.bit_set.proofs.Members.{setting}
use Rattle.bit_set.proofs.laws.setting_unites.Goals as goal

pub returns : goal.returns
returns c = setting
