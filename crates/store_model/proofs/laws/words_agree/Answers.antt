use Rattle.store_model.proofs.Writes.{words_agree_law}
use Rattle.store_model.proofs.laws.words_agree.Goals as goal

pub returns : goal.returns
returns c = words_agree_law
