use Rattle.store_model.proofs.Rests.{rest_tells as lemma}
use Rattle.store_model.proofs.laws.rest_tells.Goals as goal

pub returns : goal.returns
returns c = lemma
