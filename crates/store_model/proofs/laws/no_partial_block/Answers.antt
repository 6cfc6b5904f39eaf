use Rattle.store_model.proofs.Images.{no_partial}
use Rattle.store_model.proofs.laws.no_partial_block.Goals as goal

pub returns : goal.returns
returns c = no_partial
