use Rattle.volume_model.proofs.Loading.{loaded_again}
use Rattle.volume_model.proofs.laws.loaded_files.Goals as goal

pub returns : goal.returns
returns c = loaded_again
