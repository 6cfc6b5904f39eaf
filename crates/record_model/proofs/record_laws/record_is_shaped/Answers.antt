use Rattle.record_model.proofs.Shapes.{is_shaped}
use Rattle.record_model.proofs.record_laws.record_is_shaped.Goals as goal

pub returns : goal.returns
returns c = is_shaped
