use Rattle.plan_model.proofs.Parting.{joined_stream, joined_one}
use Rattle.plan_model.proofs.laws.pieces_joined.Goals as goal

pub returns : goal.returns
returns c = record { stream = joined_stream; are = joined_one }
