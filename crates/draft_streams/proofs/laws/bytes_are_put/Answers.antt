use Rattle.draft_streams.proofs.Effecting.{effects}
use Rattle.draft_streams.proofs.laws.bytes_are_put.Goals as goal

pub returns : goal.returns
returns c = effects
