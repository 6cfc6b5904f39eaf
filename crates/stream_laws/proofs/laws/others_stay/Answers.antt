use Rattle.stream_laws.proofs.Recording.{leaves, other_slot, other_body}
use Rattle.stream_laws.proofs.laws.others_stay.Goals as goal

pub returns : goal.returns
returns c = record { leaves = λ writes per e m some once all. leaves per e m writes some once all; slot = other_slot; body = other_body }
