use Rattle.safe_blocks.proofs.Blocks.{known_or_found, is_safe}
use Rattle.safe_blocks.proofs.laws.needed_are_safe.Goals as goal

pub returns : goal.returns
returns c = record { known = λ x g clusters place v b suits needed. known_or_found x g clusters place v suits b needed; safe = is_safe }
