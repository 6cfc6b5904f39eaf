use Rattle.log_model.proofs.Shadowing.{shadow_found, found_shadow}
use Rattle.log_model.proofs.laws.shadow_is_rival.Goals as goal

pub returns : goal.returns
returns c = record { found = shadow_found; shadowed = found_shadow }
