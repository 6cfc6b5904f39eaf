-- Names that rise, from the first on.
use Rattle.std.proofs.Common.{◌≡◌, ℕ, List, [], ◌∷◌, refl}
use Rattle.std.specs.Prelude.{◌&&◌}
use Rattle.state_model.specs.file_tree.declared.link.Link.{Link}
use Rattle.state_model.specs.Rules.{is_rising}
use Rattle.record_rules.specs.Rises.{starts_rising}

pub rising_on : (upper : List ℕ) (a : Link) (links : List Link) → is_rising upper (a ∷ links) ≡ (starts_rising upper a links && is_rising upper links)
unfolding is_rising
rising_on upper a [] = refl
rising_on upper a (b ∷ links) = refl
