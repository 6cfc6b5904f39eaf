-- A step in names that rise.
use Rattle.std.specs.Prelude.{ℕ, Bool, true, List, [], ◌∷◌}
use Rattle.state_model.specs.file_tree.declared.link.Link.{Link}
use Rattle.state_model.specs.file_tree.Names.{comes_before}

-- a name comes before the first of those behind it, where there is one
abbrev pub starts_rising : List ℕ → Link → List Link → Bool
starts_rising upper first [] = true
starts_rising upper first (next ∷ behind) = comes_before upper first.name next.name
