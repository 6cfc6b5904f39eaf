-- The place of a new entry.
use Rattle.std.specs.Prelude.{◌≡◌, Bool, true, List, [], ◌∷◌, if◌then◌else◌}
use Rattle.index_model.specs.declared.key.Key.{Key}
use Rattle.index_model.specs.Trees.{Tree, Leaf, Down, Entry, DownEntry}
use Rattle.index_plan.specs.Paths.{Path, Here, Below, Behind}

-- the way to the place before the first key that the new one goes before
abbrev pub path_to : (Key → Bool) → Tree → Path
path_to goes Leaf = Here
path_to goes (Down v t) = Below (path_to goes t)
path_to goes (Entry key rest) = if goes key then Here else Behind (path_to goes rest)
path_to goes (DownEntry v t key rest) = if goes key then Below (path_to goes t) else Behind (path_to goes rest)

-- a key put into a list before the first one that it goes before
abbrev pub put : (Key → Bool) → Key → List Key → List Key
put goes new [] = new ∷ []
put goes new (key ∷ keys) = if goes key then new ∷ key ∷ keys else key ∷ put goes new keys

abbrev pub GoesAll : (Key → Bool) → List Key → Type 0
GoesAll goes [] = Unit {0}
GoesAll goes (key ∷ keys) = (goes key ≡ true) × GoesAll goes keys

-- a key that goes before one of them goes before each later one
abbrev pub Rises : (Key → Bool) → List Key → Type 0
Rises goes [] = Unit {0}
Rises goes (key ∷ keys) = (goes key ≡ true → GoesAll goes keys) × Rises goes keys
