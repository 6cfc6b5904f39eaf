-- The least of numbers that may not be there.
use Rattle.std.specs.Prelude.{ℕ, min, List, [], ◌∷◌, Option, Some, None}

-- the lesser of two
abbrev pub lesser : Option ℕ → Option ℕ → Option ℕ
lesser None b = b
lesser (Some a) None = Some a
lesser (Some a) (Some b) = Some (min a b)

-- the least of what each of these gives; none where none gives any
abbrev pub least_of : {A : Type 0} → (A → Option ℕ) → List A → Option ℕ
least_of f [] = None
least_of f (x ∷ xs) = lesser (f x) (least_of f xs)
