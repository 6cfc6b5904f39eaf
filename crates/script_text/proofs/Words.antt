-- Words of a line, and the text of a line.
use Rattle.std.proofs.Common.{◌≡◌, ℕ, Bool, true, false, List, [], ◌∷◌, length, map, Bor, refl, ap}
use Rattle.std.specs.Prelude.{◌==◌, ◌||◌}
use Rattle.std.specs.List.{list_any}
use Rattle.std.specs.Str.{IsUtf8, is_utf8}
use Rattle.std.proofs.lemmas.Str.{IsUtf8-from_is_utf8}

-- an empty word, whether words are texts or references to them
pub any_empty : (words : List (Bor (List ℕ))) → list_any (λ (word : List ℕ). length word == 0) (map (λ word. word.now) words) ≡ list_any (λ word. length word.now == 0) words
any_empty [] = refl
any_empty (word ∷ words) = ap (λ (b : Bool). (length word.now == 0) || b) (any_empty words)

pub not_utf8 : (bytes : List ℕ) → (IsUtf8 bytes → ⊥) → is_utf8 bytes ≡ false
not_utf8 bytes h = by (is_utf8 bytes) refl
  where
    by : (b : Bool) → is_utf8 bytes ≡ b → b ≡ false
    by true e = absurd (h (IsUtf8-from_is_utf8 bytes e))
    by false e = refl
