-- What a chain of tests says that goes on to its end.
use Rattle.std.proofs.Common.{◌≡◌, Bool, true, false, Result, Ok, Err, refl}
use Rattle.disk_model.specs.host_base.Answers.{◌>>=◌, needs}

-- each step gave a value
pub steps_from_ok : {A B F : Type 0} (first : Result A F) (next : A → Result B F) (y : B) → (first >>= next) ≡ Ok y → (x : A) × (first ≡ Ok x) × (next x ≡ Ok y)
steps_from_ok (Ok x) next y e = (x, refl, e)
steps_from_ok (Err f) next y e = absurd cc

-- a test that was passed
pub needs_from_ok : {B F : Type 0} (test : Bool) (refusal : F) (next : Unit {0} → Result B F) (y : B) → (needs test refusal >>= next) ≡ Ok y → (test ≡ true) × (next tt ≡ Ok y)
needs_from_ok true refusal next y e = (refl, e)
needs_from_ok false refusal next y e = absurd cc
