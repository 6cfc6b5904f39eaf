-- What chains of tests say that go on to their end.
use Rattle.std.proofs.Common.{◌≡◌, Bool, true, false, Result, Ok, Err, refl}
use Rattle.host_base.specs.Answers.{◌>>=◌, needs}

module _ {F : Type 0} where
  pub two_pass : (p q : Bool) (e f : F) → p ≡ true → q ≡ true → (needs p e >>= λ _. needs q f) ≡ Ok tt
  two_pass p q e f a b = rw (a, b) refl

  pub three_pass : (p q r : Bool) (e f g : F) → p ≡ true → q ≡ true → r ≡ true → (needs p e >>= λ _. needs q f >>= λ _. needs r g) ≡ Ok tt
  three_pass p q r e f g a b c = rw (a, b, c) refl

  pub four_pass : (p q r s : Bool) (e f g h : F) → p ≡ true → q ≡ true → r ≡ true → s ≡ true → (needs p e >>= λ _. needs q f >>= λ _. needs r g >>= λ _. needs s h) ≡ Ok tt
  four_pass p q r s e f g h a b c d = rw (a, b, c, d) refl

  pub first_passed : {B : Type 0} (p : Bool) (e : F) (next : Unit {0} → Result B F) (y : B) → (needs p e >>= next) ≡ Ok y → (p ≡ true) × (next tt ≡ Ok y)
  first_passed true e next y is = (refl, is)
  first_passed false e next y is = absurd cc

  pub last_passed : (p : Bool) (e : F) → needs p e ≡ Ok tt → p ≡ true
  last_passed true e is = refl
  last_passed false e is = absurd cc

  pub step_passed : {B : Type 0} (first : Result (Unit {0}) F) (next : Unit {0} → Result B F) (y : B) → (first >>= next) ≡ Ok y → (first ≡ Ok tt) × (next tt ≡ Ok y)
  step_passed (Ok u) next y is = (refl, is)
  step_passed (Err e) next y is = absurd cc

  pub all_pass : {B : Type 0} (a b c : Result (Unit {0}) F) (p : Bool) (e : F) (x : B) → a ≡ Ok tt → b ≡ Ok tt → c ≡ Ok tt → p ≡ true → (a >>= λ _. b >>= λ _. c >>= λ _. needs p e >>= λ _. Ok x) ≡ Ok x
  all_pass a b c p e x is_a is_b is_c is_p = rw (is_a, is_b, is_c, is_p) refl
