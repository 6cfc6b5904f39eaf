-- What chains of tests say that go on to their end, and when they do.
use Rattle.std.proofs.Common.{◌≡◌, Bool, true, false, Result, Ok, Err, refl}
use Rattle.disk_model.specs.host_base.Answers.{◌>>=◌, needs}

module _ {F : Type 0} where
  pub first_passed : {B : Type 0} (p : Bool) (e : F) (next : Unit {0} → Result B F) (y : B) → (needs p e >>= next) ≡ Ok y → (p ≡ true) × (next tt ≡ Ok y)
  first_passed true e next y is = (refl, is)
  first_passed false e next y is = absurd cc

  last_passed : (p : Bool) (e : F) → needs p e ≡ Ok tt → p ≡ true
  last_passed true e is = refl
  last_passed false e is = absurd cc

  pub step_passed : {B : Type 0} (first : Result (Unit {0}) F) (next : Unit {0} → Result B F) (y : B) → (first >>= next) ≡ Ok y → (first ≡ Ok tt) × (next tt ≡ Ok y)
  step_passed (Ok u) next y is = (refl, is)
  step_passed (Err e) next y is = absurd cc

  pub two_passed : (p q : Bool) (e f : F) → (needs p e >>= λ _. needs q f) ≡ Ok tt → (p ≡ true) × (q ≡ true)
  two_passed p q e f is = let a = first_passed p e (λ _. needs q f) tt is in (a.0, last_passed q f a.1)

  pub three_passed : (p q r : Bool) (e f g : F) → (needs p e >>= λ _. needs q f >>= λ _. needs r g) ≡ Ok tt → (p ≡ true) × (q ≡ true) × (r ≡ true)
  three_passed p q r e f g is = let a = first_passed p e (λ _. needs q f >>= λ _. needs r g) tt is in let b = two_passed q r f g a.1 in (a.0, b.0, b.1)

  pub four_passed : (p q r s : Bool) (e f g h : F) → (needs p e >>= λ _. needs q f >>= λ _. needs r g >>= λ _. needs s h) ≡ Ok tt → (p ≡ true) × (q ≡ true) × (r ≡ true) × (s ≡ true)
  four_passed p q r s e f g h is =
      let a = first_passed p e (λ _. needs q f >>= λ _. needs r g >>= λ _. needs s h) tt is in
      let b = three_passed q r s f g h a.1 in
      (a.0, b.0, b.1, b.2)

  pub five_passed : (p q r s t : Bool) (e f g h i : F) → (needs p e >>= λ _. needs q f >>= λ _. needs r g >>= λ _. needs s h >>= λ _. needs t i) ≡ Ok tt → (p ≡ true) × (q ≡ true) × (r ≡ true) × (s ≡ true) × (t ≡ true)
  five_passed p q r s t e f g h i is =
      let a = first_passed p e (λ _. needs q f >>= λ _. needs r g >>= λ _. needs s h >>= λ _. needs t i) tt is in
      let b = four_passed q r s t f g h i a.1 in
      (a.0, b.0, b.1, b.2, b.3)

  pub two_pass : (p q : Bool) (e f : F) → p ≡ true → q ≡ true → (needs p e >>= λ _. needs q f) ≡ Ok tt
  two_pass p q e f a b = rw (a, b) refl

  pub three_pass : (p q r : Bool) (e f g : F) → p ≡ true → q ≡ true → r ≡ true → (needs p e >>= λ _. needs q f >>= λ _. needs r g) ≡ Ok tt
  three_pass p q r e f g a b c = rw (a, b, c) refl

  pub four_pass : (p q r s : Bool) (e f g h : F) → p ≡ true → q ≡ true → r ≡ true → s ≡ true → (needs p e >>= λ _. needs q f >>= λ _. needs r g >>= λ _. needs s h) ≡ Ok tt
  four_pass p q r s e f g h a b c d = rw (a, b, c, d) refl

  pub five_pass : (p q r s t : Bool) (e f g h i : F) → p ≡ true → q ≡ true → r ≡ true → s ≡ true → t ≡ true → (needs p e >>= λ _. needs q f >>= λ _. needs r g >>= λ _. needs s h >>= λ _. needs t i) ≡ Ok tt
  five_pass p q r s t e f g h i a b c d j = rw (a, b, c, d, j) refl

  -- steps one after the other
  pub two_steps : (a b : Result (Unit {0}) F) → a ≡ Ok tt → b ≡ Ok tt → (a >>= λ _. b) ≡ Ok tt
  two_steps a b is_a is_b = rw (is_a, is_b) refl

  pub four_steps : (a b c d : Result (Unit {0}) F) → a ≡ Ok tt → b ≡ Ok tt → c ≡ Ok tt → d ≡ Ok tt → (a >>= λ _. b >>= λ _. c >>= λ _. d) ≡ Ok tt
  four_steps a b c d is_a is_b is_c is_d = rw (is_a, is_b, is_c, is_d) refl
