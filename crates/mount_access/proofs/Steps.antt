-- Chains of tests and of steps, taken apart and put together otherwise.
use Rattle.std.proofs.Common.{◌≡◌, Bool, true, false, Result, Ok, Err, refl, ap, ◌∙◌}
use Rattle.host_base.specs.Answers.{◌>>=◌, needs}

abbrev pub okay : {A F : Type 0} → A → Result A F
okay x = Ok x

-- ---- what is made of a value at the end

-- it may as well be made behind each value
pub made_behind : {A B C F : Type 0} (first : Result A F) (next : A → Result B F) (last : B → Result C F) (whole : A → Result C F)
    → ((x : A) → (next x >>= last) ≡ whole x) → ((first >>= next) >>= last) ≡ (first >>= whole)
made_behind (Ok x) next last whole each = each x
made_behind (Err f) next last whole each = refl

-- and of another value than that of the first step
pub made_of_other : {A B C D F : Type 0} (first : Result A F) (other : A → B) (next : B → Result D F) (more : A → Result C F) (last : C → Result D F)
    → ((x : A) → next (other x) ≡ (more x >>= last)) → ((first >>= λ x. Ok (other x)) >>= next) ≡ ((first >>= more) >>= last)
made_of_other (Ok x) other next more last each = each x
made_of_other (Err f) other next more last each = refl

-- two steps of which only what is made at the end differs
pub made_alike : {A B C D E F : Type 0} (first : Result A F) (second : A → Result B F) (p : A → B → C) (q : B → D) (end : C → E) (other : D → E)
    → ((x : A) → (y : B) → end (p x y) ≡ other (q y))
    → ((first >>= λ x. second x >>= λ y. Ok (p x y)) >>= λ c. Ok (end c)) ≡ ((first >>= λ x. second x >>= λ y. Ok (q y)) >>= λ d. Ok (other d))
made_alike {E = E} {F = F} (Ok x) second p q end other same = alike (second x) (p x) q end other (same x) where
  alike : {B C D E F : Type 0} (second : Result B F) (p : B → C) (q : B → D) (end : C → E) (other : D → E) → ((y : B) → end (p y) ≡ other (q y))
      → ((second >>= λ y. Ok (p y)) >>= λ c. Ok (end c)) ≡ ((second >>= λ y. Ok (q y)) >>= λ d. Ok (other d))
  alike (Ok y) p q end other same = ap okay (same y)
  alike (Err f) p q end other same = refl
made_alike (Err f) second p q end other same = refl

pub same_behind : {A B F : Type 0} (first : Result A F) (next after : A → Result B F) → ((x : A) → next x ≡ after x) → (first >>= next) ≡ (first >>= after)
same_behind (Ok x) next after each = each x
same_behind (Err f) next after each = refl

-- ---- tests of a volume

last_tests : {V M F : Type 0} (lies : Result (Unit {0}) F) (shadow : Result V F) (v : V) (make : V → M) → ((w : V) → shadow ≡ Ok w → w ≡ v)
    → ((lies >>= λ _. shadow) >>= λ w. Ok (make w)) ≡ ((lies >>= λ _. shadow >>= λ _. Ok (tt {0})) >>= λ _. Ok (make v))
last_tests (Ok x) (Ok w) v make same = ap (λ u. okay (make u)) (same w refl)
last_tests (Ok x) (Err f) v make same = refl
last_tests (Err f) shadow v make same = refl

-- the tests of a change, by which a volume is handed on, and as tests alone
pub change_tests : {V M T F : Type 0} (version journal pages : Result (Unit {0}) F) (tree : Result T F) (lies : V → Result (Unit {0}) F) (shadow : V → Result V F) (v : V) (make : V → M)
    → ((w : V) → shadow v ≡ Ok w → w ≡ v)
    → ((version >>= λ _. journal >>= λ _. pages >>= λ _. (tree >>= λ _. Ok v) >>= λ w. lies w >>= λ _. shadow w) >>= λ w. Ok (make w))
    ≡ ((version >>= λ _. journal >>= λ _. pages >>= λ _. (tree >>= λ _. Ok (tt {0})) >>= λ _. lies v >>= λ _. shadow v >>= λ _. Ok (tt {0})) >>= λ _. Ok (make v))
change_tests (Ok x) (Ok y) (Ok z) (Ok t) lies shadow v make same = last_tests (lies v) (shadow v) v make same
change_tests (Ok x) (Ok y) (Ok z) (Err f) lies shadow v make same = refl
change_tests (Ok x) (Ok y) (Err f) tree lies shadow v make same = refl
change_tests (Ok x) (Err f) pages tree lies shadow v make same = refl
change_tests (Err f) journal pages tree lies shadow v make same = refl

-- the tests of a look, and what is made of the tree
pub look_tests : {M T F : Type 0} (version : Result (Unit {0}) F) (tree : Result T F) (m : M) (shown : M → T) → ((t : T) → tree ≡ Ok t → t ≡ shown m)
    → (version >>= λ _. tree) ≡ (((version >>= λ _. tree >>= λ _. Ok (tt {0})) >>= λ _. Ok m) >>= λ n. Ok (shown n))
look_tests (Ok x) (Ok t) m shown is = ap okay (is t refl)
look_tests (Ok x) (Err f) m shown is = refl
look_tests (Err f) tree m shown is = refl

-- ---- what a chain that went well says

-- each step gave a value
pub steps : {A B F : Type 0} (first : Result A F) (next : A → Result B F) (y : B) → (first >>= next) ≡ Ok y → (x : A) × (first ≡ Ok x) × (next x ≡ Ok y)
steps (Ok x) next y e = (x, refl, e)
steps (Err f) next y e = absurd cc

-- the third of five tests was passed
pub third_test : {F : Type 0} (a b c d e : Result (Unit {0}) F) (x : Unit {0}) → (a >>= λ _. b >>= λ _. c >>= λ _. d >>= λ _. e) ≡ Ok x → c ≡ Ok x
third_test a b c d e x is =
    let first = steps a (λ _. b >>= λ _. c >>= λ _. d >>= λ _. e) x is in
    let second = steps b (λ _. c >>= λ _. d >>= λ _. e) x first.2 in
    (steps c (λ _. d >>= λ _. e) x second.2).1

-- a test that was passed
pub passed_test : {F : Type 0} (test : Bool) (refusal : F) (x : Unit {0}) → needs test refusal ≡ Ok x → test ≡ true
passed_test true refusal x is = refl
passed_test false refusal x is = absurd cc

-- so does a chain whose steps give the same wherever its own do
pub also : {A B F : Type 0} (first then : Result A F) (next after : A → Result B F) (y : B) → ((x : A) → first ≡ Ok x → then ≡ Ok x) → ((x : A) → next x ≡ Ok y → after x ≡ Ok y)
    → (first >>= next) ≡ Ok y → (then >>= after) ≡ Ok y
also first then next after y firsts nexts e =
    let p = steps first next y e in
    ap (λ r. r >>= after) (firsts p.0 p.1) ∙ nexts p.0 p.2
