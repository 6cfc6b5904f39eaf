-- The least number at which a test fails.
use Rattle.std.proofs.Common.{◌≡◌, ℕ, zero, suc, ◌+◌, ◌<◌, ◌≤◌, Bool, true, false, not, cond, find, Option, Some, None, MatchOption, refl, sym, ap, ◌∙◌, inl, inr, arith}
use Rattle.std.specs.List.{range_with_len}
use Rattle.std.proofs.lemmas.Bool.{cases_lt}
use Rattle.state_model.specs.Rules.{first_failing}

pub none_fails : (test : ℕ → Bool) (a k : ℕ) → ((y : ℕ) → a ≤ y → y < a + k → test y ≡ true) → find (λ n. not (test n)) (range_with_len a k) ≡ None
none_fails test a zero all = refl
none_fails test a (suc k) all =
    ap (λ b. cond (not b) (Some a) (find (λ n. not (test n)) (range_with_len (a + 1) k))) (all a (omega arith) (omega arith))
    ∙ none_fails test (a + 1) k (λ y le lt. all y (omega arith) (omega arith))

pub least_fails : (test : ℕ → Bool) (a k x : ℕ) → a ≤ x → x < a + k → test x ≡ false → ((y : ℕ) → a ≤ y → y < x → test y ≡ true) → find (λ n. not (test n)) (range_with_len a k) ≡ Some x
least_fails test a zero x le lt fails before = absurd (omega arith)
least_fails test a (suc k) x le lt fails before =
    elim (cases_lt a x) [
      | inl behind ↦ (ap (λ b. cond (not b) (Some a) (find (λ n. not (test n)) (range_with_len (a + 1) k))) (before a (omega arith) behind) ∙ least_fails test (a + 1) k x (omega arith) (omega arith) fails (λ y from to. before y (omega arith) to))
      | inr here ↦ (let same : a ≡ x = omega arith in ap (λ b. cond (not b) (Some a) (find (λ n. not (test n)) (range_with_len (a + 1) k))) (ap test same ∙ fails) ∙ ap Some same)
    ]

-- what was found among so many numbers is the least there that fails
pub record IsLeastFrom (test : ℕ → Bool) (a end x : ℕ) : Type 0 where
  pub from : a ≤ x
  pub inside : x < end
  pub fails : test x ≡ false
  pub before : (y : ℕ) → a ≤ y → y < x → test y ≡ true

abbrev pub FindsLeast : (ℕ → Bool) → ℕ → ℕ → Option ℕ → Type 0
FindsLeast test a end found = MatchOption found ((y : ℕ) → a ≤ y → y < end → test y ≡ true) (IsLeastFrom test a end)

step_found : (test : ℕ → Bool) (a end : ℕ) (b : Bool) (rest : Option ℕ) → a < end → test a ≡ b → FindsLeast test (a + 1) end rest → FindsLeast test a end (cond (not b) (Some a) rest)
step_found test a end false rest lt is later = record { from = omega arith; inside = lt; fails = is; before = λ y le less. absurd (omega arith) }
step_found test a end true None lt is later = λ y le less. elim (cases_lt a y) [
  | inl behind ↦ later y (omega arith) less
  | inr here ↦ (let same : y ≡ a = omega arith in ap test same ∙ is)
]
step_found test a end true (Some x) lt is later = record {
  from = omega (arith, later.from);
  inside = later.inside;
  fails = later.fails;
  before = λ y le less. elim (cases_lt a y) [
    | inl behind ↦ later.before y (omega arith) less
    | inr here ↦ (let same : y ≡ a = omega arith in ap test same ∙ is)
  ];
}

pub finds_least : (test : ℕ → Bool) (a k end : ℕ) → end ≡ a + k → FindsLeast test a end (find (λ n. not (test n)) (range_with_len a k))
finds_least test a zero end is = λ y le lt. absurd (omega arith)
finds_least test a (suc k) end is = step_found test a end (test a) (find (λ n. not (test n)) (range_with_len (a + 1) k)) (omega arith) refl (finds_least test (a + 1) k end (omega arith))

-- ---- the least failing number below a count

pub failing_none : (test : ℕ → Bool) (count : ℕ) → ((y : ℕ) → y < count → test y ≡ true) → None ≡ first_failing test count
unfolding first_failing
failing_none test count all = sym (none_fails test 0 count (λ y le lt. all y (omega arith)))

pub failing_some : (test : ℕ → Bool) (count x : ℕ) → x < count → test x ≡ false → ((y : ℕ) → y < x → test y ≡ true) → Some x ≡ first_failing test count
unfolding first_failing
failing_some test count x lt fails before = sym (least_fails test 0 count x (omega arith) (omega arith) fails (λ y le less. before y less))
