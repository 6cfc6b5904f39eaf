-- The nine rules of a volume, each by itself.
use Rattle.std.proofs.Common.{◌≡◌, ℕ, zero, suc, ◌+◌, ◌<◌, ◌≤◌, Bool, true, not, cond, find, Option, Some, None, refl, ap, ◌∙◌, inl, inr, arith}
use Rattle.std.specs.List.{range_with_len}
use Rattle.std.proofs.lemmas.Bool.{cases_Bool, cases_lt}
use Rattle.volume_state.specs.disk_model.Content.{Content}
use Rattle.volume_state.specs.state_model.declared.broken.Broken.{Broken}
use Rattle.volume_state.specs.state_model.Rules.{broken_or, first_failing}
use Rattle.volume_state.specs.volume_model.Volumes.{Volume}
use Rattle.volume_state.specs.Rules.{broken_1, broken_2, broken_3, broken_4, broken_5, broken_6, broken_7, broken_8, broken_9, first_broken}

-- ---- the least number at which a test fails

none_failing : (test : ℕ → Bool) (a k : ℕ) → find (λ n. not (test n)) (range_with_len a k) ≡ None → (m : ℕ) → a ≤ m → m < a + k → test m ≡ true
none_failing test a zero none m low high = absurd (omega arith)
none_failing test a (suc k) none m low high = elim (cases_Bool (test a)) [
  | inl passes ↦ elim (cases_lt a m) [
    | inl less ↦ none_failing test (a + 1) k (rw passes at none) m (omega arith) (omega arith)
    | inr least ↦ (let same : m ≡ a = omega arith in ap test same ∙ passes)
  ]
  | inr fails ↦ (let found : Some a ≡ None = rw fails at none in absurd cc)
]

all_passing : (test : ℕ → Bool) (a k : ℕ) → ((m : ℕ) → a ≤ m → m < a + k → test m ≡ true) → find (λ n. not (test n)) (range_with_len a k) ≡ None
all_passing test a zero all = refl
all_passing test a (suc k) all =
    ap (λ (b : Bool). cond (not b) (Some a) (find (λ n. not (test n)) (range_with_len (a + 1) k))) (all a (omega arith) (omega arith))
    ∙ all_passing test (a + 1) k (λ m low high. all m (omega arith) (omega arith))

pub passes_below : (test : ℕ → Bool) (count : ℕ) → first_failing test count ≡ None → (m : ℕ) → m < count → test m ≡ true
unfolding first_failing
passes_below test count none m below = none_failing test 0 count none m (omega arith) (omega arith)

pub fails_nowhere : (test : ℕ → Bool) (count : ℕ) → ((m : ℕ) → m < count → test m ≡ true) → first_failing test count ≡ None
unfolding first_failing
fails_nowhere test count all = all_passing test 0 count (λ m low high. all m (omega arith))

-- a test that is passed wherever another one is fails nowhere either
pub still_passes : (f g : ℕ → Bool) (count new_count : ℕ) → new_count ≡ count → ((m : ℕ) → m < count → f m ≡ true → g m ≡ true) → first_failing f count ≡ None → first_failing g new_count ≡ None
still_passes f g count new_count same each none = fails_nowhere g new_count (λ m below. let within : m < count = omega arith in each m within (passes_below f count none m within))

-- ---- the rules

pub record KeepsAll (c : Content) (v : Volume) : Type 0 where
  pub rule_1 : broken_1 v ≡ None
  pub rule_2 : broken_2 v ≡ None
  pub rule_3 : broken_3 c v ≡ None
  pub rule_4 : broken_4 c v ≡ None
  pub rule_5 : broken_5 v ≡ None
  pub rule_6 : broken_6 c v ≡ None
  pub rule_7 : broken_7 c v ≡ None
  pub rule_8 : broken_8 v ≡ None
  pub rule_9 : broken_9 c v ≡ None

unbroken : (rule : ℕ) (o : Option ℕ) (next : Option Broken) → broken_or rule o next ≡ None → (o ≡ None) × (next ≡ None)
unbroken rule None next is = (refl, is)
unbroken rule (Some n) next is = absurd cc

unbroken_from : (rule : ℕ) (o : Option ℕ) (next : Option Broken) → o ≡ None → next ≡ None → broken_or rule o next ≡ None
unbroken_from rule o next none rest = ap (λ (x : Option ℕ). broken_or rule x next) none ∙ rest

pub rules_of : (c : Content) (v : Volume) → first_broken c v ≡ None → KeepsAll c v
unfolding first_broken
rules_of c v is =
    let from_9 : Option Broken = broken_or 9 (broken_9 c v) None in
    let from_8 : Option Broken = broken_or 8 (broken_8 v) from_9 in
    let from_7 : Option Broken = broken_or 7 (broken_7 c v) from_8 in
    let from_6 : Option Broken = broken_or 6 (broken_6 c v) from_7 in
    let from_5 : Option Broken = broken_or 5 (broken_5 v) from_6 in
    let from_4 : Option Broken = broken_or 4 (broken_4 c v) from_5 in
    let from_3 : Option Broken = broken_or 3 (broken_3 c v) from_4 in
    let from_2 : Option Broken = broken_or 2 (broken_2 v) from_3 in
    let one = unbroken 1 (broken_1 v) from_2 is in
    let two = unbroken 2 (broken_2 v) from_3 one.1 in
    let three = unbroken 3 (broken_3 c v) from_4 two.1 in
    let four = unbroken 4 (broken_4 c v) from_5 three.1 in
    let five = unbroken 5 (broken_5 v) from_6 four.1 in
    let six = unbroken 6 (broken_6 c v) from_7 five.1 in
    let seven = unbroken 7 (broken_7 c v) from_8 six.1 in
    let eight = unbroken 8 (broken_8 v) from_9 seven.1 in
    let nine = unbroken 9 (broken_9 c v) None eight.1 in
    record { rule_1 = one.0; rule_2 = two.0; rule_3 = three.0; rule_4 = four.0; rule_5 = five.0; rule_6 = six.0; rule_7 = seven.0; rule_8 = eight.0; rule_9 = nine.0 }

pub from_rules : (c : Content) (v : Volume) → KeepsAll c v → first_broken c v ≡ None
unfolding first_broken
from_rules c v k =
    unbroken_from 1 (broken_1 v) _ k.rule_1
    (unbroken_from 2 (broken_2 v) _ k.rule_2
    (unbroken_from 3 (broken_3 c v) _ k.rule_3
    (unbroken_from 4 (broken_4 c v) _ k.rule_4
    (unbroken_from 5 (broken_5 v) _ k.rule_5
    (unbroken_from 6 (broken_6 c v) _ k.rule_6
    (unbroken_from 7 (broken_7 c v) _ k.rule_7
    (unbroken_from 8 (broken_8 v) _ k.rule_8
    (unbroken_from 9 (broken_9 c v) None k.rule_9 refl))))))))
