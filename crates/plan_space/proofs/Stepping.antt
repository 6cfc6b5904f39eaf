-- Steps of a choice of clusters.
use Rattle.std.proofs.Common.{◌≡◌, ℕ, zero, suc, ◌+◌, ◌-◌, ◌<◌, ◌≤◌, Bool, true, false, not, List, [], ◌∷◌, ◌++◌, length, take, refl, sym, ap, ap₂, subst, ◌∙◌, inl, inr, arith}
use Rattle.std.specs.Prelude.{◌==◌, count_by, MatchOption, Option, Some, None, Result, Ok, Err, OnErr}
use Rattle.std.proofs.lemmas.Bool.{cases_lt, false≢true}
use Rattle.std.proofs.lemmas.List.{append_assoc, append-nil, take_all}
use Rattle.std.proofs.lemmas.Bool.Decides.{nat_tests}
use Rattle.space_model.specs.record_model.declared.runs.Run.{Run}
use Rattle.space_model.specs.bit_set.Bits.{bit, IsClearRun, IsFirstRun, IsLongestRun}
use Rattle.space_model.specs.Choosing.{with_run, with_runs, run_at, behind, chosen_anywhere, chosen}
use Rattle.space_model.proofs.Fitting.{counted_after}
use Rattle.space_model.proofs.Searching.{first_is_fit, first_at_once, longest_is_fit, longest_at_once, all_set, enough, step_is, behind_is}
use Rattle.plan_space.specs.Choices.{IsNextRun, TakesFirst, TakesRun, TakesBehind}

pub next_first : (bits : List Bool) (wanted first : ℕ) → 0 < wanted → IsFirstRun bits wanted first → IsNextRun bits wanted first wanted
next_first bits wanted first some found = record { some = some; once = first_at_once bits wanted first found; fit = first_is_fit bits wanted first found; few = omega arith; clear = found.run }

pub next_longest : (bits : List Bool) (wanted : ℕ) (o : Option (ℕ × ℕ)) → 0 < wanted → wanted ≤ count_by not bits → ((first : ℕ) → IsClearRun bits first wanted → ⊥)
    → MatchOption o ((i : ℕ) → i < length bits → bit bits i ≡ true) (λ run. IsLongestRun bits run.0 run.1) → MatchOption o ⊥ (λ run. IsNextRun bits wanted run.0 run.1)
next_longest bits wanted None some room none set = (let e : count_by not bits ≡ 0 = all_set bits set in absurd (omega (arith, e)))
next_longest bits wanted (Some run) some room none found = record {
  some = found.some;
  once = longest_at_once bits wanted run.0 run.1 none found;
  fit = longest_is_fit bits run.0 run.1 found;
  few = elim (cases_lt wanted run.1) [
    | inl more ↦ absurd (none run.0 (record { inside = (let e : run.0 + run.1 ≤ length bits = found.run.inside in omega (arith, e)); clear = λ i le lt. found.run.clear i le (omega arith) }))
    | inr few ↦ few
  ];
  clear = found.run;
}

pub none_left : (bits : List Bool) (vcn n : ℕ) → n ≡ 0 → chosen_anywhere n bits vcn n ≡ []
unfolding chosen_anywhere
none_left bits vcn zero e = refl
none_left bits vcn (suc n) e = absurd (omega (arith, e))

pub with_none : (runs : List Run) (bits : List Bool) → runs ≡ [] → with_runs runs bits ≡ bits
unfolding with_runs
with_none [] bits e = refl
with_none (r ∷ runs) bits e = ap (λ (rs : List Run). with_runs rs bits) e

with_first : (vcn first len : ℕ) (runs : List Run) (bits : List Bool) → with_runs (run_at vcn first len ∷ runs) bits ≡ with_runs runs (with_run first len bits)
unfolding with_runs
with_first vcn first len runs bits = refl

-- ---- the first of the runs

pub on_err : {T E : Type 0} (r : Result T E) (P : Type 0) → P → OnErr r P
on_err (Ok x) P holds = tt
on_err (Err e) P holds = holds

pub takes_none_yet : (runs : List Run) (old new : List Bool) → new ≡ old → TakesFirst runs old new
takes_none_yet runs old new same = (0, same ∙ sym (with_none [] old refl))

-- with a run in front of the others
takes_further : (vcn first len : ℕ) (runs : List Run) (old new end : List Bool) → new ≡ with_run first len old → TakesFirst runs new end → TakesFirst (run_at vcn first len ∷ runs) old end
takes_further vcn first len runs old new end is front = (suc front.0, front.1 ∙ ap (with_runs (take front.0 runs)) is ∙ sym (with_first vcn first len (take front.0 runs) old))

takes_one : (vcn first len : ℕ) (runs : List Run) (old new : List Bool) → new ≡ with_run first len old → TakesFirst (run_at vcn first len ∷ runs) old new
takes_one vcn first len runs old new is = takes_further vcn first len runs old new new is (takes_none_yet runs new new refl)

pub takes_all : (runs : List Run) (old new : List Bool) → new ≡ with_runs runs old → TakesFirst runs old new
takes_all runs old new is = (length runs, is ∙ ap (λ (l : List Run). with_runs l old) (sym (take_all (length runs) runs (omega arith))))

-- the run that is taken next is the first of what is chosen
pub takes_next : (old new : List Bool) (vcn wanted first len : ℕ) → IsNextRun old wanted first len → new ≡ with_run first len old → TakesFirst (chosen_anywhere wanted old vcn wanted) old new
takes_next old new vcn wanted first len next is =
    subst (λ (l : List Run). TakesFirst l old new) (sym (step_is old vcn wanted len first next.some next.once next.fit))
    (takes_one vcn first len (chosen_anywhere (wanted - len) (with_run first len old) (vcn + len) (wanted - len)) old new is)

pub taken_run : (old new : List Bool) (runs more : List Run) (vcn wanted first len : ℕ) → IsNextRun old wanted first len → new ≡ with_run first len old → more ≡ runs ++ run_at vcn first len ∷ [] → TakesRun old new runs more vcn wanted len
taken_run old new runs more vcn wanted first len next is added =
    (let step = step_is old vcn wanted len first next.some next.once next.fit in
    let rest : List Run = chosen_anywhere (wanted - len) (with_run first len old) (vcn + len) (wanted - len) in
    record {
      some = next.some;
      few = next.few;
      room = ap (λ (bits : List Bool). count_by not bits + len) is ∙ counted_after first len old next.clear;
      runs =
          ap₂ (λ (a : List Run) (b : List Bool). a ++ chosen_anywhere (wanted - len) b (vcn + len) (wanted - len)) added is
          ∙ append_assoc runs (run_at vcn first len ∷ []) (chosen_anywhere (wanted - len) (with_run first len old) (vcn + len) (wanted - len))
          ∙ ap (λ (a : List Run). runs ++ a) (sym step);
      bits =
          ap (λ (b : List Bool). with_runs (chosen_anywhere (wanted - len) b (vcn + len) (wanted - len)) b) is
          ∙ sym (ap (λ (a : List Run). with_runs a old) step ∙ with_first vcn first len (chosen_anywhere (wanted - len) (with_run first len old) (vcn + len) (wanted - len)) old);
      first = λ last front. subst (λ (l : List Run). TakesFirst l old last) (sym step)
          (takes_further vcn first len (chosen_anywhere (wanted - len) (with_run first len old) (vcn + len) (wanted - len)) old new last is
          (subst (λ (b : List Bool). TakesFirst (chosen_anywhere (wanted - len) b (vcn + len) (wanted - len)) new last) is front));
    })

less_left : (wanted taken len : ℕ) → wanted - (taken + len) ≡ wanted - taken - len
less_left wanted taken len = omega arith

further : (vcn taken len : ℕ) → vcn + (taken + len) ≡ vcn + taken + len
further vcn taken len = omega arith

-- where more was taken since, what is left then is what is left now
pub taken_more : (old mid new : List Bool) (runs more most : List Run) (vcn wanted taken len : ℕ) → taken ≤ wanted
    → more ++ chosen_anywhere (wanted - taken) mid (vcn + taken) (wanted - taken) ≡ runs ++ chosen_anywhere wanted old vcn wanted
    → TakesRun mid new more most (vcn + taken) (wanted - taken) len
    → most ++ chosen_anywhere (wanted - (taken + len)) new (vcn + (taken + len)) (wanted - (taken + len)) ≡ runs ++ chosen_anywhere wanted old vcn wanted
taken_more old mid new runs more most vcn wanted taken len few before takes =
    ap₂ (λ (n : ℕ) (v : ℕ). most ++ chosen_anywhere n new v n) (less_left wanted taken len) (further vcn taken len) ∙ takes.runs ∙ before

pub bits_more : (old mid new : List Bool) (more most : List Run) (vcn wanted taken len : ℕ) → taken ≤ wanted
    → with_runs (chosen_anywhere (wanted - taken) mid (vcn + taken) (wanted - taken)) mid ≡ with_runs (chosen_anywhere wanted old vcn wanted) old
    → TakesRun mid new more most (vcn + taken) (wanted - taken) len
    → with_runs (chosen_anywhere (wanted - (taken + len)) new (vcn + (taken + len)) (wanted - (taken + len))) new ≡ with_runs (chosen_anywhere wanted old vcn wanted) old
bits_more old mid new more most vcn wanted taken len few before takes =
    ap₂ (λ (n : ℕ) (v : ℕ). with_runs (chosen_anywhere n new v n) new) (less_left wanted taken len) (further vcn taken len) ∙ takes.bits ∙ before

pub first_more : (old mid new : List Bool) (more most : List Run) (vcn wanted taken len : ℕ)
    → ((last : List Bool) → TakesFirst (chosen_anywhere (wanted - taken) mid (vcn + taken) (wanted - taken)) mid last → TakesFirst (chosen_anywhere wanted old vcn wanted) old last)
    → TakesRun mid new more most (vcn + taken) (wanted - taken) len
    → (last : List Bool) → TakesFirst (chosen_anywhere (wanted - (taken + len)) new (vcn + (taken + len)) (wanted - (taken + len))) new last → TakesFirst (chosen_anywhere wanted old vcn wanted) old last
first_more old mid new more most vcn wanted taken len before takes =
    λ last front. before last (takes.first last (subst (λ (l : List Run). TakesFirst l new last) (ap₂ (λ (n : ℕ) (v : ℕ). chosen_anywhere n new v n) (less_left wanted taken len) (further vcn taken len)) front))

-- nothing taken yet
pub untaken : (n : ℕ) → n - 0 ≡ n
untaken n = omega arith

-- ---- directly behind the last cluster

none_is : (n : ℕ) → n ≡ 0 → (n == 0) ≡ true
none_is n e = grind (arith, nat_tests)

some_is : (n : ℕ) → 0 < n → (n == 0) ≡ false
some_is n e = grind (arith, nat_tests)

pub chosen_none_behind : (bits : List Bool) (last n : ℕ) → behind last n bits ≡ 0 → chosen bits (Some last) n ≡ chosen_anywhere n bits 0 n
unfolding chosen
chosen_none_behind bits last n none = rw (none_is (behind last n bits) none) refl

abbrev Behind : List Bool → ℕ → ℕ → ℕ → List Run
Behind bits last n m = run_at 0 (suc last) m ∷ chosen_anywhere n (with_run (suc last) m bits) m (n - m)

chosen_some_behind : (bits : List Bool) (last n : ℕ) → 0 < behind last n bits → chosen bits (Some last) n ≡ Behind bits last n (behind last n bits)
unfolding chosen
chosen_some_behind bits last n some = rw (some_is (behind last n bits) some) refl

pub chosen_without : (bits : List Bool) (n : ℕ) → chosen bits None n ≡ chosen_anywhere n bits 0 n
unfolding chosen
chosen_without bits n = refl

pub behind_some : (bits : List Bool) (last n len : ℕ) → behind last n bits ≡ len → 0 < len → len ≤ n
    → chosen bits (Some last) n ≡ run_at 0 (suc last) len ∷ chosen_anywhere (n - len) (with_run (suc last) len bits) len (n - len)
behind_some bits last n len is some few =
    chosen_some_behind bits last n (omega (arith, is))
    ∙ ap (Behind bits last n) is
    ∙ ap (λ (rest : List Run). run_at 0 (suc last) len ∷ rest) (enough n (n - len) (with_run (suc last) len bits) len (n - len) (omega arith) (omega arith))

pub takes_none : (bits : List Bool) (last : Option ℕ) (n : ℕ) (runs : List Run) → runs ≡ [] → chosen bits last n ≡ chosen_anywhere n bits 0 n → TakesBehind bits bits runs last n 0
takes_none bits last n runs none is = record {
  few = omega arith;
  room = λ room. omega arith;
  runs = ap₂ (λ (a : List Run) (m : ℕ). a ++ chosen_anywhere m bits 0 m) none (untaken n) ∙ sym is;
  bits = ap (λ (m : ℕ). with_runs (chosen_anywhere m bits 0 m) bits) (untaken n) ∙ ap (λ (a : List Run). with_runs a bits) (sym is);
  first = λ end front. subst (λ (l : List Run). TakesFirst l bits end) (ap (λ (m : ℕ). chosen_anywhere m bits 0 m) (untaken n) ∙ sym is) front;
}

pub takes_some : (old new : List Bool) (last n len : ℕ) (runs : List Run) → behind last n old ≡ len → 0 < len → len ≤ n → IsClearRun old (suc last) len → new ≡ with_run (suc last) len old
    → runs ≡ run_at 0 (suc last) len ∷ [] → TakesBehind old new runs (Some last) n len
takes_some old new last n len runs is some few clear news added =
    (let step = behind_some old last n len is some few in
    let rest : List Run = chosen_anywhere (n - len) (with_run (suc last) len old) len (n - len) in
    record {
      few = few;
      room = λ room. (let e : count_by not new + len ≡ count_by not old = ap (λ (bits : List Bool). count_by not bits + len) news ∙ counted_after (suc last) len old clear in omega (arith, e));
      runs = ap₂ (λ (a : List Run) (b : List Bool). a ++ chosen_anywhere (n - len) b len (n - len)) added news ∙ sym step;
      bits = ap (λ (b : List Bool). with_runs (chosen_anywhere (n - len) b len (n - len)) b) news ∙ sym (ap (λ (a : List Run). with_runs a old) step ∙ with_first 0 (suc last) len (chosen_anywhere (n - len) (with_run (suc last) len old) len (n - len)) old);
      first = λ end front. subst (λ (l : List Run). TakesFirst l old end) (sym step)
          (takes_further 0 (suc last) len (chosen_anywhere (n - len) (with_run (suc last) len old) len (n - len)) old new end news
          (subst (λ (b : List Bool). TakesFirst (chosen_anywhere (n - len) b len (n - len)) new end) news front));
    })

-- those behind the last one are the first of what is chosen
takes_suc : (old new : List Bool) (last n len : ℕ) → behind last n old ≡ len → 0 < len → len ≤ n → new ≡ with_run (suc last) len old → TakesFirst (chosen old (Some last) n) old new
takes_suc old new last n len is some few news =
    subst (λ (l : List Run). TakesFirst l old new) (sym (behind_some old last n len is some few))
    (takes_one 0 (suc last) len (chosen_anywhere (n - len) (with_run (suc last) len old) len (n - len)) old new news)

-- ---- the clear bits behind a cluster, counted one by one

same : (first count i : ℕ) → first + count ≤ i → i < first + (count + 1) → first + count ≡ i
same first count i le lt = omega arith

pub one_more_clear : (bits : List Bool) (first count : ℕ) → IsClearRun bits first count → first + count < length bits → bit bits (first + count) ≡ false → IsClearRun bits first (count + 1)
one_more_clear bits first count run within clear = record {
  inside = omega arith;
  clear = λ i le lt. elim (cases_lt i (first + count)) [
    | inl below ↦ run.clear i le below
    | inr here ↦ subst (λ (k : ℕ). bit bits k ≡ false) (same first count i here lt) clear
  ];
}

-- and at the end of the bits, or at a set one, it ends
pub ends_there : (bits : List Bool) (first count : ℕ) → length bits ≤ first + count → IsClearRun bits first (count + 1) → ⊥
ends_there bits first count past longer = (let e : first + (count + 1) ≤ length bits = longer.inside in absurd (omega (arith, e)))

pub set_there : (bits : List Bool) (first count : ℕ) → bit bits (first + count) ≡ true → IsClearRun bits first (count + 1) → ⊥
set_there bits first count set longer = (let e : bit bits (first + count) ≡ false = longer.clear (first + count) (omega arith) (omega arith) in absurd (false≢true (sym e ∙ set)))

pub counted_behind : (bits : List Bool) (last most count : ℕ) → IsClearRun bits (last + 1) count → count ≤ most → (count < most → IsClearRun bits (last + 1) (count + 1) → ⊥) → behind last most bits ≡ count
counted_behind bits last most count run few ends =
    behind_is bits last most count (subst (λ (k : ℕ). IsClearRun bits k count) (next last) run) few
    (λ more longer. ends more (subst (λ (k : ℕ). IsClearRun bits k (count + 1)) (sym (next last)) (subst (λ (k : ℕ). IsClearRun bits (suc last) k) (sym (next count)) longer)))
  where
    next : (n : ℕ) → n + 1 ≡ suc n
    next n = omega arith

-- ---- the same, with the place behind the last cluster as code has it

next : (n : ℕ) → n + 1 ≡ suc n
next n = omega arith

pub takes_here : (old new : List Bool) (last n len : ℕ) (runs : List Run) → behind last n old ≡ len → 0 < len → len ≤ n → IsClearRun old (last + 1) len → new ≡ with_run (last + 1) len old
    → runs ≡ run_at 0 (last + 1) len ∷ [] → TakesBehind old new runs (Some last) n len
takes_here old new last n len runs is some few clear news added =
    takes_some old new last n len runs is some few (subst (λ (k : ℕ). IsClearRun old k len) (next last) clear) (subst (λ (k : ℕ). new ≡ with_run k len old) (next last) news) (subst (λ (k : ℕ). runs ≡ run_at 0 k len ∷ []) (next last) added)

pub takes_nothing : (bits : List Bool) (last n len : ℕ) (runs : List Run) → runs ≡ [] → behind last n bits ≡ len → len ≡ 0 → TakesBehind bits bits runs (Some last) n len
takes_nothing bits last n zero runs none is e = takes_none bits (Some last) n runs none (chosen_none_behind bits last n is)
takes_nothing bits last n (suc len) runs none is e = absurd (omega (arith, e))

pub none_last : (bits : List Bool) (last : Option ℕ) (n : ℕ) → last ≡ None → chosen bits last n ≡ chosen_anywhere n bits 0 n
none_last bits last n e = ap (λ (o : Option ℕ). chosen bits o n) e ∙ chosen_without bits n

-- where nothing is left
pub all_taken : (bits : List Bool) (runs : List Run) (all : List Run) (vcn n : ℕ) → n ≡ 0 → runs ++ chosen_anywhere n bits vcn n ≡ all → runs ≡ all
all_taken bits runs all vcn n e are = sym (append-nil runs) ∙ ap (λ (rest : List Run). runs ++ rest) (sym (none_left bits vcn n e)) ∙ are

pub all_set_now : (bits all : List Bool) (vcn n : ℕ) → n ≡ 0 → with_runs (chosen_anywhere n bits vcn n) bits ≡ all → bits ≡ all
all_set_now bits all vcn n e are = sym (with_none (chosen_anywhere n bits vcn n) bits (none_left bits vcn n e)) ∙ are

pub takes_there : (old new : List Bool) (last n len : ℕ) → behind last n old ≡ len → 0 < len → len ≤ n → new ≡ with_run (last + 1) len old → TakesFirst (chosen old (Some last) n) old new
takes_there old new last n len is some few news = takes_suc old new last n len is some few (subst (λ (k : ℕ). new ≡ with_run k len old) (next last) news)
