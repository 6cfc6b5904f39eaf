-- What a search finds.
use Rattle.std.proofs.Common.{◌≡◌, ℕ, ◌+◌, ◌-◌, ◌<◌, ◌≤◌, ◌⊎◌, ◌≢◌, Bool, true, false, List, Option, None, Some, length, min, MatchOption, refl, sym, ap, ◌∙◌, inl, inr, arith}
use Rattle.std.proofs.lemmas.Bool.{cases_lt}
use Rattle.bit_set.specs.declared.summary.Summary.{Summary}
use Rattle.bit_set.specs.declared.summary.Met.{Met}
use Rattle.bit_set.specs.Bits.{bit, IsClearRun, IsFirstRun, IsFirstRunIn, IsLongestRun, IsLongestRunIn, IsLowestClear, IsFound}
use Rattle.bit_set.specs.Words.{word_bit}
use Rattle.bit_set.specs.Summaries.{IsClear, IsBack, IsSummary, IsMet, IsFoundIn}
use Rattle.bit_set.proofs.Views.{IsView}

-- a run that reaches behind what was met before begins at the run at the end, or behind its begin
back_low : (f : ℕ → Bool) (from at first end n back i : ℕ) → IsBack f from end back → ((j : ℕ) → at ≤ j → j < first → f j ≡ true) → ((j : ℕ) → first ≤ j → j < end → f j ≡ false) → 0 < n → at < i + n → from ≤ i → IsClear f i (i + n) → back ≤ i
back_low f from at first end n back i behind set clear some past le run =
    elim (cases_lt first (i + n)) [
      | inl beyond ↦ behind.most i le (λ j ge lt. elim (cases_lt j first) [ inl low ↦ run j ge (omega arith) | inr high ↦ clear j high lt ])
      | inr low ↦ (
          let one = set (i + n - 1) (omega arith) (omega arith) in
          let none = run (i + n - 1) (omega arith) (omega arith) in
          cc)
    ]

pub first_met : (f : ℕ → Bool) (from at first end n : ℕ) (old new : Summary) → IsSummary f from at old → IsSummary f from end new → old.longest.len < n → n ≤ new.longest.len → ((j : ℕ) → at ≤ j → j < first → f j ≡ true) → ((j : ℕ) → first ≤ j → j < end → f j ≡ false) → first ≤ end → (i : ℕ) → from ≤ i → IsClear f i (i + n) → new.longest.first ≤ i
first_met f from at first end n old new was is short long set clear order i le run =
    elim (cases_lt at (i + n)) [
      | inl past ↦ (
          let low = back_low f from at first end n new.back i is.back set clear (omega arith) past le run in
          let whole = is.longest.longest new.back (end - new.back) is.back.behind (omega (arith, is.back.inside)) (λ j ge lt. is.back.clear j ge (omega (arith, is.back.inside))) in
          omega (arith, is.longest.inside, is.back.inside))
      | inr within ↦ (let less = was.longest.longest i n le within run in absurd (omega arith))
    ]

-- a search begins
pub begins : (f : ℕ → Bool) (at n : ℕ) (s : Summary) → IsSummary f at at s → IsMet f at n (record { to = at; runs = s })
begins f at n s none = record { runs = none; lowest = λ long i le clear. omega (arith, none.longest.inside) }

-- a search has ended
pub ended : (f : ℕ → Bool) (from end n : ℕ) (met : Met) → IsMet f from n met → met.to ≤ end → (met.to ≡ end) ⊎ (n ≤ met.runs.longest.len) → IsFoundIn f from end n met.runs.longest.first met.runs.longest.len
ended f from end n met is inside done = record {
  behind = is.runs.longest.behind;
  inside = omega (arith, is.runs.longest.inside);
  clear = is.runs.longest.clear;
  soonest = is.lowest;
  longest = λ short. elim done [
    | inl e ↦ (λ i m le within clear. is.runs.longest.longest i m le (omega arith) clear)
    | inr long ↦ absurd (omega arith)
  ];
  lowest = λ short. elim done [
    | inl e ↦ (λ i some le within clear. is.runs.longest.lowest i some le (omega arith) clear)
    | inr long ↦ absurd (omega arith)
  ];
}

-- ---- the bits that contracts see

clear_run : (bits : List Bool) (words : List ℕ) (n first len : ℕ) → IsView bits words n → IsClearRun bits first len → IsClear (word_bit words) first (first + len)
clear_run bits words n first len view run = λ j ge lt. sym (view.inside j (omega (arith, view.count, run.inside))) ∙ run.clear j ge lt

pub found_bits : (bits : List Bool) (words : List ℕ) (n from end len first m : ℕ) → IsView bits words n → end ≤ length bits → IsFoundIn (word_bit words) from end len first m → IsFound bits from end len first m
found_bits bits words n from end len first m view fits found = record {
  behind = found.behind;
  inside = found.inside;
  run = record { inside = omega (arith, found.inside); clear = λ j ge lt. view.inside j (omega (arith, view.count, found.inside)) ∙ found.clear j ge lt };
  soonest = λ long i le run. found.soonest long i le (clear_run bits words n i len view run);
  longest = λ short i k le within run. found.longest short i k le within (clear_run bits words n i k view run);
  lowest = λ short i some le within run. found.lowest short i some le within (clear_run bits words n i m view run);
}

-- ---- the calls

pub is_first_in : (bits : List Bool) (from end end' len first m : ℕ) → IsFound bits from end len first m → end ≤ end' → len ≤ m → IsFirstRunIn bits len from end' first
is_first_in bits from end end' len first m found le long = record {
  behind = found.behind;
  inside = omega (arith, found.inside);
  run = record { inside = omega (arith, found.run.inside); clear = λ j ge lt. found.run.clear j ge (omega arith) };
  lowest = λ i behind within run. found.soonest long i behind run;
}

pub none_in : (bits : List Bool) (from end end' len first m : ℕ) → IsFound bits from end len first m → (end ≡ end') ⊎ (end ≡ length bits) → m < len → (i : ℕ) → from ≤ i → i + len ≤ end' → IsClearRun bits i len → ⊥
none_in bits from end end' len first m found which short i le within run =
    elim which [
      | inl e ↦ (let no = found.longest short i len le (omega arith) run in omega arith)
      | inr e ↦ (let no = found.longest short i len le (omega (arith, run.inside)) run in omega arith)
    ]

-- the search asks for a run of the whole range
pub is_longest_in : (bits : List Bool) (from end end' first m : ℕ) → IsFound bits from end (end - from) first m → from < end → end ≤ end' → (end ≡ end') ⊎ (end ≡ length bits) → 0 < m → IsLongestRunIn bits from end' first m
is_longest_in bits from end end' first m found some fits which any = record {
  behind = found.behind;
  inside = omega (arith, found.inside);
  run = found.run;
  some = any;
  longest = λ i n le within run.
      let inside : i + n ≤ end = elim which [ inl e ↦ omega arith | inr e ↦ omega (arith, run.inside) ] in
      elim (cases_lt m (end - from)) [ inl short ↦ found.longest short i n le inside run | inr whole ↦ omega arith ];
  lowest = λ i le within run.
      let inside : i + m ≤ end = elim which [ inl e ↦ omega arith | inr e ↦ omega (arith, run.inside) ] in
      elim (cases_lt m (end - from)) [ inl short ↦ found.lowest short i any le inside run | inr whole ↦ omega (arith, found.inside) ];
}

either : (b : Bool) → (b ≡ true) ⊎ (b ≡ false)
either true = inl refl
either false = inr refl

single : (bits : List Bool) (i : ℕ) → i < length bits → bit bits i ≡ false → IsClearRun bits i 1
single bits i lt clear = record { inside = omega arith; clear = λ j le below. (let same : j ≡ i = omega arith in ap (bit bits) same ∙ clear) }

-- where no run of one is found, each bit is set
pub set_where_none : (bits : List Bool) (from end : ℕ) → ((i : ℕ) → from ≤ i → i + 1 ≤ end → IsClearRun bits i 1 → ⊥) → (i : ℕ) → from ≤ i → i < end → i < length bits → bit bits i ≡ true
set_where_none bits from end none i le lt inside =
    elim (either (bit bits i)) [
      | inl set ↦ set
      | inr clear ↦ absurd (none i le (omega arith) (single bits i inside clear))
    ]

pub all_set_in : (bits : List Bool) (from end end' first m : ℕ) → IsFound bits from end (end - from) first m → from < end → (end ≡ end') ⊎ (end ≡ length bits) → m ≡ 0 → (i : ℕ) → from ≤ i → i < end' → i < length bits → bit bits i ≡ true
all_set_in bits from end end' first m found some which none i le lt inside =
    let within : i + 1 ≤ end = elim which [ inl e ↦ omega arith | inr e ↦ omega arith ] in
    elim (either (bit bits i)) [
      | inl set ↦ set
      | inr clear ↦ (let no = found.longest (omega arith) i 1 le within (single bits i inside clear) in absurd (omega arith))
    ]

pub first_of_all : (bits : List Bool) (len first : ℕ) → IsFirstRunIn bits len 0 (length bits) first → IsFirstRun bits len first
first_of_all bits len first is = record { run = is.run; lowest = λ i run. is.lowest i (omega arith) run.inside run }

pub longest_of_all : (bits : List Bool) (first len : ℕ) → IsLongestRunIn bits 0 (length bits) first len → IsLongestRun bits first len
longest_of_all bits first len is = record { run = is.run; some = is.some; longest = λ i n run. is.longest i n (omega arith) run.inside run; lowest = λ i run. is.lowest i (omega arith) run.inside run }

pub lowest_clear : (bits : List Bool) (from at : ℕ) → IsFirstRunIn bits 1 from (length bits) at → IsLowestClear bits from at
lowest_clear bits from at is = record {
  behind = is.behind;
  inside = omega (arith, is.inside);
  clear = is.run.clear at (omega arith) (omega arith);
  lowest = λ i le lt. elim (either (bit bits i)) [
    | inl set ↦ set
    | inr clear ↦ (let low = is.lowest i le (omega (arith, is.inside)) (single bits i (omega (arith, is.inside)) clear) in absurd (omega arith))
  ];
}

-- ---- calls over the whole set

pub first_run_of_all : (bits : List Bool) (len end : ℕ) (o : Option ℕ) → end ≡ length bits → MatchOption o ((first : ℕ) → 0 ≤ first → first + len ≤ end → IsClearRun bits first len → ⊥) (λ first. IsFirstRunIn bits len 0 end first) → MatchOption o ((first : ℕ) → IsClearRun bits first len → ⊥) (λ first. IsFirstRun bits len first)
first_run_of_all bits len end None e h = λ first run. h first (omega arith) (omega (arith, run.inside)) run
first_run_of_all bits len end (Some x) e h = first_of_all bits len x (rw e at h)

pub longest_run_of_all : (bits : List Bool) (end : ℕ) (o : Option (ℕ × ℕ)) → end ≡ length bits → MatchOption o ((i : ℕ) → 0 ≤ i → i < end → i < length bits → bit bits i ≡ true) (λ run. IsLongestRunIn bits 0 end run.0 run.1) → MatchOption o ((i : ℕ) → i < length bits → bit bits i ≡ true) (λ run. IsLongestRun bits run.0 run.1)
longest_run_of_all bits end None e h = λ i lt. h i (omega arith) (omega arith) lt
longest_run_of_all bits end (Some x) e h = longest_of_all bits x.0 x.1 (rw e at h)

pub lowest_of_all : (bits : List Bool) (from end : ℕ) (o : Option ℕ) → end ≡ length bits → MatchOption o ((i : ℕ) → from ≤ i → i + 1 ≤ end → IsClearRun bits i 1 → ⊥) (λ at. IsFirstRunIn bits 1 from end at) → MatchOption o ((i : ℕ) → from ≤ i → i < length bits → bit bits i ≡ true) (λ at. IsLowestClear bits from at)
lowest_of_all bits from end None e h = λ i le lt. set_where_none bits from end h i le (omega arith) lt
lowest_of_all bits from end (Some x) e h = lowest_clear bits from x (rw e at h)

-- a run of set bits that ends before the end
pub near : (bits : List Bool) (words : List ℕ) (n from end at : ℕ) → IsView bits words n → end ≤ n → from ≤ at → at < end → ((i : ℕ) → from ≤ i → i < at → word_bit words i ≡ true) → (word_bit words at ≢ true) → IsLowestClear bits from at
near bits words n from end at view fits behind lt set other = record {
  behind = behind;
  inside = omega (arith, view.count);
  clear = elim (either (bit bits at)) [
    | inl set_here ↦ absurd (other (sym (view.inside at (omega arith)) ∙ set_here))
    | inr clear_here ↦ clear_here
  ];
  lowest = λ i le below. view.inside i (omega arith) ∙ set i le below;
}

-- the lower one of two ends
pub which_end : (bits : List Bool) (end last : ℕ) → last ≡ min end (length bits) → (last ≡ end) ⊎ (last ≡ length bits)
which_end bits end last e = elim (cases_lt end (length bits)) [ inl low ↦ inl (omega arith) | inr high ↦ inr (omega arith) ]
