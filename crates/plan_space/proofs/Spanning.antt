-- The bits where the clusters of spans are set.
use Rattle.std.proofs.Common.{◌≡◌, ℕ, zero, suc, ◌+◌, ◌-◌, ◌/◌, ◌<◌, ◌≤◌, ◌⊎◌, Bool, true, false, cond, ◌&&◌, ◌||◌, List, [], ◌∷◌, ◌++◌, length, refl, sym, ap, ap₂, subst, ◌∙◌, inl, inr, arith}
use Rattle.std.specs.Prelude.{nat_lt, Some, None}
use Rattle.std.proofs.lemmas.Bool.{cases_lt, false≢true}
use Rattle.std.proofs.lemmas.Bool.Decides.{nat_tests}
use Rattle.std.proofs.lemmas.List.{get_or_past, ext_get_or}
use Rattle.std.proofs.lemmas.List.Elements.{All-append}
use Rattle.std.proofs.lemmas.List.FromFn.{length-map-range_with_len, get_or-map-range_with_len}
use Rattle.space_model.specs.bit_set.Bits.{bit, IsClearRun, IsFirstRun, IsFirstRunIn, IsLongestRun}
use Rattle.space_model.specs.Choosing.{with_run}
use Rattle.space_model.proofs.Searching.{length-with_run, with_run-inside, with_run-others}
use Rattle.plan_space.specs.declared.taken.Span.{Span}
use Rattle.plan_space.specs.Spans.{is_inside, is_taken, with_spans, AreSome, barrier}

pub length-with_spans : (spans : List Span) (bits : List Bool) → length (with_spans spans bits) ≡ length bits
unfolding with_spans
length-with_spans spans bits = length-map-range_with_len (λ i. is_taken spans i || bit bits i) 0 (length bits)

pub bit-with_spans : (spans : List Span) (bits : List Bool) (i : ℕ) → i < length bits → bit (with_spans spans bits) i ≡ (is_taken spans i || bit bits i)
unfolding with_spans
bit-with_spans spans bits i lt = get_or-map-range_with_len (λ i. is_taken spans i || bit bits i) 0 (length bits) i i false lt (omega arith)

or-left : (a b : Bool) → (a || b) ≡ false → a ≡ false
or-left false b e = refl
or-left true b e = e

or-right : (a b : Bool) → (a || b) ≡ false → b ≡ false
or-right false b e = e
or-right true b e = absurd (false≢true (sym e))

none-or : (a b : Bool) → a ≡ false → (a || b) ≡ b
none-or a b e = ap (λ (x : Bool). x || b) e

pub with_no_span : (bits : List Bool) → with_spans [] bits ≡ bits
unfolding is_taken
with_no_span bits = ext_get_or false (with_spans [] bits) bits (length-with_spans [] bits) (λ i lt. bit-with_spans [] bits i (let e = length-with_spans [] bits in omega (arith, e, lt)))

-- what is clear with the spans is clear without, and in none of them
pub clear_without : (spans : List Span) (bits : List Bool) (first len : ℕ) → IsClearRun (with_spans spans bits) first len → IsClearRun bits first len
clear_without spans bits first len run =
    (let e : first + len ≤ length (with_spans spans bits) = run.inside in
    let f = length-with_spans spans bits in
    record {
      inside = omega (arith, e, f);
      clear = λ i le lt. or-right (is_taken spans i) (bit bits i) (sym (bit-with_spans spans bits i (omega (arith, e, f, lt))) ∙ run.clear i le lt);
    })

pub clear_untaken : (spans : List Span) (bits : List Bool) (first len i : ℕ) → IsClearRun (with_spans spans bits) first len → first ≤ i → i < first + len → is_taken spans i ≡ false
clear_untaken spans bits first len i run le lt =
    (let e : first + len ≤ length (with_spans spans bits) = run.inside in
    let f = length-with_spans spans bits in
    or-left (is_taken spans i) (bit bits i) (sym (bit-with_spans spans bits i (omega (arith, e, f, lt))) ∙ run.clear i le lt))

pub still_clear : (spans : List Span) (bits : List Bool) (first len : ℕ) → IsClearRun bits first len → ((i : ℕ) → first ≤ i → i < first + len → is_taken spans i ≡ false) → IsClearRun (with_spans spans bits) first len
still_clear spans bits first len run free =
    (let e : first + len ≤ length bits = run.inside in
    let f = length-with_spans spans bits in
    record {
      inside = omega (arith, e, f);
      clear = λ i le lt. bit-with_spans spans bits i (omega (arith, e, lt)) ∙ none-or (is_taken spans i) (bit bits i) (free i le lt) ∙ run.clear i le lt;
    })

-- ---- barriers

outside : (s : Span) (first end i : ℕ) → (nat_lt s.first end && nat_lt first s.end) ≡ false → first ≤ i → i < end → is_inside s i ≡ false
outside s first end i e le lt = grind (arith, nat_tests)

no_barrier_step : (s : Span) (spans : List Span) (first end i : ℕ) (v : Bool) → (nat_lt s.first end && nat_lt first s.end) ≡ v → (if_some : cond v (Some s.end) (barrier first end spans) ≡ None) → first ≤ i → i < end
    → (barrier first end spans ≡ None → is_taken spans i ≡ false) → (is_inside s i || is_taken spans i) ≡ false
no_barrier_step s spans first end i true holds none le lt next = absurd (some_is_none none)
  where
    some_is_none : Some s.end ≡ None → ⊥
    some_is_none e = cc
no_barrier_step s spans first end i false holds none le lt next = ap₂ ◌||◌ (outside s first end i holds le lt) (next none)

pub no_barrier : (spans : List Span) (first end i : ℕ) → barrier first end spans ≡ None → first ≤ i → i < end → is_taken spans i ≡ false
unfolding barrier is_taken
no_barrier [] first end i none le lt = refl
no_barrier (s ∷ spans) first end i none le lt = no_barrier_step s spans first end i (nat_lt s.first end && nat_lt first s.end) refl none le lt (λ none'. no_barrier spans first end i none' le lt)

-- a span that has clusters between these two, and ends here
pub record IsBarrier (spans : List Span) (first end next : ℕ) : Type 0 where
  pub begin : ℕ
  pub some : begin < next
  pub before : begin < end
  pub behind : first < next
  pub taken : (i : ℕ) → begin ≤ i → i < next → is_taken spans i ≡ true

here : (s : Span) (i : ℕ) (rest : Bool) → s.first ≤ i → i < s.end → (is_inside s i || rest) ≡ true
here s i rest le lt = ap (λ (b : Bool). b || rest) (inside s i le lt)
  where
    inside : (s : Span) (i : ℕ) → s.first ≤ i → i < s.end → is_inside s i ≡ true
    inside s i le lt = grind (arith, nat_tests)

later : (a b : Bool) → b ≡ true → (a || b) ≡ true
later true b e = refl
later false b e = e

both-left : (s : Span) (first end : ℕ) → (nat_lt s.first end && nat_lt first s.end) ≡ true → s.first < end
both-left s first end e = grind (arith, nat_tests)

both-right : (s : Span) (first end : ℕ) → (nat_lt s.first end && nat_lt first s.end) ≡ true → first < s.end
both-right s first end e = grind (arith, nat_tests)

barrier_step : (s : Span) (spans : List Span) (first end next : ℕ) (v : Bool) → (nat_lt s.first end && nat_lt first s.end) ≡ v → cond v (Some s.end) (barrier first end spans) ≡ Some next → s.first < s.end
    → (barrier first end spans ≡ Some next → IsBarrier spans first end next) → IsBarrier (s ∷ spans) first end next
unfolding is_taken
barrier_step s spans first end next true holds is some rest = subst (IsBarrier (s ∷ spans) first end) (same_end is) (record {
  begin = s.first;
  some = some;
  before = both-left s first end holds;
  behind = both-right s first end holds;
  taken = λ i le lt. here s i (is_taken spans i) le lt;
})
  where
    same_end : Some s.end ≡ Some next → s.end ≡ next
    same_end e = cc
barrier_step s spans first end next false holds is some rest =
    (let r = rest is in record { begin = r.begin; some = r.some; before = r.before; behind = r.behind; taken = λ i le lt. later (is_inside s i) (is_taken spans i) (r.taken i le lt) })

pub is_barrier : (spans : List Span) (first end next : ℕ) → AreSome spans → barrier first end spans ≡ Some next → IsBarrier spans first end next
unfolding barrier
is_barrier [] first end next some is = absurd (none_is_some is)
  where
    none_is_some : None ≡ Some next → ⊥
    none_is_some e = cc
is_barrier (s ∷ spans) first end next some is = barrier_step s spans first end next (nat_lt s.first end && nat_lt first s.end) refl is (some 0 s (omega arith)) (is_barrier spans first end next (λ k d lt. some (suc k) d (omega arith)))

-- a run from this place on that is clear with the spans begins behind the barrier
pub past_barrier : (spans : List Span) (bits : List Bool) (first len next i : ℕ) → 0 < len → IsBarrier spans first (first + len) next → IsClearRun (with_spans spans bits) i len → first ≤ i → next ≤ i
past_barrier spans bits first len next i some b run le =
    elim (cases_lt i next) [
      | inl below ↦ elim (cases_lt i b.begin) [
        | inl before ↦ absurd (false≢true (sym (clear_untaken spans bits i len b.begin run (omega arith) (omega (arith, b.before, le))) ∙ b.taken b.begin (omega arith) b.some))
        | inr behind ↦ absurd (false≢true (sym (clear_untaken spans bits i len i run (omega arith) (omega arith)) ∙ b.taken i behind below))
      ]
      | inr past ↦ past
    ]

-- ---- one span more

is_taken-more : (spans : List Span) (s : Span) (i : ℕ) → is_taken (spans ++ s ∷ []) i ≡ (is_taken spans i || is_inside s i)
unfolding is_taken
is_taken-more [] s i = or-none (is_inside s i)
  where
    or-none : (a : Bool) → (a || false) ≡ a
    or-none true = refl
    or-none false = refl
is_taken-more (t ∷ spans) s i = ap (λ (b : Bool). is_inside t i || b) (is_taken-more spans s i) ∙ or-assoc (is_inside t i) (is_taken spans i) (is_inside s i)
  where
    or-assoc : (a b c : Bool) → (a || (b || c)) ≡ ((a || b) || c)
    or-assoc true b c = refl
    or-assoc false b c = refl

pub are_some-more : (spans : List Span) (s : Span) (all : List Span) → AreSome spans → s.first < s.end → all ≡ spans ++ s ∷ [] → AreSome all
are_some-more spans s all some more are = subst AreSome (sym are) (All-append (λ (s : Span). s.first < s.end) spans (s ∷ []) some (one more))
  where
    one : s.first < s.end → AreSome (s ∷ [])
    one more zero d lt = more
    one more (suc k) d lt = absurd (omega arith)

mixed : (a b c : Bool) → c ≡ false → ((a || c) || b) ≡ (a || b)
mixed true b c e = refl
mixed false b c e = ap (λ (x : Bool). x || b) e

all_mixed : (a b c : Bool) → c ≡ true → ((a || c) || b) ≡ true
all_mixed true b c e = refl
all_mixed false b c e = ap (λ (x : Bool). x || b) e

not_inside : (s : Span) (i : ℕ) → (i < s.first) ⊎ (s.end ≤ i) → is_inside s i ≡ false
not_inside s i (inl below) = grind (arith, nat_tests)
not_inside s i (inr past) = grind (arith, nat_tests)

now_inside : (s : Span) (i : ℕ) → s.first ≤ i → i < s.end → is_inside s i ≡ true
now_inside s i le lt = grind (arith, nat_tests)

pub spanned : (spans : List Span) (bits : List Bool) (first len : ℕ) (all : List Span) → all ≡ spans ++ record { first = first; end = first + len } ∷ [] → with_spans all bits ≡ with_run first len (with_spans spans bits)
spanned spans bits first len all are =
    ap (λ (x : List Span). with_spans x bits) are
    ∙ ext_get_or false (with_spans (spans ++ record { first = first; end = first + len } ∷ []) bits) (with_run first len (with_spans spans bits))
    (length-with_spans (spans ++ record { first = first; end = first + len } ∷ []) bits ∙ sym (length-with_run first len (with_spans spans bits) ∙ length-with_spans spans bits))
    (λ i lt. at i (let e = length-with_spans (spans ++ record { first = first; end = first + len } ∷ []) bits in omega (arith, e, lt)))
  where
    s : Span
    s = record { first = first; end = first + len }

    at : (i : ℕ) → i < length bits → bit (with_spans (spans ++ s ∷ []) bits) i ≡ bit (with_run first len (with_spans spans bits)) i
    at i lt =
        bit-with_spans (spans ++ s ∷ []) bits i lt ∙ ap (λ (b : Bool). b || bit bits i) (is_taken-more spans s i)
        ∙ elim (cases_lt i first) [
          | inl below ↦ mixed (is_taken spans i) (bit bits i) (is_inside s i) (not_inside s i (inl below)) ∙ sym (bit-with_spans spans bits i lt) ∙ sym (with_run-others first len (with_spans spans bits) i (inl below))
          | inr from ↦ elim (cases_lt i (first + len)) [
            | inl inside ↦ all_mixed (is_taken spans i) (bit bits i) (is_inside s i) (now_inside s i from inside) ∙ sym (with_run-inside first len (with_spans spans bits) i from inside (let e = length-with_spans spans bits in omega (arith, e, lt)))
            | inr past ↦ mixed (is_taken spans i) (bit bits i) (is_inside s i) (not_inside s i (inr past)) ∙ sym (bit-with_spans spans bits i lt) ∙ sym (with_run-others first len (with_spans spans bits) i (inr past))
          ]
        ]

-- ---- what the code asks

pub none_some : (spans : List Span) → spans ≡ [] → AreSome spans
none_some [] e k d lt = absurd (omega arith)
none_some (s ∷ spans) e k d lt = absurd (some_none e)
  where
    some_none : s ∷ spans ≡ [] → ⊥
    some_none h = cc

or-set : (a b : Bool) → b ≡ true → (a || b) ≡ true
or-set true b e = refl
or-set false b e = e

or-clear : (a b : Bool) → b ≡ false → (a || b) ≡ a
or-clear true b e = refl
or-clear false b e = e

pub tested_base : (spans : List Span) (bits : List Bool) (i : ℕ) → bit bits i ≡ true → bit (with_spans spans bits) i ≡ true
tested_base spans bits i set =
    elim (cases_lt i (length bits)) [
      | inl lt ↦ bit-with_spans spans bits i lt ∙ or-set (is_taken spans i) (bit bits i) set
      | inr past ↦ absurd (false≢true (sym (get_or_past bits i false past) ∙ set))
    ]

pub tested_spans : (spans : List Span) (bits : List Bool) (i : ℕ) → i < length bits → bit bits i ≡ false → bit (with_spans spans bits) i ≡ is_taken spans i
tested_spans spans bits i lt clear = bit-with_spans spans bits i lt ∙ or-clear (is_taken spans i) (bit bits i) clear

pub tested_past : (spans : List Span) (bits : List Bool) (i count : ℕ) → count ≡ length bits → count ≤ i → nat_lt i count ≡ bit (with_spans spans bits) i
tested_past spans bits i count is past = not_below i count past ∙ sym (get_or_past (with_spans spans bits) i false (let e = length-with_spans spans bits in omega (arith, e, is, past)))
  where
    not_below : (i count : ℕ) → count ≤ i → nat_lt i count ≡ false
    not_below i count past = grind (arith, nat_tests)

pub first_with : (spans : List Span) (bits : List Bool) (from len end first : ℕ) → end ≡ length bits → ((i : ℕ) → IsClearRun (with_spans spans bits) i len → from ≤ i) → IsFirstRunIn bits len from end first
    → barrier first (first + len) spans ≡ None → IsFirstRun (with_spans spans bits) len first
first_with spans bits from len end first is passed found none = record {
  run = still_clear spans bits first len found.run (λ i le lt. no_barrier spans first (first + len) i none le lt);
  lowest = λ i run. (let r = clear_without spans bits i len run in found.lowest i (passed i run) (let e = r.inside in omega (arith, is, e)) r);
}

pub passed_more : (spans : List Span) (bits : List Bool) (from len end first next : ℕ) → end ≡ length bits → 0 < len → AreSome spans → ((i : ℕ) → IsClearRun (with_spans spans bits) i len → from ≤ i) → IsFirstRunIn bits len from end first
    → barrier first (first + len) spans ≡ Some next → (i : ℕ) → IsClearRun (with_spans spans bits) i len → next ≤ i
passed_more spans bits from len end first next all wanted some passed found is i run =
    (let r = clear_without spans bits i len run in past_barrier spans bits first len next i wanted (is_barrier spans first (first + len) next some is) run (found.lowest i (passed i run) (let e = r.inside in omega (arith, all, e)) r))

pub no_first_with : (spans : List Span) (bits : List Bool) (from len : ℕ) → ((i : ℕ) → IsClearRun (with_spans spans bits) i len → from ≤ i) → ((i : ℕ) → from ≤ i → i + len ≤ length bits → IsClearRun bits i len → ⊥)
    → (i : ℕ) → IsClearRun (with_spans spans bits) i len → ⊥
no_first_with spans bits from len passed none i run = (let r = clear_without spans bits i len run in none i (passed i run) r.inside r)

-- longest runs by halves
shorter : (bits : List Bool) (first n len : ℕ) → len ≤ n → IsClearRun bits first n → IsClearRun bits first len
shorter bits first n len le run = (let e : first + n ≤ length bits = run.inside in record { inside = omega (arith, e, le); clear = λ i from lt. run.clear i from (omega (arith, le, lt)) })

pub longest_found : (bits : List Bool) (first len : ℕ) → 0 < len → IsFirstRun bits len first → ((i : ℕ) → IsClearRun bits i (len + 1) → ⊥) → IsLongestRun bits first len
longest_found bits first len some found none = record {
  run = found.run;
  some = some;
  longest = λ i n run. elim (cases_lt len n) [ inl more ↦ absurd (none i (shorter bits i n (len + 1) (omega arith) run)) | inr few ↦ few ];
  lowest = found.lowest;
}

pub none_longer : (spans : List Span) (bits : List Bool) (first len i : ℕ) → IsLongestRun bits first len → IsClearRun (with_spans spans bits) i (len + 1) → ⊥
none_longer spans bits first len i found run = (let e : len + 1 ≤ len = found.longest i (len + 1) (clear_without spans bits i (len + 1) run) in absurd (omega (arith, e)))

set_by : (bits : List Bool) (i : ℕ) (v : Bool) → bit bits i ≡ v → i < length bits → (IsClearRun bits i 1 → ⊥) → bit bits i ≡ true
set_by bits i true is lt none = is
set_by bits i false is lt none = absurd (none (record { inside = omega arith; clear = λ j le below. ap (bit bits) (same i j le below) ∙ is }))
  where
    same : (i j : ℕ) → i ≤ j → j < i + 1 → j ≡ i
    same i j le lt = omega arith

pub all_set_with : (bits : List Bool) (len : ℕ) → len ≡ 0 → ((i : ℕ) → IsClearRun bits i (len + 1) → ⊥) → (i : ℕ) → i < length bits → bit bits i ≡ true
all_set_with bits len nothing none i lt = set_by bits i (bit bits i) refl lt (λ run. none i (subst (IsClearRun bits i) (one len nothing) run))
  where
    one : (len : ℕ) → len ≡ 0 → 1 ≡ len + 1
    one len e = omega (arith, e)

pub all_set_without : (spans : List Span) (bits : List Bool) → ((i : ℕ) → i < length bits → bit bits i ≡ true) → (i : ℕ) → i < length (with_spans spans bits) → bit (with_spans spans bits) i ≡ true
all_set_without spans bits set i lt = tested_base spans bits i (set i (let e = length-with_spans spans bits in omega (arith, e, lt)))

pub halves : (least most : ℕ) → least < most → most - (most - least) / 2 - 1 + 1 ≡ most - (most - least) / 2
halves least most lt = omega arith

-- a Vec that was lent as a slice
pub as_slice : (spans lent : List Span) (first end : ℕ) → lent ≡ spans → barrier first end spans ≡ barrier first end lent
as_slice spans lent first end e = ap (barrier first end) (sym e)
