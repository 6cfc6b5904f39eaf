-- A way up on which no record is passed twice.
use Rattle.std.proofs.Common.{◌≡◌, ◌≢◌, ℕ, zero, suc, ◌+◌, ◌-◌, ◌<◌, ◌≤◌, ◌⊎◌, Bool, true, false, List, [], ◌∷◌, ◌++◌, Option, Some, None, length, replicate, get_or, set, refl, sym, ap, subst, ◌∙◌, inl, inr, arith, get_or-set_same, get_or-set_other, length-append}
use Rattle.std.specs.Prelude.{map, nat_lt, if◌then◌else◌}
use Rattle.std.specs.List.{range_with_len}
use Rattle.std.proofs.lemmas.Bool.{cases_eq, ltb-true, ltb-false}
use Rattle.std.proofs.lemmas.List.{get_or_past, length-set}
use Rattle.std.proofs.lemmas.List.FromFn.{length-map-range_with_len}
use Rattle.state_model.specs.file_tree.Walks.{at_some}
use Rattle.record_rules.specs.declared.passing.Question.{Question}
use Rattle.record_rules.specs.declared.passing.Question.TheVariants.{Rooted, InSystem}
use Rattle.record_rules.proofs.Ascents.{map_more}
use Rattle.record_rules.specs.Passing.{end_of, answer_or, climbed, reach, answered, passed_answer, known_by, known, passed, Tells, IsSettled, AreSettled}

abbrev number_of : Option ℕ → ℕ
number_of None = 0
number_of (Some n) = n

some_same : (a b : ℕ) → Some a ≡ Some b → a ≡ b
some_same a b e = ap number_of e

abbrev answer_of : Option Bool → Bool
answer_of None = false
answer_of (Some b) = b

some_bool : (a b : Bool) → Some a ≡ Some b → a ≡ b
some_bool a b e = ap answer_of e

-- ---- one record more

climbed_suc : (q : Question) (ps : List (Option ℕ)) (most n : ℕ) → climbed q ps (suc most) n ≡ answer_or (end_of q n) (at_some (climbed q ps most) (get_or ps n None))
unfolding climbed
climbed_suc q ps most n = refl

climbed_zero : (q : Question) (ps : List (Option ℕ)) (n : ℕ) → climbed q ps zero n ≡ false
unfolding climbed
climbed_zero q ps n = refl

raised : (e : Option Bool) (o : Option ℕ) (f g : ℕ → Bool) → ((k : ℕ) → f k ≡ true → g k ≡ true) → answer_or e (at_some f o) ≡ true → answer_or e (at_some g o) ≡ true
raised (Some b) o f g more is = is
raised None None f g more is = is
raised None (Some k) f g more is = more k is

climbed_more : (q : Question) (ps : List (Option ℕ)) (most n : ℕ) → climbed q ps most n ≡ true → climbed q ps (suc most) n ≡ true
climbed_more q ps zero n is = let e = climbed_zero q ps n in absurd cc
climbed_more q ps (suc most) n is = climbed_suc q ps (suc most) n ∙ raised (end_of q n) (get_or ps n None) (climbed q ps most) (climbed q ps (suc most)) (climbed_more q ps most) (sym (climbed_suc q ps most n) ∙ is)

climbed_on : (q : Question) (ps : List (Option ℕ)) (more most n : ℕ) → climbed q ps most n ≡ true → climbed q ps (more + most) n ≡ true
climbed_on q ps zero most n is = let e : 0 + most ≡ most = omega arith in ap (λ k. climbed q ps k n) e ∙ is
climbed_on q ps (suc more) most n is = let e : suc more + most ≡ suc (more + most) = omega arith in ap (λ k. climbed q ps k n) e ∙ climbed_more q ps (more + most) n (climbed_on q ps more most n is)

climbed_within : (q : Question) (ps : List (Option ℕ)) (most further n : ℕ) → most ≤ further → climbed q ps most n ≡ true → climbed q ps further n ≡ true
climbed_within q ps most further n le is =
    let e : (further - most) + most ≡ further = omega arith in
    ap (λ k. climbed q ps k n) (sym e) ∙ climbed_on q ps (further - most) most n is

-- where no way ends, the answer is that of the directory
between_step : (q : Question) (ps : List (Option ℕ)) (most n : ℕ) → end_of q n ≡ None → climbed q ps (suc most) n ≡ at_some (climbed q ps most) (get_or ps n None)
between_step q ps most n between = climbed_suc q ps most n ∙ ap (λ e. answer_or e (at_some (climbed q ps most) (get_or ps n None))) between

ends_step : (q : Question) (ps : List (Option ℕ)) (most n : ℕ) (b : Bool) → end_of q n ≡ Some b → climbed q ps (suc most) n ≡ b
ends_step q ps most n b ends = climbed_suc q ps most n ∙ ap (λ e. answer_or e (at_some (climbed q ps most) (get_or ps n None))) ends

-- ---- records from which no way says yes

abbrev pub Never : Question → List (Option ℕ) → ℕ → Type 0
Never q ps n = (more : ℕ) → climbed q ps more n ≡ false

none_above : (f : ℕ → Bool) (o : Option ℕ) → ((m : ℕ) → o ≡ Some m → f m ≡ false) → at_some f o ≡ false
none_above f None each = refl
none_above f (Some m) each = each m refl

-- records whose directories are among them, or say no, all say no
lost : (q : Question) (ps : List (Option ℕ)) (S : ℕ → Type 0) → ((n : ℕ) → S n → end_of q n ≡ None) → ((n : ℕ) → S n → (m : ℕ) → get_or ps n None ≡ Some m → S m ⊎ Never q ps m) → (more n : ℕ) → S n → climbed q ps more n ≡ false
lost q ps S between closed zero n s = climbed_zero q ps n
lost q ps S between closed (suc more) n s =
    between_step q ps more n (between n s)
    ∙ none_above (climbed q ps more) (get_or ps n None) (λ m is. elim (closed n s m is) [
      | inl t ↦ lost q ps S between closed more m t
      | inr never ↦ never more
    ])

-- ---- how many records were passed

passed_set : (xs : List (Option ℕ)) (i v : ℕ) → i < length xs → get_or xs i None ≡ None → passed (set xs i (Some v)) ≡ suc (passed xs)
passed_set [] i v lt is = absurd (omega arith)
passed_set (None ∷ xs) zero v lt is = refl
passed_set (Some x ∷ xs) zero v lt is = absurd cc
passed_set (None ∷ xs) (suc i) v lt is = passed_set xs i v (omega arith) is
passed_set (Some x ∷ xs) (suc i) v lt is = ap suc (passed_set xs i v (omega arith) is)

passed_most : (xs : List (Option ℕ)) → passed xs ≤ length xs
passed_most [] = omega arith
passed_most (None ∷ xs) = omega (arith, passed_most xs)
passed_most (Some x ∷ xs) = omega (arith, passed_most xs)

-- where a record wasn't passed, not all were
passed_fewer : (xs : List (Option ℕ)) (i : ℕ) → i < length xs → get_or xs i None ≡ None → passed xs < length xs
passed_fewer xs i lt is = omega (arith, passed_set xs i 0 lt is, passed_most (set xs i (Some 0)), length-set xs i (Some 0))

-- ---- what is known

by_none : (e o : Option Bool) → known_by e o ≡ None → (e ≡ None) × (o ≡ None)
by_none None o is = (refl, is)
by_none (Some b) o is = absurd cc

answered_none : (answers : List Bool) (o : Option ℕ) → answered answers o ≡ None → o ≡ None
answered_none answers None is = refl
answered_none answers (Some first) is = absurd cc

within_none : (answers : List Bool) (b : Bool) (o : Option ℕ) → (if b then answered answers o else Some false) ≡ None → (b ≡ true) × (o ≡ None)
within_none answers true o is = (refl, answered_none answers o is)
within_none answers false o is = absurd cc

-- a record at which nothing is known wasn't passed, and no way ends there
pub record IsUnknown (q : Question) (firsts : List (Option ℕ)) (n : ℕ) : Type 0 where
  pub between : end_of q n ≡ None
  pub inside : n < length firsts
  pub fresh : get_or firsts n None ≡ None

pub unknown : (q : Question) (firsts : List (Option ℕ)) (answers : List Bool) (n : ℕ) → known q firsts answers n ≡ None → IsUnknown q firsts n
unknown q firsts answers n is =
    let both = by_none (end_of q n) (passed_answer firsts answers n) is in
    let here = within_none answers (nat_lt n (length firsts)) (get_or firsts n None) both.1 in
    record { between = both.0; inside = ltb-true n (length firsts) here.0; fresh = here.1 }

-- ---- a way up

-- A record that was passed on this way: its directory was, or comes next, and what is answered from there on is answered
-- from it, of as many records more as were passed since.
pub record IsOnWay (q : Question) (ps firsts : List (Option ℕ)) (start : ℕ) (at : Option ℕ) (base n first : ℕ) : Type 0 where
  pub same : first ≡ start
  pub between : end_of q n ≡ None
  pub above : (m : ℕ) → get_or ps n None ≡ Some m → (at ≡ Some m) ⊎ (get_or firsts m None ≡ Some start)
  pub leads : (most further : ℕ) → further + base ≡ most + passed firsts → at_some (climbed q ps most) at ≡ true → climbed q ps further n ≡ true

-- the way up from a record as far as it has come, where so many records were passed before
pub record IsUnderWay (q : Question) (ps : List (Option ℕ)) (answers : List Bool) (base : ℕ) (firsts : List (Option ℕ)) (at : Option ℕ) : Type 0 where
  pub before : base ≤ passed firsts
  pub ways : (n first : ℕ) → get_or firsts n None ≡ Some first → IsSettled q ps answers (suc base) n first ⊎ IsOnWay q ps firsts (length answers) at base n first
  pub here : (at ≡ Some (length answers)) ⊎ (get_or firsts (length answers) None ≡ Some (length answers))

pub starts : (q : Question) (ps : List (Option ℕ)) (answers : List Bool) (firsts : List (Option ℕ)) → AreSettled q ps firsts answers → IsUnderWay q ps answers (passed firsts) firsts (Some (length answers))
starts q ps answers firsts settled = record {
  before = omega arith;
  ways = λ n first is. inl (settled n first is);
  here = inl refl;
}

-- ---- one step up

set_cases : (xs : List (Option ℕ)) (i v n : ℕ) (first : ℕ) → i < length xs → get_or (set xs i (Some v)) n None ≡ Some first → ((n ≡ i) × (first ≡ v)) ⊎ ((n ≢ i) × (get_or xs n None ≡ Some first))
set_cases xs i v n first lt is =
    elim (cases_eq n i) [
      | inl same ↦ (let e : Some first ≡ Some v = sym is ∙ ap (λ k. get_or (set xs i (Some v)) k None) same ∙ get_or-set_same xs i (Some v) None lt in inl (same, some_same first v e))
      | inr other ↦ inr (other, sym (get_or-set_other xs i n (Some v) None other) ∙ is)
    ]

-- a record that was passed stays so
stays : (xs : List (Option ℕ)) (i m v : ℕ) → i < length xs → get_or xs m None ≡ Some v → get_or (set xs i (Some v)) m None ≡ Some v
stays xs i m v lt is =
    elim (cases_eq m i) [
      | inl same ↦ ap (λ k. get_or (set xs i (Some v)) k None) same ∙ get_or-set_same xs i (Some v) None lt
      | inr other ↦ get_or-set_other xs i m (Some v) None other ∙ is
    ]

-- an answer from the directory on is one from the record, a step further
up_one : (q : Question) (ps : List (Option ℕ)) (most n : ℕ) → end_of q n ≡ None → at_some (climbed q ps most) (get_or ps n None) ≡ true → climbed q ps (suc most) n ≡ true
up_one q ps most n between is = between_step q ps most n between ∙ is

-- the record at which the way has come
now_passed : (q : Question) (ps firsts : List (Option ℕ)) (start base n : ℕ) → base ≤ passed firsts → IsUnknown q firsts n → IsOnWay q ps (set firsts n (Some start)) start (get_or ps n None) base n start
now_passed q ps firsts start base n before u = record {
  same = refl;
  between = u.between;
  above = λ m is. inl is;
  leads = λ most further enough is. climbed_within q ps (suc most) further n (omega (arith, enough, before, passed_set firsts n start u.inside u.fresh)) (up_one q ps most n u.between is);
}

-- one that was passed before
still_passed : (q : Question) (ps firsts : List (Option ℕ)) (start base n k first : ℕ) → base ≤ passed firsts → IsUnknown q firsts n → IsOnWay q ps firsts start (Some n) base k first → IsOnWay q ps (set firsts n (Some start)) start (get_or ps n None) base k first
still_passed q ps firsts start base n k first before u o = record {
  same = o.same;
  between = o.between;
  above = λ m is. inr (elim (o.above m is) [
    | inl here ↦ (let e : n ≡ m = some_same n m here in ap (λ j. get_or (set firsts n (Some start)) j None) (sym e) ∙ get_or-set_same firsts n (Some start) None u.inside)
    | inr was ↦ stays firsts n m start u.inside was
  ]);
  leads = λ most further enough is. o.leads (suc most) further (omega (arith, enough, passed_set firsts n start u.inside u.fresh)) (up_one q ps most n u.between is);
}

pub steps_up : (q : Question) (ps : List (Option ℕ)) (answers : List Bool) (base : ℕ) (firsts : List (Option ℕ)) (n : ℕ) → IsUnderWay q ps answers base firsts (Some n) → known q firsts answers n ≡ None → IsUnderWay q ps answers base (set firsts n (Some (length answers))) (get_or ps n None)
steps_up q ps answers base firsts n w is =
    let u = unknown q firsts answers n is in
    let size = passed_set firsts n (length answers) u.inside u.fresh in
    record {
      before = omega (arith, size, w.before);
      ways = λ k first was. elim (set_cases firsts n (length answers) k first u.inside was) [
        | inl now ↦ inr (subst (λ j. IsOnWay q ps (set firsts n (Some (length answers))) (length answers) (get_or ps n None) base j first) (sym now.0) (subst (λ j. IsOnWay q ps (set firsts n (Some (length answers))) (length answers) (get_or ps n None) base n j) (sym now.1) (now_passed q ps firsts (length answers) base n w.before u)))
        | inr old ↦ elim (w.ways k first old.1) [
          | inl settled ↦ inl settled
          | inr o ↦ inr (still_passed q ps firsts (length answers) base n k first w.before u o)
        ]
      ];
      here = inr (elim w.here [
        | inl e ↦ (let same : n ≡ length answers = some_same n (length answers) e in ap (λ j. get_or (set firsts n (Some (length answers))) j None) (sym same) ∙ get_or-set_same firsts n (Some (length answers)) None u.inside)
        | inr was ↦ stays firsts n (length answers) (length answers) u.inside was
      ]);
    }

-- ---- the end of a way

-- what the end of a way leaves
pub record IsEnded (q : Question) (ps : List (Option ℕ)) (answers : List Bool) (firsts : List (Option ℕ)) (b : Bool) : Type 0 where
  pub told : Tells q ps (suc (passed firsts)) (length answers) b
  pub settled : AreSettled q ps firsts (answers ++ b ∷ [])

get_left : (xs : List Bool) (b : Bool) (i : ℕ) → i < length xs → get_or (xs ++ b ∷ []) i false ≡ get_or xs i false
get_left [] b i lt = absurd (omega arith)
get_left (x ∷ xs) b zero lt = refl
get_left (x ∷ xs) b (suc i) lt = get_left xs b i (omega arith)

get_last : (xs : List Bool) (b : Bool) (i : ℕ) → i ≡ length xs → get_or (xs ++ b ∷ []) i false ≡ b
get_last [] b zero is = refl
get_last [] b (suc i) is = absurd (omega (arith, is))
get_last (x ∷ xs) b zero is = absurd (omega (arith, is))
get_last (x ∷ xs) b (suc i) is = get_last xs b i (omega (arith, is))

raise_tells : (q : Question) (ps : List (Option ℕ)) (most further n : ℕ) (b : Bool) → most ≤ further → Tells q ps most n b → Tells q ps further n b
raise_tells q ps most further n true le is = climbed_within q ps most further n le is
raise_tells q ps most further n false le never = never

-- a record that was settled stays so with an answer more
keep_settled : (q : Question) (ps : List (Option ℕ)) (answers : List Bool) (b : Bool) (most further n first : ℕ) → most ≤ further → IsSettled q ps answers most n first → IsSettled q ps (answers ++ b ∷ []) further n first
keep_settled q ps answers b most further n first le s = record {
  earlier = (let size = length-append answers (b ∷ []) in omega (arith, size, s.earlier));
  between = s.between;
  tells = subst (λ a. Tells q ps further n a) (sym (get_left answers b first s.earlier)) (raise_tells q ps most further n (get_or answers first false) le s.tells);
}

-- a record on this way is settled by its answer
new_settled : (q : Question) (ps : List (Option ℕ)) (answers : List Bool) (b : Bool) (most n first : ℕ) → first ≡ length answers → end_of q n ≡ None → Tells q ps most n b → IsSettled q ps (answers ++ b ∷ []) most n first
new_settled q ps answers b most n first same between tells = record {
  earlier = (let size = length-append answers (b ∷ []) in omega (arith, size, same));
  between = between;
  tells = subst (λ a. Tells q ps most n a) (sym (get_last answers b first same)) tells;
}

-- what holds of a way's first record: it stands where the way has come, or was passed on it
on_start : (q : Question) (ps : List (Option ℕ)) (answers : List Bool) (base : ℕ) (firsts : List (Option ℕ)) (at : Option ℕ) (n : ℕ) → IsUnderWay q ps answers base firsts at → get_or firsts n None ≡ Some (length answers) → IsOnWay q ps firsts (length answers) at base n (length answers)
on_start q ps answers base firsts at n w is = elim (w.ways n (length answers) is) [
  | inl s ↦ absurd (omega (arith, s.earlier))
  | inr o ↦ o
]

-- the way ends with a yes
pub ends_yes : (q : Question) (ps : List (Option ℕ)) (answers : List Bool) (base : ℕ) (firsts : List (Option ℕ)) (at : Option ℕ) → IsUnderWay q ps answers base firsts at → at_some (climbed q ps (suc base)) at ≡ true → IsEnded q ps answers firsts true
ends_yes q ps answers base firsts at w yes_here = record {
  told = elim w.here [
    | inl e ↦ climbed_within q ps (suc base) (suc (passed firsts)) (length answers) (omega (arith, w.before)) (ap (λ o. at_some (climbed q ps (suc base)) o) (sym e) ∙ yes_here)
    | inr was ↦ (let o = on_start q ps answers base firsts at (length answers) w was in o.leads (suc base) (suc (passed firsts)) (omega arith) yes_here)
  ];
  settled = λ n first is. elim (w.ways n first is) [
    | inl s ↦ keep_settled q ps answers true (suc base) (suc (passed firsts)) n first (omega (arith, w.before)) s
    | inr o ↦ new_settled q ps answers true (suc (passed firsts)) n first o.same o.between (o.leads (suc base) (suc (passed firsts)) (omega arith) yes_here)
  ];
}

-- the records of a way that ends with a no, or comes back to itself
way_lost : (q : Question) (ps : List (Option ℕ)) (answers : List Bool) (base : ℕ) (firsts : List (Option ℕ)) (at : Option ℕ) → IsUnderWay q ps answers base firsts at → ((m : ℕ) → at ≡ Some m → (get_or firsts m None ≡ Some (length answers)) ⊎ Never q ps m) → (n : ℕ) → get_or firsts n None ≡ Some (length answers) → Never q ps n
way_lost q ps answers base firsts at w stops n is = λ more.
    lost q ps (λ k. get_or firsts k None ≡ Some (length answers))
    (λ k s. (on_start q ps answers base firsts at k w s).between)
    (λ k s m up. elim ((on_start q ps answers base firsts at k w s).above m up) [
      | inl e ↦ stops m e
      | inr t ↦ inl t
    ])
    more n is

-- the way ends with a no
pub ends_no : (q : Question) (ps : List (Option ℕ)) (answers : List Bool) (base : ℕ) (firsts : List (Option ℕ)) (at : Option ℕ) → IsUnderWay q ps answers base firsts at → ((m : ℕ) → at ≡ Some m → (get_or firsts m None ≡ Some (length answers)) ⊎ Never q ps m) → IsEnded q ps answers firsts false
ends_no q ps answers base firsts at w stops =
    let never = way_lost q ps answers base firsts at w stops in
    record {
      told = elim w.here [
        | inl e ↦ elim (stops (length answers) e) [ inl was ↦ never (length answers) was | inr gone ↦ gone ]
        | inr was ↦ never (length answers) was
      ];
      settled = λ n first is. elim (w.ways n first is) [
        | inl s ↦ keep_settled q ps answers false (suc base) (suc (passed firsts)) n first (omega (arith, w.before)) s
        | inr o ↦ new_settled q ps answers false (suc (passed firsts)) n first o.same o.between (never n (is ∙ ap Some o.same))
      ];
    }

-- no record is left above
pub ends_above : (q : Question) (ps : List (Option ℕ)) (answers : List Bool) (base : ℕ) (firsts : List (Option ℕ)) (at : Option ℕ) → IsUnderWay q ps answers base firsts at → at ≡ None → IsEnded q ps answers firsts false
ends_above q ps answers base firsts at w none = ends_no q ps answers base firsts at w (λ m is. let e : None ≡ Some m = sym none ∙ is in absurd cc)

-- ---- the answer is known

told_by_end : (q : Question) (ps : List (Option ℕ)) (most n : ℕ) (b : Bool) → end_of q n ≡ Some b → Tells q ps (suc most) n b
told_by_end q ps most n true ends = ends_step q ps most n true ends
told_by_end q ps most n false ends = λ more. each more
  where
    each : (more : ℕ) → climbed q ps more n ≡ false
    each zero = climbed_zero q ps n
    each (suc more) = ends_step q ps more n false ends

-- a record that isn't there
told_past : (q : Question) (ps : List (Option ℕ)) (n : ℕ) → end_of q n ≡ None → length ps ≤ n → Never q ps n
told_past q ps n between past = λ more. each more
  where
    each : (more : ℕ) → climbed q ps more n ≡ false
    each zero = climbed_zero q ps n
    each (suc more) = between_step q ps more n between ∙ ap (λ o. at_some (climbed q ps more) o) (get_or_past ps n None past)

-- by the record from which it was passed
told_by_first : (q : Question) (ps : List (Option ℕ)) (answers : List Bool) (base : ℕ) (firsts : List (Option ℕ)) (n : ℕ) (b : Bool) (o : Option ℕ) → IsUnderWay q ps answers base firsts (Some n) → get_or firsts n None ≡ o → answered answers o ≡ Some b → (Tells q ps (suc base) n b) ⊎ ((get_or firsts n None ≡ Some (length answers)) × (b ≡ false))
told_by_first q ps answers base firsts n b None w is known_here = absurd cc
told_by_first q ps answers base firsts n b (Some first) w is known_here =
    let e = some_bool (get_or answers first false) b known_here in
    elim (w.ways n first is) [
      | inl s ↦ inl (subst (λ a. Tells q ps (suc base) n a) e s.tells)
      | inr o ↦ inr (is ∙ ap Some o.same, sym e ∙ get_or_past answers first false (omega (arith, o.same)))
    ]

told_by_table : (q : Question) (ps : List (Option ℕ)) (answers : List Bool) (base : ℕ) (firsts : List (Option ℕ)) (n : ℕ) (b inside : Bool) → length firsts ≡ length ps → IsUnderWay q ps answers base firsts (Some n) → end_of q n ≡ None → nat_lt n (length firsts) ≡ inside → (if inside then answered answers (get_or firsts n None) else Some false) ≡ Some b → (Tells q ps (suc base) n b) ⊎ ((get_or firsts n None ≡ Some (length answers)) × (b ≡ false))
told_by_table q ps answers base firsts n b true size w between lt is = told_by_first q ps answers base firsts n b (get_or firsts n None) w refl is
told_by_table q ps answers base firsts n b false size w between past is = inl (subst (λ a. Tells q ps (suc base) n a) (some_bool false b is) (told_past q ps n between (let le = ltb-false n (length firsts) past in omega (arith, size, le))))

told_here : (q : Question) (ps : List (Option ℕ)) (answers : List Bool) (base : ℕ) (firsts : List (Option ℕ)) (n : ℕ) (b : Bool) (e : Option Bool) → length firsts ≡ length ps → IsUnderWay q ps answers base firsts (Some n) → end_of q n ≡ e → known_by e (passed_answer firsts answers n) ≡ Some b → (Tells q ps (suc base) n b) ⊎ ((get_or firsts n None ≡ Some (length answers)) × (b ≡ false))
told_here q ps answers base firsts n b None size w ends is = told_by_table q ps answers base firsts n b (nat_lt n (length firsts)) size w ends refl is
told_here q ps answers base firsts n b (Some a) size w ends is = inl (told_by_end q ps base n b (ends ∙ is))

ends_told : (q : Question) (ps : List (Option ℕ)) (answers : List Bool) (base : ℕ) (firsts : List (Option ℕ)) (n : ℕ) (b : Bool) → IsUnderWay q ps answers base firsts (Some n) → (Tells q ps (suc base) n b) ⊎ ((get_or firsts n None ≡ Some (length answers)) × (b ≡ false)) → IsEnded q ps answers firsts b
ends_told q ps answers base firsts n true w (inl is) = ends_yes q ps answers base firsts (Some n) w is
ends_told q ps answers base firsts n true w (inr back) = absurd cc
ends_told q ps answers base firsts n false w (inl never) = ends_no q ps answers base firsts (Some n) w (λ m is. inr (subst (λ k. Never q ps k) (some_same n m is) never))
ends_told q ps answers base firsts n false w (inr back) = ends_no q ps answers base firsts (Some n) w (λ m is. inl (ap (λ k. get_or firsts k None) (sym (some_same n m is)) ∙ back.0))

-- the way ends at a record whose answer is known
pub ends_known : (q : Question) (ps : List (Option ℕ)) (answers : List Bool) (base : ℕ) (firsts : List (Option ℕ)) (n : ℕ) (b : Bool) → length firsts ≡ length ps → IsUnderWay q ps answers base firsts (Some n) → known q firsts answers n ≡ Some b → IsEnded q ps answers firsts b
ends_known q ps answers base firsts n b size w is = ends_told q ps answers base firsts n b w (told_here q ps answers base firsts n b (end_of q n) size w refl is)

-- ---- all records

abbrev unpassed : Option ℕ
unpassed = None

fresh_none : (size n : ℕ) → get_or (replicate size unpassed) n unpassed ≡ unpassed
fresh_none zero n = refl
fresh_none (suc size) zero = refl
fresh_none (suc size) (suc n) = fresh_none size n

-- at first none was passed
pub none_passed : (q : Question) (ps firsts : List (Option ℕ)) (size : ℕ) → firsts ≡ replicate size None → AreSettled q ps firsts []
none_passed q ps firsts size fresh = λ n first is. let e : None ≡ Some first = sym (fresh_none size n) ∙ ap (λ xs. get_or xs n None) (sym fresh) ∙ is in absurd cc

-- record 0 is one of the volume itself, so that no way of the second question leads on from it
first_unpassed : (ps firsts : List (Option ℕ)) (answers : List Bool) (o : Option ℕ) → AreSettled InSystem ps firsts answers → get_or firsts 0 None ≡ o → o ≡ None
first_unpassed ps firsts answers None settled is = refl
first_unpassed ps firsts answers (Some first) settled is = let e : Some true ≡ None = (settled 0 first is).between in absurd cc

enough : (q : Question) (ps firsts : List (Option ℕ)) (answers : List Bool) → length firsts ≡ length ps → 0 < length ps → AreSettled q ps firsts answers → suc (passed firsts) ≤ reach q (length ps)
enough Rooted ps firsts answers size some settled = omega (arith, size, passed_most firsts)
enough InSystem ps firsts answers size some settled =
    let fewer = passed_fewer firsts 0 (omega (arith, size, some)) (first_unpassed ps firsts answers (get_or firsts 0 None) settled refl) in omega (arith, size, fewer)

pub told_is : (q : Question) (ps firsts : List (Option ℕ)) (answers : List Bool) (n : ℕ) (b : Bool) → length firsts ≡ length ps → 0 < length ps → AreSettled q ps firsts answers → Tells q ps (suc (passed firsts)) n b → b ≡ climbed q ps (reach q (length ps)) n
told_is q ps firsts answers n true size some settled is = sym (climbed_within q ps (suc (passed firsts)) (reach q (length ps)) n (enough q ps firsts answers size some settled) is)
told_is q ps firsts answers n false size some settled never = sym (never (reach q (length ps)))

-- ---- the loop

pub ends_at : (q : Question) (ps : List (Option ℕ)) (answers : List Bool) (base : ℕ) (firsts : List (Option ℕ)) (at : Option ℕ) (n : ℕ) (b : Bool) → length firsts ≡ length ps → IsUnderWay q ps answers base firsts at → at ≡ Some n → known q firsts answers n ≡ Some b → IsEnded q ps answers firsts b
ends_at q ps answers base firsts at n b size w here is = ends_known q ps answers base firsts n b size (subst (λ o. IsUnderWay q ps answers base firsts o) here w) is

pub steps_at : (q : Question) (ps : List (Option ℕ)) (answers : List Bool) (base : ℕ) (firsts : List (Option ℕ)) (at : Option ℕ) (n : ℕ) → IsUnderWay q ps answers base firsts at → at ≡ Some n → known q firsts answers n ≡ None → IsUnderWay q ps answers base (set firsts n (Some (length answers))) (get_or ps n None)
steps_at q ps answers base firsts at n w here is = steps_up q ps answers base firsts n (subst (λ o. IsUnderWay q ps answers base firsts o) here w) is

pub fewer_left : (q : Question) (firsts : List (Option ℕ)) (answers : List Bool) (n v : ℕ) → known q firsts answers n ≡ None → length (set firsts n (Some v)) - passed (set firsts n (Some v)) < length firsts - passed firsts
fewer_left q firsts answers n v is =
    let u = unknown q firsts answers n is in
    omega (arith, length-set firsts n (Some v), passed_set firsts n v u.inside u.fresh, passed_fewer firsts n u.inside u.fresh)

-- one answer more
pub next_settled : (q : Question) (ps firsts : List (Option ℕ)) (slice items new : List Bool) (b : Bool) → slice ≡ items → new ≡ items ++ b ∷ [] → AreSettled q ps firsts (slice ++ b ∷ []) → AreSettled q ps firsts new
next_settled q ps firsts slice items new b same more settled = subst (λ (a : List Bool). AreSettled q ps firsts a) (ap (λ xs. xs ++ b ∷ []) same ∙ sym more) settled

pub next_told : (q : Question) (ps firsts : List (Option ℕ)) (slice items new : List Bool) (b : Bool) (start : ℕ) → length firsts ≡ length ps → start < length ps → slice ≡ items → items ≡ map (climbed q ps (reach q (length ps))) (range_with_len 0 start) → new ≡ items ++ b ∷ [] → AreSettled q ps firsts (slice ++ b ∷ []) → Tells q ps (suc (passed firsts)) (length slice) b → new ≡ map (climbed q ps (reach q (length ps))) (range_with_len 0 (start + 1))
next_told q ps firsts slice items new b start size lt same made more settled tells =
    let long : length slice ≡ start = ap length (same ∙ made) ∙ length-map-range_with_len (climbed q ps (reach q (length ps))) 0 start in
    let told = told_is q ps firsts (slice ++ b ∷ []) (length slice) b size (omega (arith, lt)) settled tells ∙ ap (climbed q ps (reach q (length ps))) long in
    more ∙ ap (λ xs. xs ++ b ∷ []) made ∙ ap (λ x. map (climbed q ps (reach q (length ps))) (range_with_len 0 start) ++ x ∷ []) told ∙ sym (map_more (climbed q ps (reach q (length ps))) start)
