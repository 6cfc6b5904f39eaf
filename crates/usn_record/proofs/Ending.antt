-- Whether the records of a page end where its bytes end.
use Rattle.std.proofs.Common.{◌≡◌, ◌≢◌, ℕ, suc, ◌+◌, ◌-◌, ◌<◌, ◌≤◌, Bool, true, false, not, List, length, drop, refl, sym, ap, ◌∙◌, arith}
use Rattle.std.specs.Prelude.{◌==◌, ◌&&◌, ◌||◌, nat_le}
use Rattle.std.proofs.lemmas.Bool.{and_parts, eq-eqb, ne_eqb}
use Rattle.std.proofs.lemmas.Bool.Decides.{nat_tests}
use Rattle.disk_model.specs.Numbers.{field}
use Rattle.disk_model.specs.Bytes.{all_zeros}
use Rattle.journal_model.specs.UsnRecords.{is_whole}
use Rattle.journal_model.specs.Pages.{ends_in_record}

is_below : (a b : ℕ) → nat_le a b ≡ true → a ≤ b
is_below a b is = grind (arith, nat_tests)

-- whole bytes hold their length, and reach as far as it says
pub whole_head : (bytes : List ℕ) → is_whole bytes ≡ true → 0 + 4 ≤ length bytes
unfolding is_whole
whole_head bytes is = is_below 4 (length bytes) (and_parts (nat_le 4 (length bytes)) (nat_le (field 0x00 4 bytes) (length bytes)) is).0

pub whole_reach : (bytes : List ℕ) → is_whole bytes ≡ true → field 0x00 4 bytes ≤ length bytes
unfolding is_whole
whole_reach bytes is = is_below (field 0x00 4 bytes) (length bytes) (and_parts (nat_le 4 (length bytes)) (nat_le (field 0x00 4 bytes) (length bytes)) is).1

-- the answer for a record in front, by the three tests of it and by what is behind it
abbrev answer : Bool → Bool → Bool → Bool → Bool
answer z w e behind = not z && w && (e || behind)

at_zeros : (z w e behind : Bool) → z ≡ true → answer z w e behind ≡ false
at_zeros true w e behind is = refl
at_zeros false w e behind is = absurd cc

at_cut : (z w e behind : Bool) → w ≡ false → answer z w e behind ≡ false
at_cut true w e behind is = refl
at_cut false true e behind is = absurd cc
at_cut false false e behind is = refl

at_end : (z w e behind : Bool) → z ≡ false → w ≡ true → e ≡ true → answer z w e behind ≡ true
at_end true w e behind is is' is'' = absurd cc
at_end false false e behind is is' is'' = absurd cc
at_end false true false behind is is' is'' = absurd cc
at_end false true true behind is is' is'' = refl

at_next : (z w e behind : Bool) → z ≡ false → w ≡ true → e ≡ false → answer z w e behind ≡ behind
at_next true w e behind is is' is'' = absurd cc
at_next false false e behind is is' is'' = absurd cc
at_next false true true behind is is' is'' = absurd cc
at_next false true false behind is is' is'' = refl

step : (n k : ℕ) → k < n → n - k ≡ suc (n - (k + 1))
step n k lt = omega arith

one_step : (n : ℕ) (rest : List ℕ) → ends_in_record (suc n) rest ≡ answer (all_zeros rest) (is_whole rest) (field 0x00 4 rest == length rest) (ends_in_record n (drop (field 0x00 4 rest) rest))
unfolding ends_in_record
one_step n rest = refl

no_steps : (rest : List ℕ) → ends_in_record 0 rest ≡ false
unfolding ends_in_record
no_steps rest = refl

-- with some steps left
one_of : (n k : ℕ) (rest : List ℕ) → k < n → ends_in_record (n - k) rest ≡ answer (all_zeros rest) (is_whole rest) (field 0x00 4 rest == length rest) (ends_in_record (n - (k + 1)) (drop (field 0x00 4 rest) rest))
one_of n k rest lt = ap (λ (m : ℕ). ends_in_record m rest) (step n k lt) ∙ one_step (n - (k + 1)) rest

module _ (n k : ℕ) (rest : List ℕ) (whole : Bool) (lt : k < n) (left : whole ≡ ends_in_record (n - k) rest) where
  abbrev z : Bool
  z = all_zeros rest

  abbrev w : Bool
  w = is_whole rest

  abbrev e : Bool
  e = field 0x00 4 rest == length rest

  abbrev behind : Bool
  behind = ends_in_record (n - (k + 1)) (drop (field 0x00 4 rest) rest)

  pub stops_at_zeros : all_zeros rest ≡ true → whole ≡ false
  stops_at_zeros is = left ∙ one_of n k rest lt ∙ at_zeros z w e behind is

  pub stops_at_cut : is_whole rest ≡ false → whole ≡ false
  stops_at_cut is = left ∙ one_of n k rest lt ∙ at_cut z w e behind is

  pub ends_here : (m : ℕ) → all_zeros rest ≡ false → is_whole rest ≡ true → m ≡ field 0x00 4 rest → m ≡ length rest → whole ≡ true
  ends_here m some all is end = left ∙ one_of n k rest lt ∙ at_end z w e behind some all (eq-eqb (field 0x00 4 rest) (length rest) (sym is ∙ end))

  pub goes_on : (m : ℕ) (later : List ℕ) → all_zeros rest ≡ false → is_whole rest ≡ true → m ≡ field 0x00 4 rest → m ≢ length rest → later ≡ drop m rest → whole ≡ ends_in_record (n - (k + 1)) later
  goes_on m later some all is more cut =
      left ∙ one_of n k rest lt ∙ at_next z w e behind some all (ne_eqb (field 0x00 4 rest) (length rest) (λ same. more (is ∙ same)))
      ∙ ap (λ (l : List ℕ). ends_in_record (n - (k + 1)) l) (sym (cut ∙ ap (λ (i : ℕ). drop i rest) is))

-- no step is left
none : (n k : ℕ) → n ≤ k → n - k ≡ 0
none n k le = omega arith

pub nothing_left : (n k : ℕ) (rest : List ℕ) (whole : Bool) → n ≤ k → whole ≡ ends_in_record (n - k) rest → whole ≡ false
nothing_left n k rest whole le left = left ∙ ap (λ (m : ℕ). ends_in_record m rest) (none n k le) ∙ no_steps rest
