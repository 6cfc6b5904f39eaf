-- Lists of records whose files have the same names, number by number.
use Rattle.std.proofs.Common.{◌≡◌, ℕ, ◌+◌, ◌<◌, ◌≤◌, List, length, get_or, Option, Some, None, refl, sym, ap, subst, ◌∙◌, inl, inr, arith}
use Rattle.std.proofs.lemmas.Bool.{cases_lt, cases_eq}
use Rattle.std.proofs.lemmas.List.{get_or_past}
use Rattle.map_change.specs.record_model.Records.{Record}
use Rattle.record_rules.specs.state_model.Files.{only_base, file_at}
use Rattle.record_rules.specs.state_model.Loads.{table_in}
use Rattle.same_names.specs.Names.{IsNamedAlike, SameNames}

pub alike_itself : (n : ℕ) (o : Option Record) → IsNamedAlike n o o
alike_itself n None = tt
alike_itself n (Some r) = (refl, refl)

-- the file at a number of a list of records
abbrev pub file_in : List (Option Record) → ℕ → Option Record
file_in records n = only_base (get_or records n None)

pub is_in : (records : List (Option Record)) (n : ℕ) → file_at (table_in records) n ≡ file_in records n
unfolding file_at
is_in records n = refl

none_past : (records : List (Option Record)) (n : ℕ) → length records ≤ n → file_at (table_in records) n ≡ None
none_past records n past = is_in records n ∙ ap only_base (get_or_past records n None past)

-- the files at two numbers, as files that there may be
abbrev pub AlikeAt : List (Option Record) → List (Option Record) → ℕ → Type 0
AlikeAt records others n = IsNamedAlike n (file_at (table_in records) n) (file_at (table_in others) n)

alike_by : (n : ℕ) (o p u w : Option Record) → o ≡ u → p ≡ w → IsNamedAlike n u w → IsNamedAlike n o p
alike_by n o p u w is that alike = rw (is, that) alike

-- the files below a count decide
pub all_alike : (records others : List (Option Record)) → length others ≡ length records → ((n : ℕ) → n < length records → AlikeAt records others n) → SameNames records others
all_alike records others count each = record { count = count; each = at }
  where
    at : (n : ℕ) → AlikeAt records others n
    at n = elim (cases_lt n (length records)) [
      | inl below ↦ each n below
      | inr past ↦ alike_by n _ _ None None (none_past records n past) (none_past others n (omega (arith, past, count))) tt
    ]

pub alike_more : (records others : List (Option Record)) (m n k : ℕ) → k ≡ m + 1 → ((n : ℕ) → n < m → AlikeAt records others n) → AlikeAt records others m → n < k → AlikeAt records others n
alike_more records others m n k next before now below = elim (cases_eq n m) [
  | inl same ↦ subst (AlikeAt records others) (sym same) now
  | inr other ↦ before n (omega (arith, below, next, other))
]
