-- Lists of records that are filled up with places in which no file is.
use Rattle.std.proofs.Common.{◌≡◌, ℕ, zero, suc, ◌+◌, ◌-◌, ◌≤◌, true, List, [], ◌∷◌, ◌++◌, length, get_or, replicate, Option, Some, None, refl, sym, ap, ◌∙◌, inl, inr, arith}
use mathlib.Core.Path.{fun_ext}
use Rattle.std.proofs.lemmas.Bool.{cases_Bool}
use Rattle.std.proofs.lemmas.List.{append-nil, length-append, length-replicate, get_or_past}
use Rattle.same_names.specs.map_change.record_model.Records.{Record}
use Rattle.tree_laws.specs.state_model.Files.{only_base, file_at, is_base_record}
use Rattle.tree_laws.specs.state_model.Loads.{table_in}
use Rattle.names_grow.specs.Grown.{filled_up}

none_placed : (j k : ℕ) → get_or {A = Option Record} (replicate j None) k None ≡ None
none_placed zero zero = refl
none_placed zero (suc k) = refl
none_placed (suc j) zero = refl
none_placed (suc j) (suc k) = none_placed j k

get_filled : (records : List (Option Record)) (j k : ℕ) → get_or (records ++ replicate j None) k None ≡ get_or records k None
get_filled [] j zero = none_placed j zero
get_filled [] j (suc k) = none_placed j (suc k)
get_filled (o ∷ records) j zero = refl
get_filled (o ∷ records) j (suc k) = get_filled records j k

-- each file is at its number
pub same_table : (count : ℕ) (records : List (Option Record)) → table_in (filled_up count records) ≡ table_in records
same_table count records = fun_ext (λ k. get_filled records (count - length records) k)

pub filled_count : (count : ℕ) (records : List (Option Record)) → length (filled_up count records) ≡ length records + (count - length records)
filled_count count records = length-append records (replicate (count - length records) None) ∙ ap (λ (k : ℕ). length records + k) (length-replicate (count - length records) None)

pub none_past : (records : List (Option Record)) (n : ℕ) → length records ≤ n → file_at (table_in records) n ≡ None
unfolding file_at
none_past records n past = ap only_base (get_or_past records n None past)

pub itself : (count : ℕ) (records : List (Option Record)) → count ≤ length records → filled_up count records ≡ records
itself count records least = ap (λ (j : ℕ). records ++ replicate j None) (no_more count records least) ∙ append-nil records
  where
    no_more : (k : ℕ) (rs : List (Option Record)) → k ≤ length rs → k - length rs ≡ 0
    no_more k rs le = omega (arith, le)

-- a file is a base record
pub based : (o : Option Record) (f : Record) → only_base o ≡ Some f → is_base_record f ≡ true
based None f is = absurd cc
based (Some r) f is = elim (cases_Bool (is_base_record r)) [
  | inl own ↦ (let one : Some r ≡ Some f = rw own at is in by_some r f one own)
  | inr not_own ↦ (let none : None ≡ Some f = rw not_own at is in absurd cc)
]
  where
    by_some : (a b : Record) → Some a ≡ Some b → is_base_record a ≡ true → is_base_record b ≡ true
    by_some a b same own = let e : a ≡ b = cc in rw (sym e) own
