-- Changes of records by which all files but one keep their names.
use Rattle.std.proofs.Common.{◌≡◌, ◌≢◌, ℕ, ◌+◌, ◌<◌, ◌≤◌, Bool, true, false, cond, eqb, List, [], ◌∷◌, ◌++◌, length, get_or, take, drop, Option, Some, None, refl, sym, ap, subst, ◌∙◌, inl, inr, arith}
use Rattle.std.specs.Prelude.{find, IfOk, Result, Ok, Err}
use Rattle.std.specs.List.{list_any}
use Rattle.std.specs.Option.{option_or}
use Rattle.std.proofs.lemmas.Bool.{cases_lt, eq-eqb, eqb-true, both_ways}
use Rattle.std.proofs.lemmas.List.{take-append-drop, take_more}
use Rattle.std.proofs.lemmas.List.Folds.{find-append}
use Rattle.same_names.specs.map_change.record_model.Records.{Record}
use Rattle.tree_laws.specs.state_model.declared.stream.Extents.{Extents}
use Rattle.tree_laws.specs.state_model.Files.{only_base, file_at}
use Rattle.tree_laws.specs.state_model.Loads.{table_in, record_count}
use Rattle.same_names.specs.map_change.declared.change.RecordChange.{RecordChange}
use Rattle.same_names.specs.map_change.Parts.{MapParts}
use Rattle.same_names.specs.Names.{IsNamedAlike}
use Rattle.same_names.specs.Keeping.{is_of, LeavesNamed}
use Rattle.same_names.proofs.Alike.{alike_itself, file_in}
use Rattle.same_names.proofs.Kept.{none_found, not_found, file_put, others as files_behind, count_is, at_others}
use Rattle.names_grow.specs.Trying.{StaysAt, StayElsewhere, LeaveOthers}
use Rattle.names_grow.proofs.Lists.{none_past}

module _ (m count : ℕ) (records : List (Option Record)) where
  -- the file that a change puts there has the names, unless it is that one or past the last, or an earlier change is of it
  abbrev LeavesNext : List RecordChange → RecordChange → Type 0
  LeavesNext xs x = x.number ≢ m → x.number < count → list_any (is_of x.number) xs ≡ false → IsNamedAlike x.number (file_at (table_in records) x.number) (only_base x.file)

  pub leave_more : (xs : List RecordChange) (x : RecordChange) → LeaveOthers m count records xs → LeavesNext xs x → LeaveOthers m count records (xs ++ x ∷ [])
  leave_more xs x before next n other below = rw (find-append (is_of n) xs (x ∷ [])) (choose (find (is_of n) xs) refl)
    where
      one : list_any (is_of n) xs ≡ false → (b : Bool) → eqb x.number n ≡ b → LeavesNamed n (file_at (table_in records) n) (cond b (Some x) None)
      one none false is = tt
      one none true is = let same = eqb-true x.number n is in
          subst (λ (k : ℕ). IsNamedAlike k (file_at (table_in records) k) (only_base x.file)) same (next (λ it. other (sym same ∙ it)) (omega (arith, same, below)) (rw same none))

      choose : (o : Option RecordChange) → find (is_of n) xs ≡ o → LeavesNamed n (file_at (table_in records) n) (option_or o (find (is_of n) (x ∷ [])))
      choose (Some y) is = subst (LeavesNamed n (file_at (table_in records) n)) is (before n other below)
      choose None is = one (none_found (is_of n) xs is) (eqb x.number n) refl

  pub leaves_last : (xs : List RecordChange) (x : RecordChange) → LeaveOthers m count records (xs ++ x ∷ []) → LeavesNext xs x
  leaves_last xs x all other below none =
      let lasts : find (is_of x.number) (xs ++ x ∷ []) ≡ Some x =
      find-append (is_of x.number) xs (x ∷ []) ∙ ap (λ (o : Option RecordChange). option_or o (find (is_of x.number) (x ∷ []))) (not_found (is_of x.number) xs none)
      ∙ ap (λ (b : Bool). cond b (Some x) None) (eq-eqb x.number x.number refl) in
      subst (LeavesNamed x.number (file_at (table_in records) x.number)) lasts (all x.number other below)

  -- a change of that one, one past the last record, or behind one of the same, counts for nothing
  pub leave_own : (xs : List RecordChange) (x : RecordChange) → x.number ≡ m → LeaveOthers m count records xs → LeaveOthers m count records (xs ++ x ∷ [])
  leave_own xs x is before = leave_more xs x before (λ other below none. absurd (other is))

  pub leave_past : (xs : List RecordChange) (x : RecordChange) → count ≤ x.number → LeaveOthers m count records xs → LeaveOthers m count records (xs ++ x ∷ [])
  leave_past xs x past before = leave_more xs x before (λ other below none. absurd (omega (arith, below, past)))

  pub leave_behind : (xs : List RecordChange) (x : RecordChange) → list_any (is_of x.number) xs ≡ true → LeaveOthers m count records xs → LeaveOthers m count records (xs ++ x ∷ [])
  leave_behind xs x any before = leave_more xs x before (λ other below none. absurd (both_ways (list_any (is_of x.number) xs) none any))

  -- one that isn't decides, by a call's answer
  pub next_same : {E : Type 0} (xs : List RecordChange) (x : RecordChange) (o p : Option Record) (r : Result Bool E) → o ≡ file_at (table_in records) x.number → p ≡ only_base x.file → LeaveOthers m count records xs
      → IfOk r (λ alike. alike ≡ true → IsNamedAlike x.number o p) → IfOk r (λ keeps. keeps ≡ true → LeaveOthers m count records (xs ++ x ∷ []))
  next_same xs x o p (Ok alike) is that before tells = λ same. leave_more xs x before (λ other below none. rw (sym is, sym that) (tells same))
  next_same xs x o p (Err e) is that before tells = tt

  pub next_only : {E : Type 0} (xs : List RecordChange) (x : RecordChange) (o p : Option Record) (r : Result Bool E) → o ≡ file_at (table_in records) x.number → p ≡ only_base x.file → x.number ≢ m → x.number < count → list_any (is_of x.number) xs ≡ false
      → IfOk r (λ alike. IsNamedAlike x.number o p → alike ≡ true) → IfOk r (λ keeps. LeaveOthers m count records (xs ++ x ∷ []) → keeps ≡ true)
  next_only xs x o p (Ok alike) is that other below none tells = λ all. tells (rw (is, that) (leaves_last xs x all other below none))
  next_only xs x o p (Err e) is that other below none tells = tt

  -- so do the first ones of some
  pub leave_first : (xs ys : List RecordChange) → LeaveOthers m count records (xs ++ ys) → LeaveOthers m count records xs
  leave_first xs ys all n other below = choose (find (is_of n) xs) refl
    where
      choose : (o : Option RecordChange) → find (is_of n) xs ≡ o → LeavesNamed n (file_at (table_in records) n) o
      choose None is = tt
      choose (Some y) is = subst (LeavesNamed n (file_at (table_in records) n)) (find-append (is_of n) xs ys ∙ ap (λ (o : Option RecordChange). option_or o (find (is_of n) ys)) is) (all n other below)

  -- of all of them those up to a place, with the one there
  pub to_leave : (all : List RecordChange) (i : ℕ) (x : RecordChange) → i < length all → x ≡ get_or all i x → LeaveOthers m count records all → LeaveOthers m count records (take i all ++ x ∷ [])
  to_leave all i x below is named =
      subst (LeaveOthers m count records) (take_more all i x below ∙ ap (λ (y : RecordChange). take i all ++ y ∷ []) (sym is))
      (leave_first (take (i + 1) all) (drop (i + 1) all) (subst (LeaveOthers m count records) (sym (take-append-drop (i + 1) all)) named))

-- ---- all files

past_alike : (n : ℕ) (a b : Option Record) → a ≡ None → b ≡ None → IsNamedAlike n a b
past_alike n a b is that = rw (is, that) tt

-- the files below a count decide
pub all_stay : (m : ℕ) (records others : List (Option Record)) → length records ≤ length others → ((k : ℕ) → k < length others → StaysAt m records others k) → StayElsewhere m records others
all_stay m records others longer each k other = elim (cases_lt k (length others)) [
  | inl below ↦ each k below other
  | inr past ↦ past_alike k _ _ (none_past records k (omega (arith, past, longer))) (none_past others k past)
]

-- ---- the files behind the changes

module _ (m : ℕ) (p : MapParts) (f : Extents) (xs : List RecordChange) (longer : length p.volume.files ≤ record_count f) where
  abbrev records : List (Option Record)
  records = p.volume.files

  leaves_is : (n : ℕ) (o : Option RecordChange) → LeavesNamed n (file_in records n) o → IsNamedAlike n (file_in records n) (only_base (file_put o (get_or records n None)))
  leaves_is n None leaves = alike_itself n (file_in records n)
  leaves_is n (Some x) leaves = leaves

  is_left : (n : ℕ) (o : Option RecordChange) → IsNamedAlike n (file_in records n) (only_base (file_put o (get_or records n None))) → LeavesNamed n (file_in records n) o
  is_left n None alike = tt
  is_left n (Some x) alike = alike

  pub left_elsewhere : LeaveOthers m (record_count f) records xs → StayElsewhere m records (files_behind p f xs)
  unfolding file_at
  left_elsewhere leave n other = elim (cases_lt n (record_count f)) [
    | inl below ↦ subst (λ (o : Option Record). IsNamedAlike n (file_in records n) (only_base o)) (sym (at_others p f xs n below)) (leaves_is n (find (is_of n) xs) (leave n other below))
    | inr past ↦ past_alike n _ _ (none_past records n (omega (arith, past, longer))) (none_past (files_behind p f xs) n (let count = count_is p f xs in omega (arith, past, count)))
  ]

  pub elsewhere_left : StayElsewhere m records (files_behind p f xs) → LeaveOthers m (record_count f) records xs
  unfolding file_at
  elsewhere_left stay n other below = is_left n (find (is_of n) xs) (subst (λ (o : Option Record). IsNamedAlike n (file_in records n) (only_base o)) (at_others p f xs n below) (stay n other))
