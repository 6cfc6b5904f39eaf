-- Changes of records, of which the first one of a record holds, and the files that are then there.
use Rattle.std.proofs.Common.{◌≡◌, ℕ, ◌+◌, ◌<◌, ◌≤◌, Bool, true, false, cond, eqb, List, [], ◌∷◌, ◌++◌, length, get_or, set, take, drop, Option, Some, None, refl, sym, ap, subst, ◌∙◌, inl, inr, arith}
use Rattle.std.specs.Prelude.{find, IfOk, Result, Ok, Err}
use Rattle.std.specs.List.{list_any}
use Rattle.std.specs.Option.{option_or}
use Rattle.std.proofs.Math.ListN.{length-set}
use Rattle.std.proofs.lemmas.Bool.{cases_Bool, cases_eq, eq-eqb, ne_eqb, eqb-true, or_parts, both_ways}
use Rattle.std.proofs.lemmas.List.{get_or-set_same, get_or-set_other, take-append-drop, take_more}
use Rattle.std.proofs.lemmas.List.Folds.{find-append}
use Rattle.map_change.specs.record_model.Records.{Record}
use Rattle.record_rules.specs.state_model.declared.stream.Extents.{Extents}
use Rattle.record_rules.specs.state_model.Files.{only_base, file_at}
use Rattle.record_rules.specs.state_model.Loads.{table_in, record_count}
use Rattle.map_change.specs.declared.change.RecordChange.{RecordChange}
use Rattle.map_change.specs.Parts.{MapParts}
use Rattle.map_change.specs.Applying.{tabled, applied_all}
use Rattle.map_change.proofs.Resizing.{length_resized, get_resized}
use Rattle.same_names.specs.Names.{IsNamedAlike, SameNames}
use Rattle.same_names.specs.Keeping.{is_of, LeavesNamed, LeaveNamed}
use Rattle.same_names.proofs.Alike.{alike_itself, file_in, all_alike}

-- ---- one change more

pub none_found : (p : RecordChange → Bool) (xs : List RecordChange) → find p xs ≡ None → list_any p xs ≡ false
none_found p [] is = refl
none_found p (a ∷ xs) is = elim (cases_Bool (p a)) [
  | inl hit ↦ (let here : Some a ≡ None = rw hit at is in absurd cc)
  | inr miss ↦ (let later : find p xs ≡ None = rw miss at is in rw miss (none_found p xs later))
]

pub not_found : (p : RecordChange → Bool) (xs : List RecordChange) → list_any p xs ≡ false → find p xs ≡ None
not_found p [] none = refl
not_found p (a ∷ xs) none = let parts = or_parts (p a) (list_any p xs) none in rw parts.0 (not_found p xs parts.1)

module _ (records : List (Option Record)) where
  -- the file that a change puts there has the names, unless it is past the last or an earlier change is of it
  abbrev LeavesNext : List RecordChange → RecordChange → Type 0
  LeavesNext xs x = x.number < length records → list_any (is_of x.number) xs ≡ false → IsNamedAlike x.number (file_at (table_in records) x.number) (only_base x.file)

  pub leave_more : (xs : List RecordChange) (x : RecordChange) → LeaveNamed records xs → LeavesNext xs x → LeaveNamed records (xs ++ x ∷ [])
  leave_more xs x before next n below = rw (find-append (is_of n) xs (x ∷ [])) (choose (find (is_of n) xs) refl)
    where
      one : list_any (is_of n) xs ≡ false → (b : Bool) → eqb x.number n ≡ b → LeavesNamed n (file_at (table_in records) n) (cond b (Some x) None)
      one none false is = tt
      one none true is = let same = eqb-true x.number n is in
          subst (λ (k : ℕ). IsNamedAlike k (file_at (table_in records) k) (only_base x.file)) same (next (omega (arith, same, below)) (rw same none))

      choose : (o : Option RecordChange) → find (is_of n) xs ≡ o → LeavesNamed n (file_at (table_in records) n) (option_or o (find (is_of n) (x ∷ [])))
      choose (Some y) is = subst (LeavesNamed n (file_at (table_in records) n)) is (before n below)
      choose None is = one (none_found (is_of n) xs is) (eqb x.number n) refl

  pub leaves_last : (xs : List RecordChange) (x : RecordChange) → LeaveNamed records (xs ++ x ∷ []) → LeavesNext xs x
  leaves_last xs x all below none =
      let lasts : find (is_of x.number) (xs ++ x ∷ []) ≡ Some x =
      find-append (is_of x.number) xs (x ∷ []) ∙ ap (λ (o : Option RecordChange). option_or o (find (is_of x.number) (x ∷ []))) (not_found (is_of x.number) xs none)
      ∙ ap (λ (b : Bool). cond b (Some x) None) (eq-eqb x.number x.number refl) in
      subst (LeavesNamed x.number (file_at (table_in records) x.number)) lasts (all x.number below)

  -- a change that is past the last record, or behind one of the same, counts for nothing
  pub leave_past : (xs : List RecordChange) (x : RecordChange) (n : ℕ) → x.number ≡ n → LeaveNamed records xs → length records ≤ n → LeaveNamed records (xs ++ x ∷ [])
  leave_past xs x n is before past = leave_more xs x before (λ below none. absurd (omega (arith, below, is, past)))

  pub leave_behind : (xs : List RecordChange) (x : RecordChange) → LeaveNamed records xs → list_any (is_of x.number) xs ≡ true → LeaveNamed records (xs ++ x ∷ [])
  leave_behind xs x before any = leave_more xs x before (λ below none. absurd (both_ways (list_any (is_of x.number) xs) none any))

  -- one that isn't decides
  pub leave_next : (xs : List RecordChange) (x : RecordChange) (o p : Option Record) (alike : Bool) → o ≡ file_at (table_in records) x.number → p ≡ only_base x.file → LeaveNamed records xs → (alike ≡ true → IsNamedAlike x.number o p) → alike ≡ true → LeaveNamed records (xs ++ x ∷ [])
  leave_next xs x o p alike is that before tells same = leave_more xs x before (λ below none. rw (sym is, sym that) (tells same))

  pub next_leaves : (xs : List RecordChange) (x : RecordChange) (o p : Option Record) (alike : Bool) → o ≡ file_at (table_in records) x.number → p ≡ only_base x.file → x.number < length records → list_any (is_of x.number) xs ≡ false → (IsNamedAlike x.number o p → alike ≡ true)
      → LeaveNamed records (xs ++ x ∷ []) → alike ≡ true
  next_leaves xs x o p alike is that below none tells all = tells (rw (is, that) (leaves_last xs x all below none))

  -- the same of a call's answer
  pub next_same : {E : Type 0} (xs : List RecordChange) (x : RecordChange) (o p : Option Record) (r : Result Bool E) → o ≡ file_at (table_in records) x.number → p ≡ only_base x.file → LeaveNamed records xs
      → IfOk r (λ alike. alike ≡ true → IsNamedAlike x.number o p) → IfOk r (λ keeps. keeps ≡ true → LeaveNamed records (xs ++ x ∷ []))
  next_same xs x o p (Ok alike) is that before tells = leave_next xs x o p alike is that before tells
  next_same xs x o p (Err e) is that before tells = tt

  pub next_only : {E : Type 0} (xs : List RecordChange) (x : RecordChange) (o p : Option Record) (r : Result Bool E) → o ≡ file_at (table_in records) x.number → p ≡ only_base x.file → x.number < length records → list_any (is_of x.number) xs ≡ false
      → IfOk r (λ alike. IsNamedAlike x.number o p → alike ≡ true) → IfOk r (λ keeps. LeaveNamed records (xs ++ x ∷ []) → keeps ≡ true)
  next_only xs x o p (Ok alike) is that below none tells = next_leaves xs x o p alike is that below none tells
  next_only xs x o p (Err e) is that below none tells = tt

  -- so do the first ones of some
  pub leave_first : (xs ys : List RecordChange) → LeaveNamed records (xs ++ ys) → LeaveNamed records xs
  leave_first xs ys all n below = choose (find (is_of n) xs) refl
    where
      choose : (o : Option RecordChange) → find (is_of n) xs ≡ o → LeavesNamed n (file_at (table_in records) n) o
      choose None is = tt
      choose (Some y) is = subst (LeavesNamed n (file_at (table_in records) n)) (find-append (is_of n) xs ys ∙ ap (λ (o : Option RecordChange). option_or o (find (is_of n) ys)) is) (all n below)

  -- of all of them those up to a place, with the one there
  pub to_leave : (all : List RecordChange) (i : ℕ) (x : RecordChange) → i < length all → x ≡ get_or all i x → LeaveNamed records all → LeaveNamed records (take i all ++ x ∷ [])
  to_leave all i x below is named =
      subst (LeaveNamed records) (take_more all i x below ∙ ap (λ (y : RecordChange). take i all ++ y ∷ []) (sym is))
      (leave_first (take (i + 1) all) (drop (i + 1) all) (subst (LeaveNamed records) (sym (take-append-drop (i + 1) all)) named))

-- ---- the files behind the changes

pub length_behind : (xs : List RecordChange) (p : MapParts) → length (applied_all xs p).volume.files ≡ length p.volume.files
length_behind [] p = refl
length_behind (x ∷ xs) p = length-set (applied_all xs p).volume.files x.number x.file ∙ length_behind xs p

abbrev pub file_put : Option RecordChange → Option Record → Option Record
file_put None o = o
file_put (Some x) o = x.file

pub at_behind : (xs : List RecordChange) (p : MapParts) (n : ℕ) → n < length p.volume.files → get_or (applied_all xs p).volume.files n None ≡ file_put (find (is_of n) xs) (get_or p.volume.files n None)
at_behind [] p n below = refl
at_behind (x ∷ xs) p n below = elim (cases_eq x.number n) [
  | inl same ↦
      ap (λ (k : ℕ). get_or (set (applied_all xs p).volume.files k x.file) n None) same
      ∙ get_or-set_same (applied_all xs p).volume.files n x.file None (omega (arith, length_behind xs p, below))
      ∙ sym (ap (λ (b : Bool). file_put (cond b (Some x) (find (is_of n) xs)) (get_or p.volume.files n None)) (eq-eqb x.number n same))
  | inr other ↦
      get_or-set_other (applied_all xs p).volume.files x.number n x.file None (λ is. other (sym is))
      ∙ at_behind xs p n below
      ∙ sym (ap (λ (b : Bool). file_put (cond b (Some x) (find (is_of n) xs)) (get_or p.volume.files n None)) (ne_eqb x.number n other))
]

module _ (p : MapParts) (f : Extents) (xs : List RecordChange) where
  abbrev pub records : List (Option Record)
  records = p.volume.files

  abbrev pub others : List (Option Record)
  others = (applied_all xs (tabled f p)).volume.files

  pub count_is : length others ≡ record_count f
  count_is = length_behind xs (tabled f p) ∙ length_resized (record_count f) None records

  pub at_others : (n : ℕ) → n < record_count f → get_or others n None ≡ file_put (find (is_of n) xs) (get_or records n None)
  at_others n below =
      at_behind xs (tabled f p) n (omega (arith, length_resized (record_count f) None records, below))
      ∙ ap (file_put (find (is_of n) xs)) (get_resized (record_count f) None records n below)

  -- a table with another count has other names
  pub other_count : SameNames records others → record_count f ≡ length records
  other_count same = sym count_is ∙ same.count

  leaves_is : (n : ℕ) (o : Option RecordChange) → LeavesNamed n (file_in records n) o → IsNamedAlike n (file_in records n) (only_base (file_put o (get_or records n None)))
  leaves_is n None leaves = alike_itself n (file_in records n)
  leaves_is n (Some x) leaves = leaves

  is_left : (n : ℕ) (o : Option RecordChange) → IsNamedAlike n (file_in records n) (only_base (file_put o (get_or records n None))) → LeavesNamed n (file_in records n) o
  is_left n None alike = tt
  is_left n (Some x) alike = alike

  pub left_same : record_count f ≡ length records → LeaveNamed records xs → SameNames records others
  unfolding file_at
  left_same count leave = all_alike records others (count_is ∙ count) each
    where
      each : (n : ℕ) → n < length records → IsNamedAlike n (file_in records n) (file_in others n)
      each n below = subst (λ (o : Option Record). IsNamedAlike n (file_in records n) (only_base o)) (sym (at_others n (omega (arith, count, below)))) (leaves_is n (find (is_of n) xs) (leave n below))

  pub same_left : SameNames records others → LeaveNamed records xs
  unfolding file_at
  same_left same n below =
      is_left n (find (is_of n) xs) (subst (λ (o : Option Record). IsNamedAlike n (file_in records n) (only_base o)) (at_others n (omega (arith, other_count same, below))) (same.each n))

  -- the same of a call's answer
  pub left_all : {E : Type 0} (files : List (Option Record)) (ys : List RecordChange) (r : Result Bool E) → files ≡ records → ys ≡ xs → record_count f ≡ length records
      → IfOk r (λ keeps. keeps ≡ true → LeaveNamed files ys) → IfOk r (λ keeps. keeps ≡ true → SameNames records others)
  left_all files ys (Ok keeps) is that count tells = λ same. left_same count (subst (λ (fs : List (Option Record)). LeaveNamed fs xs) is (subst (LeaveNamed files) that (tells same)))
  left_all files ys (Err e) is that count tells = tt

  pub all_left : {E : Type 0} (files : List (Option Record)) (ys : List RecordChange) (r : Result Bool E) → files ≡ records → ys ≡ xs
      → IfOk r (λ keeps. LeaveNamed files ys → keeps ≡ true) → IfOk r (λ keeps. SameNames records others → keeps ≡ true)
  all_left files ys (Ok keeps) is that tells = λ same. tells (subst (LeaveNamed files) (sym that) (subst (λ (fs : List (Option Record)). LeaveNamed fs xs) (sym is) (same_left same)))
  all_left files ys (Err e) is that tells = tt
