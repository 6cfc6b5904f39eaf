-- The files that records refer to, and what they get.
use Rattle.std.proofs.Common.{◌≡◌, ℕ, zero, suc, ◌+◌, ◌==◌, ◌&&◌, ◌<◌, Bool, true, false, not, List, [], ◌∷◌, ◌++◌, length, map, get_or, Option, Some, None, refl, sym, ap, ◌∙◌, subst, arith}
use Rattle.std.specs.Prelude.{slice_index_or, IfSome, if◌then◌else◌, replicate}
use Rattle.std.proofs.lemmas.Bool.{eqb-true, eqb-false}
use Rattle.std.proofs.lemmas.Bool.Decides.{nat_tests}
use Rattle.std.proofs.lemmas.Grind.{get_or-set_at, flat_map-append}
use Rattle.std.proofs.lemmas.List.{append-nil, length-set, get_or-set_other, length-replicate, get_or-replicate}
use Rattle.std.proofs.lemmas.List.FromFn.{get_or-map-range_with_len, length-map-range_with_len, fill_by_all}
use Rattle.std.specs.List.{flat_map, range_with_len}
use Rattle.volume_model.specs.host_base.FileRefs.{same_reference}
use Rattle.record_model.specs.declared.attribute.Attr.{Attr}
use Rattle.record_model.specs.ListEntries.{ReadEntries}
use Rattle.record_model.specs.Records.{Record}
use Rattle.state_model.specs.Files.{Table, file_at, only_base, reference}
use Rattle.state_model.specs.Loads.{table_in}
use Rattle.volume_map.specs.Lists.{read_at, named_at, named_of, owner_if, owner_of, owner_at, with_named, extra_at, extras_of}

there : (records : List (Option Record)) (n : ℕ) (r : Record) → only_base (slice_index_or records n None) ≡ Some r → n < length records
there [] n r e = absurd cc
there (x ∷ records) zero r e = omega arith
there (x ∷ records) (suc n) r e = let lt = there records n r e in omega (arith, lt)

owner_if_there : (records : List (Option Record)) (m : ℕ) (q : Record) (b owner : ℕ) (o : Option Record) → only_base (slice_index_or records b None) ≡ o → owner_if m q b o ≡ Some owner → owner < length records
owner_if_there records m q b owner None is e = absurd cc
owner_if_there records m q b owner (Some r) is e = owner_is_there records b owner r is (not (m == b) && same_reference q.head.base (reference b r)) e
  where
    owner_is_there : (records : List (Option Record)) (b owner : ℕ) (r : Record) → only_base (slice_index_or records b None) ≡ Some r → (cond : Bool) → (if cond then Some b else None) ≡ Some owner → owner < length records
    owner_is_there records b owner r is true e = let same : b ≡ owner = cc e in subst (λ (n : ℕ). n < length records) same (there records b r is)
    owner_is_there records b owner r is false e = absurd cc

owner_of_there : (records : List (Option Record)) (m owner : ℕ) (q : Option Record) → owner_of (table_in records) m q ≡ Some owner → owner < length records
unfolding file_at
owner_of_there records m owner None e = absurd cc
owner_of_there records m owner (Some q) e = owner_if_there records m q q.head.base.number owner _ refl e

-- the file that a record refers to is one of the records
pub owner_there : (records : List (Option Record)) (m owner : ℕ) → owner_at (table_in records) m ≡ Some owner → owner < length records
unfolding owner_at
owner_there records m owner e = owner_of_there records m owner (table_in records m) e

-- ---- what a record brings

-- this, at the file that is the owner
abbrev given_to : Option ℕ → ℕ → List Attr → List Attr
given_to None k xs = []
given_to (Some b) k xs = if b == k then xs else []

same_self : (k : ℕ) → (k == k) ≡ true
same_self k = grind (arith, nat_tests)

by_bool : (b : Bool) (xs : List Attr) (k : ℕ) → (if b then xs else []) ≡ given_to (if b then Some k else None) k xs
by_bool true xs k = rw (same_self k) refl
by_bool false xs k = refl

and_no : (a c : Bool) (xs : List Attr) (b : Bool) → b ≡ false → (if (a && (b && c)) then xs else []) ≡ []
and_no true c xs b e = rw e refl
and_no false c xs b e = refl

no_owner : (m : ℕ) (q : Record) (b k : ℕ) (o : Option Record) (xs : List Attr) → (b == k) ≡ false → given_to (owner_if m q b o) k xs ≡ []
no_owner m q b k None xs e = refl
no_owner m q b k (Some r) xs e = by_cond (not (m == b) && same_reference q.head.base (reference b r)) b k xs e
  where
    by_cond : (cond : Bool) (b k : ℕ) (xs : List Attr) → (b == k) ≡ false → given_to (if cond then Some b else None) k xs ≡ []
    by_cond true b k xs e = rw e refl
    by_cond false b k xs e = refl

same_case : (lists : List ReadEntries) (p : Table) (k m : ℕ) (q : Record) (pk : Option Record) → p m ≡ Some q → named_at lists p k pk m ≡ given_to (owner_if m q k pk) k (named_of (read_at lists k) m (Some q))
same_case lists p k m q None is = refl
same_case lists p k m q (Some r) is = rw is (by_bool (not (m == k) && same_reference q.head.base (reference k r)) (named_of (read_at lists k) m (Some q)) k)

other_case : (lists : List ReadEntries) (p : Table) (k m : ℕ) (q : Record) (pk : Option Record) → p m ≡ Some q → (q.head.base.number == k) ≡ false → named_at lists p k pk m ≡ []
other_case lists p k m q None is other = refl
other_case lists p k m q (Some r) is other = rw is (and_no (not (m == k)) (q.head.base.seq == r.head.seq) (named_of (read_at lists k) m (Some q)) (q.head.base.number == k) other)

given_some : (lists : List ReadEntries) (p : Table) (k m : ℕ) (q : Record) (pk : Option Record) (same : Bool) → (q.head.base.number == k) ≡ same → p m ≡ Some q → file_at p k ≡ pk
    → named_at lists p k pk m ≡ given_to (owner_if m q q.head.base.number (file_at p q.head.base.number)) k (named_of (read_at lists k) m (Some q))
given_some lists p k m q pk true e is at =
    let xs : List Attr = named_of (read_at lists k) m (Some q) in
    let number : q.head.base.number ≡ k = eqb-true q.head.base.number k e in
    same_case lists p k m q pk is ∙ sym (ap (λ (b : ℕ). given_to (owner_if m q b (file_at p b)) k xs) number ∙ ap (λ (o : Option Record). given_to (owner_if m q k o) k xs) at)
given_some lists p k m q pk false e is at = other_case lists p k m q pk is e ∙ sym (no_owner m q q.head.base.number k (file_at p q.head.base.number) (named_of (read_at lists k) m (Some q)) e)

given_by : (lists : List ReadEntries) (p : Table) (k m : ℕ) (pm pk : Option Record) → p m ≡ pm → file_at p k ≡ pk → named_at lists p k pk m ≡ given_to (owner_of p m pm) k (named_of (read_at lists k) m pm)
given_by lists p k m None None is at = refl
given_by lists p k m None (Some r) is at = rw is refl
given_by lists p k m (Some q) pk is at = given_some lists p k m q pk (q.head.base.number == k) refl is at

-- a record brings its named attributes to the file that it refers to, and to no other
pub given : (lists : List ReadEntries) (p : Table) (k m : ℕ) → named_at lists p k (file_at p k) m ≡ given_to (owner_at p m) k (named_of (read_at lists k) m (p m))
unfolding owner_at
given lists p k m = given_by lists p k m (p m) (file_at p k) refl refl

-- ---- one record more

pub range_more : (a n : ℕ) → range_with_len a (n + 1) ≡ range_with_len a n ++ (a + n) ∷ []
range_more a zero = let e : a ≡ a + 0 = omega arith in ap (λ (k : ℕ). k ∷ []) e
range_more a (suc n) =
    let e : suc n + 1 ≡ suc (n + 1) = omega arith in
    let f : (a + 1) + n ≡ a + suc n = omega arith in
    ap (range_with_len a) e ∙ ap (λ (ks : List ℕ). a ∷ ks) (range_more (a + 1) n ∙ ap (λ (k : ℕ). range_with_len (a + 1) n ++ k ∷ []) f)

pub flat_map_more : {X : Type 0} (f : ℕ → List X) (n : ℕ) → flat_map f (range_with_len 0 (n + 1)) ≡ flat_map f (range_with_len 0 n) ++ f n
flat_map_more f n =
    let e : 0 + n ≡ n = omega arith in
    ap (flat_map f) (range_more 0 n) ∙ flat_map-append f (range_with_len 0 n) ((0 + n) ∷ []) ∙ ap (λ xs. flat_map f (range_with_len 0 n) ++ xs) (append-nil (f (0 + n)) ∙ ap f e)

extra_more : (lists : List ReadEntries) (p : Table) (m k : ℕ) → extra_at lists p (m + 1) k ≡ extra_at lists p m k ++ given_to (owner_at p m) k (named_of (read_at lists k) m (p m))
unfolding extra_at
extra_more lists p m k =
    flat_map_more (named_at lists p k (file_at p k)) m
    ∙ ap (λ (xs : List Attr). flat_map (named_at lists p k (file_at p k)) (range_with_len 0 m) ++ xs) (given lists p k m)

at_more : (lists : List ReadEntries) (p : Table) (m count k : ℕ) (o : Option ℕ) → owner_at p m ≡ o → IfSome o (λ b. b < count) → k < count
    → get_or (with_named lists m (p m) o (extras_of lists p m count)) k [] ≡ extra_at lists p m k ++ given_to o k (named_of (read_at lists k) m (p m))
unfolding extras_of
at_more lists p m count k None is inside lt = get_or-map-range_with_len (extra_at lists p m) 0 count k k [] lt (omega arith) ∙ sym (append-nil (extra_at lists p m k))
at_more lists p m count k (Some b) is inside lt = at_owner (b == k) refl
  where
    was : (j : ℕ) → j < count → get_or (map (extra_at lists p m) (range_with_len 0 count)) j [] ≡ extra_at lists p m j
    was j le = get_or-map-range_with_len (extra_at lists p m) 0 count j j [] le (omega arith)

    at_owner : (same : Bool) → (b == k) ≡ same → get_or (with_named lists m (p m) (Some b) (map (extra_at lists p m) (range_with_len 0 count))) k [] ≡ extra_at lists p m k ++ given_to (Some b) k (named_of (read_at lists k) m (p m))
    at_owner true e =
        let number : b ≡ k = eqb-true b k e in
        get_or-set_at (map (extra_at lists p m) (range_with_len 0 count)) b k _ [] (sym number) (omega (arith, inside, length-map-range_with_len (extra_at lists p m) 0 count))
        ∙ rw (was b inside, number) (rw (same_self k) refl)
    at_owner false e =
        get_or-set_other (map (extra_at lists p m) (range_with_len 0 count)) b k _ [] (λ (same : k ≡ b). eqb-false b k e (sym same)) ∙ was k lt ∙ sym (rw e (append-nil (extra_at lists p m k)))

with_length : (lists : List ReadEntries) (m : ℕ) (q : Option Record) (o : Option ℕ) (extras : List (List Attr)) → length (with_named lists m q o extras) ≡ length extras
with_length lists m q None extras = refl
with_length lists m q (Some b) extras = length-set extras b _

-- the extra attributes after one record more
pub extras_more : (lists : List ReadEntries) (p : Table) (m count : ℕ) (o : Option ℕ) → owner_at p m ≡ o → IfSome o (λ b. b < count) → with_named lists m (p m) o (extras_of lists p m count) ≡ extras_of lists p (m + 1) count
unfolding extras_of
extras_more lists p m count o is inside =
    fill_by_all (extra_at lists p (m + 1)) (with_named lists m (p m) o (map (extra_at lists p m) (range_with_len 0 count))) count []
    (with_length lists m (p m) o _ ∙ length-map-range_with_len (extra_at lists p m) 0 count)
    (λ k lt. at_more lists p m count k o is inside lt ∙ ap (λ (w : Option ℕ). extra_at lists p m k ++ given_to w k (named_of (read_at lists k) m (p m))) (sym is) ∙ sym (extra_more lists p m k))

none_extra : (lists : List ReadEntries) (p : Table) (count : ℕ) → (replicate count []) ≡ extras_of lists p 0 count
unfolding extras_of extra_at
none_extra lists p count = fill_by_all (λ k. []) (replicate count []) count [] (length-replicate count []) (λ k lt. get_or-replicate count k [] [] lt)

-- before the first record
pub extras_first : (lists : List ReadEntries) (p : Table) (count : ℕ) (extras : List (List Attr)) → extras ≡ replicate count [] → extras ≡ extras_of lists p 0 count
extras_first lists p count extras is = is ∙ none_extra lists p count

pub extras_length : (lists : List ReadEntries) (p : Table) (m count : ℕ) → length (extras_of lists p m count) ≡ count
unfolding extras_of
extras_length lists p m count = length-map-range_with_len (extra_at lists p m) 0 count

owners_inside : (records : List (Option Record)) (m : ℕ) (o : Option ℕ) → owner_at (table_in records) m ≡ o → IfSome o (λ b. b < length records)
owners_inside records m None is = tt
owners_inside records m (Some b) is = owner_there records m b is

pub adds_record : (lists : List ReadEntries) (records : List (Option Record)) (m : ℕ) (old new : List (List Attr)) → old ≡ extras_of lists (table_in records) m (length records)
    → new ≡ with_named lists m (table_in records m) (owner_at (table_in records) m) old → new ≡ extras_of lists (table_in records) (m + 1) (length records)
adds_record lists records m old new was now =
    now ∙ ap (with_named lists m (table_in records m) (owner_at (table_in records) m)) was ∙ extras_more lists (table_in records) m (length records) (owner_at (table_in records) m) refl (owners_inside records m (owner_at (table_in records) m) refl)
