-- Counting the names that stand in each directory.
use Rattle.std.proofs.Common.{◌≡◌, ◌≢◌, ℕ, suc, ◌+◌, ◌<◌, ◌≤◌, true, false, cond, ◌&&◌, ◌==◌, List, [], ◌∷◌, ◌++◌, Option, Some, None, length, replicate, take, get_or, set, refl, sym, ap, subst, ◌∙◌, inl, inr, arith, get_or-set_same, get_or-set_other}
use Rattle.std.proofs.lemmas.Bool.{cases_eq, eq-eqb}
use Rattle.std.proofs.lemmas.Bool.Decides.{nat_tests}
use Rattle.std.proofs.lemmas.Grind.{common_steps}
use Rattle.std.proofs.lemmas.List.{get_or-replicate}
use Rattle.std.proofs.lemmas.List.Sums.{sum_by_more}
use Rattle.file_record.specs.host_base.FileRefs.{same_reference}
use Rattle.state_model.specs.file_tree.declared.link.Link.{Link}
use Rattle.state_model.specs.record_model.Records.{Record}
use Rattle.state_model.specs.Files.{Table, file_at, links_at, reference}
use Rattle.state_model.specs.Rules.{count_in, names_in}
use Rattle.record_rules.specs.Counts.{count_for, count_at, names_for, names_at, has_sequence, has_reference}

-- one name
count_for_one : (n : ℕ) (o : Option Record) (l : Link) → count_for n o (l ∷ []) ≡ cond (l.parent.number == n && has_sequence l.parent.seq o) 1 0
unfolding count_in
count_for_one n None l = grind (arith, nat_tests)
count_for_one n (Some r) l = omega arith

pub count_one : (p : Table) (n : ℕ) (l : Link) → count_at p n (l ∷ []) ≡ cond (l.parent.number == n && has_sequence l.parent.seq (file_at p n)) 1 0
unfolding count_at
count_one p n l = count_for_one n (file_at p n) l

-- a name of another directory, or of none
count_other : (p : Table) (n : ℕ) (l : Link) → l.parent.number ≢ n → count_at p n (l ∷ []) ≡ 0
count_other p n l other = count_one p n l ∙ grind (arith, nat_tests)

count_here : (p : Table) (l : Link) → count_at p l.parent.number (l ∷ []) ≡ cond (has_reference p l.parent) 1 0
unfolding has_reference
count_here p l = count_one p l.parent.number l ∙ ap (λ b. cond (b && has_sequence l.parent.seq (file_at p l.parent.number)) 1 0) (eq-eqb l.parent.number l.parent.number refl)

-- counting it raises the count of its directory by one
pub tallied : (p : Table) (l : Link) (xs : List ℕ) (v : ℕ) → has_reference p l.parent ≡ true → l.parent.number < length xs → v ≡ get_or xs l.parent.number 0 + 1 → (n : ℕ) → get_or (set xs l.parent.number v) n 0 ≡ get_or xs n 0 + count_at p n (l ∷ [])
tallied p l xs v known inside more n =
    elim (cases_eq l.parent.number n) [
      | inl same ↦ subst (λ k. get_or (set xs l.parent.number v) k 0 ≡ get_or xs k 0 + count_at p k (l ∷ [])) same (get_or-set_same xs l.parent.number v 0 inside ∙ more ∙ ap (λ k. get_or xs l.parent.number 0 + k) (sym (count_here p l ∙ ap (λ b. cond b 1 0) known)))
      | inr other ↦ (let none = count_other p n l other in get_or-set_other xs l.parent.number n v 0 (λ e. other (sym e)) ∙ omega (arith, none))
    ]

-- nothing is counted where there is no such file, or no count for it
pub not_tallied : (p : Table) (l : Link) (n : ℕ) → has_reference p l.parent ≡ false → count_at p n (l ∷ []) ≡ 0
not_tallied p l n unknown =
    elim (cases_eq l.parent.number n) [
      | inl same ↦ subst (λ k. count_at p k (l ∷ []) ≡ 0) same (count_here p l ∙ ap (λ b. cond b 1 0) unknown)
      | inr other ↦ count_other p n l other
    ]

pub not_reached : (p : Table) (l : Link) (n count : ℕ) → n < count → count ≤ l.parent.number → count_at p n (l ∷ []) ≡ 0
not_reached p l n count lt far = count_other p n l (λ e. omega (arith, e))

-- one name more
count_for_more : (n : ℕ) (o : Option Record) (links : List Link) (i : ℕ) (d : Link) → i < length links → count_for n o (take (i + 1) links) ≡ count_for n o (take i links) + count_for n o (get_or links i d ∷ [])
unfolding count_in
count_for_more n None links i d lt = omega arith
count_for_more n (Some r) links i d lt = let more = sum_by_more (λ (l : Link). cond (same_reference l.parent (reference n r)) 1 0) links i d lt in omega (arith, more)

pub count_more : (p : Table) (n : ℕ) (links : List Link) (i : ℕ) (d : Link) → i < length links → count_at p n (take (i + 1) links) ≡ count_at p n (take i links) + count_at p n (get_or links i d ∷ [])
unfolding count_at
count_more p n links i d lt = count_for_more n (file_at p n) links i d lt

count_for_none : (n : ℕ) (o : Option Record) → count_for n o [] ≡ 0
unfolding count_in
count_for_none n None = refl
count_for_none n (Some r) = refl

pub count_none : (p : Table) (n : ℕ) → count_at p n [] ≡ 0
unfolding count_at
count_none p n = count_for_none n (file_at p n)

-- the names of one file more
names_for_more : (p : Table) (n : ℕ) (o : Option Record) (count : ℕ) → names_for p n o (suc count) ≡ names_for p n o count + count_for n o (links_at p count)
unfolding names_in
names_for_more p n None count = omega arith
names_for_more p n (Some r) count = refl

pub names_more : (p : Table) (n count : ℕ) → names_at p n (count + 1) ≡ names_at p n count + count_at p n (links_at p count)
unfolding names_at count_at
names_more p n count = let one : count + 1 ≡ suc count = omega arith in ap (names_for p n (file_at p n)) one ∙ names_for_more p n (file_at p n) count

names_for_none : (p : Table) (n : ℕ) (o : Option Record) → names_for p n o 0 ≡ 0
unfolding names_in
names_for_none p n None = refl
names_for_none p n (Some r) = refl

pub names_none : (p : Table) (n : ℕ) → names_at p n 0 ≡ 0
unfolding names_at
names_none p n = names_for_none p n (file_at p n)

-- a slice that is written back as a whole
pub written : (len : ℕ) (xs ys : List ℕ) → length xs ≡ len → take len (xs ++ ys) ≡ xs
written len xs ys e = grind (arith, common_steps)

-- before the first file
pub starts_at_zero : (p : Table) (counts : List ℕ) (size n : ℕ) → counts ≡ replicate size 0 → n < size → get_or counts n 0 ≡ names_at p n 0
starts_at_zero p counts size n zeros lt = ap (λ (xs : List ℕ). get_or xs n 0) zeros ∙ get_or-replicate size n 0 0 lt ∙ sym (names_none p n)

-- the count of a file is that of the names that stand in it
pub names_known : (p : Table) (n count : ℕ) (r : Record) → file_at p n ≡ Some r → names_at p n count ≡ names_in p (reference n r) count
unfolding names_at
names_known p n count r is = ap (λ (o : Option Record). names_for p n o count) is
