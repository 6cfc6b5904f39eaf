-- What is found and listed among all names is what a directory's own index holds.
use Rattle.std.proofs.Common.{◌≡◌, ℕ, Bool, true, false, cond, ◌&&◌, List, [], ◌∷◌, map, length, find, Option, Some, None, refl, sym, ap, ap₂, subst, ◌∙◌, inl}
use Rattle.std.specs.Prelude.{count_by}
use Rattle.std.specs.List.{filter, AllByRecursion}
use Rattle.std.specs.List.Sorted.{IsPermutation}
use Rattle.std.specs.Option.{option_or}
use Rattle.std.specs.Cmp.Lexicographic.{bytes_decides}
use Rattle.std.proofs.lemmas.Bool.{both_ways}
use Rattle.std.proofs.lemmas.List.Sorted.{IsPermutation-sym, sum_by-IsPermutation}
use Rattle.std.proofs.lemmas.List.Sums.{length-filter}
use Rattle.file_tree.specs.declared.link.Link.{Link}
use Rattle.file_tree.specs.Names.{same_units, same_name}
use Rattle.file_tree.specs.Trees.{is_in, is_long, first_in_order, same_links, look_up, long_links_in, IsListing}
use Rattle.lookup_laws.specs.Names.{front_link, named_so, chosen_of, long_units}
use Rattle.lookup_laws.specs.Directories.{AreNamesThere}
use Rattle.lookup_laws.proofs.Among.{Among, every_among, from_among, permuted, still_among, among_passing, passing, found_among, none_found}
use Rattle.lookup_laws.proofs.Rising.{Rises, rises_all, rises_apart, one_of_units, passing_rise, rises_sorted, first_of_rising}

-- ---- two tests

both_by : (f g : Link → Bool) (l : Link) (links : List Link) (t : Bool) → filter (λ k. f k && g k) links ≡ filter g (filter f links) → cond (t && g l) (l ∷ filter (λ k. f k && g k) links) (filter (λ k. f k && g k) links) ≡ filter g (cond t (l ∷ filter f links) (filter f links))
both_by f g l links true rest = ap (λ (x : List Link). cond (g l) (l ∷ x) x) rest
both_by f g l links false rest = rest

-- those that pass both tests pass the one and then the other
pub pass_both : (f g : Link → Bool) (links : List Link) → filter (λ l. f l && g l) links ≡ filter g (filter f links)
pass_both f g [] = refl
pass_both f g (l ∷ links) = both_by f g l links (f l) (pass_both f g links)

-- ---- those that pass a test

module _ (upper : List ℕ) (f : Link → Bool) (xs ys : List Link) (same : IsPermutation ys xs) (rises : Rises upper xs) where
  pub into : (l : Link) → Among l (filter f ys) → Among l (filter f xs)
  into l there = let both = passing f l ys there in among_passing f l xs (still_among xs ys (IsPermutation-sym ys xs same) l both.0) both.1

  pub back : (l : Link) → Among l (filter f xs) → Among l (filter f ys)
  back l there = let both = passing f l xs there in among_passing f l ys (still_among ys xs same l both.0) both.1

  pub passing_permuted : IsPermutation (filter f ys) (filter f xs)
  passing_permuted =
      permuted (filter f xs) (filter f ys) (rises_apart upper (filter f xs) (passing_rise upper f xs rises)) (from_among (λ l. Among l (filter f ys)) (filter f xs) back)
      (length-filter f ys ∙ sym (sum_by-IsPermutation (λ l. cond (f l) 1 0) ys xs same) ∙ sym (length-filter f xs))

-- ---- what is found

found_alike : (f : Link → Bool) (xs ys : List Link) → ((l : Link) → Among l ys → Among l xs) → ((l : Link) → Among l xs → Among l ys) → ((a b : Link) → Among a xs → Among b xs → f a ≡ true → f b ≡ true → a ≡ b) → (o p : Option Link) → find f ys ≡ o → find f xs ≡ p → o ≡ p
found_alike f xs ys into back one None None first second = refl
found_alike f xs ys into back one None (Some b) first second =
    let both = found_among f b xs second in
    absurd (both_ways (f b) (every_among (λ l. f l ≡ false) b ys (none_found f ys first) (back b both.0)) both.1)
found_alike f xs ys into back one (Some a) None first second =
    let both = found_among f a ys first in
    absurd (both_ways (f a) (every_among (λ l. f l ≡ false) a xs (none_found f xs second) (into a both.0)) both.1)
found_alike f xs ys into back one (Some a) (Some b) first second =
    let there = found_among f a ys first in
    let here = found_among f b xs second in
    ap Some (one a b (into a there.0) here.0 there.1 here.1)

front_alike : (upper : List ℕ) (xs ys : List Link) → Rises upper xs → ((l : Link) → Among l ys → Among l xs) → ((l : Link) → Among l xs → Among l ys) → first_in_order upper ys ≡ front_link xs
front_alike upper [] [] rises into back = refl
front_alike upper [] (l ∷ ys) rises into back = absurd (into l (inl refl))
front_alike upper (k ∷ xs) [] rises into back = absurd (back k (inl refl))
front_alike upper (k ∷ xs) (l ∷ ys) rises into back = first_of_rising upper l k xs ys rises into (back k (inl refl))

chosen_alike : (upper : List ℕ) (part : List ℕ) (xs ys : List Link) → Rises upper xs → ((l : Link) → Among l ys → Among l xs) → ((l : Link) → Among l xs → Among l ys) → option_or (find (λ l. same_units l.name part) ys) (first_in_order upper ys) ≡ chosen_of part xs
unfolding chosen_of
chosen_alike upper part xs ys rises into back =
    let test : Link → Bool = λ l. same_units l.name part in
    ap₂ option_or
    (found_alike test xs ys into back (λ a b first second same other. one_of_units upper xs a b rises first second ((bytes_decides a.name part).0 same ∙ sym ((bytes_decides b.name part).0 other))) (find test ys) (find test xs) refl refl)
    (front_alike upper xs ys rises into back)

same_both : (upper : List ℕ) (all : List Link) (n : ℕ) (part : List ℕ) → same_links upper all n part ≡ named_so upper part (filter (is_in n) all)
unfolding same_links
same_both upper all n part = pass_both (is_in n) (λ l. same_name upper l.name part) all

pub found_by_index : (upper : List ℕ) (all : List Link) (n : ℕ) (links : List Link) (part : List ℕ) → AreNamesThere upper all n links → look_up upper all n part ≡ chosen_of part (named_so upper part links)
unfolding look_up
found_by_index upper all n links part are =
    let test : Link → Bool = λ l. same_name upper l.name part in
    let rises = rises_all upper links are.rising in
    ap (λ (same : List Link). option_or (find (λ l. same_units l.name part) same) (first_in_order upper same)) (same_both upper all n part)
    ∙ chosen_alike upper part (filter test links) (filter test (filter (is_in n) all)) (passing_rise upper test links rises) (into upper test links (filter (is_in n) all) are.same rises) (back upper test links (filter (is_in n) all) are.same rises)

-- ---- what is listed

long_both : (all : List Link) (n : ℕ) → long_links_in all n ≡ filter is_long (filter (is_in n) all)
unfolding long_links_in
long_both all n = pass_both (is_in n) is_long all

pub listed_by_index : (upper : List ℕ) (all : List Link) (n : ℕ) (links : List Link) → AreNamesThere upper all n links → IsListing upper all n (long_units links)
listed_by_index upper all n links are =
    let rises = rises_all upper links are.rising in
    record {
      order = filter is_long links;
      same = subst (λ (l : List Link). IsPermutation l (filter is_long links)) (sym (long_both all n)) (passing_permuted upper is_long links (filter (is_in n) all) are.same rises);
      sorted = rises_sorted upper (filter is_long links) (passing_rise upper is_long links rises);
      listed = refl;
    }
