-- A file's names among those of all files are its own.
use Rattle.std.proofs.Common.{◌≡◌, ℕ, zero, suc, ◌+◌, ◌<◌, ◌≤◌, Bool, true, false, cond, ◌&&◌, eqb, List, [], ◌∷◌, ◌++◌, append-nil, length, find, Option, Some, None, refl, sym, ap, ap₂, ◌∙◌, inl, inr, arith}
use Rattle.std.specs.Prelude.{count_by}
use Rattle.std.specs.List.{filter, flat_map, range_with_len, AllByRecursion}
use Rattle.std.specs.Option.{option_map}
use Rattle.std.proofs.lemmas.Bool.{cases_lt, eq-eqb, ne_eqb}
use Rattle.std.proofs.lemmas.List.Elements.{filter-append}
use Rattle.std.proofs.lemmas.List.Sums.{length-filter}
use Rattle.tree_laws.specs.record_model.Records.{Record}
use Rattle.file_tree.specs.declared.link.Link.{Link}
use Rattle.file_tree.specs.Trees.{is_of, is_long, long_names_of}
use Rattle.tree_model.specs.Refusals.{parent_of}
use Rattle.tree_laws.specs.state_model.Files.{links_at}
use Rattle.tree_laws.specs.state_model.Loads.{table_in}
use Rattle.tree_laws.specs.state_model.Rules.{long_count}
use Rattle.tree_laws.specs.state_model.Trees.{first_parent, parent_at, all_links}
use Rattle.tree_laws.proofs.Ascending.{own_children}
use Rattle.tree_laws.proofs.Naming.{no_names}
use Rattle.lookup_laws.specs.Names.{front_link}
use Rattle.lookup_laws.proofs.Rising.{all_weaker}
use Rattle.lookup_laws.proofs.Finding.{pass_both}

-- ---- tests

pub all_pass : (f : Link → Bool) (links : List Link) → AllByRecursion (λ l. f l ≡ true) links → filter f links ≡ links
all_pass f [] all = refl
all_pass f (l ∷ links) all = ap (λ (t : Bool). cond t (l ∷ filter f links) (filter f links)) all.0 ∙ ap (λ (x : List Link). l ∷ x) (all_pass f links all.1)

pub none_pass : (f : Link → Bool) (links : List Link) → AllByRecursion (λ l. f l ≡ false) links → filter f links ≡ []
none_pass f [] all = refl
none_pass f (l ∷ links) all = ap (λ (t : Bool). cond t (l ∷ filter f links) (filter f links)) all.0 ∙ none_pass f links all.1

front_by : (f : Link → Bool) (l : Link) (links : List Link) (t : Bool) → find f links ≡ front_link (filter f links) → cond t (Some l) (find f links) ≡ front_link (cond t (l ∷ filter f links) (filter f links))
front_by f l links true rest = refl
front_by f l links false rest = rest

-- what is found is the front of those that pass
find_front : (f : Link → Bool) (links : List Link) → find f links ≡ front_link (filter f links)
find_front f [] = refl
find_front f (l ∷ links) = front_by f l links (f l) (find_front f links)

-- ---- files by number

module _ (p : ℕ → List Link) (own : (m : ℕ) → AllByRecursion (λ l. l.child.number ≡ m) (p m)) (n : ℕ) where
  here : filter (is_of n) (p n) ≡ p n
  here = all_pass (is_of n) (p n) (all_weaker (λ l. l.child.number ≡ n) (λ l. is_of n l ≡ true) (λ l is. eq-eqb l.child.number n is) (p n) (own n))

  elsewhere : (m : ℕ) → (m ≡ n → ⊥) → filter (is_of n) (p m) ≡ []
  elsewhere m other = none_pass (is_of n) (p m) (all_weaker (λ l. l.child.number ≡ m) (λ l. is_of n l ≡ false) (λ l is. ne_eqb l.child.number n (λ same. other (sym is ∙ same))) (p m) (own m))

  next : (a k : ℕ) → filter (is_of n) (flat_map p (range_with_len a (suc k))) ≡ filter (is_of n) (p a) ++ filter (is_of n) (flat_map p (range_with_len (a + 1) k))
  next a k = filter-append (is_of n) (p a) (flat_map p (range_with_len (a + 1) k))

  none_there : (a k : ℕ) → ((m : ℕ) → a ≤ m → m < a + k → m ≡ n → ⊥) → filter (is_of n) (flat_map p (range_with_len a k)) ≡ []
  none_there a zero other = refl
  none_there a (suc k) other = next a k ∙ ap₂ (λ (x y : List Link). x ++ y) (elsewhere a (other a (omega arith) (omega arith))) (none_there (a + 1) k (λ m low high. other m (omega (arith, low)) (omega (arith, high))))

  pub those_there : (a k : ℕ) → a ≤ n → n < a + k → filter (is_of n) (flat_map p (range_with_len a k)) ≡ p n
  those_there a zero low high = absurd (omega (arith, low, high))
  those_there a (suc k) low high = elim (cases_lt a n) [
    | inl less ↦ next a k ∙ ap₂ (λ (x y : List Link). x ++ y) (elsewhere a (λ same. omega (arith, less, same))) (those_there (a + 1) k (omega (arith, less)) (omega (arith, high)))
    | inr last ↦
        (let same : a ≡ n = omega (arith, low, last) in
        next a k
        ∙ ap₂ (λ (x y : List Link). x ++ y) (ap (λ (m : ℕ). filter (is_of n) (p m)) same ∙ here) (none_there (a + 1) k (λ m from to equal. omega (arith, same, from, equal)))
        ∙ append-nil (p n))
  ]

  pub none_before : (k : ℕ) → k ≤ n → filter (is_of n) (flat_map p (range_with_len 0 k)) ≡ []
  none_before k past = none_there 0 k (λ m low high same. omega (arith, high, same, past))

pub own_names : (files : List (Option Record)) (n : ℕ) → filter (is_of n) (all_links (table_in files) (length files)) ≡ links_at (table_in files) n
unfolding all_links
own_names files n =
    let p = table_in files in
    elim (cases_lt n (length files)) [
      | inl below ↦ those_there (links_at p) (own_children p) n 0 (length files) (omega arith) (omega (arith, below))
      | inr past ↦ none_before (links_at p) (own_children p) n (length files) past ∙ sym (no_names files n past)
    ]

pub own_long_names : (files : List (Option Record)) (n : ℕ) → long_names_of (all_links (table_in files) (length files)) n ≡ long_count (links_at (table_in files) n)
unfolding long_names_of
own_long_names files n =
    let all = all_links (table_in files) (length files) in
    sym (length-filter (λ l. is_of n l && is_long l) all)
    ∙ ap length (pass_both (is_of n) is_long all)
    ∙ ap (λ (links : List Link). length (filter is_long links)) (own_names files n)
    ∙ length-filter is_long (links_at (table_in files) n)

front_parent : (links : List Link) → option_map (λ (l : Link). l.parent.number) (front_link links) ≡ first_parent links
front_parent [] = refl
front_parent (l ∷ links) = refl

pub own_parent : (files : List (Option Record)) (n : ℕ) → parent_of (all_links (table_in files) (length files)) n ≡ parent_at (table_in files) n
unfolding parent_of parent_at
own_parent files n =
    let all = all_links (table_in files) (length files) in
    ap (option_map (λ (l : Link). l.parent.number)) (find_front (is_of n) all ∙ ap front_link (own_names files n))
    ∙ front_parent (links_at (table_in files) n)
