-- What a state says of the index of a directory that has no name of the same units.
use Rattle.std.proofs.Common.{◌≡◌, ◌⊎◌, ℕ, true, false, ◌&&◌, nat_eq, ltb, List, [], ◌∷◌, length, Option, Some, None, Result, Ok, Err, refl, sym, ap, subst, ◌∙◌, inl, inr, arith}
use Rattle.std.specs.List.{filter}
use Rattle.std.specs.Ordering.{is_lt, is_eq, ordering_then, ordering_reverse, nat_cmp}
use Rattle.std.specs.Cmp.Lexicographic.{slice_cmp, pointwise}
use Rattle.std.specs.declared.cmp.Ordering.{Ordering}
use Rattle.std.specs.declared.cmp.Ordering.TheVariants.{Less, Equal, Greater}
use Rattle.std.proofs.lemmas.Bool.{cases_Bool, both_ways, lt-ltb}
use Rattle.std.proofs.lemmas.Cmp.{same_from_slice_cmp}
use Rattle.std.proofs.lemmas.Bool.Decides.{nat_tests}
use Rattle.disk_model.specs.Content.{Content}
use Rattle.record_model.specs.Records.{Record}
use Rattle.file_tree.specs.declared.link.Link.{Link}
use Rattle.file_tree.specs.Names.{upper_units, name_order, comes_before, same_name}
use Rattle.file_tree.specs.Trees.{is_in, same_links}
use Rattle.file_tree.proofs.NameOrders.{name_order_total}
use Rattle.index_model.specs.Trees.{Tree, walk}
use Rattle.index_model.specs.Indexes.{Place, links_of}
use Rattle.index_model.specs.Laws.{HoldsIndex}
use Rattle.index_model.specs.Walks.{Broken, walk_of}
use Rattle.index_model.proofs.WalkLaw.{passed_walk}
use Rattle.state_model.specs.declared.geometry.Geometry.{Geometry}
use Rattle.state_model.specs.Files.{is_directory_record}
use Rattle.state_model.specs.Trees.{all_links}
use Rattle.volume_model.specs.Indexes.{index_place, root_value, index_links, links_below, links_read}
use Rattle.volume_model.specs.Volumes.{Volume, files_by_number, count_of, file_in, upper_of}
use Rattle.tree_laws.proofs.Keeping.{rules_of}
use Rattle.tree_model.specs.Refusals.{has_same_name}
use Rattle.lookup_laws.specs.Directories.{AreNamesThere}
use Rattle.lookup_laws.proofs.Among.{Among, from_among, still_among, among_passing}
use Rattle.lookup_laws.proofs.Finding.{pass_both}
use Rattle.lookup_laws.proofs.Holding.{held_by_index}
use Rattle.plan_owners.specs.States.{Stands}
use Rattle.made_trees.specs.plan_model.PlannedIndexes.{AreBeside}

-- ---- the index

value_there : (c : Content) (place : Place) (upper : List ℕ) (links : List Link) (o : Option (List ℕ)) → links_below c place upper o ≡ Some links → (value : List ℕ) × (o ≡ Some value) × (walk_of c place upper value ≡ Ok links)
value_there c place upper links None is = absurd cc
value_there c place upper links (Some value) is = (value, refl, read_by (walk_of c place upper value) is)
  where
    read_by : (r : Result (List Link) Broken) → links_read r ≡ Some links → r ≡ Ok links
    read_by (Ok l) same = (let e : l ≡ links = cc in ap (λ (x : List Link). Ok x) e)
    read_by (Err broken) same = absurd cc

-- the directory's index, and its names
pub record HasIndexOf (c : Content) (v : Volume) (n : ℕ) (r : Record) : Type 0 where
  pub value : List ℕ
  pub root : root_value r ≡ Some value
  pub t : Tree
  pub holds : HoldsIndex c (index_place v.per r) (upper_of c v) value t
  pub names : AreNamesThere (upper_of c v) (all_links (files_by_number v) (count_of v)) n (links_of (walk t))

pub index_there : (c : Content) (g : Geometry) (clusters : ℕ) (v : Volume) (n : ℕ) (r : Record) → Stands c g clusters v → file_in v n ≡ Some r → is_directory_record r ≡ true → HasIndexOf c v n r
unfolding index_links
index_there c g clusters v n r state file directory =
    let rules = rules_of c v state.kept in
    let held = held_by_index c v n r rules.rule_2 rules.rule_3 file directory in
    let read = value_there c (index_place v.per r) (upper_of c v) held.0 (root_value r) held.1 in
    let passed = passed_walk c (index_place v.per r) (upper_of c v) read.0 held.0 read.2 in
    record {
      value = read.0;
      root = read.1;
      t = passed.0;
      holds = passed.1;
      names = subst (λ (l : List Link). AreNamesThere (upper_of c v) (all_links (files_by_number v) (count_of v)) n l) passed.2 held.2;
    }

-- ---- names beside one of other units

same_by : (xs ys : List ℕ) (r : Ordering) → r ≡ slice_cmp nat_cmp xs ys → is_eq r ≡ pointwise nat_eq xs ys
same_by = same_from_slice_cmp nat_cmp is_eq (pointwise nat_eq) refl (λ _ _. refl) (λ _ _. refl) (λ x y xs ys o h. grind (arith, nat_tests))

apart_by : (o p : Ordering) → is_eq o ≡ false → (is_lt (ordering_then o p) ≡ true) ⊎ (is_lt (ordering_reverse (ordering_then o p)) ≡ true)
apart_by Less p other = inl refl
apart_by Equal p other = absurd cc
apart_by Greater p other = inr refl

-- of names that aren't the same one comes before the other
one_before : (upper a b : List ℕ) → same_name upper a b ≡ false → (comes_before upper a b ≡ true) ⊎ (comes_before upper b a ≡ true)
unfolding same_name name_order
one_before upper a b other =
    let units = same_by (upper_units upper a) (upper_units upper b) (slice_cmp nat_cmp (upper_units upper a) (upper_units upper b)) refl in
    elim (apart_by (slice_cmp nat_cmp (upper_units upper a) (upper_units upper b)) (slice_cmp nat_cmp a b) (units ∙ other)) [
      | inl first ↦ inl first
      | inr second ↦ inr (ap is_lt ((name_order_total upper).antisymm b a) ∙ second)
    ]

none_there : (l : Link) (links : List Link) → ltb 0 (length links) ≡ false → Among l links → ⊥
none_there l [] none there = there
none_there l (k ∷ links) none there = both_ways (ltb 0 (length (k ∷ links))) none (lt-ltb 0 (length (k ∷ links)) (omega arith))

module _ (upper : List ℕ) (all : List Link) (n : ℕ) (name : List ℕ) (new : Link) (is : new.name ≡ name) (none : has_same_name upper all n name ≡ false) where
  other_units : (l : Link) → Among l (filter (is_in n) all) → same_name upper l.name name ≡ false
  unfolding has_same_name same_links
  other_units l there = elim (cases_Bool (same_name upper l.name name)) [
    | inl same ↦ (
        let both = among_passing (λ k. same_name upper k.name name) l (filter (is_in n) all) there same in
        absurd (none_there l (filter (λ k. is_in n k && same_name upper k.name name) all) none (subst (Among l) (sym (pass_both (is_in n) (λ k. same_name upper k.name name) all)) both)))
    | inr other ↦ other
  ]

  beside_by : (l : Link) → Among l (filter (is_in n) all) → (comes_before upper new.name l.name ≡ true) ⊎ (comes_before upper l.name new.name ≡ true)
  beside_by l there = elim (one_before upper l.name name (other_units l there)) [
    | inl first ↦ inr (ap (comes_before upper l.name) is ∙ first)
    | inr second ↦ inl (ap (λ (x : List ℕ). comes_before upper x l.name) is ∙ second)
  ]

  pub are_beside : (links : List Link) → AreNamesThere upper all n links → AreBeside upper new links
  are_beside links are = from_among (λ l. (comes_before upper new.name l.name ≡ true) ⊎ (comes_before upper l.name new.name ≡ true)) links (λ l there. beside_by l (still_among (filter (is_in n) all) links are.same l there))
