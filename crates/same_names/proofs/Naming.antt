-- What is told by names is the same where the names are.
use Rattle.std.proofs.Common.{◌≡◌, ℕ, zero, suc, ◌+◌, ◌||◌, eqb, Bool, List, length, map, Option, Some, None, refl, sym, ap, ap₂, ◌∙◌}
use Rattle.std.specs.List.{range_with_len}
use mathlib.Core.Path.{fun_ext}
use Rattle.host_base.specs.declared.file_ref.FileRef.{FileRef}
use Rattle.map_change.specs.record_model.Records.{Record}
use Rattle.map_change.specs.file_tree.declared.link.Link.{Link}
use Rattle.map_change.specs.file_tree.Walks.{root, at_some, passes_system}
use Rattle.record_rules.specs.state_model.Files.{Table, file_at, file_links, links_at, reference}
use Rattle.record_rules.specs.state_model.Loads.{table_in}
use Rattle.record_rules.specs.state_model.Rules.{count_in, names_in}
use Rattle.record_rules.specs.state_model.Trees.{first_parent, parent_at, leads, is_in_system}
use Rattle.record_rules.specs.Counts.{names_for, names_at}
use Rattle.record_rules.specs.Links.{links_in}
use Rattle.record_rules.specs.Ways.{AreWaysOf}
use Rattle.record_rules.specs.declared.climbing.Ways.{Ways}
use Rattle.same_names.specs.Names.{IsNamedAlike, SameNames, NamesTellSame}

-- ---- one file

links_alike : (n : ℕ) (o p : Option Record) → IsNamedAlike n o p → file_links n p ≡ file_links n o
links_alike n None None alike = refl
links_alike n None (Some s) alike = absurd alike
links_alike n (Some r) None alike = absurd alike
links_alike n (Some r) (Some s) alike = alike.1

count_alike : (p q : Table) (n count : ℕ) (o u : Option Record) → ((d : FileRef) → names_in q d count ≡ names_in p d count) → IsNamedAlike n o u → names_for q n u count ≡ names_for p n o count
count_alike p q n count None None same alike = refl
count_alike p q n count None (Some s) same alike = absurd alike
count_alike p q n count (Some r) None same alike = absurd alike
count_alike p q n count (Some r) (Some s) same alike = ap (λ (seq : ℕ). names_in q (record { number = n; seq = seq }) count) alike.0 ∙ same (reference n r)

-- ---- all files

module _ (records others : List (Option Record)) (same : SameNames records others) where
  abbrev p : Table
  p = table_in records

  abbrev q : Table
  q = table_in others

  links_same : (n : ℕ) → links_at q n ≡ links_at p n
  unfolding links_at
  links_same n = links_alike n (file_at p n) (file_at q n) (same.each n)

  all_links_same : links_at q ≡ links_at p
  all_links_same = fun_ext links_same

  names_same : (d : FileRef) (count : ℕ) → names_in q d count ≡ names_in p d count
  unfolding names_in
  names_same d zero = refl
  names_same d (suc count) = ap₂ (λ (x y : ℕ). x + y) (names_same d count) (ap (count_in d) (links_same count))

  pub links_are : links_in others ≡ links_in records
  unfolding links_in
  links_are = ap₂ (λ (f : ℕ → List Link) (count : ℕ). map f (range_with_len 0 count)) all_links_same same.count

  pub counts_are : (n : ℕ) → names_at q n (length others) ≡ names_at p n (length records)
  unfolding names_at
  counts_are n = count_alike p q n (length others) (file_at p n) (file_at q n) (λ d. names_same d (length others)) (same.each n) ∙ ap (names_for p n (file_at p n)) same.count

  parent_same : (n : ℕ) → parent_at q n ≡ parent_at p n
  unfolding parent_at
  parent_same n = ap first_parent (links_same n)

  pub parents_are : parent_at q ≡ parent_at p
  parents_are = fun_ext parent_same

  leads_same : (most n : ℕ) → leads q most n ≡ leads p most n
  unfolding leads
  leads_same zero n = refl
  leads_same (suc most) n = ap₂ (λ (f : ℕ → Bool) (o : Option ℕ). eqb n root || at_some f o) (fun_ext (leads_same most)) (parent_same n)

  pub rooted_are : leads q (length others) ≡ leads p (length records)
  rooted_are = fun_ext (leads_same (length others)) ∙ ap (leads p) same.count

  pub in_system_are : is_in_system q (length others) ≡ is_in_system p (length records)
  in_system_are = ap₂ (λ (f : ℕ → Option ℕ) (count : ℕ). passes_system f count) parents_are same.count

  pub ways_are : (ways : Ways) → AreWaysOf ways records → AreWaysOf ways others
  ways_are ways are = record {
    parents = are.parents ∙ sym (ap₂ (λ (f : ℕ → Option ℕ) (count : ℕ). map f (range_with_len 0 count)) parents_are same.count);
    rooted = are.rooted ∙ sym (ap₂ (λ (f : ℕ → Bool) (count : ℕ). map f (range_with_len 0 count)) rooted_are same.count);
    in_system = are.in_system ∙ sym (ap₂ (λ (f : ℕ → Bool) (count : ℕ). map f (range_with_len 0 count)) in_system_are same.count);
  }

pub tell_same : NamesTellSame
tell_same = record { links = links_are; counts = λ records others n same. counts_are records others same n; parents = parents_are; rooted = rooted_are; in_system = in_system_are; ways = λ ways records others same are. ways_are records others same ways are }
