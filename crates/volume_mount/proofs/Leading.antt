-- A part leads to a file where some link of the directory has the same name.
use Rattle.std.proofs.Common.{◌≡◌, ℕ, Bool, true, false, cond, ◌&&◌, ◌||◌, List, [], ◌∷◌, find, Option, Some, None, refl, sym, ◌∙◌}
use Rattle.std.specs.Prelude.{is_some}
use Rattle.std.specs.List.{filter, list_any}
use Rattle.std.specs.Option.{option_map, option_or}
use Rattle.file_tree.specs.declared.link.Link.{Link}
use Rattle.file_tree.specs.Names.{same_units, same_name}
use Rattle.file_tree.specs.Trees.{is_in, first_in_order, same_links, look_up}
use Rattle.file_tree.specs.Walks.{child_in}

some_mapped : {A B : Type 0} (f : A → B) (o : Option A) → is_some (option_map f o) ≡ is_some o
some_mapped f None = refl
some_mapped f (Some x) = refl

-- the first in order of some links is there, where there is a link
some_or_first : (upper : List ℕ) (test : Link → Bool) (links : List Link) → is_some (option_or (find test links) (first_in_order upper links)) ≡ is_some (first_in_order upper links)
some_or_first upper test [] = refl
some_or_first upper test (l ∷ links) = either (find test (l ∷ links))
  where
    either : (o : Option Link) → is_some (option_or o (first_in_order upper (l ∷ links))) ≡ true
    either None = refl
    either (Some x) = refl

some_in : (upper : List ℕ) (test : Link → Bool) (l : Link) (links : List Link) (b : Bool) → list_any test links ≡ is_some (first_in_order upper (filter test links))
    → (b || list_any test links) ≡ is_some (first_in_order upper (cond b (l ∷ filter test links) (filter test links)))
some_in upper test l links true rest = refl
some_in upper test l links false rest = rest

some_filtered : (upper : List ℕ) (test : Link → Bool) (links : List Link) → list_any test links ≡ is_some (first_in_order upper (filter test links))
some_filtered upper test [] = refl
some_filtered upper test (l ∷ links) = some_in upper test l links (test l) (some_filtered upper test links)

pub leads_where_same : (upper : List ℕ) (links : List Link) (n : ℕ) (part : List ℕ) → list_any (λ (l : Link). is_in n l && same_name upper l.name part) links ≡ is_some (child_in upper links n part)
unfolding child_in look_up same_links
leads_where_same upper links n part =
    let test : Link → Bool = λ l. is_in n l && same_name upper l.name part in
    some_filtered upper test links
    ∙ sym (some_or_first upper (λ l. same_units l.name part) (filter test links))
    ∙ sym (some_mapped (λ (l : Link). l.child.number) (option_or (find (λ (l : Link). same_units l.name part) (filter test links)) (first_in_order upper (filter test links))))
