-- A file that has one name.
use Rattle.std.proofs.Common.{◌≡◌, ℕ, true, List, [], ◌∷◌, length, get_or, Option, Some, refl, sym, ap, subst, ◌∙◌, arith}
use Rattle.same_names.specs.map_change.record_model.Records.{Record}
use Rattle.tree_laws.specs.file_tree.declared.link.Link.{Link}
use Rattle.tree_laws.specs.state_model.Files.{record_links}
use Rattle.tree_laws.specs.state_model.Rules.{same_link}
use Rattle.same_names.proofs.Links.{links_more}
use Rattle.names_grow.specs.Trying.{HasOneName}

one_is : (a b : Link) → same_link a b ≡ true → b ∷ [] ≡ a ∷ []
one_is a b same = links_more (a ∷ []) (b ∷ []) 0 a b (omega arith) (omega arith) refl refl same refl

alone : (links : List Link) (a : Link) → length links ≡ 1 → a ≡ get_or links 0 a → links ≡ a ∷ []
alone [] a count is = absurd (omega (arith, count))
alone (x ∷ []) a count is = ap (λ (y : Link). y ∷ []) (sym is)
alone (x ∷ y ∷ links) a count is = absurd (omega (arith, count))

pub named_by : (n : ℕ) (l a : Link) (o : Option Record) (r : Record) (links : List Link) → o ≡ Some r → links ≡ record_links n r → length links ≡ 1 → a ≡ get_or links 0 a → same_link a l ≡ true → HasOneName n l o
named_by n l a o r links is are count first same = subst (HasOneName n l) (sym is) (sym are ∙ alone links a count first ∙ sym (one_is a l same))
