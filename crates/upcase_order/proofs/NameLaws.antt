-- Why names that compare as equal have equal units, and names that are the same stand together.
use Rattle.std.proofs.Common.{◌≡◌, ℕ, true, List, refl, sym, ap, ◌∙◌, subst}
use Rattle.std.specs.Prelude.{◌≢◌}
use Rattle.std.specs.Cmp.{IsEquivalence}
use Rattle.std.specs.Cmp.Lexicographic.{slice_cmp, bytes_decides, texts_ties}
use Rattle.std.specs.Ordering.{nat_cmp, is_eq, ordering_then, ordering_reverse}
use Rattle.std.specs.declared.cmp.Ordering.{Ordering}
use Rattle.std.specs.declared.cmp.Ordering.TheVariants.{Less, Equal, Greater}
use Rattle.std.proofs.lemmas.Cmp.{nat_list_cmp_total, nat_list_eq_equiv, on_equiv, tied_itself}
use Rattle.index_model.specs.file_tree.Names.{upper_units, name_order, same_name}
use Rattle.index_model.proofs.file_tree.NameOrders.{name_order_total}

-- lists that compare as equal are equal
equal_lists : (a b : List ℕ) → slice_cmp nat_cmp a b ≡ Equal → a ≡ b
equal_lists a b e = (bytes_decides a b).0 (texts_ties a b ∙ ap is_eq e)

then_second : (r s : Ordering) → ordering_then r s ≡ Equal → s ≡ Equal
then_second Less s e = absurd cc
then_second Equal s e = e
then_second Greater s e = absurd cc

pub equal_units : (table a b : List ℕ) → name_order table a b ≡ Equal → a ≡ b
unfolding name_order
equal_units table a b e = equal_lists a b (then_second (slice_cmp nat_cmp (upper_units table a) (upper_units table b)) (slice_cmp nat_cmp a b) e)

pub units_equal : (table a b : List ℕ) → a ≡ b → name_order table a b ≡ Equal
units_equal table a b e = subst (λ x. name_order table a x ≡ Equal) e (tied_itself (name_order_total table) a)

pub same_upper : (table a b : List ℕ) → same_name table a b ≡ true → upper_units table a ≡ upper_units table b
unfolding same_name
same_upper table a b = (bytes_decides (upper_units table a) (upper_units table b)).0

pub upper_same : (table a b : List ℕ) → upper_units table a ≡ upper_units table b → same_name table a b ≡ true
unfolding same_name
upper_same table a b = (bytes_decides (upper_units table a) (upper_units table b)).1

pub same_equiv : (table : List ℕ) → IsEquivalence (same_name table)
unfolding same_name
same_equiv table = on_equiv (upper_units table) nat_list_eq_equiv

pub equal_same : (table a b : List ℕ) → name_order table a b ≡ Equal → same_name table a b ≡ true
equal_same table a b e = upper_same table a b (ap (upper_units table) (equal_units table a b e))

-- neither above nor below by the upper-case units
level : (r s t : Ordering) → ordering_then r s ≢ Greater → ordering_then (ordering_reverse r) t ≢ Greater → r ≡ Equal
level Less s t f g = absurd (g refl)
level Equal s t f g = refl
level Greater s t f g = absurd (f refl)

pub together : (table a b c : List ℕ) → same_name table a c ≡ true → name_order table a b ≢ Greater → name_order table b c ≢ Greater → same_name table a b ≡ true
unfolding name_order
together table a b c same f g =
    let o = nat_list_cmp_total in
    let e = same_upper table a c same in
    let R : List ℕ → List ℕ → Ordering = slice_cmp nat_cmp in
    let turned : R (upper_units table b) (upper_units table c) ≡ ordering_reverse (R (upper_units table a) (upper_units table b)) = ap (R (upper_units table b)) (sym e) ∙ o.antisymm (upper_units table b) (upper_units table a) in
    let h : ordering_then (ordering_reverse (R (upper_units table a) (upper_units table b))) (R b c) ≢ Greater = (λ x. g (ap (λ r. ordering_then r (R b c)) turned ∙ x)) in
    upper_same table a b (equal_lists (upper_units table a) (upper_units table b) (level (R (upper_units table a) (upper_units table b)) (R a b) (R b c) f h))
