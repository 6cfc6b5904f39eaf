-- Links that are looked for.
use Rattle.std.proofs.Common.{◌≡◌, ℕ, Bool, true, false, ◌&&◌, ◌||◌, List, [], ◌∷◌, refl, sym, ap, ◌∙◌}
use Rattle.std.specs.Prelude.{◌==◌, if◌then◌else◌}
use Rattle.std.specs.List.{filter, list_any}
use Rattle.std.specs.Cmp.Lexicographic.{bytes_decides}
use Rattle.std.specs.declared.cmp.Ordering.{Ordering}
use Rattle.std.specs.declared.cmp.Ordering.TheVariants.{Less, Equal, Greater}
use Rattle.std.proofs.lemmas.Bool.{and_parts, eqb-true}
use Rattle.index_tree.specs.host_base.declared.file_ref.FileRef.{FileRef}
use Rattle.index_tree.specs.host_base.FileRefs.{same_reference}
use Rattle.record_model.specs.Values.{is_file_name, parent_of, space_of, units_of}
use Rattle.index_tree.specs.file_tree.declared.link.Link.{Link}
use Rattle.index_tree.specs.file_tree.Names.{name_order, same_units}
use Rattle.index_tree.proofs.upcase_order.NameLaws.{equal_units, equal_same, units_equal}
use Rattle.index_tree.specs.index_model.declared.key.Key.{Key}
use Rattle.index_plan.specs.declared.side.KeySide.{KeySide}
use Rattle.index_plan.specs.declared.side.KeySide.TheVariants as sides
use Rattle.index_tree.specs.Calls.{is_sought}
use Rattle.index_tree.specs.state_model.Rules.{same_link}
use Rattle.index_change.specs.Orders.{link_of, is_entry_of, stands_by, stands, has_link}

ref_of : ℕ → ℕ → FileRef
ref_of number seq = record { number = number; seq = seq }

same_file_is : (a b : FileRef) → same_reference a b ≡ true → a ≡ b
unfolding ref_of
same_file_is a b e =
    let parts = and_parts (a.number == b.number) (a.seq == b.seq) e in
    let n = eqb-true a.number b.number parts.0 in
    let s = eqb-true a.seq b.seq parts.1 in
    ap (λ (x : ℕ). ref_of x a.seq) n ∙ ap (λ (x : ℕ). ref_of b.number x) s

link_with : FileRef → List ℕ → ℕ → FileRef → Link
link_with parent name space child = record { parent = parent; name = name; space = space; child = child }

link_is : (l m : Link) → m.child ≡ l.child → m.parent ≡ l.parent → m.space ≡ l.space → m.name ≡ l.name → m ≡ l
unfolding link_with
link_is l m c p s n =
    ap (λ (x : FileRef). link_with m.parent m.name m.space x) c ∙ ap (λ (x : FileRef). link_with x m.name m.space l.child) p
    ∙ ap (λ (x : ℕ). link_with l.parent m.name x l.child) s ∙ ap (λ (x : List ℕ). link_with l.parent x l.space l.child) n

-- a link that is the same by its parts is this one
pub same_link_is : (l m : Link) → same_link l m ≡ true → m ≡ l
same_link_is l m e =
    let a = and_parts (same_reference l.child m.child && same_reference l.parent m.parent && (l.space == m.space)) (same_units l.name m.name) e in
    let b = and_parts (same_reference l.child m.child && same_reference l.parent m.parent) (l.space == m.space) a.0 in
    let d = and_parts (same_reference l.child m.child) (same_reference l.parent m.parent) b.0 in
    sym (link_is m l (same_file_is l.child m.child d.0) (same_file_is l.parent m.parent d.1) (eqb-true l.space m.space b.1) ((bytes_decides l.name m.name).0 a.1))

-- ---- the search for a name finds it

is_sought_itself : (upper : List ℕ) (l m : Link) → m ≡ l → is_sought upper l.name m ≡ true
is_sought_itself upper l m e = equal_same upper m.name l.name (units_equal upper m.name l.name (ap (λ (k : Link). k.name) e))

any_among : (p q : Link → Bool) (links : List Link) → ((m : Link) → q m ≡ true → p m ≡ true) → list_any q (filter p links) ≡ list_any q links
any_among p q [] each = refl
any_among p q (m ∷ links) each = choose (any_among p q links each) (p m) (q m) refl refl
  where
    choose : list_any q (filter p links) ≡ list_any q links → (a b : Bool) → p m ≡ a → q m ≡ b → list_any q (if a then m ∷ filter p links else filter p links) ≡ (b || list_any q links)
    choose later true b f g = ap (λ (x : Bool). x || list_any q (filter p links)) g ∙ ap (λ (x : Bool). b || x) later
    choose later false true f g = let h : true ≡ false = sym (each m g) ∙ f in absurd cc
    choose later false false f g = later

pub found_link : (upper : List ℕ) (l : Link) (links : List Link) → has_link l (filter (is_sought upper l.name) links) ≡ has_link l links
found_link upper l links = any_among (is_sought upper l.name) (same_link l) links (λ m e. is_sought_itself upper l m (same_link_is l m e))

-- ---- the key where it stands

here_is : (r : Ordering) (b : Bool) → stands_by r b ≡ sides.Here → (r ≡ Equal) × (b ≡ true)
here_is Less b e = absurd cc
here_is Equal true e = (refl, refl)
here_is Equal false e = absurd cc
here_is Greater b e = absurd cc

lawful_here : (b : Bool) (s : KeySide) → (if b then s else sides.Beside) ≡ sides.Here → s ≡ sides.Here
lawful_here true s e = e
lawful_here false s e = absurd cc

link_of_parts : (k : Key) → link_of k ≡ link_with (parent_of k.value) (units_of k.value) (space_of k.value) k.child
unfolding link_of link_with
link_of_parts k = refl

pub here_link : (upper : List ℕ) (l : Link) (k : Key) → stands upper l k ≡ sides.Here → link_of k ≡ l
unfolding link_of
here_link upper l k e =
    let s = here_is (name_order upper l.name (units_of k.value)) (is_entry_of l k) (lawful_here (is_file_name k.value) (stands_by (name_order upper l.name (units_of k.value)) (is_entry_of l k)) e) in
    let b = and_parts (same_reference k.child l.child && same_reference (parent_of k.value) l.parent) (space_of k.value == l.space) s.1 in
    let d = and_parts (same_reference k.child l.child) (same_reference (parent_of k.value) l.parent) b.0 in
    link_is l (link_of k) (same_file_is k.child l.child d.0) (same_file_is (parent_of k.value) l.parent d.1) (eqb-true (space_of k.value) l.space b.1) (sym (equal_units upper l.name (units_of k.value) s.0))
