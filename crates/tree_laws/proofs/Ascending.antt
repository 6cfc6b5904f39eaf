-- The way up from files, where each file on it keeps its names.
use Rattle.std.proofs.Common.{◌≡◌, ℕ, zero, suc, Bool, true, false, not, cond, ◌&&◌, ◌||◌, eqb, ltb, List, [], ◌∷◌, Option, Some, None, Result, Ok, Err, refl, ap, ◌∙◌}
use Rattle.std.specs.List.{list_any, filter_map, cons_option, AllByRecursion}
use Rattle.volume_state.specs.host_base.declared.file_ref.FileRef.{FileRef}
use Rattle.volume_state.specs.record_model.declared.attribute.OwnForm.{OwnForm}
use Rattle.volume_state.specs.record_model.declared.attribute.OwnForm.TheVariants.{Resident, Mapped}
use Rattle.volume_state.specs.record_model.declared.attribute.Attr.{Attr}
use Rattle.volume_state.specs.record_model.declared.values.FileNameValue.{FileNameValue}
use Rattle.volume_state.specs.record_model.declared.values.ValueFault.{ValueFault}
use Rattle.volume_state.specs.record_model.StdValues.{file_name_of}
use Rattle.volume_state.specs.record_model.Records.{Record}
use Rattle.volume_state.specs.record_model.Constants.{file_name}
use Rattle.volume_state.specs.file_tree.declared.link.Link.{Link}
use Rattle.volume_state.specs.file_tree.Walks.{root, at_some, first_user_record, passes_system}
use Rattle.volume_state.specs.state_model.Files.{Table, reference, named, form_link, attr_link, record_links, file_links, file_at, links_at, is_directory_record}
use Rattle.volume_state.specs.state_model.Rules.{implies, at_file, keeps_8}
use Rattle.volume_state.specs.state_model.Trees.{first_parent, parent_at, leads, is_in_system, is_system}
use Rattle.tree_laws.specs.Ways.{KeepsWays}

same_at_inside : (inside : ℕ → Bool) (f g : ℕ → Bool) → ((m : ℕ) → inside m ≡ true → g m ≡ f m) → (o : Option ℕ) → ((k : ℕ) → o ≡ Some k → inside k ≡ true) → at_some g o ≡ at_some f o
same_at_inside inside f g same None within = refl
same_at_inside inside f g same (Some k) within = same k (within k refl)

pub same_any : (f g : Link → Bool) (links : List Link) → AllByRecursion (λ l. g l ≡ f l) links → list_any g links ≡ list_any f links
same_any f g [] each = refl
same_any f g (l ∷ links) each = ap (λ (t : Bool). t || list_any g links) each.0 ∙ ap (λ (t : Bool). f l || t) (same_any f g links each.1)

pub all_by : {X : Type 0} (P Q : X → Type 0) → ((x : X) → P x → Q x) → (xs : List X) → AllByRecursion P xs → AllByRecursion Q xs
all_by P Q each [] all = tt
all_by P Q each (x ∷ xs) all = (each x all.0, all_by P Q each xs all.1)

module _ (inside : ℕ → Bool) (p q : Table) (keeps : KeepsWays inside p q) where
  same_parent : (m : ℕ) → inside m ≡ true → parent_at q m ≡ parent_at p m
  unfolding parent_at
  same_parent m within = ap first_parent (keeps.names m within)

  same_step : (f g : ℕ → Bool) → ((m : ℕ) → inside m ≡ true → g m ≡ f m) → (m : ℕ) → inside m ≡ true → at_some g (parent_at q m) ≡ at_some f (parent_at p m)
  same_step f g same m within = ap (at_some g) (same_parent m within) ∙ same_at_inside inside f g same (parent_at p m) (λ k is. keeps.up m k within is)

  same_way : (most m : ℕ) → inside m ≡ true → leads q most m ≡ leads p most m
  unfolding leads
  same_way zero m within = refl
  same_way (suc most) m within = ap (λ (t : Bool). (eqb m root) || t) (same_step (leads p most) (leads q most) (same_way most) m within)

  same_inside : (most m : ℕ) → inside m ≡ true → is_in_system q most m ≡ is_in_system p most m
  unfolding passes_system
  same_inside zero m within = refl
  same_inside (suc most) m within = ap (λ (t : Bool). not (eqb m root) && ((ltb m first_user_record) || t)) (same_step (is_in_system p most) (is_in_system q most) (same_inside most) m within)

  same_system : (count m : ℕ) (links : List Link) → AllByRecursion (λ l. inside l.parent.number ≡ true) links → is_system q count m links ≡ is_system p count m links
  unfolding is_system
  same_system count m links within =
      ap (λ (t : Bool). (ltb m first_user_record) || t)
      (same_any (λ l. is_in_system p count l.parent.number) (λ l. is_in_system q count l.parent.number) links
      (all_by (λ l. inside l.parent.number ≡ true) (λ l. is_in_system q count l.parent.number ≡ is_in_system p count l.parent.number) (λ l is. same_inside count l.parent.number is) links within))

  same_8 : (count m : ℕ) → inside m ≡ true → file_at q m ≡ file_at p m → keeps_8 q count m ≡ keeps_8 p count m
  unfolding keeps_8
  same_8 count m within same =
      ap (λ (t : Bool). at_file (λ r. implies (is_directory_record r) t) (file_at q m)) (same_way count m within)
      ∙ ap (at_file (λ r. implies (is_directory_record r) (leads p count m))) same

pub way_kept : (inside : ℕ → Bool) (p q : Table) (most m : ℕ) → KeepsWays inside p q → inside m ≡ true → leads q most m ≡ leads p most m
way_kept inside p q most m keeps within = same_way inside p q keeps most m within

pub in_system_kept : (inside : ℕ → Bool) (p q : Table) (most m : ℕ) → KeepsWays inside p q → inside m ≡ true → is_in_system q most m ≡ is_in_system p most m
in_system_kept inside p q most m keeps within = same_inside inside p q keeps most m within

pub of_system_kept : (inside : ℕ → Bool) (p q : Table) (count m : ℕ) (links : List Link) → KeepsWays inside p q → AllByRecursion (λ l. inside l.parent.number ≡ true) links → is_system q count m links ≡ is_system p count m links
of_system_kept inside p q count m links keeps within = same_system inside p q keeps count m links within

pub rule_8_kept : (inside : ℕ → Bool) (p q : Table) (count m : ℕ) → KeepsWays inside p q → inside m ≡ true → file_at q m ≡ file_at p m → keeps_8 q count m ≡ keeps_8 p count m
rule_8_kept inside p q count m keeps within same = same_8 inside p q keeps count m within same

-- ---- a file's names name it

some_child : (m : ℕ) (o : Option Link) (links : List Link) → ((l : Link) → o ≡ Some l → l.child.number ≡ m) → AllByRecursion (λ l. l.child.number ≡ m) links → AllByRecursion (λ l. l.child.number ≡ m) (cons_option o links)
some_child m None links one all = all
some_child m (Some l) links one all = (one l refl, all)

named_child : (child : FileRef) (read : Result FileNameValue ValueFault) (l : Link) → named child read ≡ Some l → l.child.number ≡ child.number
named_child child (Ok f) l is = let made : l.child ≡ child = cc in ap (λ (x : FileRef). x.number) made
named_child child (Err fault) l is = absurd cc

form_child : (child : FileRef) (form : OwnForm) (l : Link) → form_link child form ≡ Some l → l.child.number ≡ child.number
form_child child (Resident value indexed) l is = named_child child (file_name_of value) l is
form_child child (Mapped sizes pairs) l is = absurd cc

if_child : (child : FileRef) (t : Bool) (form : OwnForm) (l : Link) → cond t (form_link child form) None ≡ Some l → l.child.number ≡ child.number
if_child child true form l is = form_child child form l is
if_child child false form l is = absurd cc

attr_child : (child : FileRef) (a : Attr) (l : Link) → attr_link child a ≡ Some l → l.child.number ≡ child.number
unfolding attr_link
attr_child child a l is = if_child child (eqb a.head.kind file_name) a.form l is

attrs_children : (m : ℕ) (child : FileRef) → child.number ≡ m → (attrs : List Attr) → AllByRecursion (λ l. l.child.number ≡ m) (filter_map (attr_link child) attrs)
attrs_children m child same [] = tt
attrs_children m child same (a ∷ attrs) = some_child m (attr_link child a) (filter_map (attr_link child) attrs) (λ l is. attr_child child a l is ∙ same) (attrs_children m child same attrs)

file_children : (m : ℕ) (o : Option Record) → AllByRecursion (λ l. l.child.number ≡ m) (file_links m o)
unfolding record_links
file_children m None = tt
file_children m (Some r) = attrs_children m (reference m r) refl r.attrs

pub own_children : (p : Table) (m : ℕ) → AllByRecursion (λ l. l.child.number ≡ m) (links_at p m)
unfolding links_at
own_children p m = file_children m (file_at p m)
