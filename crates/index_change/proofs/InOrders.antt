-- Where a link stands against the keys of an index, in their order.
use Rattle.std.proofs.Common.{◌≡◌, ℕ, ◌≤◌, Bool, true, false, List, [], ◌∷◌, ◌++◌, refl, sym, ap, ◌∙◌, All, arith}
use Rattle.std.specs.Prelude.{if◌then◌else◌}
use Rattle.std.specs.Ordering.{is_gt, is_lt}
use Rattle.std.specs.declared.cmp.Ordering.{Ordering}
use Rattle.std.specs.declared.cmp.Ordering.TheVariants.{Less, Equal, Greater}
use Rattle.std.proofs.lemmas.Bool.{and_parts, not-true}
use Rattle.std.proofs.lemmas.List.Elements.{All-nil, All-cons, All-head, All-tail}
use Rattle.record_model.specs.Values.{is_file_name, units_of}
use Rattle.index_tree.specs.file_tree.declared.link.Link.{Link}
use Rattle.index_tree.specs.file_tree.Names.{name_order}
use Rattle.index_tree.proofs.upcase_order.NameLaws.{equal_units}
use Rattle.index_tree.specs.index_model.declared.key.Key.{Key}
use Rattle.index_tree.specs.index_model.Indexes.{links_of, precedes, rises}
use Rattle.index_plan.specs.declared.side.KeySide.TheVariants as sides
use Rattle.index_plan.specs.Seeking.{rank, InOrder}
use Rattle.index_change.specs.Orders.{link_of, is_entry_of, stands_by, stands}
use Rattle.index_change.proofs.Lacking.{rises_without}
use Rattle.index_change.proofs.Lawful.{AreNames, link_name}
use Rattle.index_change.proofs.Putting.{before_along, links_next}

rank_of : Ordering → ℕ
rank_of Less = 2
rank_of Equal = 1
rank_of Greater = 0

rank_by : (r : Ordering) (here : Bool) → rank (stands_by r here) ≡ rank_of r
unfolding rank_of
rank_by Less here = refl
rank_by Equal true = refl
rank_by Equal false = refl
rank_by Greater here = refl

ranks : (a b : Ordering) → (is_lt a ≡ true → is_lt b ≡ true) → (a ≡ Equal → is_gt b ≡ false) → rank_of a ≤ rank_of b
unfolding rank_of
ranks Less Less f g = omega arith
ranks Less Equal f g = let h : is_lt Equal ≡ true = f refl in absurd cc
ranks Less Greater f g = let h : is_lt Greater ≡ true = f refl in absurd cc
ranks Equal Less f g = omega arith
ranks Equal Equal f g = omega arith
ranks Equal Greater f g = let h : is_gt Greater ≡ false = g refl in absurd cc
ranks Greater b f g = omega arith

side_is : (upper : List ℕ) (l : Link) (k : Key) → is_file_name k.value ≡ true → rank (stands upper l k) ≡ rank_of (name_order upper l.name (units_of k.value))
side_is upper l k e = ap (λ (b : Bool). rank (if b then stands_by (name_order upper l.name (units_of k.value)) (is_entry_of l k) else sides.Beside)) e ∙ rank_by (name_order upper l.name (units_of k.value)) (is_entry_of l k)

-- a link stands no more before a key than before a later one
later_rank : (upper : List ℕ) (l : Link) (k x : Key) → is_file_name k.value ≡ true → is_file_name x.value ≡ true → precedes upper (link_of k) (link_of x) ≡ true → rank (stands upper l k) ≤ rank (stands upper l x)
later_rank upper l k x e f p =
    let a = units_of k.value in
    let b = units_of x.value in
    let le : is_gt (name_order upper a b) ≡ false = sym (ap (λ (n : List ℕ). is_gt (name_order upper n b)) (link_name k)) ∙ sym (ap (λ (n : List ℕ). is_gt (name_order upper (link_of k).name n)) (link_name x)) ∙ not-true (is_gt (name_order upper (link_of k).name (link_of x).name)) p in
    let r = ranks (name_order upper l.name a) (name_order upper l.name b) (λ lt. before_along upper l.name a b lt le) (λ same. ap (λ (n : List ℕ). is_gt (name_order upper n b)) (equal_units upper l.name a same) ∙ le) in
    omega (arith, r, side_is upper l k e, side_is upper l x f)

all_later : (upper : List ℕ) (l : Link) (k : Key) (keys : List Key) → is_file_name k.value ≡ true → AreNames keys → rises upper (link_of k ∷ links_of keys) ≡ true → All (λ x. rank (stands upper l k) ≤ rank (stands upper l x)) keys
all_later upper l k [] e names h = All-nil (λ (x : Key). rank (stands upper l k) ≤ rank (stands upper l x))
all_later upper l k (x ∷ keys) e names h =
    let s : rises upper (link_of k ∷ link_of x ∷ links_of keys) ≡ true = sym (ap (λ (ls : List Link). rises upper (link_of k ∷ ls)) (links_next x keys names.0)) ∙ h in
    let p = and_parts (precedes upper (link_of k) (link_of x)) (rises upper (link_of x ∷ links_of keys)) s in
    All-cons (λ (x : Key). rank (stands upper l k) ≤ rank (stands upper l x)) x keys (later_rank upper l k x e names.0 p.0) (all_later upper l k keys e names.1 (rises_without upper (link_of k ∷ []) (link_of x) (links_of keys) s))

-- the keys of an index are in the order by which a link is looked for
pub in_order : (upper : List ℕ) (l : Link) (keys : List Key) → AreNames keys → rises upper (links_of keys) ≡ true → InOrder (stands upper l) keys
in_order upper l [] names h = tt
in_order upper l (k ∷ keys) names h =
    let s : rises upper (link_of k ∷ links_of keys) ≡ true = sym (ap (rises upper) (links_next k keys names.0)) ∙ h in
    (all_later upper l k keys names.0 names.1 s, in_order upper l keys names.1 (rises_without upper [] (link_of k) (links_of keys) s))

-- what holds of each item holds of one
pub at_middle : (P : Key → Type 0) (before : List Key) (k : Key) (behind : List Key) → All P (before ++ k ∷ behind) → P k
at_middle P [] k behind h = All-head P k behind h
at_middle P (b ∷ before) k behind h = at_middle P before k behind (All-tail P b (before ++ k ∷ behind) h)
