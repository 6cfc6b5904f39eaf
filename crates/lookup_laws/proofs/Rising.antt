-- Links that rise: each comes before all those behind it, so that no two have equal units.
use Rattle.std.proofs.Common.{◌≡◌, ◌⊎◌, ℕ, zero, suc, ◌+◌, ◌<◌, Bool, true, false, not, cond, List, [], ◌∷◌, length, get_or, Option, Some, None, refl, sym, ap, subst, ◌∙◌, inl, inr, add-one, arith}
use Rattle.std.specs.List.{filter, AllByRecursion}
use Rattle.std.specs.List.Sorted.{IsSortedBy}
use Rattle.std.specs.Cmp.{upto}
use Rattle.std.specs.Ordering.{is_gt, is_lt, ordering_reverse}
use Rattle.std.specs.declared.cmp.Ordering.{Ordering}
use Rattle.std.specs.declared.cmp.Ordering.TheVariants.{Less, Equal, Greater}
use Rattle.std.proofs.lemmas.Bool.{cases_Bool, and_parts, both_ways}
use Rattle.std.proofs.lemmas.Cmp.{tied_itself}
use Rattle.file_tree.specs.declared.link.Link.{Link}
use Rattle.file_tree.specs.Names.{name_order, comes_before}
use Rattle.file_tree.specs.Trees.{first_of_two, first_in_order, stands_before}
use Rattle.file_tree.proofs.NameOrders.{name_order_total}
use Rattle.tree_laws.specs.state_model.Rules.{is_rising}
use Rattle.lookup_laws.proofs.Among.{Among, Apart, every_among, from_among, passing}

-- ---- the order

less_is : (r : Ordering) → is_lt r ≡ true → r ≡ Less
less_is Less is = refl
less_is Equal is = absurd cc
less_is Greater is = absurd cc

pub before_along : (upper a b c : List ℕ) → comes_before upper a b ≡ true → comes_before upper b c ≡ true → comes_before upper a c ≡ true
before_along upper a b c first second = ap is_lt ((name_order_total upper).trans a b c (less_is (name_order upper a b) first) (less_is (name_order upper b c) second))

-- none comes before itself
not_before_itself : (upper a : List ℕ) → comes_before upper a a ≡ false
not_before_itself upper a = ap is_lt (tied_itself (name_order_total upper) a)

turned_less : (r : Ordering) → is_lt r ≡ true → is_lt (ordering_reverse r) ≡ false
turned_less Less is = refl
turned_less Equal is = absurd cc
turned_less Greater is = absurd cc

turned_more : (r : Ordering) → is_lt r ≡ true → is_gt (ordering_reverse r) ≡ true
turned_more Less is = refl
turned_more Equal is = absurd cc
turned_more Greater is = absurd cc

not_back : (upper a b : List ℕ) → comes_before upper a b ≡ true → comes_before upper b a ≡ false
not_back upper a b is = ap is_lt ((name_order_total upper).antisymm b a) ∙ turned_less (name_order upper a b) is

behind_it : (upper a b : List ℕ) → comes_before upper a b ≡ true → is_gt (name_order upper b a) ≡ true
behind_it upper a b is = ap is_gt ((name_order_total upper).antisymm b a) ∙ turned_more (name_order upper a b) is

-- ---- links

abbrev pub Rises : List ℕ → List Link → Type 0
Rises upper [] = Unit {0}
Rises upper (l ∷ links) = AllByRecursion (λ k. comes_before upper l.name k.name ≡ true) links × Rises upper links

pub all_weaker : (P Q : Link → Type 0) → ((l : Link) → P l → Q l) → (links : List Link) → AllByRecursion P links → AllByRecursion Q links
all_weaker P Q each [] all = tt
all_weaker P Q each (l ∷ links) all = (each l all.0, all_weaker P Q each links all.1)

pub rises_all : (upper : List ℕ) (links : List Link) → is_rising upper links ≡ true → Rises upper links
unfolding is_rising
rises_all upper [] is = tt
rises_all upper (l ∷ []) is = (tt, tt)
rises_all upper (l ∷ k ∷ links) is =
    let parts = and_parts _ _ is in
    let rest = rises_all upper (k ∷ links) parts.1 in
    ((parts.0, all_weaker (λ j. comes_before upper k.name j.name ≡ true) (λ j. comes_before upper l.name j.name ≡ true) (λ j later. before_along upper l.name k.name j.name parts.0 later) links rest.0), rest)

before_each : (upper : List ℕ) (l k : Link) (links : List Link) → AllByRecursion (λ j. comes_before upper l.name j.name ≡ true) links → Among k links → comes_before upper l.name k.name ≡ true
before_each upper l k links all there = every_among (λ j. comes_before upper l.name j.name ≡ true) k links all there

pub rises_apart : (upper : List ℕ) (links : List Link) → Rises upper links → Apart links
rises_apart upper [] rises = tt
rises_apart upper (l ∷ links) rises = (λ there. both_ways (comes_before upper l.name l.name) (not_before_itself upper l.name) (before_each upper l l links rises.0 there), rises_apart upper links rises.1)

apart_units : (upper : List ℕ) (l k : Link) → comes_before upper l.name k.name ≡ true → l.name ≡ k.name → ⊥
apart_units upper l k before same = both_ways (comes_before upper l.name k.name) (ap (comes_before upper l.name) (sym same) ∙ not_before_itself upper l.name) before

-- those of equal units are one
pub one_of_units : (upper : List ℕ) (links : List Link) (a b : Link) → Rises upper links → Among a links → Among b links → a.name ≡ b.name → a ≡ b
one_of_units upper [] a b rises first second same = absurd first
one_of_units upper (l ∷ links) a b rises (inl here) (inl there) same = sym here ∙ there
one_of_units upper (l ∷ links) a b rises (inl here) (inr there) same = absurd (apart_units upper l b (before_each upper l b links rises.0 there) (ap (λ (k : Link). k.name) here ∙ same))
one_of_units upper (l ∷ links) a b rises (inr here) (inl there) same = absurd (apart_units upper l a (before_each upper l a links rises.0 here) (ap (λ (k : Link). k.name) there ∙ sym same))
one_of_units upper (l ∷ links) a b rises (inr here) (inr there) same = one_of_units upper links a b rises.1 here there same

rises_by : (upper : List ℕ) (f : Link → Bool) (l : Link) (links : List Link) (t : Bool) → Rises upper (l ∷ links) → Rises upper (filter f links) → Rises upper (cond t (l ∷ filter f links) (filter f links))
rises_by upper f l links true rises rest = (from_among (λ k. comes_before upper l.name k.name ≡ true) (filter f links) (λ k there. before_each upper l k links rises.0 (passing f k links there).0), rest)
rises_by upper f l links false rises rest = rest

-- those that pass a test rise too
pub passing_rise : (upper : List ℕ) (f : Link → Bool) (links : List Link) → Rises upper links → Rises upper (filter f links)
passing_rise upper f [] rises = tt
passing_rise upper f (l ∷ links) rises = rises_by upper f l links (f l) rises (passing_rise upper f links rises.1)

sorted_behind : (upper : List ℕ) (l : Link) (links : List Link) → Rises upper (l ∷ links) → (k : ℕ) (d : Link) → k < length links → stands_before upper (get_or links k d) (get_or (l ∷ links) k d) ≡ false
sorted_behind upper l [] rises k d below = absurd (omega (arith, below))
sorted_behind upper l (j ∷ links) rises zero d below = not_back upper l.name j.name rises.0.0
sorted_behind upper l (j ∷ links) rises (suc k) d below = sorted_behind upper j links rises.1 k d (omega (arith, below))

pub rises_sorted : (upper : List ℕ) (links : List Link) → Rises upper links → IsSortedBy (stands_before upper) links
rises_sorted upper [] rises = λ k d low high. absurd (omega (arith, high))
rises_sorted upper (l ∷ links) rises = λ k d low high. rw (add-one k) (sorted_behind upper l links rises k d (omega (arith, high)))

-- ---- the first in order

-- it is one of these, and stands behind none of them
record IsLowest (upper : List ℕ) (l : Link) (links : List Link) : Type 0 where
  there : Among l links
  low : AllByRecursion (λ k. is_gt (name_order upper l.name k.name) ≡ false) links

no_more : (r : Ordering) → is_gt r ≡ true → is_gt (ordering_reverse r) ≡ false
no_more Less is = absurd cc
no_more Equal is = absurd cc
no_more Greater is = refl

not_behind_itself : (upper a : List ℕ) → is_gt (name_order upper a a) ≡ false
not_behind_itself upper a = ap is_gt (tied_itself (name_order_total upper) a)

at_most_by : (upper a b c : List ℕ) → is_gt (name_order upper a b) ≡ false → is_gt (name_order upper b c) ≡ false → (r : Bool) → is_gt (name_order upper a c) ≡ r → is_gt (name_order upper a c) ≡ false
at_most_by upper a b c first second false is = is
at_most_by upper a b c first second true is = absurd (both_ways (is_gt (name_order upper a c)) (upto (name_order_total upper) a b c first second) is)

lowest_by : (upper : List ℕ) (l m : Link) (links : List Link) → IsLowest upper m links → (t : Bool) → is_gt (name_order upper l.name m.name) ≡ t → IsLowest upper (cond t m l) (l ∷ links)
lowest_by upper l m links rest true is = record { there = inr rest.there; low = (ap is_gt ((name_order_total upper).antisymm m.name l.name) ∙ no_more (name_order upper l.name m.name) is, rest.low) }
lowest_by upper l m links rest false is = record {
  there = inl refl;
  low = (
    not_behind_itself upper l.name,
    all_weaker (λ k. is_gt (name_order upper m.name k.name) ≡ false) (λ k. is_gt (name_order upper l.name k.name) ≡ false) (λ k low. at_most_by upper l.name m.name k.name is low _ refl) links rest.low,
  );
}

lowest : (upper : List ℕ) (l : Link) (links : List Link) → IsLowest upper (first_of_two upper l (first_in_order upper links)) (l ∷ links)
lowest upper l [] = record { there = inl refl; low = (not_behind_itself upper l.name, tt) }
lowest upper l (k ∷ links) =
    let m = first_of_two upper k (first_in_order upper links) in
    lowest_by upper l m (k ∷ links) (lowest upper k links) (is_gt (name_order upper l.name m.name)) refl

first_is : (upper : List ℕ) (m k : Link) (links others : List Link) → IsLowest upper m others → Rises upper (k ∷ links) → Among m (k ∷ links) → Among k others → m ≡ k
first_is upper m k links others low rises (inl same) there = sym same
first_is upper m k links others low rises (inr later) there =
    absurd (both_ways (is_gt (name_order upper m.name k.name)) (every_among (λ j. is_gt (name_order upper m.name j.name) ≡ false) k others low.low there) (behind_it upper k.name m.name (before_each upper k m links rises.0 later)))

-- of links with the elements of others that rise, the first in order is the front of those
pub first_of_rising : (upper : List ℕ) (l k : Link) (links others : List Link) → Rises upper (k ∷ links) → ((x : Link) → Among x (l ∷ others) → Among x (k ∷ links)) → Among k (l ∷ others) → first_in_order upper (l ∷ others) ≡ Some k
first_of_rising upper l k links others rises into there =
    let m = first_of_two upper l (first_in_order upper others) in
    let low = lowest upper l others in
    ap Some (first_is upper m k links (l ∷ others) low rises (into m low.there) there)
