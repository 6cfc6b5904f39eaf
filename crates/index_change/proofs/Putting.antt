-- A key that is put into keys, and the links.
use Rattle.std.proofs.Common.{◌≡◌, ℕ, Bool, true, false, List, [], ◌∷◌, Option, Some, refl, sym, ap, ◌∙◌}
use Rattle.std.specs.Prelude.{◌&&◌, not, if◌then◌else◌}
use Rattle.std.specs.List.{cons_option}
use Rattle.std.specs.Cmp.{upto}
use Rattle.std.specs.Ordering.{is_gt, is_lt, ordering_reverse}
use Rattle.std.specs.declared.cmp.Ordering.{Ordering}
use Rattle.std.specs.declared.cmp.Ordering.TheVariants.{Less, Equal, Greater}
use Rattle.std.proofs.lemmas.Bool.{and_parts, both_ways, not-true}
use Rattle.record_model.specs.Values.{is_file_name, units_of}
use Rattle.index_tree.specs.file_tree.declared.link.Link.{Link}
use Rattle.index_tree.specs.file_tree.Names.{name_order, comes_before}
use Rattle.index_tree.proofs.file_tree.NameOrders.{name_order_total}
use Rattle.index_tree.specs.index_model.declared.key.Key.{Key}
use Rattle.index_tree.specs.index_model.Indexes.{key_link, links_of, precedes, rises}
use Rattle.index_plan.specs.Search.{put, GoesAll, Rises}
use Rattle.index_change.specs.Orders.{goes, link_of, put_link}
use Rattle.index_change.proofs.Lawful.{AreNames, link_name, key_link_is}

-- ---- the order

not_less : (r : Ordering) → is_lt r ≡ false → is_gt (ordering_reverse r) ≡ false
not_less Less h = absurd cc
not_less Equal h = refl
not_less Greater h = refl

less_back : (r : Ordering) → is_lt r ≡ true → is_gt (ordering_reverse r) ≡ true
less_back Less h = refl
less_back Equal h = absurd cc
less_back Greater h = absurd cc

less_not_more : (r : Ordering) → is_lt r ≡ true → is_gt r ≡ false
less_not_more Less h = refl
less_not_more Equal h = absurd cc
less_not_more Greater h = absurd cc

-- a name that doesn't come before another one stands behind it or beside it
later_name : (upper a b : List ℕ) → comes_before upper a b ≡ false → is_gt (name_order upper b a) ≡ false
later_name upper a b h = ap is_gt ((name_order_total upper).antisymm b a) ∙ not_less (name_order upper a b) h

earlier_name : (upper a b : List ℕ) → comes_before upper a b ≡ true → is_gt (name_order upper b a) ≡ true
earlier_name upper a b h = ap is_gt ((name_order_total upper).antisymm b a) ∙ less_back (name_order upper a b) h

-- what comes before a name comes before each later one
pub before_along : (upper a b c : List ℕ) → comes_before upper a b ≡ true → is_gt (name_order upper b c) ≡ false → comes_before upper a c ≡ true
before_along upper a b c lt le = choose (comes_before upper a c) refl
  where
    choose : (x : Bool) → comes_before upper a c ≡ x → comes_before upper a c ≡ true
    choose true e = e
    choose false e = absurd (both_ways _ (upto (name_order_total upper) b c a le (later_name upper a c e)) (earlier_name upper a b lt))

before_precedes : (upper : List ℕ) (l k : Link) → comes_before upper l.name k.name ≡ true → precedes upper l k ≡ true
before_precedes upper l k h = ap not (less_not_more (name_order upper l.name k.name) h)

behind_precedes : (upper : List ℕ) (l k : Link) → comes_before upper l.name k.name ≡ false → precedes upper k l ≡ true
behind_precedes upper l k h = ap not (later_name upper l.name k.name h)

-- ---- links

rises_tail : (upper : List ℕ) (l : Link) (links : List Link) → rises upper (l ∷ links) ≡ true → rises upper links ≡ true
rises_tail upper l [] h = refl
rises_tail upper l (m ∷ links) h = (and_parts (precedes upper l m) (rises upper (m ∷ links)) h).1

rises_two : (upper : List ℕ) (l m : Link) (links : List Link) → precedes upper l m ≡ true → rises upper (m ∷ links) ≡ true → rises upper (l ∷ m ∷ links) ≡ true
rises_two upper l m links p r = ap (λ (b : Bool). b && rises upper (m ∷ links)) p ∙ r

-- a link that is put in keeps the order, also behind one that all stand behind
put_behind : (upper : List ℕ) (l k : Link) (links : List Link) → precedes upper k l ≡ true → rises upper (k ∷ links) ≡ true → rises upper (put_link upper l links) ≡ true → rises upper (k ∷ put_link upper l links) ≡ true
put_behind upper l k [] p r h = rises_two upper k l [] p refl
put_behind upper l k (m ∷ links) p r h = choose (comes_before upper l.name m.name) h
  where
    choose : (b : Bool) → rises upper (if b then l ∷ m ∷ links else m ∷ put_link upper l links) ≡ true → rises upper (k ∷ (if b then l ∷ m ∷ links else m ∷ put_link upper l links)) ≡ true
    choose true g = rises_two upper k l (m ∷ links) p g
    choose false g = rises_two upper k m (put_link upper l links) (and_parts (precedes upper k m) (rises upper (m ∷ links)) r).0 g

pub put_rises : (upper : List ℕ) (l : Link) (links : List Link) → rises upper links ≡ true → rises upper (put_link upper l links) ≡ true
put_rises upper l [] h = refl
put_rises upper l (k ∷ links) h = choose (put_rises upper l links (rises_tail upper k links h)) (comes_before upper l.name k.name) refl
  where
    choose : rises upper (put_link upper l links) ≡ true → (b : Bool) → comes_before upper l.name k.name ≡ b → rises upper (if b then l ∷ k ∷ links else k ∷ put_link upper l links) ≡ true
    choose later true e = rises_two upper l k links (before_precedes upper l k e) h
    choose later false e = put_behind upper l k links (behind_precedes upper l k e) h later

-- ---- keys

name_goes : (upper name : List ℕ) (k : Key) → is_file_name k.value ≡ true → goes upper name k ≡ comes_before upper name (link_of k).name
name_goes upper name k e = ap (λ (b : Bool). b && comes_before upper name (units_of k.value)) e ∙ ap (comes_before upper name) (sym (link_name k))

pub links_next : (k : Key) (keys : List Key) → is_file_name k.value ≡ true → links_of (k ∷ keys) ≡ link_of k ∷ links_of keys
links_next k keys e = ap (λ (o : Option Link). cons_option o (links_of keys)) (key_link_is k e)

all_go : (upper name : List ℕ) (l : Link) (keys : List Key) → AreNames keys → rises upper (l ∷ links_of keys) ≡ true → comes_before upper name l.name ≡ true → GoesAll (goes upper name) keys
all_go upper name l [] names r lt = tt
all_go upper name l (k ∷ keys) names r lt =
    let s : rises upper (l ∷ link_of k ∷ links_of keys) ≡ true = sym (ap (λ (x : List Link). rises upper (l ∷ x)) (links_next k keys names.0)) ∙ r in
    let parts = and_parts (precedes upper l (link_of k)) (rises upper (link_of k ∷ links_of keys)) s in
    let here = before_along upper name l.name (link_of k).name lt (not-true (is_gt (name_order upper l.name (link_of k).name)) parts.0) in
    (name_goes upper name k names.0 ∙ here, all_go upper name (link_of k) keys names.1 parts.1 here)

-- the keys that a name comes before stand at the end
pub keys_rise : (upper name : List ℕ) (keys : List Key) → AreNames keys → rises upper (links_of keys) ≡ true → Rises (goes upper name) keys
keys_rise upper name [] names r = tt
keys_rise upper name (k ∷ keys) names r =
    let s : rises upper (link_of k ∷ links_of keys) ≡ true = sym (ap (rises upper) (links_next k keys names.0)) ∙ r in
    (λ g. all_go upper name (link_of k) keys names.1 s (sym (name_goes upper name k names.0) ∙ g), keys_rise upper name keys names.1 (rises_tail upper (link_of k) (links_of keys) s))

-- the links of keys that one is put into
pub put_links : (upper : List ℕ) (new : Key) (l : Link) (keys : List Key) → AreNames keys → key_link new ≡ Some l → links_of (put (goes upper l.name) new keys) ≡ put_link upper l (links_of keys)
put_links upper new l [] names is = ap (λ (o : Option Link). cons_option o []) is
put_links upper new l (k ∷ keys) names is =
    choose (put_links upper new l keys names.1 is) (comes_before upper l.name (link_of k).name) refl ∙ ap (put_link upper l) (sym (links_next k keys names.0))
  where
    choose : links_of (put (goes upper l.name) new keys) ≡ put_link upper l (links_of keys) → (b : Bool) → comes_before upper l.name (link_of k).name ≡ b → links_of (put (goes upper l.name) new (k ∷ keys)) ≡ put_link upper l (link_of k ∷ links_of keys)
    choose later true e =
        ap (λ (b : Bool). links_of (if b then new ∷ k ∷ keys else k ∷ put (goes upper l.name) new keys)) (name_goes upper l.name k names.0 ∙ e)
        ∙ ap (λ (o : Option Link). cons_option o (links_of (k ∷ keys))) is ∙ ap (λ (x : List Link). l ∷ x) (links_next k keys names.0)
        ∙ sym (ap (λ (b : Bool). if b then l ∷ link_of k ∷ links_of keys else link_of k ∷ put_link upper l (links_of keys)) e)
    choose later false e =
        ap (λ (b : Bool). links_of (if b then new ∷ k ∷ keys else k ∷ put (goes upper l.name) new keys)) (name_goes upper l.name k names.0 ∙ e)
        ∙ links_next k (put (goes upper l.name) new keys) names.0 ∙ ap (λ (x : List Link). link_of k ∷ x) later
        ∙ sym (ap (λ (b : Bool). if b then l ∷ link_of k ∷ links_of keys else link_of k ∷ put_link upper l (links_of keys)) e)
