-- Links without one of them.
use Rattle.std.proofs.Common.{◌≡◌, ℕ, suc, ◌<◌, Bool, true, false, not, ◌&&◌, ◌||◌, List, [], ◌∷◌, ◌++◌, length, Option, Some, refl, sym, ap, ◌∙◌, arith}
use Rattle.std.specs.List.{cons_option}
use Rattle.std.specs.Cmp.{upto}
use Rattle.std.specs.Ordering.{is_gt}
use Rattle.std.proofs.lemmas.Bool.{and_parts, not-true}
use Rattle.index_tree.specs.file_tree.declared.link.Link.{Link}
use Rattle.index_tree.specs.file_tree.Names.{name_order}
use Rattle.index_tree.proofs.file_tree.NameOrders.{name_order_total}
use Rattle.index_tree.specs.index_model.declared.key.Key.{Key}
use Rattle.index_tree.specs.index_model.Indexes.{key_link, links_of, precedes, rises}
use Rattle.index_tree.specs.state_model.Rules.{same_link}
use Rattle.index_change.specs.Orders.{link_of, has_link}
use Rattle.index_change.proofs.Lawful.{AreNames, key_link_is}
use Rattle.index_change.proofs.Lookups.{same_link_is}

not_false : (b : Bool) → b ≡ false → not b ≡ true
not_false true e = absurd cc
not_false false e = refl

precedes_along : (upper : List ℕ) (a b c : Link) → precedes upper a b ≡ true → precedes upper b c ≡ true → precedes upper a c ≡ true
precedes_along upper a b c f g =
    not_false (is_gt (name_order upper a.name c.name)) (upto (name_order_total upper) a.name b.name c.name (not-true (is_gt (name_order upper a.name b.name)) f) (not-true (is_gt (name_order upper b.name c.name)) g))

-- ---- the order without one

tail : (upper : List ℕ) (l : Link) (links : List Link) → rises upper (l ∷ links) ≡ true → rises upper links ≡ true
tail upper l [] h = refl
tail upper l (m ∷ links) h = (and_parts (precedes upper l m) (rises upper (m ∷ links)) h).1

pub rises_without : (upper : List ℕ) (before : List Link) (l : Link) (behind : List Link) → rises upper (before ++ l ∷ behind) ≡ true → rises upper (before ++ behind) ≡ true
rises_without upper [] l behind h = tail upper l behind h
rises_without upper (a ∷ []) l [] h = refl
rises_without upper (a ∷ []) l (c ∷ behind) h =
    let p = and_parts (precedes upper a l) (rises upper (l ∷ c ∷ behind)) h in
    let q = and_parts (precedes upper l c) (rises upper (c ∷ behind)) p.1 in
    ap (λ (b : Bool). b && rises upper (c ∷ behind)) (precedes_along upper a l c p.0 q.0) ∙ q.1
rises_without upper (a ∷ b ∷ before) l behind h =
    let p = and_parts (precedes upper a b) (rises upper (b ∷ (before ++ l ∷ behind))) h in
    ap (λ (x : Bool). x && rises upper (b ∷ (before ++ behind))) p.0 ∙ rises_without upper (b ∷ before) l behind p.1

-- ---- links of keys

links_here : (o : Option Link) (l : Link) (links : List Link) → o ≡ Some l → cons_option o links ≡ l ∷ links
links_here o l links e = ap (λ (x : Option Link). cons_option x links) e

pub links_around : (before : List Key) (k : Key) (behind : List Key) → AreNames (before ++ k ∷ behind) → links_of (before ++ k ∷ behind) ≡ links_of before ++ link_of k ∷ links_of behind
links_around [] k behind names = links_here (key_link k) (link_of k) (links_of behind) (key_link_is k names.0)
links_around (a ∷ before) k behind names =
    links_here (key_link a) (link_of a) (links_of (before ++ k ∷ behind)) (key_link_is a names.0)
    ∙ ap (λ (x : List Link). link_of a ∷ x) (links_around before k behind names.1)
    ∙ ap (λ (x : List Link). x ++ link_of k ∷ links_of behind) (sym (links_here (key_link a) (link_of a) (links_of before) (key_link_is a names.0)))

pub links_both : (before behind : List Key) (k : Key) → AreNames (before ++ k ∷ behind) → links_of (before ++ behind) ≡ links_of before ++ links_of behind
links_both [] behind k names = refl
links_both (a ∷ before) behind k names =
    links_here (key_link a) (link_of a) (links_of (before ++ behind)) (key_link_is a names.0)
    ∙ ap (λ (x : List Link). link_of a ∷ x) (links_both before behind k names.1)
    ∙ ap (λ (x : List Link). x ++ links_of behind) (sym (links_here (key_link a) (link_of a) (links_of before) (key_link_is a names.0)))

pub length_links : (keys : List Key) → AreNames keys → length (links_of keys) ≡ length keys
length_links [] names = refl
length_links (k ∷ keys) names = ap length (links_here (key_link k) (link_of k) (links_of keys) (key_link_is k names.0)) ∙ ap suc (length_links keys names.1)

-- ---- a list of one link, which is the one that is looked for

one_is : (l m : Link) (b : Bool) → same_link l m ≡ b → (b || false) ≡ true → m ≡ l
one_is l m true e h = same_link_is l m e
one_is l m false e h = absurd cc

pub only_link : (l : Link) (links : List Link) → length links < 2 → has_link l links ≡ true → links ≡ l ∷ []
only_link l [] few h = absurd cc
only_link l (m ∷ []) few h = ap (λ (x : Link). x ∷ []) (one_is l m (same_link l m) refl h)
only_link l (m ∷ n ∷ links) few h = absurd (omega arith)

-- the key of the only link
pub only_key : (l : Link) (keys : List Key) → AreNames keys → links_of keys ≡ l ∷ [] → (k : Key) × (keys ≡ k ∷ []) × (link_of k ≡ l)
only_key l [] names e = absurd cc
only_key l (k ∷ []) names e = (k, refl, let s : link_of k ∷ [] ≡ l ∷ [] = sym (links_here (key_link k) (link_of k) [] (key_link_is k names.0)) ∙ e in cc)
only_key l (k ∷ m ∷ keys) names e = absurd (omega (arith, length_links (k ∷ m ∷ keys) names, ap length e))
