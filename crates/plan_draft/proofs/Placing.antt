-- Where a block stands among blocks in order.
use Rattle.std.proofs.Common.{◌≡◌, ℕ, zero, suc, ◌+◌, ◌*◌, ◌<◌, ◌≤◌, Bool, true, false, cond, leb, ltb, List, [], ◌∷◌, length, get_or, Option, Some, None, refl, sym, ap, ◌∙◌, inl, inr, arith}
use Rattle.std.proofs.lemmas.Bool.{cases_lt, cases_Bool, and_parts, leb-true, lt-ltb, le-ltb}
use Rattle.plan_bodies.specs.disk_model.declared.block.Block.{Block}
use Rattle.plan_bodies.specs.disk_model.Sectors.{same_block}
use Rattle.block_view.proofs.disk_model.Frames.{same_block-is}
use Rattle.plan_draft.specs.declared.touched.Touched.{Touched}
use Rattle.plan_draft.specs.Touching.{block_key, keys_of, rises, place_in, touched_at, StandsAt}

-- ---- places

pub place_within : (key : ℕ) (touched : List Touched) → place_in key (keys_of touched) ≤ length touched
unfolding place_in
place_within key [] = omega arith
place_within key (t ∷ touched) = elim (cases_lt (block_key t.block) key) [
  | inl lt ↦ rw (lt-ltb (block_key t.block) key lt) (let rest = place_within key touched in omega (arith, rest))
  | inr le ↦ rw (le-ltb (block_key t.block) key le) (omega arith)
]

-- the parts of a list that rises
pub rises_head : (least key : ℕ) (keys : List ℕ) → rises least (key ∷ keys) ≡ true → least ≤ key
unfolding rises
rises_head least key keys up = leb-true least key (and_parts (leb least key) (rises (suc key) keys) up).0

pub rises_tail : (least key : ℕ) (keys : List ℕ) → rises least (key ∷ keys) ≡ true → rises (suc key) keys ≡ true
unfolding rises
rises_tail least key keys up = (and_parts (leb least key) (rises (suc key) keys) up).1

pub key_from : (least : ℕ) (touched : List Touched) (i : ℕ) (t : Touched) → rises least (keys_of touched) ≡ true → i < length touched → t ≡ get_or touched i t → least ≤ block_key t.block
key_from least [] i t up lt is = absurd (omega arith)
key_from least (x ∷ touched) zero t up lt is = rw is (rises_head least (block_key x.block) (keys_of touched) up)
key_from least (x ∷ touched) (suc i) t up lt is =
    let head = rises_head least (block_key x.block) (keys_of touched) up in
    let rest = key_from (suc (block_key x.block)) touched i t (rises_tail least (block_key x.block) (keys_of touched) up) (omega arith) is in
    omega (arith, head, rest)

-- a block before another one stands at a place before its own
pub before_place : (least key : ℕ) (touched : List Touched) (i : ℕ) (t : Touched) → rises least (keys_of touched) ≡ true → i < length touched → t ≡ get_or touched i t → block_key t.block < key → i < place_in key (keys_of touched)
unfolding place_in
before_place least key [] i t up lt is less = absurd (omega arith)
before_place least key (x ∷ touched) zero t up lt is less =
    let less_x : block_key x.block < key = rw (ap (λ (y : Touched). block_key y.block) is) at less in
    rw (lt-ltb (block_key x.block) key less_x) (omega arith)
before_place least key (x ∷ touched) (suc i) t up lt is less =
    let tail = rises_tail least (block_key x.block) (keys_of touched) up in
    let above = key_from (suc (block_key x.block)) touched i t tail (omega arith) is in
    let rest = before_place (suc (block_key x.block)) key touched i t tail (omega arith) is less in
    rw (lt-ltb (block_key x.block) key (omega (arith, above, less))) (omega (arith, rest))

-- one that isn't before it stands at its place or behind
pub behind_place : (key : ℕ) (touched : List Touched) (i : ℕ) (t : Touched) → i < length touched → t ≡ get_or touched i t → key ≤ block_key t.block → place_in key (keys_of touched) ≤ i
unfolding place_in
behind_place key [] i t lt is more = absurd (omega arith)
behind_place key (x ∷ touched) zero t lt is more =
    let more_x : key ≤ block_key x.block = rw (ap (λ (y : Touched). block_key y.block) is) at more in
    rw (le-ltb (block_key x.block) key more_x) (omega arith)
behind_place key (x ∷ touched) (suc i) t lt is more = elim (cases_lt (block_key x.block) key) [
  | inl less ↦ rw (lt-ltb (block_key x.block) key less) (let rest = behind_place key touched i t (omega arith) is more in omega (arith, rest))
  | inr le ↦ rw (le-ltb (block_key x.block) key le) (omega arith)
]

-- ---- what is found

-- blocks with other keys are others
pub other_block : (b c : Block) → (block_key b ≡ block_key c → ⊥) → same_block b c ≡ false
other_block b c apart = elim (cases_Bool (same_block b c)) [
  | inl same ↦ absurd (apart (ap block_key (same_block-is b c same)))
  | inr other ↦ other
]

pub none_behind : (least : ℕ) (touched : List Touched) (b : Block) → rises least (keys_of touched) ≡ true → block_key b < least → touched_at touched b ≡ None
none_behind least [] b up lt = refl
none_behind least (x ∷ touched) b up lt =
    let head = rises_head least (block_key x.block) (keys_of touched) up in
    rw (other_block b x.block (λ e. absurd (omega (arith, head, lt, e))))
    (none_behind (suc (block_key x.block)) touched b (rises_tail least (block_key x.block) (keys_of touched) up) (omega (arith, head, lt)))

-- a block that stands at its place is found
pub found_at : (touched : List Touched) (b : Block) (d : Touched) → place_in (block_key b) (keys_of touched) < length touched → same_block b (get_or touched (place_in (block_key b) (keys_of touched)) d).block ≡ true
    → touched_at touched b ≡ Some (get_or touched (place_in (block_key b) (keys_of touched)) d)
unfolding place_in
found_at [] b d lt same = absurd (omega arith)
found_at (x ∷ touched) b d lt same = elim (cases_lt (block_key x.block) (block_key b)) [
  | inl less ↦
      (let e = lt-ltb (block_key x.block) (block_key b) less in
      let short : suc (place_in (block_key b) (keys_of touched)) < suc (length touched) = rw e at lt in
      let next : same_block b (get_or touched (place_in (block_key b) (keys_of touched)) d).block ≡ true = rw e at same in
      rw (e, other_block b x.block (λ k. absurd (omega (arith, less, k)))) (found_at touched b d (omega (arith, short)) next))
  | inr le ↦
      (let e = le-ltb (block_key x.block) (block_key b) le in
      let here : same_block b x.block ≡ true = rw e at same in
      rw (e, here) refl)
]

-- where another block stands there, or none, it is none of these
pub not_found : (least : ℕ) (touched : List Touched) (b : Block) (d : Touched) → rises least (keys_of touched) ≡ true → (place_in (block_key b) (keys_of touched) < length touched → same_block b (get_or touched (place_in (block_key b) (keys_of touched)) d).block ≡ false) → touched_at touched b ≡ None
unfolding place_in
not_found least [] b d up other = refl
not_found least (x ∷ touched) b d up other = elim (cases_lt (block_key x.block) (block_key b)) [
  | inl less ↦
      (let e = lt-ltb (block_key x.block) (block_key b) less in
      let next : suc (place_in (block_key b) (keys_of touched)) < suc (length touched) → same_block b (get_or touched (place_in (block_key b) (keys_of touched)) d).block ≡ false = rw e at other in
      rw (other_block b x.block (λ k. absurd (omega (arith, less, k)))) (not_found (suc (block_key x.block)) touched b d (rises_tail least (block_key x.block) (keys_of touched) up) (λ lt. next (omega (arith, lt)))))
  | inr le ↦
      (let e = le-ltb (block_key x.block) (block_key b) le in
      let here : 0 < suc (length touched) → same_block b x.block ≡ false = rw e at other in
      rw (here (omega arith)) (none_behind (suc (block_key x.block)) touched b (rises_tail least (block_key x.block) (keys_of touched) up) (omega (arith, le))))
]

-- where all stand before it, it is none of them
pub none_past : (touched : List Touched) (b : Block) → length touched ≤ place_in (block_key b) (keys_of touched) → touched_at touched b ≡ None
unfolding place_in
none_past [] b le = refl
none_past (x ∷ touched) b le = elim (cases_lt (block_key x.block) (block_key b)) [
  | inl less ↦
      (let next : suc (length touched) ≤ suc (place_in (block_key b) (keys_of touched)) = rw (lt-ltb (block_key x.block) (block_key b) less) at le in
      rw (other_block b x.block (λ k. absurd (omega (arith, less, k)))) (none_past touched b (omega (arith, next))))
  | inr ge ↦
      (let none : suc (length touched) ≤ 0 = rw (le-ltb (block_key x.block) (block_key b) ge) at le in
      absurd (omega (arith, none)))
]

pub found_stands : (touched : List Touched) (b : Block) (at : ℕ) (t : Touched) → StandsAt touched b at → t ≡ get_or touched at t → touched_at touched b ≡ Some t
found_stands touched b at t stands is =
    let place = stands.place in
    let here : t ≡ get_or touched (place_in (block_key b) (keys_of touched)) t = rw place at is in
    found_at touched b t (rw place at stands.within) (rw place at (stands.same t)) ∙ ap (λ (y : Touched). Some y) (sym here)
