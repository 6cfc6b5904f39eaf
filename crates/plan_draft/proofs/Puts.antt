-- What a body that is put leaves of the touched blocks.
use Rattle.std.proofs.Common.{◌≡◌, ℕ, zero, suc, ◌+◌, ◌*◌, ◌<◌, ◌≤◌, Bool, true, false, cond, leb, ltb, eqb, List, [], ◌∷◌, length, get_or, Option, Some, None, refl, sym, ap, ◌∙◌, inl, inr, arith}
use Rattle.std.specs.Prelude.{All, insert}
use lib.ListN.{set}
use Rattle.std.specs.List.{AllByRecursion}
use Rattle.std.proofs.lemmas.Bool.{cases_lt, cases_Bool, and_from, lt-ltb, le-ltb, le-leb, eq-eqb}
use Rattle.std.proofs.lemmas.List.Elements.{All-head, All-tail, All-cons}
use Rattle.plan_bodies.specs.disk_model.declared.block.Block.{Block}
use Rattle.plan_bodies.specs.disk_model.declared.block.BlockKind.{BlockKind}
use Rattle.plan_bodies.specs.disk_model.declared.block.BlockKind.TheVariants.{Plain, FileRec, Index}
use Rattle.plan_bodies.specs.disk_model.Bodies.{BodyOf}
use Rattle.plan_bodies.specs.disk_model.Content.{Content}
use Rattle.plan_bodies.specs.disk_model.Sectors.{sectors, same_block, same_kind}
use Rattle.block_view.proofs.disk_model.Frames.{same_block-is}
use Rattle.plan_bodies.specs.Bodies.{NewBody}
use Rattle.plan_draft.specs.declared.touched.Touched.{Touched}
use Rattle.plan_draft.specs.Touching.{kind_place, block_key, keys_of, rises, place_in, touched_at, touch, touch_again, first_touch, again_at, put_in_order, bodies_of, IsWhole, IsOldOf, StandsAt, WouldStandAt}
use Rattle.plan_draft.proofs.Placing.{rises_head, rises_tail, none_behind, other_block}

-- ---- the two ways to put

-- the block that stands at its place is touched again
pub put_again : (touched : List Touched) (b : Block) (fresh : Bool) (bytes : List ℕ) (old : BodyOf) (d : Touched) → place_in (block_key b) (keys_of touched) < length touched → same_block b (get_or touched (place_in (block_key b) (keys_of touched)) d).block ≡ true
    → again_at (place_in (block_key b) (keys_of touched)) fresh bytes touched ≡ touch b fresh bytes old touched
unfolding place_in
put_again [] b fresh bytes old d lt same = absurd (omega arith)
put_again (x ∷ touched) b fresh bytes old d lt same = elim (cases_lt (block_key x.block) (block_key b)) [
  | inl less ↦
      (let e = lt-ltb (block_key x.block) (block_key b) less in
      let short : suc (place_in (block_key b) (keys_of touched)) < suc (length touched) = rw e at lt in
      let next : same_block b (get_or touched (place_in (block_key b) (keys_of touched)) d).block ≡ true = rw e at same in
      rw e (ap (λ (l : List Touched). x ∷ l) (put_again touched b fresh bytes old d (omega (arith, short)) next)))
  | inr le ↦
      (let e = le-ltb (block_key x.block) (block_key b) le in
      let here : same_block b x.block ≡ true = rw e at same in
      rw (e, here) refl)
]

-- one that stands nowhere is put at its place
pub put_new : (touched : List Touched) (b : Block) (fresh : Bool) (bytes : List ℕ) (old : BodyOf) → touched_at touched b ≡ None → insert touched (place_in (block_key b) (keys_of touched)) (first_touch b fresh bytes old) ≡ touch b fresh bytes old touched
unfolding place_in
put_new [] b fresh bytes old none = refl
put_new (x ∷ touched) b fresh bytes old none = elim (cases_Bool (same_block b x.block)) [
  | inl same ↦ (let some : Some x ≡ None = rw same at none in absurd cc)
  | inr other ↦
      (let rest : touched_at touched b ≡ None = rw other at none in
      elim (cases_lt (block_key x.block) (block_key b)) [
        | inl less ↦ rw (lt-ltb (block_key x.block) (block_key b) less) (ap (λ (l : List Touched). x ∷ l) (put_new touched b fresh bytes old rest))
        | inr le ↦ rw (le-ltb (block_key x.block) (block_key b) le, other) refl
      ])
]

-- ---- what stays

-- the bodies
pub bodies_touch : (touched : List Touched) (b : Block) (fresh : Bool) (bytes : List ℕ) (old : BodyOf) → bodies_of (touch b fresh bytes old touched) ≡ put_in_order (record { block = b; bytes = bytes }) (bodies_of touched)
bodies_touch [] b fresh bytes old = refl
bodies_touch (x ∷ touched) b fresh bytes old = elim (cases_lt (block_key x.block) (block_key b)) [
  | inl less ↦ rw (lt-ltb (block_key x.block) (block_key b) less) (ap (λ (l : List NewBody). record { block = x.block; bytes = x.new } ∷ l) (bodies_touch touched b fresh bytes old))
  | inr le ↦ rw (le-ltb (block_key x.block) (block_key b) le) (elim (cases_Bool (same_block b x.block)) [
    | inl same ↦ rw same (ap (λ (y : Block). record { block = y; bytes = bytes } ∷ bodies_of touched) (sym (same_block-is b x.block same)))
    | inr other ↦ rw other refl
  ])
]

-- blocks with one key are one
key_kinds : (f g : ℕ) (k l : BlockKind) → 3 * f + kind_place k ≡ 3 * g + kind_place l → (f ≡ g) × (same_kind k l ≡ true)
key_kinds f g Plain Plain e = (omega (arith, e), refl)
key_kinds f g FileRec FileRec e = (omega (arith, e), refl)
key_kinds f g Index Index e = (omega (arith, e), refl)
key_kinds f g Plain FileRec e = absurd (omega (arith, e))
key_kinds f g Plain Index e = absurd (omega (arith, e))
key_kinds f g FileRec Plain e = absurd (omega (arith, e))
key_kinds f g FileRec Index e = absurd (omega (arith, e))
key_kinds f g Index Plain e = absurd (omega (arith, e))
key_kinds f g Index FileRec e = absurd (omega (arith, e))

same_key : (b c : Block) → block_key b ≡ block_key c → same_block b c ≡ true
same_key b c e = let parts = key_kinds b.first c.first b.kind c.kind e in and_from (eqb b.first c.first) (same_kind b.kind c.kind) (eq-eqb b.first c.first parts.0) parts.1

other_key : (b c : Block) → same_block b c ≡ false → block_key b ≤ block_key c → block_key b < block_key c
other_key b c other le = elim (cases_lt (block_key b) (block_key c)) [
  | inl lt ↦ lt
  | inr ge ↦ (let same : same_block b c ≡ true = same_key b c (omega (arith, le, ge)) in absurd (false_true (sym other ∙ same)))
]
  where
    false_true : false ≡ true → ⊥
    false_true e = cc

-- their order
pub rises_touch : (least : ℕ) (touched : List Touched) (b : Block) (fresh : Bool) (bytes : List ℕ) (old : BodyOf) → rises least (keys_of touched) ≡ true → least ≤ block_key b → rises least (keys_of (touch b fresh bytes old touched)) ≡ true
unfolding rises
rises_touch least [] b fresh bytes old up le = and_from (leb least (block_key b)) true (le-leb least (block_key b) le) refl
rises_touch least (x ∷ touched) b fresh bytes old up le =
    let head = rises_head least (block_key x.block) (keys_of touched) up in
    let tail = rises_tail least (block_key x.block) (keys_of touched) up in
    elim (cases_lt (block_key x.block) (block_key b)) [
      | inl less ↦ rw (lt-ltb (block_key x.block) (block_key b) less) (and_from (leb least (block_key x.block)) _ (le-leb least (block_key x.block) head) (rises_touch (suc (block_key x.block)) touched b fresh bytes old tail (omega (arith, less))))
      | inr ge ↦ rw (le-ltb (block_key x.block) (block_key b) ge) (elim (cases_Bool (same_block b x.block)) [
        | inl same ↦ rw same up
        | inr other ↦ rw other (and_from (leb least (block_key b)) _ (le-leb least (block_key b) le) (and_from (leb (suc (block_key b)) (block_key x.block)) (rises (suc (block_key x.block)) (keys_of touched)) (le-leb (suc (block_key b)) (block_key x.block) (let apart = other_key b x.block other ge in omega (arith, apart))) tail))
      ])
    ]

-- what holds of each
all_touch : (P : Touched → Type 0) (touched : List Touched) (b : Block) (fresh : Bool) (bytes : List ℕ) (old : BodyOf) → All P touched → P (first_touch b fresh bytes old) → ((t : Touched) → same_block b t.block ≡ true → P t → P (touch_again t fresh bytes)) → All P (touch b fresh bytes old touched)
all_touch P [] b fresh bytes old all first again = All-cons P (first_touch b fresh bytes old) [] first all
all_touch P (x ∷ touched) b fresh bytes old all first again = elim (cases_lt (block_key x.block) (block_key b)) [
  | inl less ↦ rw (lt-ltb (block_key x.block) (block_key b) less) (All-cons P x _ (All-head P x touched all) (all_touch P touched b fresh bytes old (All-tail P x touched all) first again))
  | inr ge ↦ rw (le-ltb (block_key x.block) (block_key b) ge) (elim (cases_Bool (same_block b x.block)) [
    | inl same ↦ rw same (All-cons P (touch_again x fresh bytes) touched (again x same (All-head P x touched all)) (All-tail P x touched all))
    | inr other ↦ rw other (All-cons P (first_touch b fresh bytes old) (x ∷ touched) first all)
  ])
]

-- their sizes
pub whole_touch : (touched : List Touched) (b : Block) (fresh : Bool) (bytes : List ℕ) (old : BodyOf) → All IsWhole touched → length bytes ≡ 512 * sectors b.kind → length old.bytes ≡ 512 * sectors b.kind → All IsWhole (touch b fresh bytes old touched)
whole_touch touched b fresh bytes old all new_size old_size = all_touch IsWhole touched b fresh bytes old all (record { old = old_size; new = new_size }) (λ t same whole. record {
  old = whole.old;
  new = new_size ∙ ap (λ (y : Block). 512 * sectors y.kind) (same_block-is b t.block same);
})

-- their old bodies
pub olds_touch : (c : Content) (touched : List Touched) (b : Block) (fresh : Bool) (bytes : List ℕ) (old : BodyOf) → All (IsOldOf c) touched → c b ≡ old → All (IsOldOf c) (touch b fresh bytes old touched)
olds_touch c touched b fresh bytes old all is = all_touch (IsOldOf c) touched b fresh bytes old all is (λ t same kept. kept)

-- ---- a block that is touched again, at a place

-- what stands at a place
all_again : (P : Touched → Type 0) (at : ℕ) (fresh : Bool) (bytes : List ℕ) (touched : List Touched) → All P touched → ((d : Touched) → at < length touched → P (get_or touched at d) → P (touch_again (get_or touched at d) fresh bytes)) → All P (again_at at fresh bytes touched)
all_again P at fresh bytes [] all again = all
all_again P zero fresh bytes (t ∷ touched) all again = All-cons P (touch_again t fresh bytes) touched (again t (omega arith) (All-head P t touched all)) (All-tail P t touched all)
all_again P (suc at) fresh bytes (t ∷ touched) all again = All-cons P t _ (All-head P t touched all) (all_again P at fresh bytes touched (All-tail P t touched all) (λ d lt. again d (omega (arith, lt))))

pub whole_again : (touched : List Touched) (b : Block) (at : ℕ) (fresh : Bool) (bytes : List ℕ) → StandsAt touched b at → All IsWhole touched → length bytes ≡ 512 * sectors b.kind → All IsWhole (again_at at fresh bytes touched)
whole_again touched b at fresh bytes stands all size = all_again IsWhole at fresh bytes touched all (λ d lt whole. record {
  old = whole.old;
  new = size ∙ ap (λ (y : Block). 512 * sectors y.kind) (same_block-is b (get_or touched at d).block (stands.same d));
})

pub olds_again : (c : Content) (touched : List Touched) (at : ℕ) (fresh : Bool) (bytes : List ℕ) → All (IsOldOf c) touched → All (IsOldOf c) (again_at at fresh bytes touched)
olds_again c touched at fresh bytes all = all_again (IsOldOf c) at fresh bytes touched all (λ d lt kept. kept)

pub keys_again : (touched : List Touched) (at : ℕ) (fresh : Bool) (bytes : List ℕ) → keys_of (again_at at fresh bytes touched) ≡ keys_of touched
keys_again [] at fresh bytes = refl
keys_again (t ∷ touched) zero fresh bytes = refl
keys_again (t ∷ touched) (suc at) fresh bytes = ap (λ (l : List ℕ). block_key t.block ∷ l) (keys_again touched at fresh bytes)

pub again_is_touch : (touched : List Touched) (b : Block) (at : ℕ) (fresh : Bool) (bytes : List ℕ) (old : BodyOf) → StandsAt touched b at → again_at at fresh bytes touched ≡ touch b fresh bytes old touched
again_is_touch [] b at fresh bytes old stands = absurd (omega (arith, stands.within))
again_is_touch (t ∷ touched) b at fresh bytes old stands =
    let place = stands.place in
    ap (λ (k : ℕ). again_at k fresh bytes (t ∷ touched)) place
    ∙ put_again (t ∷ touched) b fresh bytes old t (rw place at stands.within) (rw place at (stands.same t))

pub insert_is_touch : (touched : List Touched) (b : Block) (at : ℕ) (fresh : Bool) (bytes : List ℕ) (old : BodyOf) → WouldStandAt touched b at → insert touched at (first_touch b fresh bytes old) ≡ touch b fresh bytes old touched
insert_is_touch touched b at fresh bytes old would = ap (λ (k : ℕ). insert touched k (first_touch b fresh bytes old)) would.place ∙ put_new touched b fresh bytes old would.none

-- an item of a list that is set
pub again_set : (touched : List Touched) (at : ℕ) (fresh : Bool) (bytes : List ℕ) (t s : Touched) → at < length touched → t ≡ get_or touched at t → s ≡ touch_again t fresh bytes → set touched at s ≡ again_at at fresh bytes touched
again_set [] at fresh bytes t s lt is new = absurd (omega arith)
again_set (x ∷ touched) zero fresh bytes t s lt is new = ap (λ (y : Touched). y ∷ touched) (new ∙ ap (λ (y : Touched). touch_again y fresh bytes) is)
again_set (x ∷ touched) (suc at) fresh bytes t s lt is new = ap (λ (l : List Touched). x ∷ l) (again_set touched at fresh bytes t s (omega (arith, lt)) is new)
