-- What a store keeps of bodies and marks, call by call.
use Rattle.std.proofs.Common.{◌≡◌, ◌⊎◌, ℕ, Bool, true, false, not, cond, Option, Some, None, refl, sym, ap, ap₂, ◌∙◌, inl, inr}
use Rattle.std.specs.Prelude.{◌&&◌, ◌||◌, nat_le, is_some, IfSome}
use Rattle.std.specs.Option.{option_or}
use Rattle.std.proofs.lemmas.Bool.{cases_Bool}
use Rattle.txn_log.specs.disk_model.declared.block.Block.{Block}
use Rattle.txn_log.specs.disk_model.declared.block.Body.{Body}
use Rattle.txn_log.specs.disk_model.Sectors.{same_block, are_rivals}
use Rattle.txn_log.proofs.disk_model.Frames.{same_block-is}
use Rattle.txn_log.specs.log_model.Logs.{is_in_grid}
use Rattle.txn_log.specs.txn_model.declared.mark.Mark.{Mark}
use Rattle.txn_log.specs.txn_model.Values.{no_mark, take_at}
use Rattle.txn_log.specs.txn_model.Calls.{committed_marks, given_up_marks, noted_mark, is_buried, synced_mark, is_noted, written_out_marks, sent_out_marks}
use Rattle.txn_state.specs.States.{HasSize, KeepsBlocks}
use Rattle.txn_state.proofs.Bools.{true≢false, clash, and_left, and_true, and_false, unless, same_no_rival}

-- A block stays as it was, or its body leaves and nothing more is said of it.
pub record StaysAt (body now : Block → Option Body) (mark marks : Block → Mark) (b : Block) : Type 0 where
  pub there : is_some (now b) ≡ is_some (body b)
  pub dirty_is : (marks b).dirty ≡ (mark b).dirty
  pub dead_is : (marks b).dead ≡ (mark b).dead

pub record LeavesAt (now : Block → Option Body) (marks : Block → Mark) (before : Block → Option Body) (b : Block) : Type 0 where
  pub gone : is_some (now b) ≡ false
  pub clean : (marks b).dirty ≡ false
  pub alive : (marks b).dead ≡ false
  pub unchanged : is_some (before b) ≡ false

pub moved : (device : ℕ) (body now : Block → Option Body) (mark marks : Block → Mark) (before later : Block → Option Body) → KeepsBlocks device body mark before
    → ((b : Block) → StaysAt body now mark marks b ⊎ LeavesAt now marks later b) → ((b : Block) → is_in_grid b ≡ false → marks b ≡ no_mark)
    → ((b : Block) → is_some (later b) ≡ true → is_some (before b) ≡ true) → ((b : Block) → IfSome (now b) (HasSize b)) → ((b : Block) → IfSome (later b) (HasSize b))
    → KeepsBlocks device now marks later
moved device body now mark marks before later k at clear fewer size size_before = record {
  kept = λ b. elim (at b) [
    | inl s ↦ s.there ∙ k.kept b ∙ sym (ap₂ (λ (u : Bool) (v : Bool). u || v) s.dirty_is s.dead_is)
    | inr l ↦ l.gone ∙ sym (ap₂ (λ (u : Bool) (v : Bool). u || v) l.clean l.alive)
  ];
  apart = λ b e. elim (at b) [
    | inl s ↦ s.dirty_is ∙ k.apart b (sym s.dead_is ∙ e)
    | inr l ↦ l.clean
  ];
  lone = λ b c rivals e. cleared c (k.lone b c rivals (dirtied b e));
  changed = λ b e. elim (at b) [
    | inl s ↦ s.dirty_is ∙ k.changed b (fewer b e)
    | inr l ↦ clash (is_some (later b)) e l.unchanged
  ];
  marked = clear;
  inside = λ b e. elim (at b) [
    | inl s ↦ k.inside b (sym s.there ∙ e)
    | inr l ↦ clash (is_some (now b)) e l.gone
  ];
  sized = size;
  sized_before = size_before;
}
  where
    dirtied : (b : Block) → (marks b).dirty ≡ true → (mark b).dirty ≡ true
    dirtied b e = elim (at b) [
      | inl s ↦ sym s.dirty_is ∙ e
      | inr l ↦ clash (marks b).dirty e l.clean
    ]

    cleared : (b : Block) → (mark b).dirty ≡ false → (marks b).dirty ≡ false
    cleared b e = elim (at b) [
      | inl s ↦ s.dirty_is ∙ e
      | inr l ↦ l.clean
    ]

-- a store at its start
pub first_blocks : (device : ℕ) → KeepsBlocks device (λ b. None) (λ b. no_mark) (λ b. None)
first_blocks device = record {
  kept = λ b. refl;
  apart = λ b e. refl;
  lone = λ b c rivals e. refl;
  changed = λ b e. true≢false (sym e);
  marked = λ b e. refl;
  inside = λ b e. true≢false (sym e);
  sized = λ b. tt;
  sized_before = λ b. tt;
}

module _ (device : ℕ) (body : Block → Option Body) (mark : Block → Mark) (before : Block → Option Body) (k : KeepsBlocks device body mark before) where
  -- a block that isn't in the grid has no body, and the transaction didn't change it
  dirty_in_grid : (b : Block) → is_in_grid b ≡ false → (mark b).dirty ≡ false
  dirty_in_grid b off = ap (λ (m : Mark). m.dirty) (k.marked b off)

  pub unchanged_off : (b : Block) → (mark b).dirty ≡ false → is_some (before b) ≡ false
  unchanged_off b clean = unless (is_some (before b)) (λ e. sym (k.changed b e) ∙ clean)

  -- a dirty block isn't dead
  pub alive_at : (b : Block) → (mark b).dirty ≡ true → (mark b).dead ≡ false
  alive_at b e = unless (mark b).dead (λ dead. sym e ∙ k.apart b dead)

  -- ---- commits

  pub committed_blocks : (n : ℕ) → KeepsBlocks device body (committed_marks before n mark) (λ b. None)
  committed_blocks n =
      moved device body body mark (committed_marks before n mark) before (λ b. None) k
      (λ b. inl (record { there = refl; dirty_is = same_dirty (is_some (before b)) (mark b); dead_is = same_dead (is_some (before b)) (mark b) }))
      (λ b off. ap (λ (t : Bool). cond t (record (mark b) { commit = n }) (mark b)) (unchanged_off b (dirty_in_grid b off)) ∙ k.marked b off)
      (λ b e. true≢false (sym e)) k.sized (λ b. tt)
    where
      same_dirty : (t : Bool) (m : Mark) → (cond t (record m { commit = n }) m).dirty ≡ m.dirty
      same_dirty true m = refl
      same_dirty false m = refl

      same_dead : (t : Bool) (m : Mark) → (cond t (record m { commit = n }) m).dead ≡ m.dead
      same_dead true m = refl
      same_dead false m = refl

  -- ---- give-ups

  or_there : (o p : Option Body) → (is_some o ≡ true → is_some p ≡ true) → is_some (option_or o p) ≡ is_some p
  or_there (Some x) p some = sym (some refl)
  or_there None p some = refl

  or_sized : (b : Block) (o p : Option Body) → IfSome o (HasSize b) → IfSome p (HasSize b) → IfSome (option_or o p) (HasSize b)
  or_sized b (Some x) p here there = here
  or_sized b None p here there = there

  -- what the transaction changed has a body
  pub kept_changed : (b : Block) → is_some (before b) ≡ true → is_some (body b) ≡ true
  kept_changed b e = k.kept b ∙ ap (λ (u : Bool). u || (mark b).dead) (k.changed b e)

  abbrev back_mark : Bool → Mark → Mark
  back_mark t m = cond t (record m { dirty = true; dead = false; imaged = false }) m

  back_dirty : (t : Bool) (m : Mark) → (t ≡ true → m.dirty ≡ true) → (back_mark t m).dirty ≡ m.dirty
  back_dirty true m some = sym (some refl)
  back_dirty false m some = refl

  back_dead : (t : Bool) (m : Mark) → (t ≡ true → m.dead ≡ false) → (back_mark t m).dead ≡ m.dead
  back_dead true m some = sym (some refl)
  back_dead false m some = refl

  pub given_up_blocks : KeepsBlocks device (λ b. option_or (before b) (body b)) (given_up_marks before mark) (λ b. None)
  given_up_blocks =
      moved device body (λ b. option_or (before b) (body b)) mark (given_up_marks before mark) before (λ b. None) k
      (λ b. inl (record {
        there = or_there (before b) (body b) (kept_changed b);
        dirty_is = back_dirty (is_some (before b)) (mark b) (k.changed b);
        dead_is = back_dead (is_some (before b)) (mark b) (λ e. alive_at b (k.changed b e));
      }))
      (λ b off. ap (λ (t : Bool). back_mark t (mark b)) (unchanged_off b (dirty_in_grid b off)) ∙ k.marked b off)
      (λ b e. true≢false (sym e)) (λ b. or_sized b (before b) (body b) (k.sized_before b) (k.sized b)) (λ b. tt)

  -- ---- a checkpoint begins

  pub noted_blocks : KeepsBlocks device body (λ b. noted_mark (mark b)) before
  noted_blocks =
      moved device body body mark (λ b. noted_mark (mark b)) before before k (λ b. inl (record { there = refl; dirty_is = refl; dead_is = refl })) (λ b off. ap noted_mark (k.marked b off)) (λ b e. e) k.sized k.sized_before

  -- ---- syncs

  cond_none : (b : Block) (t : Bool) (o : Option Body) → IfSome o (HasSize b) → IfSome (cond t None o) (HasSize b)
  cond_none b true o is = tt
  cond_none b false o is = is

  pub synced_blocks : (n : ℕ) → KeepsBlocks device (λ b. cond (is_buried n (mark b)) None (body b)) (λ b. synced_mark n (mark b)) before
  synced_blocks n =
      moved device body (λ b. cond (is_buried n (mark b)) None (body b)) mark (λ b. synced_mark n (mark b)) before before k at (λ b off. ap (synced_mark n) (k.marked b off)) (λ b e. e)
      (λ b. cond_none b (is_buried n (mark b)) (body b) (k.sized b)) k.sized_before
    where
      at : (b : Block) → StaysAt body (λ c. cond (is_buried n (mark c)) None (body c)) mark (λ c. synced_mark n (mark c)) b ⊎ LeavesAt (λ c. cond (is_buried n (mark c)) None (body c)) (λ c. synced_mark n (mark c)) before b
      at b = elim (cases_Bool (is_buried n (mark b))) [
        | inl e ↦
            let clean = k.apart b (and_left (mark b).dead (nat_le (mark b).killed n) e) in
            inr (record {
              gone = ap (λ (t : Bool). is_some (cond t None (body b))) e;
              clean = clean;
              alive = ap (λ (t : Bool). (mark b).dead && not t) e ∙ and_false (mark b).dead;
              unchanged = unchanged_off b clean;
            })
        | inr e ↦
            inl (record {
              there = ap (λ (t : Bool). is_some (cond t None (body b))) e;
              dirty_is = refl;
              dead_is = ap (λ (t : Bool). (mark b).dead && not t) e ∙ and_true (mark b).dead;
            })
      ]

  -- ---- write-outs, of a dirty block that the transaction didn't change

  module _ (b : Block) (dirty : (mark b).dirty ≡ true) (free : is_some (before b) ≡ false) where
    grid_of : (c : Block) → is_in_grid c ≡ false → same_block c b ≡ false
    grid_of c off = unless (same_block c b) (λ e. sym dirty ∙ ap (λ (x : Block). (mark x).dirty) (sym (same_block-is c b e)) ∙ dirty_in_grid c off)

    -- a mark by its block: this one's, that of a rival, and another one's
    abbrev by_block : Mark → Mark → Mark → Bool → Bool → Mark
    by_block own rival other t r = cond t own (cond r rival other)

    abbrev written_at : Block → Mark
    written_at c = record (mark c) { dirty = false; wet = true; owed = false; due = (mark c).due || is_noted mark b }

    abbrev sent_at : Block → Mark
    sent_at c = record (mark c) { wet = true; due = (mark c).due || is_noted mark b }

    abbrev freed_at : Block → Mark
    freed_at c = record (mark c) { dead = false; owed = false }

    freed_off : (c : Block) → is_in_grid c ≡ false → freed_at c ≡ no_mark
    freed_off c off = ap (λ (m : Mark). record m { dead = false; owed = false }) (k.marked c off)

    off_is : (own : Mark) (c : Block) (r : Bool) → is_in_grid c ≡ false → by_block own (freed_at c) (mark c) (same_block c b) r ≡ no_mark
    off_is own c true off = ap (λ (t : Bool). by_block own (freed_at c) (mark c) t true) (grid_of c off) ∙ freed_off c off
    off_is own c false off = ap (λ (t : Bool). by_block own (freed_at c) (mark c) t false) (grid_of c off) ∙ k.marked c off

    own_alive : (c : Block) → same_block c b ≡ true → (mark c).dead ≡ false
    own_alive c e = ap (λ (x : Block). (mark x).dead) (same_block-is c b e) ∙ alive_at b dirty

    own_free : (c : Block) → same_block c b ≡ true → is_some (before c) ≡ false
    own_free c e = ap (λ (x : Block). is_some (before x)) (same_block-is c b e) ∙ free

    abbrev now_written : Block → Option Body
    now_written c = cond (same_block c b || are_rivals b c) None (body c)

    abbrev now_sent : Block → Option Body
    now_sent c = cond (are_rivals b c) None (body c)

    pub written_out_blocks : KeepsBlocks device (λ c. cond (same_block c b || are_rivals b c) None (body c)) (written_out_marks b mark) before
    written_out_blocks =
        moved device body now_written mark (written_out_marks b mark) before before k at (λ c off. off_is (written_at c) c (are_rivals b c) off) (λ c e. e) (λ c. cond_none c (same_block c b || are_rivals b c) (body c) (k.sized c)) k.sized_before
      where
        at : (c : Block) → StaysAt body now_written mark (written_out_marks b mark) c ⊎ LeavesAt now_written (written_out_marks b mark) before c
        at c = elim (cases_Bool (same_block c b)) [
          | inl e ↦ inr (record {
            gone = ap (λ (t : Bool). is_some (cond (t || are_rivals b c) None (body c))) e;
            clean = ap (λ (t : Bool). (by_block (written_at c) (freed_at c) (mark c) t (are_rivals b c)).dirty) e;
            alive = ap (λ (t : Bool). (by_block (written_at c) (freed_at c) (mark c) t (are_rivals b c)).dead) e ∙ own_alive c e;
            unchanged = own_free c e;
          })
          | inr e ↦ elim (cases_Bool (are_rivals b c)) [
            | inl r ↦ inr (record {
              gone = ap₂ (λ (t : Bool) (u : Bool). is_some (cond (t || u) None (body c))) e r;
              clean = ap₂ (λ (t : Bool) (u : Bool). (by_block (written_at c) (freed_at c) (mark c) t u).dirty) e r ∙ k.lone b c r dirty;
              alive = ap₂ (λ (t : Bool) (u : Bool). (by_block (written_at c) (freed_at c) (mark c) t u).dead) e r;
              unchanged = unchanged_off c (k.lone b c r dirty);
            })
            | inr r ↦ inl (record {
              there = ap₂ (λ (t : Bool) (u : Bool). is_some (cond (t || u) None (body c))) e r;
              dirty_is = ap₂ (λ (t : Bool) (u : Bool). (by_block (written_at c) (freed_at c) (mark c) t u).dirty) e r;
              dead_is = ap₂ (λ (t : Bool) (u : Bool). (by_block (written_at c) (freed_at c) (mark c) t u).dead) e r;
            })
          ]
        ]

    pub sent_out_blocks : KeepsBlocks device (λ c. cond (are_rivals b c) None (body c)) (sent_out_marks b mark) before
    sent_out_blocks =
        moved device body now_sent mark (sent_out_marks b mark) before before k at (λ c off. off_is (sent_at c) c (are_rivals b c) off) (λ c e. e) (λ c. cond_none c (are_rivals b c) (body c) (k.sized c)) k.sized_before
      where
        at : (c : Block) → StaysAt body now_sent mark (sent_out_marks b mark) c ⊎ LeavesAt now_sent (sent_out_marks b mark) before c
        at c = elim (cases_Bool (same_block c b)) [
          | inl e ↦ inl (record {
            there = ap (λ (u : Bool). is_some (cond u None (body c))) (same_no_rival c b e);
            dirty_is = ap (λ (t : Bool). (by_block (sent_at c) (freed_at c) (mark c) t (are_rivals b c)).dirty) e;
            dead_is = ap (λ (t : Bool). (by_block (sent_at c) (freed_at c) (mark c) t (are_rivals b c)).dead) e;
          })
          | inr e ↦ elim (cases_Bool (are_rivals b c)) [
            | inl r ↦ inr (record {
              gone = ap (λ (u : Bool). is_some (cond u None (body c))) r;
              clean = ap₂ (λ (t : Bool) (u : Bool). (by_block (sent_at c) (freed_at c) (mark c) t u).dirty) e r ∙ k.lone b c r dirty;
              alive = ap₂ (λ (t : Bool) (u : Bool). (by_block (sent_at c) (freed_at c) (mark c) t u).dead) e r;
              unchanged = unchanged_off c (k.lone b c r dirty);
            })
            | inr r ↦ inl (record {
              there = ap (λ (u : Bool). is_some (cond u None (body c))) r;
              dirty_is = ap₂ (λ (t : Bool) (u : Bool). (by_block (sent_at c) (freed_at c) (mark c) t u).dirty) e r;
              dead_is = ap₂ (λ (t : Bool) (u : Bool). (by_block (sent_at c) (freed_at c) (mark c) t u).dead) e r;
            })
          ]
        ]

    abbrev again_at : Block → Bool → Mark
    again_at c t = cond t (record (mark c) { dirty = false; wet = true; owed = false; due = (mark c).due || (mark c).owed }) (mark c)

    pub again_blocks : KeepsBlocks device (take_at b body) (λ c. again_at c (same_block c b)) before
    again_blocks =
        moved device body (take_at b body) mark (λ c. again_at c (same_block c b)) before before k at (λ c off. ap (again_at c) (grid_of c off) ∙ k.marked c off) (λ c e. e) (λ c. cond_none c (same_block c b) (body c) (k.sized c)) k.sized_before
      where
        at : (c : Block) → StaysAt body (take_at b body) mark (λ x. again_at x (same_block x b)) c ⊎ LeavesAt (take_at b body) (λ x. again_at x (same_block x b)) before c
        at c = elim (cases_Bool (same_block c b)) [
          | inl e ↦ inr (record {
            gone = ap (λ (t : Bool). is_some (cond t None (body c))) e;
            clean = ap (λ (t : Bool). (again_at c t).dirty) e;
            alive = ap (λ (t : Bool). (again_at c t).dead) e ∙ own_alive c e;
            unchanged = own_free c e;
          })
          | inr e ↦ inl (record {
            there = ap (λ (t : Bool). is_some (cond t None (body c))) e;
            dirty_is = ap (λ (t : Bool). (again_at c t).dirty) e;
            dead_is = ap (λ (t : Bool). (again_at c t).dead) e;
          })
        ]
