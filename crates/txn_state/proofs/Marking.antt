-- The marks and bodies of a store once a block was changed, or written out.
use Rattle.std.proofs.Common.{◌≡◌, ℕ, ◌-◌, ◌<◌, Bool, true, false, cond, List, get_or, length, Option, Some, None, refl, sym, ap, ◌∙◌}
use Rattle.std.specs.Prelude.{◌||◌, ◌==◌, IsSome, unwrap_or, slice_index}
use Rattle.std.proofs.Math.Path.{fun_ext}
use Rattle.std.proofs.lemmas.Bool.{eqb-true}
use Rattle.std.proofs.lemmas.List.{get_or_default}
use Rattle.txn_log.specs.disk_model.declared.block.Block.{Block}
use Rattle.txn_log.specs.disk_model.declared.block.Body.{Body}
use Rattle.txn_log.specs.disk_model.Sectors.{same_block, are_rivals}
use Rattle.txn_log.proofs.disk_model.Frames.{same_block-is}
use Rattle.txn_log.specs.log_model.Logs.{is_in_grid}
use Rattle.txn_log.specs.log_area.Areas.{LogAreaOf, place_at}
use Rattle.txn_log.specs.block_pool.Pools.{held}
use Rattle.txn_log.specs.store_pools.Pools.{marks_of}
use Rattle.txn_log.specs.txn_model.declared.mark.Mark.{Mark}
use Rattle.txn_log.specs.txn_model.Values.{no_mark, StoreFacts, take_at}
use Rattle.txn_log.specs.txn_model.Calls.{changed_mark, rival_mark, changed_marks, is_noted, written_out_marks, sent_out_marks, durable_after, rivals_of}
use Rattle.txn_state.specs.States.{IsStore}
use Rattle.txn_state.specs.Turning.{turned_all}
use Rattle.txn_state.proofs.Bools.{true≢false, or_false, unless, no_rival_of_itself, same_no_rival}
use Rattle.txn_state.proofs.Turning.{rivals_turned, rivals_left, without_all}
use Rattle.txn_state.proofs.Facts.{out_marks, over_turned, both_gone}
use Rattle.txn_state.proofs.Stores.{dirty_grid, none_off}

-- ---- write-outs

abbrev pub freed : Mark → Mark
freed m = record m { dead = false; owed = false }

abbrev pub sent_of : Bool → Mark → Mark
sent_of noted m = record m { wet = true; due = m.due || noted }

abbrev pub written_of : Bool → Mark → Mark
written_of noted m = record m { dirty = false; wet = true; owed = false; due = m.due || noted }

some_dirty : (o : Option Mark) → (unwrap_or o no_mark).dirty ≡ true → IsSome o
some_dirty (Some m) e = refl
some_dirty None e = true≢false (sym e)

module _ (f : StoreFacts) (i : IsStore f) (b : Block) (dirty : (f.mark b).dirty ≡ true) where
  all_freed : (now : Block → Mark) → now ≡ turned_all freed (rivals_of b) f.mark → now ≡ (λ c. cond (are_rivals b c) (freed (f.mark c)) (f.mark c))
  all_freed now is = is ∙ rivals_turned freed b f.mark (λ m. refl) refl (dirty_grid f b i dirty) i.blocks.marked

  own_still : (now : Block → Mark) → now ≡ turned_all freed (rivals_of b) f.mark → now b ≡ f.mark b
  own_still now is = ap (λ (g : Block → Mark). g b) (all_freed now is) ∙ ap (λ (r : Bool). cond r (freed (f.mark b)) (f.mark b)) (no_rival_of_itself b)

  -- the block has a mark still
  pub still_marked : (es : List (Block × Mark)) → marks_of es ≡ turned_all freed (rivals_of b) f.mark → IsSome (held es b)
  still_marked es is = some_dirty (held es b) (ap (λ (m : Mark). m.dirty) (own_still (marks_of es) is) ∙ dirty)

  pub sent_marks : (mark : Mark) (turned now : Block → Mark) → turned ≡ turned_all freed (rivals_of b) f.mark → mark ≡ sent_of (is_noted f.mark b) (f.mark b) → now ≡ (λ c. cond (same_block c b) mark (turned c)) → now ≡ sent_out_marks b f.mark
  sent_marks mark turned now freed_is made is =
      over_turned (λ (c : Block) (m : Mark). cond (same_block c b) (sent_of (is_noted f.mark b) (f.mark c)) m) now turned (λ c. cond (are_rivals b c) (freed (f.mark c)) (f.mark c)) (out_marks (sent_of (is_noted f.mark b)) b mark f.mark turned now made is)
      (all_freed turned freed_is)

  pub written_marks : (mark : Mark) (turned now : Block → Mark) → turned ≡ turned_all freed (rivals_of b) f.mark → mark ≡ written_of (is_noted f.mark b) (f.mark b) → now ≡ (λ c. cond (same_block c b) mark (turned c))
      → now ≡ written_out_marks b f.mark
  written_marks mark turned now freed_is made is =
      over_turned (λ (c : Block) (m : Mark). cond (same_block c b) (written_of (is_noted f.mark b) (f.mark c)) m) now turned (λ c. cond (are_rivals b c) (freed (f.mark c)) (f.mark c))
      (out_marks (written_of (is_noted f.mark b)) b mark f.mark turned now made is) (all_freed turned freed_is)

  pub sent_bodies : (now : Block → Option Body) → now ≡ without_all (rivals_of b) f.body → now ≡ (λ c. cond (are_rivals b c) None (f.body c))
  sent_bodies now is = is ∙ rivals_left b f.body (dirty_grid f b i dirty) (none_off f i)

  pub written_bodies : (left now : Block → Option Body) → left ≡ without_all (rivals_of b) f.body → now ≡ take_at b left → now ≡ (λ c. cond (same_block c b || are_rivals b c) None (f.body c))
  written_bodies left now is taken = taken ∙ both_gone b f.body left (sent_bodies left is)

-- ---- changes

rival_twice : (until : ℕ) (m : Mark) → rival_mark until (rival_mark until m) ≡ rival_mark until m
rival_twice until m = ap (λ (t : Bool). record (rival_mark until m) { dead = t }) (or_false (m.dead || m.dirty))

own_then : (until : ℕ) (m : Mark) (t r : Bool) → (t ≡ true → r ≡ false) → cond r (rival_mark until (cond t (changed_mark until m) m)) (cond t (changed_mark until m) m) ≡ cond t (changed_mark until m) (cond r (rival_mark until m) m)
own_then until m true true apart = true≢false (apart refl)
own_then until m true false apart = refl
own_then until m false true apart = refl
own_then until m false false apart = refl

pub marks_changed : (mark kept own now : Block → Mark) (c : Block) (until next : ℕ) → is_in_grid c ≡ true → ((b : Block) → is_in_grid b ≡ false → mark b ≡ no_mark) → kept ≡ mark
    → own ≡ (λ b. cond (same_block b c) (changed_mark until (kept b)) (kept b)) → now ≡ turned_all (rival_mark until) (rivals_of c) own → until ≡ next → now ≡ changed_marks c next mark
marks_changed mark kept own now c until next grid clear same own_is now_is is =
    now_is ∙ ap (turned_all (rival_mark until) (rivals_of c)) own_mark ∙ rivals_turned (rival_mark until) c first (rival_twice until) refl grid off
    ∙ fun_ext (λ b. own_then until (mark b) (same_block b c) (are_rivals c b) (same_no_rival b c)) ∙ ap (λ (n : ℕ). changed_marks c n mark) is
  where
    first : Block → Mark
    first b = cond (same_block b c) (changed_mark until (mark b)) (mark b)

    own_mark : own ≡ first
    own_mark = own_is ∙ ap (λ (g : Block → Mark). (λ (b : Block). cond (same_block b c) (changed_mark until (g b)) (g b))) same

    apart : (b : Block) → is_in_grid b ≡ false → same_block b c ≡ false
    apart b e = unless (same_block b c) (λ own_block. sym grid ∙ ap is_in_grid (sym (same_block-is b c own_block)) ∙ e)

    off : (b : Block) → is_in_grid b ≡ false → first b ≡ no_mark
    off b e = ap (λ (t : Bool). cond t (changed_mark until (mark b)) (mark b)) (apart b e) ∙ clear b e

-- ---- commits that a sync makes durable

not_same : (a b : ℕ) → (a ≡ b → ⊥) → (a == b) ≡ false
not_same a b apart = by_test (a == b) (eqb-true a b)
  where
    by_test : (t : Bool) → (t ≡ true → a ≡ b) → t ≡ false
    by_test true same = absurd (apart (same refl))
    by_test false same = refl

pub last_told : (log : LogAreaOf) (ends : List ℕ) (durable synced done found slot d : ℕ) → synced ≡ log.synced → done ≡ log.done → (synced ≡ done → ⊥) → slot ≡ place_at log (done - 1) → slot < length ends → found ≡ get_or ends slot d
    → found ≡ durable_after log ends durable
last_told log ends durable synced done found slot d synced_is done_is apart slot_is inside found_is =
    found_is ∙ get_or_default ends slot d 0 inside ∙ ap (slice_index ends) (slot_is ∙ ap (λ (n : ℕ). place_at log (n - 1)) done_is)
    ∙ sym (ap (λ (t : Bool). cond t durable (slice_index ends (place_at log (log.done - 1)))) (not_same log.synced log.done (λ e. apart (synced_is ∙ e ∙ sym done_is))))
