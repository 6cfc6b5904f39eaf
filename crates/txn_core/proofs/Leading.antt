-- What the steps of a store lead to, one after the other.
use Rattle.std.proofs.Common.{◌≡◌, subst, ℕ, ◌+◌, ◌-◌, ◌<◌, ◌≤◌, Bool, true, false, not, cond, List, [], ◌∷◌, length, Option, Some, None, Ok, refl, sym, ap, ap₂, ◌∙◌, arith}
use Rattle.std.specs.Prelude.{◌&&◌, ◌||◌, nat_lt, count_by, is_some, unwrap_or, IfSome}
use Rattle.std.specs.List.{list_any}
use Rattle.std.proofs.lemmas.Bool.{le-ltb}
use Rattle.std.proofs.lemmas.List.Sums.{sum_by-cons}
use Rattle.device_blocks.specs.disk_model.declared.block.Block.{Block}
use Rattle.device_blocks.specs.disk_model.Sectors.{same_block, are_rivals}
use Rattle.device_blocks.proofs.disk_model.Frames.{same_block-is}
use Rattle.device_blocks.specs.log_area.Areas.{LogAreaOf, is_filling, used_pages, ring_size, sealed_area}
use Rattle.txn_laws.specs.block_pool.Pools.{held}
use Rattle.txn_state.specs.store_pools.Pools.{marks_of}
use Rattle.txn_laws.proofs.store_model.Told.{true≢false}
use Rattle.txn_laws.specs.flush_policy.declared.facts.Facts.{Facts}
use Rattle.txn_laws.specs.flush_policy.declared.facts.StoreStep.{StoreStep}
use Rattle.txn_laws.specs.flush_policy.declared.facts.StoreStep.TheVariants.{SealPage, WritePage, SyncDevice, WriteOut, BeginCheckpoint, WriteRestart}
use Rattle.txn_laws.specs.flush_policy.Choice.{next_step}
use Rattle.txn_laws.specs.flush_policy.Steps.{MayTake, Becomes}
use Rattle.txn_laws.proofs.flush_policy.Steps.{may_be_taken, rests_only_when_done, leaves_less}
use Rattle.txn_state.proofs.txn_log.Sharing.{same_self}
use Rattle.txn_laws.specs.txn_model.declared.mark.Mark.{Mark}
use Rattle.txn_laws.specs.txn_model.Values.{no_mark, StoreFacts}
use Rattle.txn_laws.specs.txn_model.Calls.{sealed_facts, noted_facts, written_facts, synced_facts, named_facts, is_ready, written_out_facts, again_facts, is_noted}
use Rattle.txn_laws.specs.txn_model.Told.{FactsTold, IsAllSynced, AreDirty, KeepsSteps, MayTakeStep}
use Rattle.txn_state.specs.States.{StateOf, facts_of}
use Rattle.txn_laws.proofs.Choosing.{next_may_be_taken}
use Rattle.txn_laws.proofs.Counting.{take_out, out_length, out_count, fewer, told_can_be}
use Rattle.txn_core.specs.Calls.{is_spelled, out_facts}
use Rattle.device_blocks.specs.declared.word.CheckWord.{CheckWord}
use Rattle.txn_core.specs.Kept.{IsKept}
use Rattle.txn_core.specs.Steps.{MayTurn, HasTurned}
use Rattle.txn_core.specs.Turns.{HasNext}
use Rattle.txn_core.specs.Leading.{passing, dirty_blocks, StepsLeadOn}
use Rattle.txn_core.proofs.Kepts.{keeps_marked}
use Rattle.txn_core.proofs.Outs.{ready_dirty}

-- ---- the next step may be taken

next_may_turn : (f : StoreFacts) (told : Facts) (step : StoreStep) → KeepsSteps f → FactsTold f told → f.is_open ≡ false → HasNext f.log → next_step told ≡ Some step → MayTurn f step
next_may_turn f told step keeps says closed place e = by step (next_may_be_taken f told step keeps says closed e)
  where
    by : (s : StoreStep) → MayTakeStep f s → MayTurn f s
    by SealPage is = is
    by WritePage is = is
    by SyncDevice is = tt
    by (WriteOut b) is = is.0
    by BeginCheckpoint is = (closed, is.1)
    by WriteRestart is = (is, place)

-- ---- dirty blocks

equal_length : (xs ys : List Block) → ((b : Block) → count_by (same_block b) xs ≡ count_by (same_block b) ys) → length xs ≡ length ys
equal_length xs ys same =
    let one = fewer xs ys (λ b. let e = same b in omega (arith, e)) in
    let two = fewer ys xs (λ b. let e = same b in omega (arith, e)) in
    omega (arith, one, two)

same_dirty : (f g : StoreFacts) (dirty left : List Block) → ((b : Block) → (g.mark b).dirty ≡ (f.mark b).dirty) → AreDirty f dirty → AreDirty g left → length left ≡ length dirty
same_dirty f g dirty left same are now = equal_length left dirty (λ b. now b ∙ ap (λ (t : Bool). cond {A = ℕ} t 1 0) (same b) ∙ sym (are b))

-- one block isn't dirty any more
one_fewer : (f g : StoreFacts) (b : Block) (dirty left : List Block) → (f.mark b).dirty ≡ true → ((c : Block) → same_block c b ≡ true → (g.mark c).dirty ≡ false) → ((c : Block) → same_block c b ≡ false → (g.mark c).dirty ≡ (f.mark c).dirty)
    → AreDirty f dirty → AreDirty g left → length left ≡ length dirty - 1
one_fewer f g b dirty left was gone others are now =
    let some : 0 < count_by (same_block b) dirty = (let one : ◌≡◌ {A = ℕ} (cond (f.mark b).dirty 1 0) 1 = ap (λ (t : Bool). cond {A = ℕ} t 1 0) was in omega (arith, one, are b)) in
    let same = equal_length left (take_out b dirty) (λ c. each some c (same_block c b) refl) in
    omega (arith, same, out_length b dirty some)
  where
    each : 0 < count_by (same_block b) dirty → (c : Block) (t : Bool) → same_block c b ≡ t → count_by (same_block c) left ≡ count_by (same_block c) (take_out b dirty)
    each some c true e =
        let none : ◌≡◌ {A = ℕ} (cond (g.mark c).dirty 1 0) 0 = ap (λ (t : Bool). cond {A = ℕ} t 1 0) (gone c e) in
        let one : ◌≡◌ {A = ℕ} (cond (f.mark c).dirty 1 0) 1 = ap (λ (x : Block). cond {A = ℕ} (f.mark x).dirty 1 0) (same_block-is c b e) ∙ ap (λ (t : Bool). cond {A = ℕ} t 1 0) was in
        let here : ◌≡◌ {A = ℕ} (cond (same_block c b) 1 0) 1 = ap (λ (t : Bool). cond {A = ℕ} t 1 0) e in
        omega (arith, none, one, here, now c, are c, out_count b c dirty some)
    each some c false e =
        let same : ◌≡◌ {A = ℕ} (cond (g.mark c).dirty 1 0) (cond (f.mark c).dirty 1 0) = ap (λ (t : Bool). cond {A = ℕ} t 1 0) (others c e) in
        let here : ◌≡◌ {A = ℕ} (cond (same_block c b) 1 0) 0 = ap (λ (t : Bool). cond {A = ℕ} t 1 0) e in
        omega (arith, same, here, now c, are c, out_count b c dirty some)

-- ---- what isn't synced

same_unsynced : (f g : StoreFacts) (told later : Facts) → FactsTold f told → FactsTold g later → (IsAllSynced f → IsAllSynced g) → (IsAllSynced g → IsAllSynced f) → later.unsynced ≡ told.unsynced
same_unsynced f g told later says now there back = by told.unsynced later.unsynced refl refl
  where
    by : (u v : Bool) → told.unsynced ≡ u → later.unsynced ≡ v → v ≡ u
    by false v e h = sym h ∙ now.unsynced (there (says.synced e))
    by true false e h = sym (says.unsynced (back (now.synced h))) ∙ e
    by true true e h = refl

not_synced : (g : StoreFacts) (later : Facts) → FactsTold g later → (IsAllSynced g → ⊥) → later.unsynced ≡ true
not_synced g later now never = by later.unsynced refl
  where
    by : (v : Bool) → later.unsynced ≡ v → v ≡ true
    by true h = refl
    by false h = absurd (never (now.synced h))

-- ---- pages that are sealed

record Seals (a b : LogAreaOf) : Type 0 where
  empty : is_filling b ≡ false
  more : b.sealed - b.done ≡ cond (is_filling a) (a.sealed - a.done + 1) (a.sealed - a.done)
  used_same : used_pages b ≡ used_pages a
  last : b.oldest + used_pages b ≡ b.sealed
  upto : b.oldest + used_pages b ≡ a.oldest + used_pages a
  pages_same : b.pages ≡ a.pages
  oldest_same : b.oldest ≡ a.oldest
  done_same : b.done ≡ a.done
  synced_same : b.synced ≡ a.synced
  named_same : b.named ≡ a.named

seals_by : (a : LogAreaOf) (t : Bool) → is_filling a ≡ t → a.oldest ≤ a.sealed → a.done ≤ a.sealed → Seals a (cond t (record a { free = 64; sealed = a.sealed + 1 }) a)
seals_by a true is low done = record {
  empty = refl;
  more = subst (λ (v : Bool). a.sealed + 1 - a.done ≡ cond v (a.sealed - a.done + 1) (a.sealed - a.done)) (sym is) (omega (arith, done));
  used_same = subst (λ (v : Bool). a.sealed + 1 - a.oldest + 0 ≡ a.sealed - a.oldest + cond v 1 0) (sym is) (omega (arith, low));
  last = omega (arith, low);
  upto = subst (λ (v : Bool). a.oldest + (a.sealed + 1 - a.oldest + 0) ≡ a.oldest + (a.sealed - a.oldest + cond v 1 0)) (sym is) (omega (arith, low));
  pages_same = refl;
  oldest_same = refl;
  done_same = refl;
  synced_same = refl;
  named_same = refl;
}
seals_by a false is low done = record {
  empty = is;
  more = subst (λ (v : Bool). a.sealed - a.done ≡ cond v (a.sealed - a.done + 1) (a.sealed - a.done)) (sym is) refl;
  used_same = refl;
  last = subst (λ (v : Bool). a.oldest + (a.sealed - a.oldest + cond v 1 0) ≡ a.sealed) (sym is) (omega (arith, low));
  upto = refl;
  pages_same = refl;
  oldest_same = refl;
  done_same = refl;
  synced_same = refl;
  named_same = refl;
}

module _ (f : StoreFacts) (kept : IsKept f) (told later : Facts) (dirty left : List Block) (says : FactsTold f told) (are : AreDirty f dirty) where
  low : f.log.oldest ≤ f.log.sealed
  low = let o = kept.order in omega (arith, o.freed_pages, o.synced_pages, o.done_pages)

  s : Seals f.log (sealed_area f.log)
  s = seals_by f.log (is_filling f.log) refl low kept.order.done_pages

  there : IsAllSynced f → (done : ℕ) (synced : ℕ) (named : Option ℕ) → done ≡ f.log.done → synced ≡ f.log.synced → named ≡ f.log.named → (done ≡ synced) × (named ≡ None)
  there all done synced named d y n = (d ∙ all.pages ∙ sym y, n ∙ all.unnamed)

  seal : is_filling f.log ≡ true → FactsTold (sealed_facts f) later → AreDirty (sealed_facts f) left → Becomes SealPage (length dirty) told (length left) later
  seal fills now are_now = record {
    filling = now.filling ∙ s.empty;
    sealed = now.sealed ∙ s.more ∙ ap (λ (t : Bool). cond t (f.log.sealed - f.log.done + 1) (f.log.sealed - f.log.done)) fills ∙ ap (λ (n : ℕ). n + 1) (sym says.sealed);
    unsynced = same_unsynced f (sealed_facts f) told later says now
        (λ all. record { pages = s.done_same ∙ all.pages ∙ sym s.synced_same; unnamed = s.named_same ∙ all.unnamed; dry = all.dry }) (λ all. record { pages = sym s.done_same ∙ all.pages ∙ s.synced_same; unnamed = sym s.named_same ∙ all.unnamed; dry = all.dry });
    begun = now.begun ∙ ap (λ (o : Option ℕ). is_some f.noted && not (is_some o)) s.named_same ∙ sym says.begun;
    fresh = now.fresh ∙ ap₂ (λ (o : ℕ) (n : ℕ). nat_lt (unwrap_or f.noted o) n) s.oldest_same s.upto ∙ sym says.fresh;
    counts = same_dirty f (sealed_facts f) dirty left (λ b. refl) are are_now;
    pages = now.pages ∙ ap (λ (n : ℕ). n - 4) s.pages_same ∙ sym says.pages;
    used = omega (arith, now.used, s.used_same, says.used);
    freed = λ apart. now.used ∙ s.used_same ∙ sym says.used;
  }

  begin : f.log.named ≡ None → FactsTold (noted_facts f) later → AreDirty (noted_facts f) left → Becomes BeginCheckpoint (length dirty) told (length left) later
  begin unnamed now are_now = record {
    filling = now.filling ∙ s.empty;
    sealed = now.sealed ∙ s.more ∙ ap₂ (λ (t : Bool) (n : ℕ). cond t (n + 1) n) (sym says.filling) (sym says.sealed);
    unsynced = same_unsynced f (noted_facts f) told later says now
        (λ all. record { pages = s.done_same ∙ all.pages ∙ sym s.synced_same; unnamed = s.named_same ∙ all.unnamed; dry = all.dry }) (λ all. record { pages = sym s.done_same ∙ all.pages ∙ s.synced_same; unnamed = sym s.named_same ∙ all.unnamed; dry = all.dry });
    begun = now.begun ∙ ap (λ (o : Option ℕ). true && not (is_some o)) (s.named_same ∙ unnamed);
    fresh = now.fresh ∙ ap (λ (n : ℕ). nat_lt (sealed_area f.log).sealed n) s.last ∙ le-ltb (sealed_area f.log).sealed (sealed_area f.log).sealed (omega arith);
    counts = same_dirty f (noted_facts f) dirty left (λ b. refl) are are_now;
    pages = now.pages ∙ ap (λ (n : ℕ). n - 4) s.pages_same ∙ sym says.pages;
    used = omega (arith, now.used, s.used_same, says.used);
    freed = λ apart. now.used ∙ s.used_same ∙ sym says.used;
  }

  write : FactsTold (written_facts f) later → AreDirty (written_facts f) left → Becomes WritePage (length dirty) told (length left) later
  write now are_now = record {
    filling = now.filling ∙ sym says.filling;
    sealed = omega (arith, now.sealed, says.sealed);
    unsynced = not_synced (written_facts f) later now (λ all. let same = all.pages in omega (arith, same, kept.order.synced_pages));
    begun = now.begun ∙ sym says.begun;
    fresh = now.fresh ∙ sym says.fresh;
    counts = same_dirty f (written_facts f) dirty left (λ b. refl) are are_now;
    pages = now.pages ∙ sym says.pages;
    used = omega (arith, now.used, says.used);
    freed = λ apart. now.used ∙ sym says.used;
  }

  -- a restart page is written
  none_begun : (t : Bool) → (t && not true) ≡ false
  none_begun true = refl
  none_begun false = refl

  restart : FactsTold (named_facts (unwrap_or f.noted 0) f) later → AreDirty (named_facts (unwrap_or f.noted 0) f) left → Becomes WriteRestart (length dirty) told (length left) later
  restart now are_now = record {
    filling = now.filling ∙ sym says.filling;
    sealed = now.sealed ∙ sym says.sealed;
    unsynced = not_synced (named_facts (unwrap_or f.noted 0) f) later now (λ all. let none = all.unnamed in cc);
    begun = now.begun ∙ none_begun (is_some f.noted);
    fresh = now.fresh ∙ sym says.fresh;
    counts = same_dirty f (named_facts (unwrap_or f.noted 0) f) dirty left (λ b. refl) are are_now;
    pages = now.pages ∙ sym says.pages;
    used = omega (arith, now.used, says.used);
    freed = λ apart. now.used ∙ sym says.used;
  }

  -- ---- a sync

  still_begun : (noted named : Option ℕ) → (is_some (cond (is_some named) None noted) && not false) ≡ (is_some noted && not (is_some named))
  still_begun (Some p) (Some n) = refl
  still_begun None (Some n) = refl
  still_begun (Some p) None = refl
  still_begun None None = refl

  still_fresh : (noted named : Option ℕ) (oldest sealed fill : ℕ) → IfSome named (λ n. (oldest ≤ n) × (n ≤ sealed)) → IfSome named (λ n. noted ≡ Some n) → oldest ≤ sealed
      → nat_lt (unwrap_or (cond (is_some named) None noted) (unwrap_or named oldest)) (unwrap_or named oldest + (sealed - unwrap_or named oldest + fill)) ≡ nat_lt (unwrap_or noted oldest) (oldest + (sealed - oldest + fill))
  still_fresh noted (Some n) oldest sealed fill both is le =
      ap₂ nat_lt (sym (ap (λ (o : Option ℕ). unwrap_or o oldest) is)) (let e : n + (sealed - n + fill) ≡ oldest + (sealed - oldest + fill) = omega (arith, both.0, both.1, le) in e)
  still_fresh noted None oldest sealed fill both is le = refl

  fewer_used : (named : Option ℕ) (oldest sealed fill : ℕ) → IfSome named (λ n. (oldest ≤ n) × (n ≤ sealed)) → sealed - unwrap_or named oldest + fill ≤ sealed - oldest + fill
  fewer_used (Some n) oldest sealed fill both = omega (arith, both.0)
  fewer_used None oldest sealed fill both = omega arith

  bounds : IfSome f.log.named (λ n. (f.log.oldest ≤ n) × (n ≤ f.log.sealed))
  bounds = by f.log.named kept.order.names_page
    where
      by : (o : Option ℕ) → IfSome o (λ n. (f.log.oldest ≤ n) × (n ≤ f.log.synced)) → IfSome o (λ n. (f.log.oldest ≤ n) × (n ≤ f.log.sealed))
      by (Some n) both = let o = kept.order in (both.0, omega (arith, both.1, o.synced_pages, o.done_pages))
      by None both = tt

  sync : FactsTold (synced_facts f) later → AreDirty (synced_facts f) left → Becomes SyncDevice (length dirty) told (length left) later
  sync now are_now = record {
    filling = now.filling ∙ sym says.filling;
    sealed = now.sealed ∙ sym says.sealed;
    unsynced = now.unsynced (record { pages = refl; unnamed = refl; dry = λ b. refl });
    begun = now.begun ∙ still_begun f.noted f.log.named ∙ sym says.begun;
    fresh = now.fresh ∙ still_fresh f.noted f.log.named f.log.oldest f.log.sealed (cond (is_filling f.log) 1 0) bounds kept.order.names_noted low ∙ sym says.fresh;
    counts = same_dirty f (synced_facts f) dirty left (λ b. refl) are are_now;
    pages = now.pages ∙ sym says.pages;
    used = (let less = fewer_used f.log.named f.log.oldest f.log.sealed (cond (is_filling f.log) 1 0) bounds in omega (arith, less, now.used, says.used));
    freed = λ apart. absurd (apart refl);
  }

  -- ---- a write-out

  wet_there : (g : StoreFacts) (b : Block) → (g.mark b).wet ≡ true → IsAllSynced g → ⊥
  wet_there g b wet all = true≢false (sym wet ∙ all.dry b)

  out_by : (g : StoreFacts) (b : Block) → g.log ≡ f.log → g.noted ≡ f.noted → (g.mark b).wet ≡ true → (f.mark b).dirty ≡ true → ((c : Block) → same_block c b ≡ true → (g.mark c).dirty ≡ false) → ((c : Block) → same_block c b ≡ false → (g.mark c).dirty ≡ (f.mark c).dirty)
      → FactsTold g later → AreDirty g left → Becomes (WriteOut b) (length dirty) told (length left) later
  out_by g b log noted wet was gone others now are_now = record {
    filling = now.filling ∙ ap is_filling log ∙ sym says.filling;
    sealed = now.sealed ∙ ap (λ (a : LogAreaOf). a.sealed - a.done) log ∙ sym says.sealed;
    unsynced = not_synced g later now (wet_there g b wet);
    begun = now.begun ∙ ap₂ (λ (o : Option ℕ) (a : LogAreaOf). is_some o && not (is_some a.named)) noted log ∙ sym says.begun;
    fresh = now.fresh ∙ ap₂ (λ (o : Option ℕ) (a : LogAreaOf). nat_lt (unwrap_or o a.oldest) (a.oldest + used_pages a)) noted log ∙ sym says.fresh;
    counts = one_fewer f g b dirty left was gone others are are_now;
    pages = now.pages ∙ ap ring_size log ∙ sym says.pages;
    used = (let same = ap used_pages log in omega (arith, now.used, same, says.used));
    freed = λ apart. now.used ∙ ap used_pages log ∙ sym says.used;
  }

  dirty_then : (m own rival : Mark) (t r : Bool) → rival.dirty ≡ m.dirty → t ≡ false → (cond t own (cond r rival m)).dirty ≡ m.dirty
  dirty_then m own rival true r same e = absurd (true≢false e)
  dirty_then m own rival false true same e = same
  dirty_then m own rival false false same e = refl

  out : (b : Block) (spells : Bool) (word : CheckWord) → is_ready f b ≡ true → FactsTold (out_facts spells true word b f) later → AreDirty (out_facts spells true word b f) left → Becomes (WriteOut b) (length dirty) told (length left) later
  out b true word ready now are_now =
      out_by (written_out_facts b f) b refl refl (ap (λ (t : Bool). (cond t (written b) (cond (are_rivals b b) (freed b) (f.mark b))).wet) (same_self b)) (ready_dirty f b ready)
      (λ c e. ap (λ (t : Bool). (cond t (written c) (cond (are_rivals b c) (freed c) (f.mark c))).dirty) e) (λ c e. dirty_then (f.mark c) (written c) (freed c) (same_block c b) (are_rivals b c) refl e) now are_now
    where
      written : Block → Mark
      written c = record (f.mark c) { dirty = false; wet = true; owed = false; due = (f.mark c).due || is_noted f.mark b }

      freed : Block → Mark
      freed c = record (f.mark c) { dead = false; owed = false }
  out b false word ready now are_now =
      out_by (again_facts b f) b refl refl (ap (λ (t : Bool). (cond t (again b) (f.mark b)).wet) (same_self b)) (ready_dirty f b ready) (λ c e. ap (λ (t : Bool). (cond t (again c) (f.mark c)).dirty) e)
      (λ c e. ap (λ (t : Bool). (cond t (again c) (f.mark c)).dirty) e) now are_now
    where
      again : Block → Mark
      again c = record (f.mark c) { dirty = false; wet = true; owed = false; due = (f.mark c).due || (f.mark c).owed }

-- ---- each step

becomes : (f g : StoreFacts) (told later : Facts) (step : StoreStep) (dirty left : List Block) → IsKept f → FactsTold f told → FactsTold g later → AreDirty f dirty → AreDirty g left → MayTake told step → HasTurned step (Ok tt) f g → Becomes step (length dirty) told (length left) later
becomes f g told later SealPage dirty left kept says now are are_now may turned =
    seal f kept told later dirty left says are (sym says.filling ∙ may) (subst (λ (h : StoreFacts). FactsTold h later) turned.1 now) (subst (λ (h : StoreFacts). AreDirty h left) turned.1 are_now)
becomes f g told later WritePage dirty left kept says now are are_now may turned =
    write f kept told later dirty left says are (subst (λ (h : StoreFacts). FactsTold h later) turned now) (subst (λ (h : StoreFacts). AreDirty h left) turned are_now)
becomes f g told later SyncDevice dirty left kept says now are are_now may turned =
    sync f kept told later dirty left says are (subst (λ (h : StoreFacts). FactsTold h later) turned now) (subst (λ (h : StoreFacts). AreDirty h left) turned are_now)
becomes f g told later (WriteOut b) dirty left kept says now are are_now may turned =
    out f kept told later dirty left says are b (is_spelled f b) turned.0 (says.ready b may) (subst (λ (h : StoreFacts). FactsTold h later) turned.1 now) (subst (λ (h : StoreFacts). AreDirty h left) turned.1 are_now)
becomes f g told later BeginCheckpoint dirty left kept says now are are_now may turned =
    begin f kept told later dirty left says are (says.synced may.2).unnamed (subst (λ (h : StoreFacts). FactsTold h later) turned.1 now) (subst (λ (h : StoreFacts). AreDirty h left) turned.1 are_now)
becomes f g told later WriteRestart dirty left kept says now are are_now may turned =
    restart f kept told later dirty left says are (subst (λ (h : StoreFacts). FactsTold h later) turned now) (subst (λ (h : StoreFacts). AreDirty h left) turned are_now)

-- ---- the blocks that are dirty

count_cons : (b x : Block) (xs : List Block) → count_by (same_block b) (x ∷ xs) ≡ cond (same_block b x) 1 0 + count_by (same_block b) xs
count_cons b x xs = sum_by-cons (λ (y : Block). cond {A = ℕ} (same_block b y) 1 0) x xs

-- a list that has no such block counts none
none_counted : (b : Block) (xs : List Block) → list_any (same_block b) xs ≡ false → count_by (same_block b) xs ≡ 0
none_counted b [] none = refl
none_counted b (x ∷ xs) none = by (same_block b x) refl none (none_counted b xs)
  where
    by : (t : Bool) → same_block b x ≡ t → (t || list_any (same_block b) xs) ≡ false → (list_any (same_block b) xs ≡ false → count_by (same_block b) xs ≡ 0) → count_by (same_block b) (x ∷ xs) ≡ 0
    by true e h rest = absurd (true≢false h)
    by false e h rest = let none : ◌≡◌ {A = ℕ} (cond (same_block b x) 1 0) 0 = ap (λ (t : Bool). cond {A = ℕ} t 1 0) e in omega (arith, none, rest h, count_cons b x xs)

-- each block that passes is there once where the pool has it
once : (test : Block → Bool) (es : List (Block × Mark)) (b : Block) → (count_by (same_block b) (passing test es) ≡ cond (list_any (same_block b) (passing test es)) 1 0) × (test b ≡ true → is_some (held es b) ≡ true → list_any (same_block b) (passing test es) ≡ true)
    × (test b ≡ false → list_any (same_block b) (passing test es) ≡ false)
once test [] b = (refl, λ pass is. absurd (true≢false (sym is)), λ fails. refl)
once test (e ∷ es) b = by (test e.0) (list_any (same_block e.0) (passing test es)) refl refl (once test es b)
  where
    xs : List Block
    xs = passing test es

    by : (t u : Bool) → test e.0 ≡ t → list_any (same_block e.0) xs ≡ u
        → ((count_by (same_block b) xs ≡ cond (list_any (same_block b) xs) 1 0) × (test b ≡ true → is_some (held es b) ≡ true → list_any (same_block b) xs ≡ true) × (test b ≡ false → list_any (same_block b) xs ≡ false))
        → (count_by (same_block b) (cond (t && not u) (e.0 ∷ xs) xs) ≡ cond (list_any (same_block b) (cond (t && not u) (e.0 ∷ xs) xs)) 1 0)
        × (test b ≡ true → is_some (cond (same_block b e.0) (Some e.1) (held es b)) ≡ true → list_any (same_block b) (cond (t && not u) (e.0 ∷ xs) xs) ≡ true)
        × (test b ≡ false → list_any (same_block b) (cond (t && not u) (e.0 ∷ xs) xs) ≡ false)
    by true false pass fresh old = (by_same (same_block b e.0) refl, there (same_block b e.0) refl, λ fails. off (same_block b e.0) refl fails)
      where
        by_same : (v : Bool) → same_block b e.0 ≡ v → count_by (same_block b) (e.0 ∷ xs) ≡ cond (same_block b e.0 || list_any (same_block b) xs) 1 0
        by_same true same =
            let none : list_any (same_block b) xs ≡ false = ap (λ (x : Block). list_any (same_block x) xs) (same_block-is b e.0 same) ∙ fresh in
            let zero = none_counted b xs none in
            let one : ◌≡◌ {A = ℕ} (cond (same_block b e.0) 1 0) 1 = ap (λ (t : Bool). cond {A = ℕ} t 1 0) same in
            let all : ◌≡◌ {A = ℕ} (cond (same_block b e.0 || list_any (same_block b) xs) 1 0) 1 = ap (λ (t : Bool). cond {A = ℕ} (t || list_any (same_block b) xs) 1 0) same in
            omega (arith, zero, one, all, count_cons b e.0 xs)
        by_same false same =
            let none : ◌≡◌ {A = ℕ} (cond (same_block b e.0) 1 0) 0 = ap (λ (t : Bool). cond {A = ℕ} t 1 0) same in
            let all : ◌≡◌ {A = ℕ} (cond (same_block b e.0 || list_any (same_block b) xs) 1 0) (cond (list_any (same_block b) xs) 1 0) = ap (λ (t : Bool). cond {A = ℕ} (t || list_any (same_block b) xs) 1 0) same in
            omega (arith, none, all, old.0, count_cons b e.0 xs)

        there : (v : Bool) → same_block b e.0 ≡ v → test b ≡ true → is_some (cond (same_block b e.0) (Some e.1) (held es b)) ≡ true → (same_block b e.0 || list_any (same_block b) xs) ≡ true
        there true same pass_b is = ap (λ (t : Bool). t || list_any (same_block b) xs) same
        there false same pass_b is = ap (λ (t : Bool). t || list_any (same_block b) xs) same ∙ old.1 pass_b (sym (ap (λ (t : Bool). is_some (cond t (Some e.1) (held es b))) same) ∙ is)

        off : (v : Bool) → same_block b e.0 ≡ v → test b ≡ false → (same_block b e.0 || list_any (same_block b) xs) ≡ false
        off true same fails = absurd (true≢false (sym pass ∙ ap test (sym (same_block-is b e.0 same)) ∙ fails))
        off false same fails = ap (λ (t : Bool). t || list_any (same_block b) xs) same ∙ old.2 fails
    by true true pass had old = (old.0, there (same_block b e.0) refl, old.2)
      where
        there : (v : Bool) → same_block b e.0 ≡ v → test b ≡ true → is_some (cond (same_block b e.0) (Some e.1) (held es b)) ≡ true → list_any (same_block b) xs ≡ true
        there true same pass_b is = ap (λ (x : Block). list_any (same_block x) xs) (same_block-is b e.0 same) ∙ had
        there false same pass_b is = old.1 pass_b (sym (ap (λ (t : Bool). is_some (cond t (Some e.1) (held es b))) same) ∙ is)
    by false u fails any old = (old.0, there (same_block b e.0) refl, old.2)
      where
        there : (v : Bool) → same_block b e.0 ≡ v → test b ≡ true → is_some (cond (same_block b e.0) (Some e.1) (held es b)) ≡ true → list_any (same_block b) xs ≡ true
        there true same pass_b is = absurd (true≢false (sym pass_b ∙ ap test (same_block-is b e.0 same) ∙ fails))
        there false same pass_b is = old.1 pass_b (sym (ap (λ (t : Bool). is_some (cond t (Some e.1) (held es b))) same) ∙ is)

has_mark : (es : List (Block × Mark)) (b : Block) → (marks_of es b).dirty ≡ true → is_some (held es b) ≡ true
has_mark es b dirty = by (held es b) dirty
  where
    by : (o : Option Mark) → (unwrap_or o no_mark).dirty ≡ true → is_some o ≡ true
    by (Some m) is = refl
    by None is = absurd (true≢false (sym is))

are_dirty : (s : StateOf) → AreDirty (facts_of s) (dirty_blocks s)
are_dirty s b = (once (λ c. (marks_of s.marks c).dirty) s.marks b).0 ∙ ap (λ (t : Bool). cond {A = ℕ} t 1 0) (by (marks_of s.marks b).dirty refl)
  where
    by : (v : Bool) → (marks_of s.marks b).dirty ≡ v → list_any (same_block b) (dirty_blocks s) ≡ (marks_of s.marks b).dirty
    by true e = (once (λ c. (marks_of s.marks c).dirty) s.marks b).1 e (has_mark s.marks b e) ∙ sym e
    by false e = (once (λ c. (marks_of s.marks c).dirty) s.marks b).2 e ∙ sym e

pub steps_lead_on : StepsLeadOn
steps_lead_on = record {
  may = next_may_turn;
  less = λ f g told later step dirty left kept closed says now are are_now e turned.
      leaves_less step (length dirty) (length left) told later (told_can_be f told dirty (keeps_marked f kept) says are closed) e (becomes f g told later step dirty left kept says now are are_now (may_be_taken told step e) turned);
  rests = λ f told dirty kept closed says are. rests_only_when_done (length dirty) told (told_can_be f told dirty (keeps_marked f kept) says are closed);
  dirty = are_dirty;
}
