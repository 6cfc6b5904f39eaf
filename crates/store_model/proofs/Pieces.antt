-- A change by several updates.
use Rattle.std.proofs.Common.{◌≡◌, ◌≢◌, ◌⊎◌, inl, inr, ℕ, ◌<◌, ◌≤◌, Bool, true, false, List, [], ◌∷◌, ◌++◌, length, Some, None, refl, sym, ◌∙◌, ap, subst, arith, length-append, append_assoc}
use Rattle.std.specs.Prelude.{◌||◌, ◌==◌}
use Rattle.std.specs.List.{AllByRecursion}
use Rattle.std.proofs.lemmas.List.{append-nil}
use mathlib.Core.Path.{fun_ext}
use Rattle.log_model.specs.disk_model.declared.block.Block.{Block}
use Rattle.log_model.specs.disk_model.Sectors.{same_block}
use Rattle.fixup_record.proofs.disk_model.Frames.{same_block-is}
use Rattle.sector_device.specs.Disks.{Disk, seen}
use Rattle.log_model.specs.declared.entry.Entry.{Entry}
use Rattle.log_model.specs.Logs.{updates, covers, is_ended, first_undo, last_said}
use Rattle.log_model.proofs.Telling.{first_undo-append, or_none}
use Rattle.store_model.specs.Logs.{AreUpdates, changed, undone, has_update, ended_with}
use Rattle.store_model.specs.Geometry.{SectorBytes, Geometry}
use Rattle.store_model.specs.Stores.{Window, Tells, Backs, Fits, IsReadyAt, IsStored, Stands}
use Rattle.store_model.specs.Events.{after_change, after_changes, AreChanges, Fills, Refills}
use Rattle.store_model.proofs.Told.{or-false, or-true, updates_is, not_covered, ends-update, claimed_shorter, says_other, Said, last_said_is, false_true, none_true}
use Rattle.store_model.proofs.Told.Said.{nothing, own as own_said, rivals}
use Rattle.store_model.proofs.Lost.{has_update-append, updates_only, updates_some, none_covered}
use Rattle.store_model.proofs.Window.{window-change}
use Rattle.store_model.proofs.Change.{tells-change, backs-change, fits-change, ready-change}

-- they are updates of the block by the open transaction
pub are_updates : (w : Window) (c : Block) (us : List Entry) → AreChanges w c us → AreUpdates w.tx c us
are_updates w c [] old = tt
are_updates w c (up ∷ us) old = (old.0.update, are_updates (after_change w c up) c us old.1)

-- they may stand in the list of a store
pub stored_updates : (geometry : Geometry) (t : ℕ) (c : Block) (us : List Entry) → 0 < geometry.size c → AreUpdates t c us → AllByRecursion (IsStored geometry) us
stored_updates geometry t c [] known are = tt
stored_updates geometry t c (up ∷ us) known are = (record { level = are.0.level; known = here }, stored_updates geometry t c us known are.1)
  where
    here : (b : Block) → updates b up.act ≡ true → 0 < geometry.size b
    here b h = subst (λ (n : Block). 0 < geometry.size n) (sym (same_block-is b c (sym (updates_is up.act b c are.0.block) ∙ h))) known

pub tells-changes : (geometry : Geometry) (w : Window) (l : List Entry) (d : ℕ) → d ≤ length l → Tells geometry w l d → w.is_open ≡ true → (c : Block) (us : List Entry) → AreChanges w c us
    → Tells geometry (after_changes w c us) (l ++ us) d
tells-changes geometry w l d le t opened c [] old = subst (λ (xs : List Entry). Tells geometry w xs d) (sym (append-nil l)) t
tells-changes geometry w l d le t opened c (up ∷ us) old =
    let w' = after_change w c up in
    subst (λ (xs : List Entry). Tells geometry (after_changes w' c us) xs d) (append_assoc l (up ∷ []) us)
    (tells-changes geometry w' (l ++ up ∷ []) d (omega (arith, length-append l (up ∷ []))) (tells-change geometry w l d le t opened c up old.0) opened c us old.1)

pub backs-changes : (geometry : Geometry) (sectors : SectorBytes) (b : Block) (w : Window) (l : List Entry) (d : ℕ) → d ≤ length l → Tells geometry w l d → w.is_open ≡ true → (c : Block) (us : List Entry) → AreChanges w c us
    → Backs geometry w l d sectors b → Backs geometry (after_changes w c us) (l ++ us) d sectors b
backs-changes geometry sectors b w l d le t opened c [] old backs = subst (λ (xs : List Entry). Backs geometry w xs d sectors b) (sym (append-nil l)) backs
backs-changes geometry sectors b w l d le t opened c (up ∷ us) old backs =
    let w' = after_change w c up in
    subst (λ (xs : List Entry). Backs geometry (after_changes w' c us) xs d sectors b) (append_assoc l (up ∷ []) us)
    (backs-changes geometry sectors b w' (l ++ up ∷ []) d (omega (arith, length-append l (up ∷ []))) (tells-change geometry w l d le t opened c up old.0) opened c us old.1
    (backs-change geometry w l d le t opened c up old.0 sectors b backs))

pub fits-changes : (geometry : Geometry) (sectors : SectorBytes) (b : Block) (w : Window) (l : List Entry) (d : ℕ) → d ≤ length l → Tells geometry w l d → w.is_open ≡ true → (c : Block) (us : List Entry) → AreChanges w c us
    → Fits geometry w l d sectors b → Fits geometry (after_changes w c us) (l ++ us) d sectors b
fits-changes geometry sectors b w l d le t opened c [] old fits = subst (λ (xs : List Entry). Fits geometry w xs d sectors b) (sym (append-nil l)) fits
fits-changes geometry sectors b w l d le t opened c (up ∷ us) old fits =
    let w' = after_change w c up in
    subst (λ (xs : List Entry). Fits geometry (after_changes w' c us) xs d sectors b) (append_assoc l (up ∷ []) us)
    (fits-changes geometry sectors b w' (l ++ up ∷ []) d (omega (arith, length-append l (up ∷ []))) (tells-change geometry w l d le t opened c up old.0) opened c us old.1
    (fits-change geometry w l d le t opened c up old.0 sectors b fits))

pub ready-changes : (geometry : Geometry) (b : Block) (i : ℕ) (w : Window) (l : List Entry) (d : ℕ) → d ≤ length l → Tells geometry w l d → w.is_open ≡ true → (c : Block) (us : List Entry) → AreChanges w c us
    → IsReadyAt w l b i ⊎ (first_undo us b i ≢ None) → IsReadyAt (after_changes w c us) (l ++ us) b i
ready-changes geometry b i w l d le t opened c [] old (inl ready) = subst (λ (xs : List Entry). IsReadyAt w xs b i) (sym (append-nil l)) ready
ready-changes geometry b i w l d le t opened c [] old (inr some) = absurd (some refl)
ready-changes geometry b i w l d le t opened c (up ∷ us) old was =
    let w' = after_change w c up in
    subst (λ (xs : List Entry). IsReadyAt (after_changes w' c us) xs b i) (append_assoc l (up ∷ []) us)
    (ready-changes geometry b i w' (l ++ up ∷ []) d (omega (arith, length-append l (up ∷ []))) (tells-change geometry w l d le t opened c up old.0) opened c us old.1
    (first (covers b i up.act) refl was))
  where
    first : (v : Bool) → covers b i up.act ≡ v → IsReadyAt w l b i ⊎ (first_undo (up ∷ us) b i ≢ None)
        → IsReadyAt (after_change w c up) (l ++ up ∷ []) b i ⊎ (first_undo us b i ≢ None)
    first true h x = inl (ready-change geometry w l d le t opened c up old.0 b i (inr h))
    first false h (inl ready) = inl (ready-change geometry w l d le t opened c up old.0 b i (inl ready))
    first false h (inr some) = inr (λ none. some (rw h none))

pub ends-updates : (l : List Entry) (t : ℕ) (c : Block) (us : List Entry) → AreUpdates t c us → is_ended (l ++ us) ≡ is_ended l
ends-updates l t c [] are = ap is_ended (append-nil l)
ends-updates l t c (up ∷ us) are = ap is_ended (sym (append_assoc l (up ∷ []) us)) ∙ ends-updates (l ++ up ∷ []) t c us are.1 ∙ ends-update l t c up are.0

-- of another block
pub claimed_updates : (f : ℕ → Bool) (l : List Entry) (t : ℕ) (c : Block) (us : List Entry) (b : Block) → AreUpdates t c us → same_block b c ≡ false → last_said f (l ++ us) b ≢ Some true → last_said f l b ≢ Some true
claimed_updates f l t c [] b are apart claimed = λ is. claimed (ap (λ (xs : List Entry). last_said f xs b) (append-nil l) ∙ is)
claimed_updates f l t c (up ∷ us) b are apart claimed =
    claimed_shorter f l up b (says_other f up b (updates_is up.act b c are.0.block ∙ apart))
    (claimed_updates f (l ++ up ∷ []) t c us b are.1 apart (λ is. claimed (ap (λ (xs : List Entry). last_said f xs b) (sym (append_assoc l (up ∷ []) us)) ∙ is)))

-- the updates are of one block
pub updates_elsewhere : (t : ℕ) (c : Block) (us : List Entry) (b : Block) (i : ℕ) → AreUpdates t c us → same_block b c ≡ false → first_undo us b i ≡ None
updates_elsewhere t c us b i are apart = none_covered us b i (updates_only t c us b are apart)

pub body_elsewhere : (w : Window) (c : Block) (us : List Entry) (b : Block) (i : ℕ) → AreChanges w c us → same_block b c ≡ false → (after_changes w c us).body b i ≡ w.body b i
body_elsewhere w c [] b i old apart = refl
body_elsewhere w c (up ∷ us) b i old apart = body_elsewhere (after_change w c up) c us b i old.1 apart ∙ here
  where
    here : changed up w.body b i ≡ w.body b i
    here = rw (not_covered up.act b i (updates_is up.act b c old.0.update.block ∙ apart)) refl

pub draft_changes : (w : Window) (c : Block) (us : List Entry) → (after_changes w c us).draft ≡ w.draft ++ us
draft_changes w c [] = sym (append-nil w.draft)
draft_changes w c (up ∷ us) = draft_changes (after_change w c up) c us ∙ append_assoc w.draft (up ∷ []) us

pub stands-changes : (geometry : Geometry) (w : Window) (disk : Disk) (dirty dirty' : Block → Bool) (l : List Entry) (d : ℕ) (owed damp : Block → Bool) → Stands geometry w disk dirty l d owed damp
    → w.is_open ≡ true → (c : Block) (us : List Entry) → 0 < length us → AreChanges w c us → Fills geometry w l c us → Refills geometry w l c us → ((b : Block) → same_block b c ≡ false → dirty' b ≡ true → dirty b ≡ true)
    → Stands geometry (after_changes w c us) disk dirty' (l ++ us) d owed damp
stands-changes geometry w disk dirty dirty' l d owed damp st opened c us some old fills refills was = record {
  within = omega (arith, st.within, length-append l us);
  tells = tells-changes geometry w l d st.within st.tells opened c us old;
  whole = λ b i within has. whole (same_block b c) b i within refl has;
  ready = λ o b i within claimed. ready-changes geometry b i w l d st.within st.tells opened c us old (ready (same_block b c) b i within refl claimed);
  holds = λ b. holds (same_block b c) b refl;
  drafts = λ b has. drafts (same_block b c) b refl (sym (ap (λ (xs : List Entry). has_update xs b) (draft_changes w c us)) ∙ has);
  reads = λ b paid. backs-changes geometry (seen disk) b w l d st.within st.tells opened c us old (st.reads b paid);
  backs = λ sectors b paid dry left. backs-changes geometry sectors b w l d st.within st.tells opened c us old (st.backs sectors b paid dry left);
  fit_reads = λ b paid. fits-changes geometry (seen disk) b w l d st.within st.tells opened c us old (st.fit_reads b paid);
  fits = λ sectors b paid dry left. fits-changes geometry sectors b w l d st.within st.tells opened c us old (st.fits sectors b paid dry left);
}
  where
    are : AreUpdates w.tx c us
    are = are_updates w c us old

    same : (b : Block) (i : ℕ) → same_block b c ≡ false → first_undo (l ++ us) b i ≡ first_undo l b i
    same b i apart = first_undo-append l us b i ∙ rw (updates_elsewhere w.tx c us b i are apart) (or_none (first_undo l b i))

    tx_same : (w : Window) (c : Block) (us : List Entry) → (after_changes w c us).tx ≡ w.tx
    tx_same w c [] = refl
    tx_same w c (up ∷ us) = tx_same (after_change w c up) c us

    f_same : ended_with (after_changes w c us).tx (l ++ us) ≡ ended_with w.tx l
    f_same = ap (λ (t : ℕ). ended_with t (l ++ us)) (tx_same w c us) ∙ fun_ext (λ u. ap (λ (g : ℕ → Bool). g u || (u == w.tx)) (ends-updates l w.tx c us are))

    ready : (v : Bool) (b : Block) (i : ℕ) → i < geometry.size b → same_block b c ≡ v → last_said (ended_with (after_changes w c us).tx (l ++ us)) (l ++ us) b ≢ Some true
        → IsReadyAt w l b i ⊎ (first_undo us b i ≢ None)
    ready true b i within is claimed = go (last_said_is (ended_with w.tx l) l b)
      where
        e' : b ≡ c
        e' = same_block-is b c is

        go : Said (last_said (ended_with w.tx l) l b) → IsReadyAt w l b i ⊎ (first_undo us b i ≢ None)
        go (nothing h) = inl (st.ready opened b i within (λ k. none_true (sym h ∙ k)))
        go (own_said h) = inl (st.ready opened b i within (λ k. false_true (sym h ∙ k)))
        go (rivals h) = inr (subst (λ (n : Block). first_undo us n i ≢ None) (sym e') (refills (subst (λ (n : Block). last_said (ended_with w.tx l) l n ≡ Some true) e' h) i (subst (λ (n : Block). i < geometry.size n) e' within)))
    ready false b i within is claimed = inl (st.ready opened b i within (claimed_updates (ended_with w.tx l) l w.tx c us b are is (λ k. claimed (ap (λ (f : ℕ → Bool). last_said f (l ++ us) b) f_same ∙ k))))

    same_has : (b : Block) → same_block b c ≡ false → has_update (l ++ us) b ≡ has_update l b
    same_has b apart = has_update-append l us b ∙ rw (updates_only w.tx c us b are apart) (or-false (has_update l b))

    has_now : has_update (l ++ us) c ≡ true
    has_now = has_update-append l us c ∙ or-true (has_update l c) (has_update us c) (updates_some w.tx c us are some)

    whole : (v : Bool) (b : Block) (i : ℕ) → i < geometry.size b → same_block b c ≡ v → has_update (l ++ us) b ≡ true → first_undo (l ++ us) b i ≢ None
    whole true b i within is has e = let eq : b ≡ c = same_block-is b c is in fills i (subst (λ (n : Block). i < geometry.size n) eq within) (subst (λ (n : Block). first_undo (l ++ us) n i ≡ None) eq e)
    whole false b i within is has e = st.whole b i within (sym (same_has b is) ∙ has) (sym (same b i is) ∙ e)

    drafts : (v : Bool) (b : Block) → same_block b c ≡ v → has_update (w.draft ++ us) b ≡ true → has_update (l ++ us) b ≡ true
    drafts true b is has = let eq : b ≡ c = same_block-is b c is in subst (λ (n : Block). has_update (l ++ us) n ≡ true) (sym eq) has_now
    drafts false b is has = same_has b is ∙ st.drafts b (sym (or-false (has_update w.draft b)) ∙ ap (λ (v : Bool). has_update w.draft b || v) (sym (updates_only w.tx c us b are is)) ∙ sym (has_update-append w.draft us b) ∙ has)

    holds : (v : Bool) (b : Block) → same_block b c ≡ v → dirty' b ≡ true → owed b ≡ false → has_update (l ++ us) b ≡ true
    holds true b is h free = let eq : b ≡ c = same_block-is b c is in subst (λ (n : Block). has_update (l ++ us) n ≡ true) (sym eq) has_now
    holds false b is h free = same_has b is ∙ st.holds b (was b is h) free

-- a change moves no member
pub changes_same : (w : Window) (c : Block) (us : List Entry) → AreChanges w c us → (undone (after_changes w c us).draft (after_changes w c us).body ≡ undone w.draft w.body) × ((after_changes w c us).waiting ≡ w.waiting) × ((after_changes w c us).was_torn ≡ w.was_torn)
changes_same w c [] old = (refl, refl, refl)
changes_same w c (up ∷ us) old =
    let rest = changes_same (after_change w c up) c us old.1 in
    (rest.0 ∙ window-change w.draft _ w.body old.0.old, rest.1, rest.2)
