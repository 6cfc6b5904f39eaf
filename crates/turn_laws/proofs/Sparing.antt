-- What a step of a store spares.
use Rattle.std.proofs.Common.{◌≡◌, subst, ℕ, Bool, true, false, List, [], Option, Some, None, Result, Ok, Err, refl, sym, ap, ap₂, ◌∙◌, inl, inr}
use Rattle.std.specs.Prelude.{◌&&◌, is_some, nat_le, unwrap_or, IfSome}
use Rattle.std.proofs.lemmas.Bool.{cases_Bool, false_from_ne_true}
use Rattle.host_base.specs.declared.outside.Failed.{Failed}
use Rattle.disk_model.specs.declared.block.Block.{Block}
use Rattle.disk_model.specs.declared.block.Body.{Body}
use Rattle.disk_model.specs.Sectors.{sector_of, are_rivals}
use Rattle.disk_model.specs.Content.{content_of}
use Rattle.sector_device.specs.Disks.{Disk, SeesDisk}
use Rattle.sector_device.specs.Moments.{Changes}
use Rattle.txn_core.specs.log_page.declared.places.LogPlace.{LogPlace}
use Rattle.txn_core.specs.store_model.Volumes.{is_known}
use Rattle.txn_core.specs.store_claims.Windows.{StoreWindow}
use Rattle.txn_core.proofs.store_model.Told.{true≢false, rivals_both}
use Rattle.flush_policy.specs.declared.facts.StoreStep.{StoreStep}
use Rattle.flush_policy.specs.declared.facts.StoreStep.TheVariants.{SealPage, WritePage, SyncDevice, WriteOut, BeginCheckpoint, WriteRestart}
use Rattle.txn_core.specs.txn_model.Values.{StoreFacts, is_own, own_of}
use Rattle.txn_core.specs.txn_laws.Windows.{HasWindow, IsShown}
use Rattle.txn_core.proofs.txn_laws.Showing.{present_shown}
use Rattle.txn_core.specs.txn_state.States.{facts_of, IsStore}
use Rattle.txn_core.specs.Seen.{Seen, TakesStep}
use Rattle.txn_core.specs.Steps.{MayTurn, HasTurned, TurnsDevice, AfterTurn}
use Rattle.txn_core.specs.Views.{present_on}
use Rattle.turn_laws.specs.Sparing.{IsSpared, KeepsBody, StepSpares}
use Rattle.turn_laws.proofs.Falling.{Falls, falls}
use Rattle.turn_laws.proofs.Framing.{ready_dirty, body_stays}

-- ---- windows

-- the window has the present body of before
shows_same : (step : StoreStep) (result : Result (Unit {0}) Failed) (f : StoreFacts) (w v : StoreWindow) (b : Block) → AfterTurn step result f w v → MayTurn f step → (f.mark b).dead ≡ false → ((c : Block) → are_rivals b c ≡ true → (f.mark c).dirty ≡ false) → v.present b ≡ w.present b
shows_same SealPage result f w v b after may alive alone = ap (λ (x : StoreWindow). x.present b) after.same
shows_same WritePage result f w v b after may alive alone = ap (λ (x : StoreWindow). x.present b) after.same
shows_same SyncDevice (Ok x) f w v b after may alive alone = after.present b (ap (λ (t : Bool). t && nat_le (f.mark b).killed f.log.done) alive)
shows_same SyncDevice (Err e) f w v b after may alive alone = ap (λ (x : StoreWindow). x.present b) after.same
shows_same (WriteOut c) result f w v b after may alive alone = after.present b no_rivals
  where
    no_rivals : are_rivals c b ≡ false
    no_rivals = elim (cases_Bool (are_rivals c b)) [
      | inl rivals ↦ absurd (true≢false (sym (ready_dirty f c may) ∙ alone c (rivals_both b c ∙ rivals)))
      | inr apart ↦ apart
    ]
shows_same BeginCheckpoint result f w v b after may alive alone = ap (λ (x : StoreWindow). x.present b) after.same
shows_same WriteRestart result f w v b after may alive alone = ap (λ (x : StoreWindow). x.present b) after.same

-- what a device gives is known where its disk is
given_by : (o : Option (List (List ℕ))) (p : Option Disk) (e : Disk) → p ≡ Some e → SeesDisk o p → (now : List (List ℕ)) × (o ≡ Some now)
given_by (Some now) p e is sees = (now, refl)
given_by None p e is sees = absurd (subst (λ (q : Option Disk). SeesDisk None q) is sees)

known_by : (o : Option (List (List ℕ))) (p : Option Disk) (now : List (List ℕ)) → o ≡ Some now → SeesDisk o p → (e : Disk) × (p ≡ Some e)
known_by o (Some e) now is sees = (e, refl)
known_by o None now is sees = absurd (subst (λ (q : Option (List (List ℕ))). SeesDisk q None) is sees)

pub stays_unknown : {D : Type 0} (gives : D → Option (List (List ℕ))) (count moment : D → ℕ) (changes : D → Changes) (After : StoreWindow → StoreWindow → Type 0) (old new : Seen D) → SeesDisk (gives old.device) (changes old.device).disk → SeesDisk (gives new.device) (changes new.device).disk
    → TakesStep count moment changes After old new → gives old.device ≡ None → gives new.device ≡ None
stays_unknown {D} gives count moment changes After old new saw sees takes none = by (gives new.device) refl
  where
    by : (o : Option (List (List ℕ))) → gives new.device ≡ o → o ≡ None
    by None is = refl
    by (Some now) is =
        let known = known_by (gives new.device) (changes new.device).disk now is sees in
        let before = takes.known known.0 known.1 in
        let given = given_by (gives old.device) (changes old.device).disk before.0 before.1 saw in
        absurd (no_given given.0 (sym none ∙ given.1))
      where
        no_given : (x : List (List ℕ)) → None ≡ Some x → ⊥
        no_given x same = absurd cc

-- ---- the present body

-- of a body that is kept, by the windows
module _ (f g : StoreFacts) (w v : StoreWindow) (disk now : List (List ℕ)) (b : Block) (old : IsShown w b (present_on disk f b)) (new : IsShown v b (present_on now g b)) (same : v.present b ≡ w.present b) (spared : IsSpared f w disk b) (kept : is_some (f.body b) ≡ true) where
  untorn : (v.present b).torn ≡ false
  untorn = false_from_ne_true (v.present b).torn (λ torn. true≢false (sym (spared.shown (ap (λ (x : Body). x.torn) (sym same) ∙ torn)) ∙ spared.whole kept))

  whole_now : (present_on now g b).torn ≡ false
  whole_now = false_from_ne_true (present_on now g b).torn (λ torn. true≢false (sym (new.torn torn) ∙ untorn))

  kept_body : KeepsBody (present_on disk f b) (present_on now g b)
  kept_body = record {
    bytes = new.bytes ∙ ap (λ (x : Body). x.bytes) same ∙ sym old.bytes;
    torn = λ torn. absurd (true≢false (sym torn ∙ whole_now));
  }

  kept_shown : (v.present b).torn ≡ true → (present_on now g b).torn ≡ true
  kept_shown torn = absurd (true≢false (sym torn ∙ untorn))

-- of a block that was spared
record Behind (f g : StoreFacts) (v : StoreWindow) (disk now : List (List ℕ)) (b : Block) : Type 0 where
  body : KeepsBody (present_on disk f b) (present_on now g b)
  whole : is_some (g.body b) ≡ true → (present_on now g b).torn ≡ false
  shown : (v.present b).torn ≡ true → (present_on now g b).torn ≡ true

module _ {D : Type 0} (gives : D → Option (List (List ℕ))) (count moment : D → ℕ) (changes : D → Changes) (step : StoreStep) (result : Result (Unit {0}) Failed) (old new : Seen D) (w v : StoreWindow) (disk now : List (List ℕ)) (k : IsStore (facts_of old.state)) (saw : SeesDisk (gives old.device) (changes old.device).disk) (sees : SeesDisk (gives new.device) (changes new.device).disk)
    (was : gives old.device ≡ Some disk) (is : gives new.device ≡ Some now) (has : HasWindow (changes old.device) (facts_of old.state) w) (gets : HasWindow (changes new.device) (facts_of new.state) v) (may : MayTurn (facts_of old.state) step) (turned : HasTurned step result (facts_of old.state) (facts_of new.state))
    (sent : TurnsDevice gives changes moment step result (facts_of old.state) (facts_of new.state) old.words new.words old.device new.device) (takes : TakesStep count moment changes (AfterTurn step result (facts_of old.state)) old new) (after : AfterTurn step result (facts_of old.state) w v) (b : Block)
    (spared : IsSpared (facts_of old.state) w disk b) where
  abbrev f : StoreFacts
  f = facts_of old.state

  abbrev g : StoreFacts
  g = facts_of new.state

  down : Falls f g
  down = falls step result f g turned

  same : v.present b ≡ w.present b
  same = shows_same step result f w v b after may spared.alive spared.alone

  old_shown : is_some (f.body b) ≡ true → IsShown w b (present_on disk f b)
  old_shown kept = subst (λ (o : Option (List (List ℕ))). IfSome o (λ d. IsShown w b (present_on d f b))) was (present_shown (changes old.device) f w (gives old.device) has saw b (has.3.marks.known b kept))

  new_known : is_some (f.body b) ≡ true → is_known (own_of g) b ≡ true
  new_known kept = ap₂ (λ (p : LogPlace) (l : List Block). is_known (is_own p l) b) takes.place takes.found ∙ has.3.marks.known b kept

  new_shown : is_some (f.body b) ≡ true → IsShown v b (present_on now g b)
  new_shown kept = subst (λ (o : Option (List (List ℕ))). IfSome o (λ d. IsShown v b (present_on d g b))) is (present_shown (changes new.device) g v (gives new.device) gets sees b (new_known kept))

  -- of one that isn't kept, by the device
  unkept : f.body b ≡ None → present_on now g b ≡ present_on disk f b
  unkept none =
      ap (λ (o : Option Body). unwrap_or o (content_of (sector_of now) b)) (down.body b none)
      ∙ body_stays gives changes moment f g old.words new.words old.device new.device disk now b has.0 has.2 k has.3 was is spared.known spared.alone none step result may sent
      ∙ ap (λ (o : Option Body). unwrap_or o (content_of (sector_of disk) b)) (sym none)

  behind : Behind f g v disk now b
  behind = by (f.body b) refl
    where
      by : (o : Option Body) → f.body b ≡ o → Behind f g v disk now b
      by (Some x) at =
          let kept : is_some (f.body b) ≡ true = ap (λ (o : Option Body). is_some o) at in record {
            body = kept_body f g w v disk now b (old_shown kept) (new_shown kept) same spared kept;
            whole = λ some. whole_now f g w v disk now b (old_shown kept) (new_shown kept) same spared kept;
            shown = kept_shown f g w v disk now b (old_shown kept) (new_shown kept) same spared kept;
          }
      by None at =
          let stays = unkept at in record {
            body = record { bytes = ap (λ (x : Body). x.bytes) stays; torn = λ torn. ap (λ (x : Body). x.torn) (sym stays) ∙ torn };
            whole = λ some. absurd (true≢false (sym some ∙ ap (λ (o : Option Body). is_some o) (down.body b at)));
            shown = λ torn. ap (λ (x : Body). x.torn) stays ∙ spared.shown (ap (λ (x : Body). x.torn) (sym same) ∙ torn);
          }

  spared_still : IsSpared g v now b
  spared_still = record {
    known = ap (λ (p : LogPlace). is_known (is_own p []) b) takes.place ∙ spared.known;
    alive = down.dead b spared.alive;
    alone = λ c rivals. down.dirty c (spared.alone c rivals);
    whole = behind.whole;
    shown = behind.shown;
  }

  body_kept : KeepsBody (present_on disk f b) (present_on now g b)
  body_kept = behind.body

pub turn_spares : {D : Type 0} (gives : D → Option (List (List ℕ))) (count moment : D → ℕ) (changes : D → Changes) (step : StoreStep) (result : Result (Unit {0}) Failed) (old new : Seen D) (w : StoreWindow) (disk : List (List ℕ)) → IsStore (facts_of old.state) → SeesDisk (gives old.device) (changes old.device).disk
    → SeesDisk (gives new.device) (changes new.device).disk → gives old.device ≡ Some disk → HasWindow (changes old.device) (facts_of old.state) w → MayTurn (facts_of old.state) step → HasTurned step result (facts_of old.state) (facts_of new.state)
    → TurnsDevice gives changes moment step result (facts_of old.state) (facts_of new.state) old.words new.words old.device new.device → TakesStep count moment changes (AfterTurn step result (facts_of old.state)) old new → StepSpares gives changes (AfterTurn step result (facts_of old.state)) w disk old new
turn_spares {D} gives count moment changes step result old new w disk k saw sees was has may turned sent takes =
    let next = takes.steps w has in
    let given = given_by (gives new.device) (changes new.device).disk next.1.0 next.1.1 sees in
    record {
      window = next.0;
      has = next.1;
      follows = next.2;
      now = given.0;
      given = given.1;
      spared = λ b spared. spared_still gives count moment changes step result old new w next.0 disk given.0 k saw sees was given.1 has next.1 may turned sent takes next.2 b spared;
      bodies = λ b spared. body_kept gives count moment changes step result old new w next.0 disk given.0 k saw sees was given.1 has next.1 may turned sent takes next.2 b spared;
    }
