-- What each call leaves of a store that runs.
use Rattle.std.proofs.Common.{◌≡◌, subst, ℕ, ◌+◌, ◌*◌, ◌^◌, ◌<◌, ◌≤◌, Bool, true, false, cond, List, [], ◌∷◌, length, Option, Some, None, Result, Ok, Err, refl, sym, ap, ◌∙◌, arith}
use Rattle.std.specs.Prelude.{IfSome, is_ok}
use Rattle.host_base.specs.declared.outside.Failed.{Failed}
use Rattle.disk_model.specs.declared.block.Block.{Block}
use Rattle.disk_model.specs.declared.block.Body.{Body}
use Rattle.disk_model.specs.Bytes.{written}
use Rattle.disk_model.specs.Sectors.{sectors, same_block}
use Rattle.disk_model.proofs.Frames.{length-written}
use Rattle.flush_policy.specs.declared.facts.StoreStep.{StoreStep}
use Rattle.flush_policy.specs.declared.facts.StoreStep.TheVariants.{SealPage, WritePage, SyncDevice, WriteOut, BeginCheckpoint, WriteRestart}
use Rattle.log_model.specs.declared.entry.Act.{Act}
use Rattle.log_model.specs.declared.entry.Act.TheVariants.{Commit}
use Rattle.log_model.specs.Logs.{is_in_grid}
use Rattle.log_area.specs.declared.restart.SentRestart.{SentRestart}
use Rattle.log_area.specs.Areas.{LogAreaOf, is_filling, appended}
use Rattle.store_model.specs.Volumes.{is_free}
use Rattle.txn_core.specs.device_blocks.declared.word.CheckWord.{CheckWord}
use Rattle.txn_core.specs.device_blocks.declared.word.CheckWord.TheVariants.{Unread, Missing, Stands, Sent}
use Rattle.txn_core.specs.txn_model.Values.{StoreFacts, own_of}
use Rattle.txn_core.specs.txn_model.Pieces.{next_entry, log_with}
use Rattle.txn_core.specs.txn_model.Calls.{begun_facts, committed_facts, given_up_facts, sealed_facts, noted_facts, body_before, changed_facts, change_acts}
use Rattle.txn_core.specs.txn_state.States.{HasSize, IsStore}
use Rattle.txn_core.proofs.txn_laws.Syncs.{and_left}
use Rattle.txn_core.specs.txn_log.Laws.{IsLogged, PagesAreEnough}
use Rattle.txn_core.proofs.txn_log.Sharing.{same_self}
use Rattle.txn_core.specs.declared.fault.ChangeFault.{ChangeFault}
use Rattle.txn_core.specs.Calls.{page_facts, sync_facts, out_facts, is_spelled}
use Rattle.txn_core.specs.Changes.{HasChanged}
use Rattle.txn_core.specs.Steps.{HasTurned}
use Rattle.txn_core.specs.Turns.{restart_facts}
use Rattle.store_images.specs.Running.{IsRunning, MayMake, change_of}

-- where the last entry and the open count stay
pub running_same : (turns : ℕ) (f g : StoreFacts) → g.log.opens ≡ f.log.opens → g.last ≡ f.last → IsRunning turns f → IsRunning turns g
running_same turns f g opens last r = record {
  small = subst (λ (n : ℕ). n < 2 ^ 64) (sym last) r.small;
  opens = subst (λ (n : ℕ). n ≤ 2 + turns) (sym opens) r.opens;
}

pub running_longer : (turns : ℕ) (f : StoreFacts) → IsRunning turns f → IsRunning (turns + 1) f
running_longer turns f r = let opens = r.opens in record { small = r.small; opens = omega (arith, opens) }

pub running_begun : (turns : ℕ) (f g : StoreFacts) → g ≡ begun_facts f → IsRunning turns f → IsRunning turns g
running_begun turns f g is r = subst (λ (h : StoreFacts). IsRunning turns h) (sym is) (record { small = omega arith; opens = r.opens })

pub running_given_up : (turns : ℕ) (f g : StoreFacts) → g ≡ given_up_facts f → IsRunning turns f → IsRunning turns g
running_given_up turns f g is r = subst (λ (h : StoreFacts). IsRunning turns h) (sym is) (record { small = omega arith; opens = r.opens })

-- ---- steps

sealed_opens : (log : LogAreaOf) (t : Bool) → (cond t (record log { free = 0x40; sealed = log.sealed + 1 }) log).opens ≡ log.opens
sealed_opens log true = refl
sealed_opens log false = refl

pub running_sealed : (turns : ℕ) (f g : StoreFacts) → g ≡ sealed_facts f → IsRunning turns f → IsRunning turns g
running_sealed turns f g is r =
    subst (λ (h : StoreFacts). IsRunning turns h) (sym is) (running_same turns f (sealed_facts f) (sealed_opens f.log (is_filling f.log)) refl r)

pub running_noted : (turns : ℕ) (f g : StoreFacts) → g ≡ noted_facts f → IsRunning turns f → IsRunning turns g
running_noted turns f g is r =
    subst (λ (h : StoreFacts). IsRunning turns h) (sym is) (running_same turns f (noted_facts f) (sealed_opens f.log (is_filling f.log)) refl r)

page_running : (turns : ℕ) (result : Result (Unit {0}) Failed) (check : Option ℕ) (f : StoreFacts) → IsRunning turns f → IsRunning turns (page_facts result check f)
page_running turns (Ok x) check f r = record { small = r.small; opens = r.opens }
page_running turns (Err e) check f r = record { small = r.small; opens = r.opens }

pub running_page : (turns : ℕ) (result : Result (Unit {0}) Failed) (check : Option ℕ) (f g : StoreFacts) → g ≡ page_facts result check f → IsRunning turns f → IsRunning turns g
running_page turns result check f g is r = subst (λ (h : StoreFacts). IsRunning turns h) (sym is) (page_running turns result check f r)

sync_running : (turns : ℕ) (result : Result (Unit {0}) Failed) (f : StoreFacts) → IsRunning turns f → IsRunning turns (sync_facts result f)
sync_running turns (Ok x) f r = record { small = r.small; opens = r.opens }
sync_running turns (Err e) f r = r

pub running_synced : (turns : ℕ) (result : Result (Unit {0}) Failed) (f g : StoreFacts) → g ≡ sync_facts result f → IsRunning turns f → IsRunning turns g
running_synced turns result f g is r = subst (λ (h : StoreFacts). IsRunning turns h) (sym is) (sync_running turns result f r)

out_log : (spelled ok : Bool) (now : CheckWord) (b : Block) (f : StoreFacts) → (out_facts spelled ok now b f).log ≡ f.log
out_log true true now b f = refl
out_log true false (Sent check) b f = refl
out_log true false Unread b f = refl
out_log true false Missing b f = refl
out_log true false (Stands check) b f = refl
out_log false true now b f = refl
out_log false false now b f = refl

out_last : (spelled ok : Bool) (now : CheckWord) (b : Block) (f : StoreFacts) → (out_facts spelled ok now b f).last ≡ f.last
out_last true true now b f = refl
out_last true false (Sent check) b f = refl
out_last true false Unread b f = refl
out_last true false Missing b f = refl
out_last true false (Stands check) b f = refl
out_last false true now b f = refl
out_last false false now b f = refl

pub running_out : (turns : ℕ) (spelled ok : Bool) (now : CheckWord) (b : Block) (f g : StoreFacts) → g ≡ out_facts spelled ok now b f → IsRunning turns f → IsRunning turns g
running_out turns spelled ok now b f g is r =
    running_same turns f g (ap (λ (h : StoreFacts). h.log.opens) is ∙ ap (λ (a : LogAreaOf). a.opens) (out_log spelled ok now b f)) (ap (λ (h : StoreFacts). h.last) is ∙ out_last spelled ok now b f) r

-- a restart page raises the open count by one
restart_running : (turns : ℕ) (result : Result (Unit {0}) Failed) (sent : Option SentRestart) (f : StoreFacts) → IsRunning turns f → IsRunning (turns + 1) (restart_facts result sent f)
restart_running turns (Ok x) sent f r = let opens = r.opens in record { small = r.small; opens = omega (arith, opens) }
restart_running turns (Err e) sent f r = let opens = r.opens in record { small = r.small; opens = omega (arith, opens) }

pub running_turned : (turns : ℕ) (step : StoreStep) (result : Result (Unit {0}) Failed) (f g : StoreFacts) → HasTurned step result f g → IsRunning turns f → IsRunning (turns + 1) g
running_turned turns SealPage result f g done r = running_longer turns g (running_sealed turns f g done.1 r)
running_turned turns WritePage result f g done r = running_longer turns g (running_page turns result g.log.check f g done r)
running_turned turns SyncDevice result f g done r = running_longer turns g (running_synced turns result f g done r)
running_turned turns (WriteOut b) result f g done r = running_longer turns g (running_out turns (is_spelled f b) (is_ok result) done.0 b f g done.1 r)
running_turned turns BeginCheckpoint result f g done r = running_longer turns g (running_noted turns f g done.1 r)
running_turned turns WriteRestart result f g done r = subst (λ (h : StoreFacts). IsRunning (turns + 1) h) (sym done) (restart_running turns result g.log.sent f r)

-- ---- commits and changes

log_opens : (log : LogAreaOf) (tx last : ℕ) (acts : List Act) → (log_with log tx last acts).opens ≡ log.opens
log_opens log tx last [] = refl
log_opens log tx last (act ∷ acts) = log_opens (appended (next_entry log tx last act) log) tx (next_entry log tx last act).lsn acts

pub running_committed : (turns : ℕ) (f g : StoreFacts) → g ≡ committed_facts f → IsRunning turns f → IsRunning turns g
running_committed turns f g is r =
    subst (λ (h : StoreFacts). IsRunning turns h) (sym is)
    (record { small = omega arith; opens = subst (λ (n : ℕ). n ≤ 2 + turns) (sym (log_opens f.log f.tx f.last (Commit ∷ []))) r.opens })

own_some : {X : Type 0} (t : Bool) (x : X) (o : Option X) → t ≡ true → cond t (Some x) o ≡ Some x
own_some t x o e = ap (λ (v : Bool). cond v (Some x) o) e

-- the body that was changed has its block's size, and so has the one from before the transaction
sized_body : (f g : StoreFacts) (c : Block) (at : ℕ) (new : List ℕ) (x : Body) → g ≡ changed_facts c at new x f → IsStore g → length x.bytes ≡ 512 * sectors c.kind
sized_body f g c at new x is k =
    let there : g.body c ≡ Some (record { bytes = written at new x.bytes; torn = false }) = ap (λ (h : StoreFacts). h.body c) is ∙ own_some (same_block c c) (record { bytes = written at new x.bytes; torn = false }) (f.body c) (same_self c) in
    sym (length-written at new x.bytes) ∙ subst (λ (o : Option Body). IfSome o (HasSize c)) there (k.blocks.sized c)

sized_before : (f g : StoreFacts) (c : Block) (at : ℕ) (new : List ℕ) (x : Body) → g ≡ changed_facts c at new x f → IsStore g → length (body_before f c x).bytes ≡ 512 * sectors c.kind
sized_before f g c at new x is k =
    let there : g.before c ≡ Some (body_before f c x) = ap (λ (h : StoreFacts). h.before c) is ∙ own_some (same_block c c) (body_before f c x) (f.before c) (same_self c) in
    subst (λ (o : Option Body). IfSome o (HasSize c)) there (k.blocks.sized_before c)

changed_running : (turns : ℕ) (f g : StoreFacts) (c : Block) (at : ℕ) (new : List ℕ) (x : Body) → PagesAreEnough → MayMake f c at new → IsRunning turns f → IsStore g → g ≡ changed_facts c at new x f → IsRunning turns g
changed_running turns f g c at new x enough make r k is =
    let logged : IsLogged (change_of c at new) (body_before f c x).bytes x.bytes = record {
      grid = and_left (is_in_grid c) (is_free (own_of f) c) make.may.known;
      wide = make.near;
      some = make.may.some;
      fits = make.may.fits;
      size_before = sized_before f g c at new x is k;
      size = sized_body f g c at new x is k;
    } in
    let rest = enough.rest f.log (λ b. (f.mark b).imaged) (change_of c at new) [] f.tx f.last (body_before f c x).bytes x.bytes logged make.room in
    subst (λ (h : StoreFacts). IsRunning turns h) (sym is)
    (record {
      small = rest.last_small;
      opens = subst (λ (n : ℕ). n ≤ 2 + turns) (sym (log_opens f.log f.tx f.last (change_acts f c at new x))) r.opens;
    })

pub running_changed : (turns : ℕ) (result : Result (Unit {0}) ChangeFault) (f g : StoreFacts) (c : Block) (at : ℕ) (new : List ℕ) → PagesAreEnough → MayMake f c at new → IsRunning turns f → IsStore g → HasChanged result None f g c at new → IsRunning turns g
running_changed turns (Ok u) f g c at new enough make r k done = changed_running turns f g c at new done.0 enough make r k done.2
running_changed turns (Err e) f g c at new enough make r k done = running_given_up turns f g done r
