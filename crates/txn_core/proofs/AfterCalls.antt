-- What is always so, and what a store tells, after calls that have several outcomes.
use Rattle.std.proofs.Common.{◌≡◌, subst, ℕ, ◌<◌, Bool, true, false, List, Option, Result, Ok, Err, refl, sym, Some}
use Rattle.std.specs.Prelude.{IfOk, is_ok, is_some, unwrap_or}
use Rattle.host_base.specs.declared.outside.Failed.{Failed}
use Rattle.device_blocks.specs.disk_model.declared.block.Block.{Block}
use Rattle.txn_laws.specs.log_model.Logs.{is_in_grid}
use Rattle.device_blocks.specs.log_area.declared.restart.SentRestart.{SentRestart}
use Rattle.device_blocks.specs.log_area.Areas.{number_of, IsOldest}
use Rattle.txn_laws.specs.block_view.declared.fault.ViewFault.{ViewFault}
use Rattle.txn_core.specs.declared.fault.ChangeFault.{ChangeFault}
use Rattle.device_blocks.specs.declared.word.CheckWord.{CheckWord}
use Rattle.device_blocks.specs.declared.word.CheckWord.TheVariants.{Unread, Missing, Stands, Sent}
use Rattle.txn_state.specs.store_pools.Pools.{body_of_kept}
use Rattle.txn_laws.specs.txn_model.Values.{StoreFacts}
use Rattle.txn_laws.specs.txn_model.Calls.{change_acts, changed_facts, given_up_facts, front_lsn, is_ready}
use Rattle.txn_state.specs.States.{IsStore, HasSize}
use Rattle.txn_core.specs.declared.changing.Present.{Present}
use Rattle.txn_core.specs.declared.telling.Telling.{Telling}
use Rattle.txn_core.specs.Calls.{page_facts, sync_facts, out_facts}
use Rattle.txn_core.specs.Changes.{MayChangeNow, IsDone}
use Rattle.txn_core.specs.Kept.{IsKept}
use Rattle.txn_core.specs.Tells.{TellsLeft, IsLowest, StaysLowest, TellsFront, IsTold}
use Rattle.txn_core.specs.Turns.{restart_facts}
use Rattle.txn_core.proofs.KeptLogs.{log_appends}
use Rattle.txn_core.proofs.Kepts.{changed_kept, given_up_kept, written_kept, checked_kept, sent_kept, named_kept, synced_kept, written_out_kept, sent_out_kept, again_kept}
use Rattle.txn_core.proofs.Tellings.{changed_told, given_up_told, written_told, checked_told, synced_front, synced_told, WroteOut, asked_wrote, written_wrote, sent_wrote, again_wrote}

pub told_at : (f g : StoreFacts) (t : Telling) → f ≡ g → IsTold g t → IsTold f t
told_at f g t same told = subst (λ (h : StoreFacts). IsTold h t) (sym same) told

-- ---- pages and syncs

pub page_kept : (result : Result (Unit {0}) Failed) (check : Option ℕ) (f : StoreFacts) → IsKept f → f.log.done < f.log.sealed → IsKept (page_facts result check f)
page_kept (Ok tt) check f k lt = written_kept f k lt
page_kept (Err e) check f k lt = checked_kept f check k

pub page_told : (result : Result (Unit {0}) Failed) (check : Option ℕ) (f : StoreFacts) (t : Telling) → IsTold f t → IsTold (page_facts result check f) t
page_told (Ok tt) check f t k = written_told f t k
page_told (Err e) check f t k = checked_told f check t k

pub sync_kept : (result : Result (Unit {0}) Failed) (f : StoreFacts) → IsKept f → IsKept (sync_facts result f)
sync_kept (Ok tt) f k = synced_kept f k
sync_kept (Err e) f k = k

pub sync_told : (result : Result (Unit {0}) Failed) (ok : Bool) (f g : StoreFacts) (t now : Telling) → ok ≡ is_ok result → g ≡ sync_facts result f → (ok ≡ true → now.wrote ≡ false) → (ok ≡ true → TellsLeft g.mark now.left) → (ok ≡ true → IsLowest (is_ready g) now.ready)
    → now.front ≡ t.front → (ok ≡ false → now ≡ t) → IsTold f t → IsTold (sync_facts result f) now
sync_told (Ok tt) ok f g t now is facts dry left lowest front failed k =
    synced_told f t now (dry is) (subst (λ (h : StoreFacts). TellsLeft h.mark now.left) facts (left is)) (subst (λ (h : StoreFacts). IsLowest (is_ready h) now.ready) facts (lowest is)) front k
sync_told (Err e) ok f g t now is facts dry left lowest front failed k = subst (λ (x : Telling). IsTold f x) (sym (failed is)) k

pub sync_front : (result : Result (Unit {0}) Failed) (f : StoreFacts) (front : ℕ) → TellsFront f.log f.noted front → TellsFront (sync_facts result f).log (sync_facts result f).noted front
sync_front (Ok tt) f front k = synced_front f front k
sync_front (Err e) f front k = k

-- ---- restart pages

pub restart_kept : (result : Result (Unit {0}) Failed) (sent : Option SentRestart) (f : StoreFacts) → IsKept f → IsOldest f.log (front_lsn f.log (unwrap_or f.noted 0)) → f.noted ≡ Some (number_of f.log (front_lsn f.log (unwrap_or f.noted 0)))
    → IsKept (restart_facts result sent f)
restart_kept (Ok tt) sent f k at is = named_kept f (front_lsn f.log (unwrap_or f.noted 0)) k at is
restart_kept (Err e) sent f k at is = sent_kept f sent k

pub restart_worded : (result : Result (Unit {0}) Failed) (sent : Option SentRestart) (f : StoreFacts) (b : Block) → is_some ((restart_facts result sent f).body b) ≡ true → is_some (f.body b) ≡ true
restart_worded (Ok tt) sent f b is = is
restart_worded (Err e) sent f b is = is

-- ---- changes

pub changing_kept : (gives : Option (List (List ℕ))) (f g : StoreFacts) (c : Block) (at : ℕ) (new : List ℕ) (words left : List (Block × CheckWord)) (asked : Result Present ViewFault) (result : Result (Unit {0}) ChangeFault)
    → IsKept f → IsStore f → MayChangeNow gives f c at new → IfOk asked (λ p. HasSize c (body_of_kept p.body)) → IsDone asked result c at new f g words left → IsKept g
changing_kept gives f g c at new words left (Ok p) (Ok tt) k store may size done = subst IsKept (sym done.0) (changed_kept f c at new (body_of_kept p.body) k store may.opened may.some (may.room (body_of_kept p.body) size))
changing_kept gives f g c at new words left (Ok p) (Err why) k store may size done = subst IsKept (sym done.1) (given_up_kept f k)
changing_kept gives f g c at new words left (Err e) (Err why) k store may size done = subst IsKept (sym done.1) (given_up_kept f k)
changing_kept gives f g c at new words left (Err e) (Ok tt) k store may size done = absurd done

given_up_then : (f g : StoreFacts) (t now : Telling) → g ≡ given_up_facts f → now ≡ record t { ready = now.ready } → IsLowest (is_ready g) now.ready → IsTold f t → IsTold g now
given_up_then f g t now is rest lowest told = told_at g (given_up_facts f) now is (given_up_told f t now rest (subst (λ (h : StoreFacts). IsLowest (is_ready h) now.ready) is lowest) told)

pub changing_told : (gives : Option (List (List ℕ))) (f g : StoreFacts) (c : Block) (at : ℕ) (new : List ℕ) (words left : List (Block × CheckWord)) (asked : Result Present ViewFault) (result : Result (Unit {0}) ChangeFault) (ok : Bool) (t now : Telling)
    → IsKept f → MayChangeNow gives f c at new → IfOk asked (λ p. HasSize c (body_of_kept p.body)) → IsDone asked result c at new f g words left → ok ≡ is_ok result
    → (ok ≡ true → StaysLowest (is_ready g) t.ready now.ready) → (ok ≡ false → IsLowest (is_ready g) now.ready) → now ≡ record t { ready = now.ready } → IsTold f t → IsTold g now
changing_told gives f g c at new words left (Ok p) (Ok tt) ok t now k may size done is fewer lowest rest told =
    let x = body_of_kept p.body in
    told_at g (changed_facts c at new x f) now done.0
    (changed_told f c at new x t now (log_appends f.log f.noted f.tx f.last (change_acts f c at new x) k.order (may.room x size)) rest
    (subst (λ (h : StoreFacts). StaysLowest (is_ready h) t.ready now.ready) done.0 (fewer is)) told)
changing_told gives f g c at new words left (Ok p) (Err why) ok t now k may size done is fewer lowest rest told = given_up_then f g t now done.1 rest (lowest is) told
changing_told gives f g c at new words left (Err e) (Err why) ok t now k may size done is fewer lowest rest told = given_up_then f g t now done.1 rest (lowest is) told
changing_told gives f g c at new words left (Err e) (Ok tt) ok t now k may size done is fewer lowest rest told = absurd done

-- ---- write-outs

pub out_kept : (spells ok : Bool) (now : CheckWord) (b : Block) (f : StoreFacts) → IsKept f → IsKept (out_facts spells ok now b f)
out_kept true true now b f k = written_out_kept f b k
out_kept true false (Sent check) b f k = sent_out_kept f b k
out_kept true false Unread b f k = k
out_kept true false Missing b f k = k
out_kept true false (Stands check) b f k = k
out_kept false true now b f k = again_kept f b k
out_kept false false now b f k = k

pub out_wrote : (spells ok : Bool) (now : CheckWord) (b : Block) (f : StoreFacts) → IsStore f → is_in_grid b ≡ true → WroteOut f (out_facts spells ok now b f) b
out_wrote true true now b f store grid = written_wrote f b store grid
out_wrote true false (Sent check) b f store grid = sent_wrote f b store grid
out_wrote true false Unread b f store grid = asked_wrote f b
out_wrote true false Missing b f store grid = asked_wrote f b
out_wrote true false (Stands check) b f store grid = asked_wrote f b
out_wrote false true now b f store grid = again_wrote f b
out_wrote false false now b f store grid = asked_wrote f b

-- the log and what a checkpoint noted stay
pub out_log : (spells ok : Bool) (now : CheckWord) (b : Block) (f : StoreFacts) → ((out_facts spells ok now b f).log ≡ f.log) × ((out_facts spells ok now b f).noted ≡ f.noted)
out_log true true now b f = (refl, refl)
out_log true false (Sent check) b f = (refl, refl)
out_log true false Unread b f = (refl, refl)
out_log true false Missing b f = (refl, refl)
out_log true false (Stands check) b f = (refl, refl)
out_log false true now b f = (refl, refl)
out_log false false now b f = (refl, refl)
