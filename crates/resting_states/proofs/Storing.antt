-- What is always so of a store stays so behind changes that were put, or weren't, and behind each step.
use Rattle.std.proofs.Common.{◌≡◌, subst, ℕ, ◌-◌, Bool, true, false, cond, List, [], ◌∷◌, length, Option, Some, None, Result, Ok, Err, refl, sym, ap, ◌∙◌, inl, inr, arith}
use Rattle.std.specs.Prelude.{suc, IfSome, is_some, is_ok, unwrap_or, slice_set}
use Rattle.std.specs.List.{AllByRecursion}
use Rattle.std.proofs.Math.ListN.{length-set}
use Rattle.std.proofs.lemmas.Bool.{and_parts}
use Rattle.host_base.specs.declared.outside.Failed.{Failed}
use Rattle.disk_model.specs.declared.block.Block.{Block}
use Rattle.disk_model.specs.declared.block.Body.{Body}
use Rattle.disk_model.specs.declared.block.Change.{Change}
use Rattle.disk_model.specs.Bytes.{written}
use Rattle.disk_model.specs.Sectors.{sector_of, same_block, are_rivals}
use Rattle.disk_model.specs.Content.{HasSizes, content_of}
use Rattle.disk_model.proofs.Frames.{length-written, same_block-is}
use Rattle.log_model.specs.declared.entry.Act.{Act}
use Rattle.log_model.specs.declared.entry.Act.TheVariants.{Commit}
use Rattle.log_model.specs.Logs.{is_in_grid}
use Rattle.member_states.specs.log_area.declared.restart.SentRestart.{SentRestart}
use Rattle.member_states.specs.log_area.Areas.{LogAreaOf, ring_size, place_at, appended, sealed_area, named_area}
use Rattle.store_model.specs.Volumes.{is_free}
use Rattle.store_model.proofs.Told.{true≢false, rivals_both}
use Rattle.flush_policy.specs.declared.facts.StoreStep.{StoreStep}
use Rattle.flush_policy.specs.declared.facts.StoreStep.TheVariants.{SealPage, WritePage, SyncDevice, WriteOut, BeginCheckpoint, WriteRestart}
use Rattle.member_states.specs.device_blocks.declared.word.CheckWord.{CheckWord}
use Rattle.member_states.specs.device_blocks.declared.word.CheckWord.TheVariants.{Unread, Missing, Stands, Sent}
use Rattle.member_states.specs.txn_model.Values.{StoreFacts, own_of}
use Rattle.member_states.specs.txn_model.Pieces.{next_entry, log_with, ends_with}
use Rattle.member_states.specs.txn_model.Calls.{begun_facts, body_before, change_acts, changed_facts, committed_facts, written_facts, front_lsn, is_ready}
use Rattle.member_states.specs.txn_state.States.{KeepsNumbers, HasSize, IsStore}
use Rattle.member_states.proofs.txn_state.Changes.{changed_blocks}
use Rattle.member_states.proofs.txn_state.OnLog.{GoesOn, log_goes_on, seal_goes_on, on_log_goes_on, on_log_stays, numbers_begin}
use Rattle.member_states.proofs.txn_state.Stores.{committed_keeps, given_up_keeps, noted_keeps, synced_keeps, ready_parts, written_out_keeps, sent_out_keeps, again_keeps}
use Rattle.found_stays.specs.txn_core.Calls.{is_spelled, out_facts}
use Rattle.found_stays.specs.txn_core.Changes.{IsPresent}
use Rattle.found_stays.specs.txn_core.Steps.{MayTurn, HasTurned}
use Rattle.member_states.specs.state_store.Changes.{MayLog, AreBeside, AreApart}
use Rattle.member_states.specs.state_store.Rooms.{MayNumber}
use Rattle.member_states.specs.state_store.Logging.{ChangedBy, StoppedBy}
use Rattle.member_states.specs.state_store.declared.fault.PutFault.{PutFault}
use Rattle.member_states.specs.state_store.Puts.{PutsFacts}
use Rattle.member_states.proofs.state_store.Lists.{each_weaker, each_both}

-- ---- one change

none_before : (o : Option Body) → is_some o ≡ false → o ≡ None
none_before (Some x) is = absurd (true≢false is)
none_before None is = refl

ends_stay : (log : LogAreaOf) (tx last commits : ℕ) (ends : List ℕ) (acts : List Act) → length (ends_with log tx last commits ends acts) ≡ length ends
ends_stay log tx last commits ends [] = refl
ends_stay log tx last commits ends (act ∷ acts) =
    let e = next_entry log tx last act in
    let more = appended e log in
    ends_stay more tx e.lsn commits (slice_set ends (place_at more more.sealed) commits) acts ∙ length-set ends (place_at more more.sealed) commits

ends_counted : (log : LogAreaOf) (tx last commits : ℕ) (ends : List ℕ) (acts : List Act) → length ends ≡ ring_size log → length (ends_with log tx last commits ends acts) ≡ ring_size (log_with log tx last acts)
ends_counted log tx last commits ends acts counted = ends_stay log tx last commits ends acts ∙ counted ∙ sym (ap (λ (n : ℕ). n - 4) (log_goes_on log tx last acts).pages_stay)

-- what the open transaction changed is no rival of these blocks
abbrev AreAlone : StoreFacts → List Change → Type 0
AreAlone f xs = AllByRecursion (λ (y : Change). (b : Block) → are_rivals y.block b ≡ true → f.before b ≡ None) xs

module _ (f : StoreFacts) (x : Change) (p : Body) where
  abbrev next : StoreFacts
  next = changed_facts x.block x.offset x.new p f

  store_next : IsStore f → MayLog f x → HasSize x.block p → ((b : Block) → are_rivals x.block b ≡ true → f.before b ≡ None) → IsStore next
  store_next k may size alone =
      let acts = change_acts f x.block x.offset x.new p in
      let log = log_with f.log f.tx f.last acts in
      let grid : is_in_grid x.block ≡ true = (and_parts (is_in_grid x.block) (is_free (own_of f) x.block) may.known).0 in
      record {
        blocks = changed_blocks f.place.device f.body f.mark f.before k.blocks x.block (suc log.sealed) (record { bytes = written x.offset x.new p.bytes; torn = false }) p grid may.inside (length-written x.offset x.new p.bytes ∙ size) size alone;
        on_log = on_log_goes_on f.place f.log log f.ends (ends_with f.log f.tx f.last f.commits f.ends acts) f.noted k.on_log (log_goes_on f.log f.tx f.last acts) (ends_counted f.log f.tx f.last f.commits f.ends acts k.on_log.counted);
        numbers = k.numbers;
      }

  other_block : (y : Change) (b : Block) → AreBeside x.block y.block → are_rivals y.block b ≡ true → same_block b x.block ≡ false
  other_block y b beside rival = by (same_block b x.block) refl
    where
      by : (t : Bool) → same_block b x.block ≡ t → t ≡ false
      by true is = absurd (true≢false (sym (rivals_both x.block y.block ∙ ap (are_rivals y.block) (sym (same_block-is b x.block is)) ∙ rival) ∙ beside.no_rival))
      by false is = refl

  alone_next : (xs : List Change) → AllByRecursion (λ y. AreBeside x.block y.block) xs → AreAlone f xs → AreAlone next xs
  alone_next xs beside alone =
      each_both (λ (y : Change). AreBeside x.block y.block) (λ (y : Change). (b : Block) → are_rivals y.block b ≡ true → f.before b ≡ None) (λ (y : Change). (b : Block) → are_rivals y.block b ≡ true → next.before b ≡ None)
      (λ y apart none b rival. ap (λ (t : Bool). cond t (Some (body_before f x.block p)) (f.before b)) (other_block y b apart rival) ∙ none b rival) xs beside alone

  each_next : (xs : List Change) → AllByRecursion (MayLog f) xs → AllByRecursion (MayLog next) xs
  each_next xs each = each_weaker (MayLog f) (MayLog next) (λ y is. record { known = is.known; volume = is.volume; inside = is.inside; some = is.some; fits = is.fits }) xs each

-- ---- changes in a transaction

module _ (disk : List (List ℕ)) (sized : HasSizes (content_of (sector_of disk))) where
  present_size : (f : StoreFacts) (b : Block) (p : Body) → IsStore f → IsPresent (Some disk) f b p → HasSize b p
  present_size f b p k present = subst (HasSize b) present (by (f.body b) (k.blocks.sized b))
    where
      by : (o : Option Body) → IfSome o (HasSize b) → HasSize b (unwrap_or o (content_of (sector_of disk) b))
      by (Some x) size = size
      by None size = sized b

  changed_store : (xs : List Change) (f g : StoreFacts) → IsStore f → AllByRecursion (MayLog f) xs → AreApart xs → AreAlone f xs → ChangedBy (Some disk) xs f g → IsStore g × (g.is_open ≡ f.is_open)
  changed_store [] f g k each apart alone is = (subst IsStore (sym is) k, ap (λ (h : StoreFacts). h.is_open) is)
  changed_store (x ∷ xs) f g k each apart alone is =
      changed_store xs (next f x is.0) g (store_next f x is.0 k each.0 (present_size f x.block is.0 k is.1) alone.0) (each_next f x is.0 xs each.1) apart.1 (alone_next f x is.0 xs apart.0 alone.1) is.2

  stopped_store : (xs : List Change) (f g : StoreFacts) → IsStore f → f.is_open ≡ true → AllByRecursion (MayLog f) xs → AreApart xs → AreAlone f xs → StoppedBy (Some disk) xs f g → IsStore g
  stopped_store [] f g k opened each apart alone is = subst IsStore (sym is) (given_up_keeps f k opened)
  stopped_store (x ∷ xs) f g k opened each apart alone (inl is) = subst IsStore (sym is) (given_up_keeps f k opened)
  stopped_store (x ∷ xs) f g k opened each apart alone (inr is) =
      stopped_store xs (next f x is.0) g (store_next f x is.0 k each.0 (present_size f x.block is.0 k is.1) alone.0) opened (each_next f x is.0 xs each.1) apart.1 (alone_next f x is.0 xs apart.0 alone.1) is.2

  -- ---- a whole transaction

  module _ (xs : List Change) (f g : StoreFacts) (k : IsStore f) (closed : f.is_open ≡ false) (number : MayNumber f) (each : AllByRecursion (MayLog f) xs) (apart : AreApart xs) (shut : (b : Block) → is_some (f.before b) ≡ false) where
    begun : IsStore (begun_facts f)
    begun = record { blocks = k.blocks; on_log = k.on_log; numbers = numbers_begin f.tx f.commits number.number (subst (λ (t : Bool). KeepsNumbers t f.tx f.commits) closed k.numbers) }

    all_alone : (ys : List Change) → AreAlone (begun_facts f) ys
    all_alone [] = tt
    all_alone (y ∷ ys) = (λ b rival. none_before (f.before b) (shut b), all_alone ys)

    each_begun : AllByRecursion (MayLog (begun_facts f)) xs
    each_begun = each_weaker (MayLog f) (MayLog (begun_facts f)) (λ y is. record { known = is.known; volume = is.volume; inside = is.inside; some = is.some; fits = is.fits }) xs each

    committed_store : ((h : StoreFacts) × ChangedBy (Some disk) xs (begun_facts f) h × (g ≡ committed_facts h)) → IsStore g
    committed_store done =
        let h = done.0 in
        let more = changed_store xs (begun_facts f) h begun each_begun apart (all_alone xs) done.1 in
        subst IsStore (sym done.2) (committed_keeps h more.0 more.1 (ends_counted h.log h.tx h.last (suc h.commits) h.ends (Commit ∷ []) more.0.on_log.counted))

    left_store : StoppedBy (Some disk) xs (begun_facts f) g → IsStore g
    left_store done = stopped_store xs (begun_facts f) g begun refl each_begun apart (all_alone xs) done

  pub put_store : (result : Result (Unit {0}) PutFault) (xs : List Change) (f g : StoreFacts) → IsStore f → f.is_open ≡ false → MayNumber f → AllByRecursion (MayLog f) xs → AreApart xs → ((b : Block) → is_some (f.before b) ≡ false) → PutsFacts result xs (Some disk) f g → IsStore g
  put_store (Ok tt) [] f g k closed number each apart shut is = subst IsStore (sym is) k
  put_store (Ok tt) (x ∷ xs) f g k closed number each apart shut is = committed_store (x ∷ xs) f g k closed number each apart shut is
  put_store (Err failure) xs f g k closed number each apart shut (inl is) = subst IsStore (sym is) k
  put_store (Err failure) xs f g k closed number each apart shut (inr is) = left_store xs f g k closed number each apart shut is

-- ---- steps

log_store : (f : StoreFacts) (log : LogAreaOf) → IsStore f → GoesOn f.log log → IsStore (record f { log = log })
log_store f log k on = record { blocks = k.blocks; on_log = on_log_stays f.place f.log log f.ends f.noted k.on_log on; numbers = k.numbers }

checked_store : (f : StoreFacts) (check : Option ℕ) → IsStore f → IsStore (record f { log = record f.log { check = check } })
checked_store f check k = log_store f (record f.log { check = check }) k (record { pages_stay = refl; sectors_stay = refl; rises = omega arith })

sent_store : (f : StoreFacts) (sent : Option SentRestart) → IsStore f → IsStore (record f { log = record f.log { sent = sent } })
sent_store f sent k = log_store f (record f.log { sent = sent }) k (record { pages_stay = refl; sectors_stay = refl; rises = omega arith })

written_store : (f : StoreFacts) → IsStore f → IsStore (written_facts f)
written_store f k = log_store f (written_facts f).log k (record { pages_stay = refl; sectors_stay = refl; rises = omega arith })

named_store : (f : StoreFacts) (lsn : ℕ) → IsStore f → IsStore (record f { log = named_area lsn f.log })
named_store f lsn k = log_store f (named_area lsn f.log) k (record { pages_stay = refl; sectors_stay = refl; rises = omega arith })

out_store : (spelled ok : Bool) (now : CheckWord) (b : Block) (f : StoreFacts) → IsStore f → is_ready f b ≡ true → IsStore (out_facts spelled ok now b f)
out_store true true now b f k ready = written_out_keeps f b k ready
out_store true false (Sent check) b f k ready = sent_out_keeps f b k ready
out_store true false Unread b f k ready = k
out_store true false Missing b f k ready = k
out_store true false (Stands check) b f k ready = k
out_store false true now b f k ready = (let parts = ready_parts f b ready in again_keeps f b k parts.0 (none_before (f.before b) parts.1))
out_store false false now b f k ready = k

pub turned_store : (step : StoreStep) (result : Result (Unit {0}) Failed) (f g : StoreFacts) → IsStore f → MayTurn f step → HasTurned step result f g → IsStore g
turned_store SealPage result f g k may turned = subst IsStore (sym turned.1) (log_store f (sealed_area f.log) k (seal_goes_on f.log))
turned_store WritePage (Ok x) f g k may turned = subst IsStore (sym turned) (written_store f k)
turned_store WritePage (Err e) f g k may turned = subst IsStore (sym turned) (checked_store f g.log.check k)
turned_store SyncDevice (Ok x) f g k may turned = subst IsStore (sym turned) (synced_keeps f k)
turned_store SyncDevice (Err e) f g k may turned = subst IsStore (sym turned) k
turned_store (WriteOut b) result f g k may turned = subst IsStore (sym turned.1) (out_store (is_spelled f b) (is_ok result) turned.0 b f k may)
turned_store BeginCheckpoint result f g k may turned = subst IsStore (sym turned.1) (noted_keeps f k)
turned_store WriteRestart (Ok x) f g k may turned = subst IsStore (sym turned) (named_store f (front_lsn f.log (unwrap_or f.noted 0)) k)
turned_store WriteRestart (Err e) f g k may turned = subst IsStore (sym turned) (sent_store f g.log.sent k)
