-- Each call leaves what is always so of a store.
use Rattle.std.proofs.Common.{◌≡◌, ℕ, suc, Bool, true, false, not, List, [], ◌∷◌, length, Option, Some, None, refl, sym, ap, subst, ◌∙◌}
use Rattle.std.specs.Prelude.{◌&&◌, ◌||◌, nat_le, is_some}
use Rattle.txn_log.specs.disk_model.declared.block.Block.{Block}
use Rattle.txn_log.specs.disk_model.declared.block.Body.{Body}
use Rattle.txn_log.specs.disk_model.Bytes.{written}
use Rattle.txn_log.proofs.disk_model.Frames.{length-written}
use Rattle.txn_log.specs.log_model.declared.entry.Act.TheVariants.{Commit}
use Rattle.txn_log.specs.log_model.Logs.{is_in_grid}
use Rattle.txn_log.specs.log_area.Areas.{ring_size, sealed_area, synced_area}
use Rattle.txn_log.specs.txn_model.declared.mark.Mark.{Mark}
use Rattle.txn_log.specs.txn_model.Values.{StoreFacts}
use Rattle.txn_log.specs.txn_model.Pieces.{log_with, ends_with}
use Rattle.txn_log.specs.txn_model.Calls.{change_acts, changed_facts, committed_facts, given_up_facts, noted_facts, synced_facts, is_ready, written_out_facts, sent_out_facts, again_facts}
use Rattle.txn_state.specs.States.{KeepsNumbers, IsStore, MayChange}
use Rattle.txn_state.proofs.Bools.{true≢false}
use Rattle.txn_state.proofs.Blocks.{committed_blocks, given_up_blocks, noted_blocks, synced_blocks, written_out_blocks, sent_out_blocks, again_blocks}
use Rattle.txn_state.proofs.Changes.{changed_blocks}
use Rattle.txn_state.proofs.OnLog.{log_goes_on, seal_goes_on, on_log_goes_on, on_log_notes, on_log_synced, numbers_end, numbers_commit}

pub given_up_keeps : (f : StoreFacts) → IsStore f → f.is_open ≡ true → IsStore (given_up_facts f)
given_up_keeps f i opened = record {
  blocks = given_up_blocks f.place.device f.body f.mark f.before i.blocks;
  on_log = i.on_log;
  numbers = numbers_end f.tx f.commits (subst (λ (t : Bool). KeepsNumbers t f.tx f.commits) opened i.numbers);
}

pub committed_keeps : (f : StoreFacts) → IsStore f → f.is_open ≡ true → length (ends_with f.log f.tx f.last (suc f.commits) f.ends (Commit ∷ [])) ≡ ring_size (log_with f.log f.tx f.last (Commit ∷ [])) → IsStore (committed_facts f)
committed_keeps f i opened counted = record {
  blocks = committed_blocks f.place.device f.body f.mark f.before i.blocks (suc f.commits);
  on_log =
      on_log_goes_on f.place f.log (log_with f.log f.tx f.last (Commit ∷ [])) f.ends (ends_with f.log f.tx f.last (suc f.commits) f.ends (Commit ∷ [])) f.noted i.on_log (log_goes_on f.log f.tx f.last (Commit ∷ [])) counted;
  numbers = numbers_commit f.tx f.commits (subst (λ (t : Bool). KeepsNumbers t f.tx f.commits) opened i.numbers);
}

pub changed_keeps : (f : StoreFacts) (c : Block) (at : ℕ) (new : List ℕ) (present : Body) → IsStore f → MayChange f c at new present
    → length (ends_with f.log f.tx f.last f.commits f.ends (change_acts f c at new present)) ≡ ring_size (log_with f.log f.tx f.last (change_acts f c at new present)) → IsStore (changed_facts c at new present f)
changed_keeps f c at new present i may counted =
    let acts = change_acts f c at new present in
    let log = log_with f.log f.tx f.last acts in
    record {
      blocks =
          changed_blocks f.place.device f.body f.mark f.before i.blocks c (suc log.sealed) (record { bytes = written at new present.bytes; torn = false }) present may.grid may.inside (length-written at new present.bytes ∙ may.sized) may.sized
          may.alone;
      on_log = on_log_goes_on f.place f.log log f.ends (ends_with f.log f.tx f.last f.commits f.ends acts) f.noted i.on_log (log_goes_on f.log f.tx f.last acts) counted;
      numbers = i.numbers;
    }

pub noted_keeps : (f : StoreFacts) → IsStore f → IsStore (noted_facts f)
noted_keeps f i = record {
  blocks = noted_blocks f.place.device f.body f.mark f.before i.blocks;
  on_log = on_log_notes f.place f.log (sealed_area f.log) f.ends f.noted i.on_log (seal_goes_on f.log);
  numbers = i.numbers;
}

pub synced_keeps : (f : StoreFacts) → IsStore f → IsStore (synced_facts f)
synced_keeps f i = record {
  blocks = synced_blocks f.place.device f.body f.mark f.before i.blocks (synced_area f.log).synced;
  on_log = on_log_synced f.place f.log f.ends f.noted (is_some f.log.named) i.on_log;
  numbers = i.numbers;
}

-- ---- write-outs

first_two : (p q r s : Bool) → (p && q && r && s) ≡ true → (p ≡ true) × (q ≡ true)
first_two true true r s e = (refl, refl)
first_two true false r s e = true≢false (sym e)
first_two false q r s e = true≢false (sym e)

not_false : (t : Bool) → not t ≡ true → t ≡ false
not_false true e = true≢false (sym e)
not_false false e = refl

-- a block that is ready is dirty, and the transaction didn't change it
pub ready_parts : (f : StoreFacts) (b : Block) → is_ready f b ≡ true → ((f.mark b).dirty ≡ true) × (is_some (f.before b) ≡ false)
ready_parts f b e =
    let two = first_two (f.mark b).dirty (not (is_some (f.before b))) (nat_le (f.mark b).commit f.durable) (nat_le (f.mark b).until f.log.synced) e in
    (two.0, not_false (is_some (f.before b)) two.1)

-- a block that is dirty is in the grid
pub dirty_grid : (f : StoreFacts) (b : Block) → IsStore f → (f.mark b).dirty ≡ true → is_in_grid b ≡ true
dirty_grid f b i dirty = by_grid (is_in_grid b) (λ off. sym dirty ∙ ap (λ (m : Mark). m.dirty) (i.blocks.marked b off))
  where
    by_grid : (t : Bool) → (t ≡ false → true ≡ false) → t ≡ true
    by_grid true never = refl
    by_grid false never = true≢false (never refl)

abbrev either : Mark → Bool
either m = m.dirty || m.dead

-- a block that isn't in the grid has no body
pub none_off : (f : StoreFacts) → IsStore f → (c : Block) → is_in_grid c ≡ false → f.body c ≡ None
none_off f i c off = by_body (f.body c) (i.blocks.kept c ∙ ap either (i.blocks.marked c off))
  where
    by_body : (o : Option Body) → is_some o ≡ false → o ≡ None
    by_body (Some x) e = true≢false e
    by_body None e = refl

pub written_out_keeps : (f : StoreFacts) (b : Block) → IsStore f → is_ready f b ≡ true → IsStore (written_out_facts b f)
written_out_keeps f b i ready =
    let parts = ready_parts f b ready in
    record { blocks = written_out_blocks f.place.device f.body f.mark f.before i.blocks b parts.0 parts.1; on_log = i.on_log; numbers = i.numbers }

pub sent_out_keeps : (f : StoreFacts) (b : Block) → IsStore f → is_ready f b ≡ true → IsStore (sent_out_facts b f)
sent_out_keeps f b i ready =
    let parts = ready_parts f b ready in
    record { blocks = sent_out_blocks f.place.device f.body f.mark f.before i.blocks b parts.0 parts.1; on_log = i.on_log; numbers = i.numbers }

pub again_keeps : (f : StoreFacts) (b : Block) → IsStore f → (f.mark b).dirty ≡ true → f.before b ≡ None → IsStore (again_facts b f)
again_keeps f b i dirty free = record {
  blocks = again_blocks f.place.device f.body f.mark f.before i.blocks b dirty (ap (λ (o : Option Body). is_some o) free);
  on_log = i.on_log;
  numbers = i.numbers;
}
