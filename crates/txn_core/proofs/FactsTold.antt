-- What a store tells of itself.
use Rattle.std.proofs.Common.{◌≡◌, subst, ◌-◌, Bool, true, false, not, Option, Some, refl, sym, ◌∙◌, arith}
use Rattle.std.specs.Prelude.{◌&&◌, is_some}
use Rattle.device_blocks.specs.disk_model.declared.block.Block.{Block}
use Rattle.device_blocks.specs.log_area.Areas.{is_filling, used_pages, ring_size, next_lsn}
use Rattle.txn_laws.proofs.store_model.Told.{true≢false}
use Rattle.txn_laws.specs.flush_policy.declared.facts.Facts.{Facts}
use Rattle.txn_laws.specs.txn_model.Values.{StoreFacts}
use Rattle.txn_laws.specs.txn_model.Calls.{is_ready}
use Rattle.txn_laws.specs.txn_model.Told.{FactsTold, IsAllSynced, is_fresh}
use Rattle.txn_core.specs.declared.telling.Telling.{Telling}
use Rattle.txn_core.specs.Tells.{IsLowest, IsTold, IsAllDone}

pub facts_told : (f : StoreFacts) (t : Telling) (told : Facts) → IsTold f t → told.filling ≡ is_filling f.log → told.sealed ≡ f.log.sealed - f.log.done → (told.unsynced ≡ false → IsAllDone f.log × (t.wrote ≡ false)) → (IsAllDone f.log → t.wrote ≡ false → told.unsynced ≡ false)
    → told.ready ≡ t.ready → told.begun ≡ (is_some f.noted && not (is_some f.log.named)) → told.fresh ≡ is_fresh f → told.noted_left ≡ t.left → told.pages_used ≡ used_pages f.log → told.pages ≡ ring_size f.log → told.next ≡ next_lsn f.log 0x58
    → FactsTold f told
facts_told f t told k filling sealed done synced ready begun fresh left used pages next = record {
  filling = filling;
  sealed = sealed;
  synced = λ e. let both = done e in record { pages = both.0.pages; unnamed = both.0.unnamed; dry = k.wet.dry both.1 };
  unsynced = λ all. synced (record { pages = all.pages; unnamed = all.unnamed }) (dry all t.wrote refl);
  ready = λ b is. (at b is).1;
  lowest = λ b c is ready_c. (at b is).2 c (omega arith) ready_c;
  none_ready = λ none b. (subst (λ (o : Option Block). IsLowest (is_ready f) o) (sym ready ∙ none) k.ready) b (omega arith);
  begun = begun;
  fresh = fresh;
  left = k.left.blocks;
  are_left = k.left.each;
  noted_left = left ∙ k.left.counted;
  used = used;
  pages = pages;
  next = next;
}
  where
    at : (b : Block) → told.ready ≡ Some b → IsLowest (is_ready f) (Some b)
    at b is = subst (λ (o : Option Block). IsLowest (is_ready f) o) (sym ready ∙ is) k.ready

    dry : IsAllSynced f → (v : Bool) → t.wrote ≡ v → v ≡ false
    dry all true e = let one = k.wet.some e in absurd (true≢false (sym one.1 ∙ all.dry one.0))
    dry all false e = refl
