-- After a clean end each image stands for the content after all commits.
use Rattle.std.proofs.Common.{◌≡◌, subst, ℕ, ◌+◌, false, List, [], Some, Result, Ok, Err, refl, sym, ap, ◌∙◌, arith}
use Rattle.std.specs.Prelude.{OnOk}
use Rattle.disk_model.specs.declared.block.Block.{Block}
use Rattle.disk_model.specs.declared.block.Body.{Body}
use Rattle.disk_model.specs.Content.{Content}
use Rattle.disk_model.specs.Sectors.{sector_of}
use Rattle.sector_device.specs.Moments.{Changes}
use Rattle.log_model.specs.declared.entry.Entry.{Entry}
use Rattle.log_model.specs.Logs.{is_shadowed}
use Rattle.log_page.specs.declared.restart.Restart.{Restart}
use Rattle.log_page.specs.RecordPages.{Reading}
use Rattle.log_page.specs.LiveLogs.{live_log}
use Rattle.store_model.specs.Geometry.{SectorBytes}
use Rattle.store_model.specs.Volumes.{IsRecovered}
use Rattle.store_claims.specs.Windows.{StoreWindow}
use Rattle.found_stays.specs.ring_laws.PageBytes.{raw_page}
use Rattle.found_stays.specs.txn_model.Values.{StoreFacts, own_of}
use Rattle.found_stays.specs.txn_state.States.{facts_of}
use Rattle.found_stays.specs.txn_laws.Windows.{RecoversWithin}
use Rattle.found_stays.proofs.txn_laws.Telling.{at_return, waits}
use Rattle.found_stays.specs.txn_core.Seen.{Seen}
use Rattle.txn_close.specs.declared.fault.CloseFault.{CloseFault}
use Rattle.txn_close.specs.Rests.{IsAtRest}
use Rattle.txn_close.specs.Passing.{Spares, GoesToEnd}
use Rattle.txn_close.specs.Ends.{IsLeftClean, IsLeftWhole, LeavesClean, LeavesWhole}
use Rattle.txn_close.proofs.Passing.{here}

none_shadowed : (b : Block) → is_shadowed [] b ≡ false
unfolding is_shadowed
none_shadowed b = refl

same_restart : (a b : Restart) → Some a ≡ Some b → a ≡ b
same_restart a b e = cc

as_content : (c e : Content) (list : List Entry) (at : SectorBytes) (b : Block) → c b ≡ e b → IsRecovered list at c b → IsRecovered list at e b
as_content c e list at b same is = record { bytes = is.bytes ∙ ap (λ (x : Body). x.bytes) same; torn = λ t. ap (λ (x : Body). x.torn) (sym same) ∙ is.torn t }

module _ (base f : StoreFacts) (w v : StoreWindow) (image : SectorBytes) (spares : Spares base w v) (none : v.waiting ≡ 0) (within : RecoversWithin f.place (own_of f) v image) (clean : IsLeftClean f.place image) where
  same : within.restart ≡ clean.restart
  same = same_restart within.restart clean.restart (sym within.chosen ∙ clean.chosen)

  no_entries : within.list ≡ []
  no_entries =
      ap (λ (l : Reading). l.entries) (sym within.reads) ∙ ap (λ (q : Restart). (live_log f.place.pages (raw_page f.place image) q.oldest).entries) same ∙ ap (λ (l : Reading). l.entries) clean.empty

  newest : within.back ≡ 0
  newest = let le = within.within in omega (arith, le, none)

  pub is_whole : IsLeftWhole base f w image
  is_whole = record {
    clean = clean;
    newest = λ b spared known.
        as_content (v.before 0) (w.before 0) [] image b (spares.others 0 (omega arith) b spared)
        (subst (λ (k : ℕ). IsRecovered [] image (v.before k) b) newest
        (subst (λ (es : List Entry). IsRecovered es image (v.before within.back) b) no_entries (within.recovers b known (ap (λ (es : List Entry). is_shadowed es b) no_entries ∙ none_shadowed b))));
  }

none_waits : (durable waiting commits : ℕ) → durable + waiting ≡ commits → durable ≡ commits → waiting ≡ 0
none_waits durable waiting commits sum all = omega (arith, sum, all)

pub leaves_whole : {D : Type 0} (count moment : D → ℕ) (changes : D → Changes) (base : StoreFacts) (old last : Seen D) (result : Result (Unit {0}) CloseFault) → GoesToEnd count moment changes base old last → OnOk result (IsAtRest (facts_of last.state))
    → OnOk result (LeavesClean count changes old last.device) → OnOk result (LeavesWhole count changes base old last.device)
leaves_whole count moment changes base old last (Ok tt) goes rests clean = λ w has image left.
    let f = facts_of old.state in
    let g = facts_of last.state in
    let x = goes.passes.steps w has in
    let within = here f g x.0 (sector_of image) goes.passes.place goes.passes.found (at_return (count last.device) (changes last.device) g x.0 image x.1 left) in
    is_whole base f w x.0 (sector_of image) x.2 (none_waits g.durable x.0.waiting g.commits (waits (changes last.device) g x.0 x.1) rests.drained.durable) within (clean w has image left)
leaves_whole count moment changes base old last (Err e) goes rests clean = tt
