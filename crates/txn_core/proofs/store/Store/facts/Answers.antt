use Rattle.std.proofs.Common.{◌≡◌, ◌+◌, ◌-◌, ◌≤◌, false, not, ℕ, Option, refl, sym, ap, ap₂, subst, ◌∙◌, arith}
use Rattle.std.specs.Prelude.{◌&&◌, nat_lt, is_some, unwrap_or}
use Rattle.device_blocks.specs.log_area.Areas.{LogAreaOf, is_filling, used_pages, ring_size, next_lsn}
use Rattle.txn_laws.specs.flush_policy.declared.facts.Facts.{Facts}
use Rattle.txn_laws.specs.txn_model.Told.{FactsTold, KeepsMarked, KeepsSteps}
use Rattle.txn_state.specs.States.{facts_of}
use Rattle.txn_core.specs.Seen.{Seen}
use Rattle.txn_core.specs.Kept.{IsKept}
use Rattle.txn_core.specs.Tells.{IsAllDone, HasLap}
use Rattle.txn_core.proofs.Kepts.{keeps_marked, keeps_steps}
use Rattle.txn_core.proofs.FactsTold.{facts_told}
use Rattle.txn_core.proofs.store.Store.facts.Goals as goal

pub returns-clause-kept : goal.returns-clause-kept
returns-clause-kept g c = subst (λ (s : Seen _). IsKept (facts_of s.state)) c.self.view_is c.self.invariant.0.kept

pub returns-clause-marked : goal.returns-clause-marked
returns-clause-marked g c = subst (λ (s : Seen _). KeepsMarked (facts_of s.state)) c.self.view_is (keeps_marked (facts_of c.self.inside.state) c.self.invariant.0.kept)

pub returns-clause-steps : goal.returns-clause-steps
returns-clause-steps g c = subst (λ (s : Seen _). KeepsSteps (facts_of s.state)) c.self.view_is (keeps_steps (facts_of c.self.inside.state) c.known.ensures)

pub is_fresh-requires : goal.is_fresh-requires
is_fresh-requires g c =
    let order = c.self.invariant.0.kept.order in
    let area = c.log-log.ensures in
    record {
      order = subst (λ (a : LogAreaOf). a.oldest ≤ a.sealed) (sym area) (omega (arith, order.freed_pages, order.synced_pages, order.done_pages));
      within = subst (λ (a : LogAreaOf). used_pages a ≤ ring_size a) (sym area) order.within;
    }

pub used_pages-requires : goal.used_pages-requires
used_pages-requires g c = subst (λ (a : LogAreaOf). used_pages a ≤ ring_size a) (sym c.log-log.ensures) c.self.invariant.0.kept.order.within

pub returns-clause-told : goal.returns-clause-told
returns-clause-told g c =
    let s = c.self.inside.state in
    let f = facts_of s in
    let area = c.log-log.ensures in
    let told : Facts = record { filling = c.filling.result; sealed = c.sealed.result; unsynced = c.is_unsynced.result; ready = c.self.inside.told.ready; begun = c.has_begun.result; fresh = c.is_fresh.result; noted_left = c.self.inside.told.left; pages_used = c.used_pages.result; pages = c.size.result; next = c.next.result } in
    subst (λ (x : Seen _). HasLap x.state.log → FactsTold (facts_of x.state) told) c.self.view_is
    (λ lap. facts_told f c.self.inside.told told c.self.invariant.1 (c.filling.ensures.value ∙ ap is_filling area) (c.sealed.ensures.value ∙ ap (λ (a : LogAreaOf). a.sealed - a.done) area)
    (subst (λ (a : LogAreaOf). c.is_unsynced.result ≡ false → IsAllDone a × (c.self.inside.told.wrote ≡ false)) area c.is_unsynced.ensures.done)
    (subst (λ (a : LogAreaOf). IsAllDone a → c.self.inside.told.wrote ≡ false → c.is_unsynced.result ≡ false) area c.is_unsynced.ensures.synced)
    refl (c.has_begun.ensures ∙ ap₂ (λ (o : Option ℕ) (a : LogAreaOf). is_some o && not (is_some a.named)) c.noted-noted.ensures area)
    (c.is_fresh.ensures ∙ ap₂ (λ (o : Option ℕ) (a : LogAreaOf). nat_lt (unwrap_or o a.oldest) (a.oldest + used_pages a)) c.noted-noted.ensures area)
    refl (c.used_pages.ensures ∙ ap used_pages area) (c.size.ensures.value ∙ ap ring_size area)
    (subst (λ (a : LogAreaOf). HasLap a → c.next.result ≡ next_lsn a 0x58) area c.next.ensures.exact lap))

pub returns-clause-but_next : goal.returns-clause-but_next
returns-clause-but_next g c =
    let s = c.self.inside.state in
    let f = facts_of s in
    let area = c.log-log.ensures in
    let told : Facts = record { filling = c.filling.result; sealed = c.sealed.result; unsynced = c.is_unsynced.result; ready = c.self.inside.told.ready; begun = c.has_begun.result; fresh = c.is_fresh.result; noted_left = c.self.inside.told.left; pages_used = c.used_pages.result; pages = c.size.result; next = c.next.result } in
    subst (λ (x : Seen _). FactsTold (facts_of x.state) (record told { next = next_lsn x.state.log 0x58 })) c.self.view_is
    (facts_told f c.self.inside.told (record told { next = next_lsn s.log 0x58 }) c.self.invariant.1 (c.filling.ensures.value ∙ ap is_filling area) (c.sealed.ensures.value ∙ ap (λ (a : LogAreaOf). a.sealed - a.done) area)
    (subst (λ (a : LogAreaOf). c.is_unsynced.result ≡ false → IsAllDone a × (c.self.inside.told.wrote ≡ false)) area c.is_unsynced.ensures.done)
    (subst (λ (a : LogAreaOf). IsAllDone a → c.self.inside.told.wrote ≡ false → c.is_unsynced.result ≡ false) area c.is_unsynced.ensures.synced)
    refl (c.has_begun.ensures ∙ ap₂ (λ (o : Option ℕ) (a : LogAreaOf). is_some o && not (is_some a.named)) c.noted-noted.ensures area)
    (c.is_fresh.ensures ∙ ap₂ (λ (o : Option ℕ) (a : LogAreaOf). nat_lt (unwrap_or o a.oldest) (a.oldest + used_pages a)) c.noted-noted.ensures area)
    refl (c.used_pages.ensures ∙ ap used_pages area) (c.size.ensures.value ∙ ap ring_size area) refl)
