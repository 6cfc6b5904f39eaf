use Rattle.std.proofs.Common.{ℕ, Some, refl, sym, ap, subst, ◌∙◌}
use Rattle.txn_log.specs.log_area.Areas.{LogAreaOf}
use Rattle.txn_log.specs.txn_model.Calls.{noted_facts}
use Rattle.txn_state.specs.States.{StateOf, facts_of, IsStore}
use Rattle.txn_state.proofs.Facts.{same_facts}
use Rattle.txn_state.proofs.Stores.{noted_keeps}
use Rattle.txn_state.proofs.state.StoreState.begin_checkpoint.Goals as goal

pub invariant_of-self : goal.invariant_of-self
invariant_of-self c =
    let page = ap (λ (n : ℕ). Some n) (c.filled_page.ensures.value ∙ ap (λ (a : LogAreaOf). a.sealed) c.seal.ensures.sealed) in
    subst IsStore (sym (same_facts _ _ _ _ _ _ _ _ _ _ _ _ _ _ _ _ _ _ _ _ _ _ _ c.seal.ensures.sealed refl c.note.ensures refl refl refl refl refl refl page)) (noted_keeps _ c.self.invariant)

pub returns : goal.returns
returns c =
    let page = ap (λ (n : ℕ). Some n) (c.filled_page.ensures.value ∙ ap (λ (a : LogAreaOf). a.sealed) c.seal.ensures.sealed) in
    same_facts _ _ _ _ _ _ _ _ _ _ _ _ _ _ _ _ _ _ _ _ _ _ _ c.seal.ensures.sealed refl c.note.ensures refl refl refl refl refl refl page ∙ ap (λ (s : StateOf). noted_facts (facts_of s)) c.self.view_is
