use Rattle.std.proofs.Common.{ℕ, cond, Option, None, refl, sym, ap, subst, ◌∙◌}
use Rattle.std.specs.Prelude.{is_some}
use Rattle.txn_log.specs.disk_model.declared.block.Block.{Block}
use Rattle.txn_log.specs.disk_model.declared.block.Body.{Body}
use Rattle.txn_log.specs.log_area.Areas.{LogAreaOf}
use Rattle.txn_log.specs.store_pools.Pools.{bodies_of, marks_of}
use Rattle.txn_log.specs.txn_model.declared.mark.Mark.{Mark}
use Rattle.txn_log.specs.txn_model.Calls.{is_buried, synced_mark, durable_after, synced_facts}
use Rattle.txn_state.specs.States.{StateOf, state_of, facts_of, IsStore}
use Rattle.txn_state.proofs.Facts.{same_facts}
use Rattle.txn_state.proofs.Stores.{synced_keeps}
use Rattle.txn_state.proofs.state.StoreState.sync.Goals as goal

abbrev buried : ℕ → (Block → Mark) → (Block → Option Body) → Block → Option Body
buried n mark body b = cond (is_buried n (mark b)) None (body b)

abbrev settled : ℕ → (Block → Mark) → Block → Mark
settled n mark b = synced_mark n (mark b)

abbrev noted_then : Option ℕ → Option ℕ → Option ℕ
noted_then named noted = cond (is_some named) None noted

pub invariant_of-self-2 : goal.invariant_of-self-2
invariant_of-self-2 g c =
    let a = c.self.inside in
    let f = facts_of (state_of a.place a.log a.found.items a.bodies a.marks a.before a.is_open a.tx a.last a.commits a.durable a.ends.items a.noted) in
    let log = c.in_ok-sync.ensures.ok in
    let pages = c.durable_pages.ensures.value ∙ ap (λ (l : LogAreaOf). l.synced) log in
    let bodies = c.settle.ensures.bodies ∙ ap (λ (n : ℕ). buried n (marks_of a.marks) (bodies_of a.bodies)) pages in
    let marks = c.settle.ensures.marks ∙ ap (λ (n : ℕ). settled n (marks_of a.marks)) pages in
    let durable = c.durable_after-durable.ensures ∙ ap (λ (s : StateOf). durable_after s.log s.ends s.durable) (sym c.self.view_is) in
    let noted = c.noted_after-noted.ensures ∙ ap (λ (s : StateOf). noted_then s.log.named s.noted) (sym c.self.view_is) in
    subst IsStore (sym (same_facts _ _ _ _ _ _ _ _ _ _ _ _ _ _ _ _ _ _ _ _ _ _ _ log bodies marks refl refl refl refl durable refl noted)) (synced_keeps f c.self.invariant)

pub returns-clause-ok : goal.returns-clause-ok
returns-clause-ok g c =
    let a = c.self.inside in
    let f = facts_of (state_of a.place a.log a.found.items a.bodies a.marks a.before a.is_open a.tx a.last a.commits a.durable a.ends.items a.noted) in
    let log = c.in_ok-sync.ensures.ok in
    let pages = c.durable_pages.ensures.value ∙ ap (λ (l : LogAreaOf). l.synced) log in
    let bodies = c.settle.ensures.bodies ∙ ap (λ (n : ℕ). buried n (marks_of a.marks) (bodies_of a.bodies)) pages in
    let marks = c.settle.ensures.marks ∙ ap (λ (n : ℕ). settled n (marks_of a.marks)) pages in
    let durable = c.durable_after-durable.ensures ∙ ap (λ (s : StateOf). durable_after s.log s.ends s.durable) (sym c.self.view_is) in
    let noted = c.noted_after-noted.ensures ∙ ap (λ (s : StateOf). noted_then s.log.named s.noted) (sym c.self.view_is) in
    same_facts _ _ _ _ _ _ _ _ _ _ _ _ _ _ _ _ _ _ _ _ _ _ _ log bodies marks refl refl refl refl durable refl noted ∙ ap (λ (s : StateOf). synced_facts (facts_of s)) c.self.view_is
