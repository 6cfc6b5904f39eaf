use Rattle.std.proofs.Common.{ℕ, [], ◌∷◌, length, refl, sym, ap, subst, ◌∙◌}
use Rattle.txn_log.specs.log_model.declared.entry.Act.TheVariants.{Commit}
use Rattle.txn_log.specs.log_area.Areas.{ring_size}
use Rattle.txn_log.specs.txn_model.Pieces.{ends_with}
use Rattle.txn_log.specs.store_pools.Pools.{bodies_of, marks_of}
use Rattle.txn_log.specs.txn_model.Calls.{committed_marks}
use Rattle.txn_state.specs.States.{StateOf, IsStore}
use Rattle.txn_state.proofs.Facts.{same_facts, one_more, none_left}
use Rattle.txn_state.proofs.Stores.{committed_keeps}
use Rattle.txn_state.proofs.state.StoreState.commit.Goals as goal

pub invariant_of-self : goal.invariant_of-self
invariant_of-self c =
    let a = c.self.inside in
    let told = c.append_commit.ensures.ends ∙ ap (λ (n : ℕ). ends_with a.log a.tx a.last n a.ends.items (Commit ∷ [])) (one_more a.commits) in
    subst IsStore (sym (same_facts _ _ _ _ _ _ _ _ _ _ _ _ _ _ _ _ _ _ _ _ _ _ _ c.append_commit.ensures.area refl (c.mark_commits.ensures.marks ∙ ap (λ (n : ℕ). committed_marks (bodies_of a.before) n (marks_of a.marks)) (one_more a.commits)) (none_left _ c.mark_commits.ensures.left) (one_more _) refl (one_more _) refl told refl))
    (committed_keeps _ c.self.invariant (ap (λ (s : StateOf). s.is_open) c.self.view_is ∙ c.requires.opened) (sym (ap length told) ∙ c.append_commit.ensures.still ∙ ap ring_size c.append_commit.ensures.area))
