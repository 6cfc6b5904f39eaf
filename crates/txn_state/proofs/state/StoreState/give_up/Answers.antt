use Rattle.std.proofs.Common.{refl, sym, ap, subst, ◌∙◌}
use Rattle.txn_log.specs.txn_model.Calls.{given_up_facts}
use Rattle.txn_state.specs.States.{StateOf, facts_of, IsStore}
use Rattle.txn_state.proofs.Facts.{same_facts, one_more, none_left}
use Rattle.txn_state.proofs.Stores.{given_up_keeps}
use Rattle.txn_state.proofs.state.StoreState.give_up.Goals as goal

pub invariant_of-self : goal.invariant_of-self
invariant_of-self c =
    subst IsStore (sym (same_facts _ _ _ _ _ _ _ _ _ _ _ _ _ _ _ _ _ _ _ _ _ _ _ refl c.restore.ensures.bodies c.restore.ensures.marks (none_left _ c.restore.ensures.left) (one_more _) refl refl refl refl refl))
    (given_up_keeps _ c.self.invariant (ap (λ (s : StateOf). s.is_open) c.self.view_is ∙ c.requires.opened))

pub returns : goal.returns
returns c =
    same_facts _ _ _ _ _ _ _ _ _ _ _ _ _ _ _ _ _ _ _ _ _ _ _ refl c.restore.ensures.bodies c.restore.ensures.marks (none_left _ c.restore.ensures.left) (one_more _) refl refl refl refl refl
    ∙ ap (λ (s : StateOf). given_up_facts (facts_of s)) c.self.view_is
