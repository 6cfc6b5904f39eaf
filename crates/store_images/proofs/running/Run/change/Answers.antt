use Rattle.std.proofs.Common.{subst, sym}
use Rattle.txn_core.specs.txn_state.States.{StateOf, facts_of, IsStore}
use Rattle.store_images.specs.Running.{MayMake}
use Rattle.store_images.proofs.Calls.{running_changed}
use Rattle.store_images.proofs.running.Run.change.Goals as goal

pub invariant_of-self : goal.invariant_of-self
invariant_of-self c =
    running_changed c.self.inside.turns c.change.result (facts_of c.self.inside.store.state) (facts_of c.change.new.self.state) c.args.block c.args.at c.args.new.now c.pages_are_enough.ensures
    (subst (λ (s : StateOf). MayMake (facts_of s) c.args.block c.args.at c.args.new.now) (sym c.self.view_is) (c.in_ok-may_change.ensures c.if-not-branch.false))
    c.self.invariant (subst (λ (s : StateOf). IsStore (facts_of s)) c.state.ensures c.known.ensures) c.change.ensures.facts
