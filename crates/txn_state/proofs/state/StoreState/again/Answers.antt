use Rattle.std.proofs.Common.{◌≡◌, true, None, refl, sym, ap, subst, ◌∙◌}
use Rattle.txn_log.specs.store_pools.Pools.{bodies_of, marks_of}
use Rattle.txn_log.specs.txn_model.declared.mark.Mark.{Mark}
use Rattle.txn_log.specs.txn_model.Calls.{again_facts}
use Rattle.txn_state.specs.States.{StateOf, state_of, facts_of, IsStore}
use Rattle.txn_state.proofs.Facts.{same_facts, out_marks}
use Rattle.txn_state.proofs.Turning.{taken_bodies}
use Rattle.txn_state.proofs.Marking.{written_of}
use Rattle.txn_state.proofs.Stores.{again_keeps}
use Rattle.txn_state.proofs.state.StoreState.again.Goals as goal

pub invariant_of-self : goal.invariant_of-self
invariant_of-self c =
    let a = c.self.inside in
    let f = facts_of (state_of a.place a.log a.found.items a.bodies a.marks a.before a.is_open a.tx a.last a.commits a.durable a.ends.items a.noted) in
    let dirty = subst (λ (s : StateOf). ((facts_of s).mark c.args.block).dirty ≡ true) (sym c.self.view_is) c.requires.dirty in
    let free = subst (λ (s : StateOf). (facts_of s).before c.args.block ≡ None) (sym c.self.view_is) c.requires.free in
    let bodies = ap bodies_of c.take.ensures.rest ∙ taken_bodies c.args.block a.bodies in
    let made = c.written_mark-mark.ensures ∙ ap (λ (m : Mark). written_of m.owed m) c.mark_of-mark.ensures in
    let marks = out_marks (λ (m : Mark). written_of m.owed m) c.args.block c.written_mark-mark.result (marks_of a.marks) (marks_of a.marks) (marks_of c.set_mark.new.marks) made c.set_mark.ensures in
    subst IsStore (sym (same_facts _ _ _ _ _ _ _ _ _ _ _ _ _ _ _ _ _ _ _ _ _ _ _ refl bodies marks refl refl refl refl refl refl refl)) (again_keeps f c.args.block c.self.invariant dirty free)

pub returns : goal.returns
returns c =
    let a = c.self.inside in
    let f = facts_of (state_of a.place a.log a.found.items a.bodies a.marks a.before a.is_open a.tx a.last a.commits a.durable a.ends.items a.noted) in
    let dirty = subst (λ (s : StateOf). ((facts_of s).mark c.args.block).dirty ≡ true) (sym c.self.view_is) c.requires.dirty in
    let free = subst (λ (s : StateOf). (facts_of s).before c.args.block ≡ None) (sym c.self.view_is) c.requires.free in
    let bodies = ap bodies_of c.take.ensures.rest ∙ taken_bodies c.args.block a.bodies in
    let made = c.written_mark-mark.ensures ∙ ap (λ (m : Mark). written_of m.owed m) c.mark_of-mark.ensures in
    let marks = out_marks (λ (m : Mark). written_of m.owed m) c.args.block c.written_mark-mark.result (marks_of a.marks) (marks_of a.marks) (marks_of c.set_mark.new.marks) made c.set_mark.ensures in
    same_facts _ _ _ _ _ _ _ _ _ _ _ _ _ _ _ _ _ _ _ _ _ _ _ refl bodies marks refl refl refl refl refl refl refl ∙ ap (λ (s : StateOf). again_facts c.args.block (facts_of s)) c.self.view_is
