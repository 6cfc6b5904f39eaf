use Rattle.std.proofs.Common.{◌≡◌, Bool, true, refl, sym, ap, ap₂, subst, ◌∙◌}
use Rattle.txn_log.specs.store_pools.Pools.{bodies_of, marks_of}
use Rattle.txn_log.specs.txn_model.declared.mark.Mark.{Mark}
use Rattle.txn_log.specs.txn_model.Calls.{is_ready, written_out_facts}
use Rattle.txn_state.specs.States.{StateOf, state_of, facts_of, IsStore}
use Rattle.txn_state.proofs.Facts.{same_facts}
use Rattle.txn_state.proofs.Turning.{taken_bodies}
use Rattle.txn_state.proofs.Marking.{written_of, still_marked, written_marks, written_bodies}
use Rattle.txn_state.proofs.Stores.{ready_parts, written_out_keeps}
use Rattle.txn_state.proofs.state.StoreState.written_out.Goals as goal

pub set_mark-requires : goal.set_mark-requires
set_mark-requires c =
    let a = c.self.inside in
    let f = facts_of (state_of a.place a.log a.found.items a.bodies a.marks a.before a.is_open a.tx a.last a.commits a.durable a.ends.items a.noted) in
    let ready = subst (λ (s : StateOf). is_ready (facts_of s) c.args.block ≡ true) (sym c.self.view_is) c.requires.ready in
    let dirty = (ready_parts f c.args.block ready).0 in
    record { some = still_marked f c.self.invariant c.args.block dirty c.turn_rivals.new.marks c.turn_rivals.ensures }

pub invariant_of-self : goal.invariant_of-self
invariant_of-self c =
    let a = c.self.inside in
    let f = facts_of (state_of a.place a.log a.found.items a.bodies a.marks a.before a.is_open a.tx a.last a.commits a.durable a.ends.items a.noted) in
    let ready = subst (λ (s : StateOf). is_ready (facts_of s) c.args.block ≡ true) (sym c.self.view_is) c.requires.ready in
    let dirty = (ready_parts f c.args.block ready).0 in
    let made = c.written_mark-mark.ensures ∙ ap₂ (λ (m : Mark) (n : Bool). written_of n m) c.mark_of-mark.ensures c.is_noted.ensures in
    let marks = written_marks f c.self.invariant c.args.block dirty c.written_mark-mark.result (marks_of c.turn_rivals.new.marks) (marks_of c.set_mark.new.marks) c.turn_rivals.ensures made c.set_mark.ensures in
    let taken = ap bodies_of c.take.ensures.rest ∙ taken_bodies c.args.block c.drop_rivals.new.bodies in
    let bodies = written_bodies f c.self.invariant c.args.block dirty (bodies_of c.drop_rivals.new.bodies) (bodies_of c.take.new.self) c.drop_rivals.ensures taken in
    subst IsStore (sym (same_facts _ _ _ _ _ _ _ _ _ _ _ _ _ _ _ _ _ _ _ _ _ _ _ refl bodies marks refl refl refl refl refl refl refl)) (written_out_keeps f c.args.block c.self.invariant ready)

pub returns : goal.returns
returns c =
    let a = c.self.inside in
    let f = facts_of (state_of a.place a.log a.found.items a.bodies a.marks a.before a.is_open a.tx a.last a.commits a.durable a.ends.items a.noted) in
    let ready = subst (λ (s : StateOf). is_ready (facts_of s) c.args.block ≡ true) (sym c.self.view_is) c.requires.ready in
    let dirty = (ready_parts f c.args.block ready).0 in
    let made = c.written_mark-mark.ensures ∙ ap₂ (λ (m : Mark) (n : Bool). written_of n m) c.mark_of-mark.ensures c.is_noted.ensures in
    let marks = written_marks f c.self.invariant c.args.block dirty c.written_mark-mark.result (marks_of c.turn_rivals.new.marks) (marks_of c.set_mark.new.marks) c.turn_rivals.ensures made c.set_mark.ensures in
    let taken = ap bodies_of c.take.ensures.rest ∙ taken_bodies c.args.block c.drop_rivals.new.bodies in
    let bodies = written_bodies f c.self.invariant c.args.block dirty (bodies_of c.drop_rivals.new.bodies) (bodies_of c.take.new.self) c.drop_rivals.ensures taken in
    same_facts _ _ _ _ _ _ _ _ _ _ _ _ _ _ _ _ _ _ _ _ _ _ _ refl bodies marks refl refl refl refl refl refl refl ∙ ap (λ (s : StateOf). written_out_facts c.args.block (facts_of s)) c.self.view_is
