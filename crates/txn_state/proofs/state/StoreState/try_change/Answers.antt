use Rattle.std.proofs.Common.{ℕ, ◌+◌, suc, List, length, refl, sym, ap, subst, ◌∙◌}
use Rattle.txn_log.specs.log_model.declared.entry.Act.{Act}
use Rattle.txn_log.specs.log_area.Areas.{LogAreaOf, ring_size}
use Rattle.txn_log.specs.store_pools.declared.kept.KeptBody.{KeptBody}
use Rattle.txn_log.specs.store_pools.Pools.{body_of_kept, bodies_of, marks_of}
use Rattle.txn_log.specs.txn_model.Values.{put_at}
use Rattle.txn_log.specs.txn_model.Pieces.{ends_with, last_of, log_with}
use Rattle.txn_log.specs.txn_model.Calls.{change_acts, changed_facts}
use Rattle.txn_state.specs.States.{StateOf, state_of, facts_of, IsStore, MayChange}
use Rattle.txn_state.proofs.Facts.{same_facts, one_more}
use Rattle.txn_state.proofs.Marking.{marks_changed}
use Rattle.txn_state.proofs.Stores.{changed_keeps}
use Rattle.txn_state.proofs.state.StoreState.try_change.Goals as goal

pub invariant_of-self-2 : goal.invariant_of-self-2
invariant_of-self-2 c =
    let a = c.self.inside in
    let f = facts_of (state_of a.place a.log a.found.items a.bodies a.marks a.before a.is_open a.tx a.last a.commits a.durable a.ends.items a.noted) in
    let block = c.args.block in
    let new = c.args.new.now in
    let present = body_of_kept c.args.present in
    let may = subst (λ (s : StateOf). MayChange (facts_of s) block c.args.at new present) (sym c.self.view_is) c.requires in
    let acts = c.in_ok-acts.ensures ∙ ap (λ (s : StateOf). change_acts (facts_of s) block c.args.at new present) (sym c.self.view_is) in
    let bodies = c.in_ok-keep.ensures.bodies ∙ ap (λ (x : KeptBody). put_at block (body_of_kept x) (bodies_of a.bodies)) c.in_ok-after.ensures in
    let log = c.append_acts-self-inside.ensures.area ∙ ap (λ (xs : List Act). log_with a.log a.tx a.last xs) acts in
    let ends = c.append_acts-self-inside.ensures.ends ∙ ap (λ (xs : List Act). ends_with a.log a.tx a.last a.commits a.ends.items xs) acts in
    let last = c.append_acts-self-inside.ensures.last ∙ ap (λ (xs : List Act). last_of a.log a.tx a.last xs) acts in
    let until = ap (λ (n : ℕ). n + 1) c.filled_page-until.ensures.value ∙ one_more c.append_acts-self-inside.new.area.sealed ∙ ap (λ (l : LogAreaOf). suc l.sealed) log in
    let marks = marks_changed f.mark (marks_of c.keep.new.marks) (marks_of c.mark_changed.new.marks) (marks_of c.turn_rivals.new.marks) block (c.filled_page-until.result + 1) (suc (log_with a.log a.tx a.last (change_acts f block c.args.at new present)).sealed) may.grid c.self.invariant.blocks.marked c.in_ok-keep.ensures.marks c.mark_changed.ensures c.turn_rivals.ensures until in
    subst IsStore (sym (same_facts _ _ _ _ _ _ _ _ _ _ _ _ _ _ _ _ _ _ _ _ _ _ _ log bodies marks c.in_ok-keep.ensures.before refl last refl refl ends refl)) (changed_keeps f block c.args.at new present c.self.invariant may (sym (ap length ends) ∙ c.append_acts-self-inside.ensures.still ∙ ap ring_size log))

pub returns-clause-ok : goal.returns-clause-ok
returns-clause-ok c =
    let a = c.self.inside in
    let f = facts_of (state_of a.place a.log a.found.items a.bodies a.marks a.before a.is_open a.tx a.last a.commits a.durable a.ends.items a.noted) in
    let block = c.args.block in
    let new = c.args.new.now in
    let present = body_of_kept c.args.present in
    let may = subst (λ (s : StateOf). MayChange (facts_of s) block c.args.at new present) (sym c.self.view_is) c.requires in
    let acts = c.in_ok-acts.ensures ∙ ap (λ (s : StateOf). change_acts (facts_of s) block c.args.at new present) (sym c.self.view_is) in
    let bodies = c.in_ok-keep.ensures.bodies ∙ ap (λ (x : KeptBody). put_at block (body_of_kept x) (bodies_of a.bodies)) c.in_ok-after.ensures in
    let log = c.append_acts-self-inside.ensures.area ∙ ap (λ (xs : List Act). log_with a.log a.tx a.last xs) acts in
    let ends = c.append_acts-self-inside.ensures.ends ∙ ap (λ (xs : List Act). ends_with a.log a.tx a.last a.commits a.ends.items xs) acts in
    let last = c.append_acts-self-inside.ensures.last ∙ ap (λ (xs : List Act). last_of a.log a.tx a.last xs) acts in
    let until = ap (λ (n : ℕ). n + 1) c.filled_page-until.ensures.value ∙ one_more c.append_acts-self-inside.new.area.sealed ∙ ap (λ (l : LogAreaOf). suc l.sealed) log in
    let marks = marks_changed f.mark (marks_of c.keep.new.marks) (marks_of c.mark_changed.new.marks) (marks_of c.turn_rivals.new.marks) block (c.filled_page-until.result + 1) (suc (log_with a.log a.tx a.last (change_acts f block c.args.at new present)).sealed) may.grid c.self.invariant.blocks.marked c.in_ok-keep.ensures.marks c.mark_changed.ensures c.turn_rivals.ensures until in
    same_facts _ _ _ _ _ _ _ _ _ _ _ _ _ _ _ _ _ _ _ _ _ _ _ log bodies marks c.in_ok-keep.ensures.before refl last refl refl ends refl ∙ ap (λ (s : StateOf). changed_facts block c.args.at new present (facts_of s)) c.self.view_is
