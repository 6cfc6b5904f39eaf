use Rattle.std.proofs.Common.{◌≡◌, true, false, refl, sym, subst, ◌∙◌, arith}
use Rattle.found_stays.specs.txn_model.Values.{StoreFacts}
use Rattle.found_stays.specs.txn_state.States.{facts_of}
use Rattle.found_stays.specs.txn_laws.Windows.{AfterGiveUp}
use Rattle.txn_close.specs.Rests.{stopped_facts}
use Rattle.txn_close.specs.Passing.{Fewer}
use Rattle.txn_close.proofs.Passing.{fewer_same, goes_none}
use Rattle.txn_close.proofs.Turning.{rises_at, same_begins, spares_given_up, goes_in_memory}
use Rattle.txn_close.proofs.Ended.{stopped_closed, stopped_open}
use Rattle.txn_close.proofs.closing.give_up_open.Goals as goal

pub returns-then-not-is_open-clause-goes : goal.returns-then-not-is_open-clause-goes
returns-then-not-is_open-clause-goes g c =
    let f = facts_of c.args.store.now.state in
    let closed : f.is_open ≡ false = search in
    goes_none g.D.Device.sector_count g.D.Device.moment_of g.D.Device.changes_of (stopped_facts f) c.args.store.now (subst (λ (x : StoreFacts). Fewer x f) (sym (stopped_closed f closed)) (fewer_same f))

pub returns-clause-goes : goal.returns-clause-goes
returns-clause-goes g c =
    let f = facts_of c.args.store.now.state in
    let opened : f.is_open ≡ true = search in
    goes_in_memory g.D.Device.gives g.D.Device.sector_count g.D.Device.moment_of g.D.Device.changes_of c.args.store.now c.give_up.new.self (stopped_facts f) AfterGiveUp c.give_up.ensures.device
    (subst (λ (x : StoreFacts). Fewer x (facts_of c.give_up.new.self.state)) (c.give_up.ensures.facts ∙ sym (stopped_open f opened)) (fewer_same (facts_of c.give_up.new.self.state))) (spares_given_up (stopped_facts f)) (rises_at f (facts_of c.give_up.new.self.state) _ c.give_up.ensures.facts (omega arith))
    (same_begins f (facts_of c.give_up.new.self.state) _ c.give_up.ensures.facts refl) c.give_up.ensures.step
