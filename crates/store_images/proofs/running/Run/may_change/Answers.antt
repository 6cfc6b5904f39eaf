use Rattle.std.proofs.Common.{◌≡◌, [], ◌∷◌, subst, sym, ◌∙◌}
use Rattle.disk_model.specs.declared.block.Change.{Change}
use Rattle.txn_core.specs.txn_log.Counts.{capped}
use Rattle.txn_core.specs.txn_state.States.{StateOf, facts_of}
use Rattle.store_images.specs.Running.{MayBegin, MayMake, change_of, pages_of_changes}
use Rattle.store_images.proofs.Rooms.{uncapped, may_make}
use Rattle.store_images.proofs.running.Run.may_change.Goals as goal

pub returns : goal.returns
returns c = λ room.
    let f = facts_of c.state-state.result.now in
    let told = subst (λ (x : Change). c.in_ok-pages.pages ≡ capped (pages_of_changes f (x ∷ []))) c.in_ok-change.ensures
    (subst (λ (s : StateOf). c.in_ok-pages.pages ≡ capped (pages_of_changes (facts_of s) (c.in_ok-change.change ∷ []))) (sym c.state-state.ensures) c.in_ok-pages.ensures) in
    let all = uncapped f (pages_of_changes f (change_of c.args.block c.args.at c.args.new.now ∷ [])) c.in_ok-pages.pages told (subst (λ (s : StateOf). MayBegin (facts_of s) c.in_ok-pages.pages) (sym (c.state-state.ensures ∙ c.self.view_is)) (c.has_room.ensures room)) in
    subst (λ (s : StateOf). MayMake (facts_of s) c.args.block c.args.at c.args.new.now) (c.state-state.ensures ∙ c.self.view_is)
    (may_make f c.args.block c.args.at c.args.new.now c.pages_are_enough.ensures c.known.ensures (c.can_lie.ensures c.if-not-can_lie.false) all)
