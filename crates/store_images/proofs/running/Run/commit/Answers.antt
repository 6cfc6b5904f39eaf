use Rattle.std.proofs.Common.{[], subst, sym}
use Rattle.txn_core.specs.txn_state.States.{StateOf, facts_of}
use Rattle.store_images.specs.Running.{MayBegin, pages_of_changes}
use Rattle.store_images.proofs.Rooms.{uncapped}
use Rattle.store_images.proofs.running.Run.commit.Goals as goal

pub commit-requires-clause-room : goal.commit-requires-clause-room
commit-requires-clause-room c =
    let f = facts_of c.self.inside.store.state in
    let may = subst (λ (s : StateOf). MayBegin (facts_of s) c.in_ok-pages.pages) (sym c.self.view_is) (c.has_room.ensures c.if-not-has_room.false) in
    (c.pages_are_enough.ensures.commit f.log (λ b. (f.mark b).imaged) f.tx f.last (uncapped f (pages_of_changes f []) c.in_ok-pages.pages c.in_ok-pages.ensures may)).0
