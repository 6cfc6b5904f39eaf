use Rattle.turn_laws.specs.txn_state.States.{facts_of}
use Rattle.state_store.proofs.Roomy.{is_short}
use Rattle.state_store.proofs.rooms.find_room.Goals as goal

pub returns-clause-answer : goal.returns-clause-answer
returns-clause-answer g c =
    is_short (facts_of c.args.store.now.state) c.args.changes.now c.in_ok-pages.pages c.free_pages.result c.in_ok-pages.ensures c.free_pages.ensures c.known.ensures.order.pages_some c.requires.number (c.has_room.ensures.lacks c.if-has_room.false)
