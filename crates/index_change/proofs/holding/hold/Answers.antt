use Rattle.index_change.proofs.Held.{held_more, not_at}
use Rattle.index_change.proofs.holding.hold.Goals as goal

pub returns-in-Ok-clause-more : goal.returns-in-Ok-clause-more
returns-in-Ok-clause-more c = record { here = c.in-Ok.ensures.updates.1; others = λ v ne. c.in-Ok.ensures.updates.2 v (not_at c.args.vcn v ne) }

pub returns-in-Ok-clause-right : goal.returns-in-Ok-clause-right
returns-in-Ok-clause-right c = λ read is holds. held_more read c.args.held.now c.insert.new.self c.args.vcn c.args.node is holds c.in-Ok.ensures.updates.1 (λ v ne. c.in-Ok.ensures.updates.2 v (not_at c.args.vcn v ne))
