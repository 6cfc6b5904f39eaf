use Rattle.std.proofs.Common.{ap, ◌∙◌}
use Rattle.std.specs.Prelude.{unwrap_or}
use Rattle.txn_log.specs.store_pools.Pools.{body_of_kept, bodies_of}
use Rattle.txn_state.proofs.Turning.{put_bodies, taken_back}
use Rattle.txn_state.proofs.keeping.keep.Goals as goal

pub returns-in-Ok-clause-bodies : goal.returns-in-Ok-clause-bodies
returns-in-Ok-clause-bodies c = ap bodies_of c.in-Ok.ensures.ok ∙ put_bodies c.args.block c.args.changed c.args.bodies.now

pub returns-then-first-clause-same_before : goal.returns-then-first-clause-same_before
returns-then-first-clause-same_before c =
    taken_back c.args.block (unwrap_or (bodies_of c.args.before.now c.args.block) (body_of_kept c.args.present)) c.args.before.now c.keep_first.new.before c.take.new.self c.take.ensures.rest c.in_ok-first.ensures.kept
    (c.in_ok-first.ensures.first c.if-first.true)
