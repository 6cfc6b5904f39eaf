use Rattle.txn_state.proofs.Turning.{put_first}
use Rattle.txn_state.proofs.keeping.keep_first.Goals as goal

pub returns-in_ok-put-in-None-clause-kept : goal.returns-in_ok-put-in-None-clause-kept
returns-in_ok-put-in-None-clause-kept c = put_first c.args.block c.args.present c.args.before.now c.put.new.self c.in-None.ensures.value c.in_ok-put-in-None.ensures.ok
