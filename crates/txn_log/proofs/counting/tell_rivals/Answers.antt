use Rattle.std.proofs.Common.{◌+◌, drop, ◌∙◌, arith}
use Rattle.store_pools.specs.txn_model.Calls.{rivals_of}
use Rattle.txn_log.proofs.Told.{rival_told, item_and_rest}
use Rattle.txn_log.proofs.counting.tell_rivals.Goals as goal

pub loop-k-preserved : goal.loop-k-preserved
loop-k-preserved c = λ b.
    rival_told c.rival.result (drop c.loop-k.k (rivals_of c.args.block)) (drop (c.loop-k.k + 1) (rivals_of c.args.block)) c.loop-k.told c.put.new.self
    (item_and_rest (rivals_of c.args.block) c.loop-k.k c.rival.result (omega arith) (c.rival.ensures c.rival.result)) c.in_ok-put.ensures.ok b
    ∙ c.loop-k.invariant b
