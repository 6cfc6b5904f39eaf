use Rattle.std.proofs.Common.{Bool, true, cond, List, Option, Some, ap, ◌∙◌}
use Rattle.store_pools.specs.disk_model.declared.block.Block.{Block}
use Rattle.store_pools.specs.disk_model.Sectors.{same_block}
use Rattle.store_pools.specs.block_pool.Pools.{held}
use Rattle.store_pools.proofs.Pools.{held_with}
use Rattle.txn_log.proofs.Told.{on_ok}
use Rattle.txn_log.proofs.counting.tell_change.Goals as goal

pub returns : goal.returns
returns c =
    on_ok c.put.result
    (λ is b.
    ap (λ (es : List (Block × Bool)). held es b) is
    ∙ held_with c.args.block true c.tell_rivals.new.told b
    ∙ ap (λ (o : Option Bool). cond (same_block b c.args.block) (Some true) o) (c.in_ok-tell_rivals.ensures b))
    c.put.ensures.ok
