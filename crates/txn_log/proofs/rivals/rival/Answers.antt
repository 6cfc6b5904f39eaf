use Rattle.std.proofs.Common.{ap, sym, ◌∙◌, get_or}
use Rattle.store_pools.specs.disk_model.declared.block.BlockKind.{BlockKind}
use Rattle.store_pools.specs.txn_model.Calls.{rivals_of}
use Rattle.txn_log.proofs.rivals.rival.Goals as goal

pub returns-in-Index : goal.returns-in-Index
returns-in-Index c = λ d. c.rival_of_index.ensures.value d ∙ ap (λ (k : BlockKind). get_or (rivals_of (record { first = c.args.block.first; kind = k })) c.args.k d) (sym c.in-Index.is)
