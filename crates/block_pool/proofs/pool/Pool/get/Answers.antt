use Rattle.std.proofs.Common.{◌∙◌}
use Rattle.block_pool.proofs.Shown.{found}
use Rattle.block_pool.proofs.pool.Pool.get.Goals as goal

pub returns : goal.returns
returns g c = record { value = c.get.ensures.value ∙ found c.args.block _ c.self.inside.values.entries _ c.block_number.ensures.value c.self.view_is }
