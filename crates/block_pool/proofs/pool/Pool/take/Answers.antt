use Rattle.std.proofs.Common.{◌∙◌}
use Rattle.block_pool.proofs.Shown.{found, taken_out}
use Rattle.block_pool.proofs.Small.{take_keys}
use Rattle.block_pool.proofs.pool.Pool.take.Goals as goal

pub returns-clause-value : goal.returns-clause-value
returns-clause-value g c = c.remove.ensures.value ∙ found c.args.block _ c.self.inside.values.entries _ c.block_number.ensures.value c.self.view_is

pub returns-clause-rest : goal.returns-clause-rest
returns-clause-rest g c = taken_out c.args.block _ c.self.inside.values.entries _ _ c.block_number.ensures.value c.self.view_is c.remove.ensures.entries c.remove.ensures.updates.1

pub invariant_of-self : goal.invariant_of-self
invariant_of-self g c = take_keys _ c.self.inside.values.entries c.remove.new.self.entries c.remove.ensures.entries c.self.invariant
