use Rattle.std.proofs.Common.{sym, ◌∙◌}
use Rattle.block_pool.proofs.Shown.{found, put_in}
use Rattle.block_pool.proofs.Small.{put_keys}
use Rattle.block_pool.proofs.pool.Pool.put.Goals as goal

pub returns-in-Ok-clause-ok : goal.returns-in-Ok-clause-ok
returns-in-Ok-clause-ok g c = put_in c.args.block c.args.value _ c.self.inside.values.entries _ _ c.block_number.ensures.value c.self.view_is c.in-Ok.ensures.entries

pub returns-clause-absent : goal.returns-clause-absent
returns-clause-absent g c = sym (found c.args.block _ c.self.inside.values.entries _ c.block_number.ensures.value c.self.view_is) ∙ c.in-Err.ensures.absent

pub invariant_of-self : goal.invariant_of-self
invariant_of-self g c = put_keys c.insert.result _ _ c.self.inside.values.entries c.insert.new.self.entries c.insert.ensures.entries c.insert.ensures.err c.self.invariant c.block_number.ensures.small
