use Rattle.std.proofs.Common.{sym, subst, ◌∙◌}
use Rattle.std.specs.Prelude.{IsSome}
use Rattle.block_pool.proofs.Shown.{found, put_in}
use Rattle.block_pool.proofs.Small.{put_keys}
use Rattle.block_pool.proofs.pool.Pool.replace.Goals as goal

pub returns-in-Ok-clause-value : goal.returns-in-Ok-clause-value
returns-in-Ok-clause-value g c = c.in-Ok.ensures.old ∙ found c.args.block _ c.self.inside.values.entries _ c.block_number.ensures.value c.self.view_is

pub returns-in-Ok-clause-new : goal.returns-in-Ok-clause-new
returns-in-Ok-clause-new g c = put_in c.args.block c.args.value _ c.self.inside.values.entries _ _ c.block_number.ensures.value c.self.view_is c.in-Ok.ensures.entries

pub returns-clause-value : goal.returns-clause-value
returns-clause-value g c = sym (sym (found c.args.block _ c.self.inside.values.entries _ c.block_number.ensures.value c.self.view_is) ∙ c.in-Err.ensures.absent)

pub returns-clause-new : goal.returns-clause-new
returns-clause-new g c = let none = subst (λ o. IsSome o) (sym (found c.args.block _ c.self.inside.values.entries _ c.block_number.ensures.value c.self.view_is) ∙ c.in-Err.ensures.absent) c.requires.some in absurd cc

pub invariant_of-self : goal.invariant_of-self
invariant_of-self g c = put_keys c.insert.result _ _ c.self.inside.values.entries c.insert.new.self.entries c.insert.ensures.entries c.insert.ensures.err c.self.invariant c.block_number.ensures.small
