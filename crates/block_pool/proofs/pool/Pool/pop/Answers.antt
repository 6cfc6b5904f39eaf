use Rattle.std.proofs.Common.{◌≡◌, None, sym, subst, ap, refl, ◌∙◌}
use Rattle.std.specs.Prelude.{IfSome}
use Rattle.block_pool.specs.Numbers.{block_number, shown}
use Rattle.block_pool.specs.Pools.{held}
use Rattle.block_pool.proofs.Ordering.{number_at}
use Rattle.block_pool.proofs.Shown.{found}
use Rattle.block_pool.proofs.Small.{pop_keys}
use Rattle.block_pool.proofs.pool.Pool.pop.Goals as goal
use Rattle.block_pool.proofs.pool.Pool.pop.Goals.{in-Some, in-None}

pub invariant_of-self : goal.invariant_of-self
invariant_of-self g c = pop_keys c.pop_first.result c.self.inside.values.entries c.pop_first.new.self.entries c.pop_first.ensures.removal c.pop_first.ensures.unchanged c.self.invariant

pub returns-clause-alone : goal.returns-clause-alone
returns-clause-alone g c = elim c.match-pop_first.branch [
  | in-Some w ↦ subst (λ o. IfSome o (λ p. held (shown c.pop_first.new.self.entries) p.0 ≡ None)) (sym w.result-is)
      (sym (found w.block_at.result _ c.pop_first.new.self.entries _ (sym (ap block_number w.block_at.ensures ∙ number_at _)) refl) ∙ w.in-Some.ensures.updates.1)
  | in-None w ↦ subst (λ o. IfSome o (λ p. held (shown c.pop_first.new.self.entries) p.0 ≡ None)) (sym w.result-is) tt
]
