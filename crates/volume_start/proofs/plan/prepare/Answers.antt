use Rattle.std.proofs.Common.{ℕ, subst, ◌∙◌}
use Rattle.std.specs.Prelude.{IsErrOf}
use Rattle.volume_start.specs.declared.fault.StartFault.TheVariants.{Unknown}
use Rattle.volume_start.specs.Fitting.{FitsStart}
use Rattle.volume_start.proofs.Answering.{plans_on, unfit_on, unknown_on}
use Rattle.volume_start.proofs.plan.prepare.Goals as goal

pub returns-clause-on : goal.returns-clause-on
returns-clause-on g c = plans_on _ c.in_ok-mounted.mounted c.planned.result c.in_ok-mounted.ensures.answer c.planned.ensures.plan

pub returns-clause-unfit : goal.returns-clause-unfit
returns-clause-unfit g c = unfit_on _ c.in_ok-mounted.mounted c.planned.result c.in_ok-mounted.ensures.answer c.planned.ensures.unfit

pub returns-clause-unknown : goal.returns-clause-unknown
returns-clause-unknown g c = unknown_on (g.D.Device.sector_count c.args.device.now) _ c.in_ok-mounted.mounted c.planned.result c.in_ok-mounted.ensures.answer
    (subst (λ (n : ℕ). IsErrOf c.planned.result Unknown → FitsStart n c.in_ok-mounted.mounted.opening.place → ⊥) (c.sectors.ensures ∙ c.in_ok-mounted.ensures.kept.sectors) c.planned.ensures.unknown)
