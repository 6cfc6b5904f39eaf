use Rattle.std.proofs.Common.{ℕ, List, refl, subst}
use Rattle.tree_model.specs.declared.script.Op.TheVariants.{Create}
use Rattle.tree_model.specs.Needs.{needed}
use Rattle.tree_model.specs.Effects.{HasCreated}
use Rattle.tree_model.proofs.making.created_at.Goals as goal

pub returns-clause-value : goal.returns-clause-value
returns-clause-value c =
    (refl, subst (λ (n : List ℕ). HasCreated c.args.tree.now (needed c.args.tree.now 0 (Create c.args.path.now) c.args.directory.now) c.args.stamp c.args.directory.now n c.args.number c.in_ok-new.new) c.new_name-name.ensures (c.in_ok-new.ensures c.args.path.now))
