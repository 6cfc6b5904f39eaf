use Rattle.std.proofs.Common.{◌∙◌, ap}
use Rattle.std.specs.Ordering.{is_eq}
use Rattle.std.proofs.lemmas.Map.Text.{is_eq-slice_cmp}
use Rattle.file_tree.specs.Names.{upper_units, same_name}
use Rattle.file_tree.proofs.ordering.is_same_name.Goals as goal

pub returns : goal.returns
unfolding same_name
returns c = record { value = c.is_eq.ensures ∙ ap is_eq c.compare_upper.ensures ∙ is_eq-slice_cmp (upper_units c.args.upper.now c.args.a.now) (upper_units c.args.upper.now c.args.b.now) }
