use Rattle.std.proofs.Common.{◌≡◌, drop}
use Rattle.std.specs.List.{list_all}
use Rattle.state_model.specs.Loads.{has_fitting_pairs}
use Rattle.found_files.proofs.data.all_fit.Given as goal

-- the attributes that are left say whether all fit
abbrev pub invariant-loop-attr : goal.invariant-loop-attr
invariant-loop-attr l = list_all has_fitting_pairs (drop l.attr-index l.attrs) ≡ list_all has_fitting_pairs l.attrs
