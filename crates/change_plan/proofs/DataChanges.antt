-- An operation that writes, fills or cuts a file is one of those that are looked up.
use Rattle.std.proofs.Common.{◌≡◌, true, refl}
use Rattle.tree_model.specs.declared.script.Op.{Op}
use Rattle.tree_model.specs.declared.script.Op.TheVariants as op
use Rattle.change_lookup.specs.Comes.{is_file_change}
use Rattle.change_plan.specs.States.{is_data_change}

pub file_change : (o : Op) → is_data_change o ≡ true → is_file_change o ≡ true
file_change (op.Write path offset bytes) is = refl
file_change (op.Fill path offset count byte) is = refl
file_change (op.Truncate path size) is = refl
file_change other is = absurd cc
