use Rattle.std.proofs.Common.{refl}
use Rattle.step_model.proofs.laws.worked_answers.Goals as goal

pub returns : goal.returns
returns c = record {
  made = refl;
  deep = refl;
  no_index = refl;
  given_up = refl;
  synced = refl;
  failed = refl;
  no_memory = refl;
  other = refl;
  read = refl;
  opaque = refl;
  sparse = refl;
  not_yet = refl;
}
