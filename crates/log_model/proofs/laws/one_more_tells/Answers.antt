use Rattle.log_model.proofs.Telling.{told_with-redo, told_with-open, told_with-other, is_ended-update, told-commit, told_fresh, told_longer, last_said-append}
use Rattle.log_model.proofs.laws.one_more_tells.Goals as goal

pub returns : goal.returns
returns c = record {
  redo = told_with-redo;
  open_ = told_with-open;
  other = told_with-other;
  update = is_ended-update;
  commit = told-commit;
  fresh = told_fresh;
  longer = told_longer;
  says = last_said-append;
}
