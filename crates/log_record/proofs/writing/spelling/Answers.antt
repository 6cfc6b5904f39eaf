use Rattle.std.proofs.Common.{◌∙◌}
use Rattle.log_record.proofs.Appended.{entry_pushed}
use Rattle.log_record.proofs.writing.spelling.Goals as goal

pub returns : goal.returns
returns c = entry_pushed c.args.entry.now c.in_ok-bytes.bytes.items _ (c.in_ok-bytes.ensures.items ∙ c.front.ensures) c.in_ok-push_act.ensures
