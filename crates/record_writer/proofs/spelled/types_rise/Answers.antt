use Rattle.std.proofs.Common.{sym, ◌∙◌}
use Rattle.record_writer.proofs.Rising.{rise_true, true_rise}
use Rattle.record_writer.proofs.spelled.types_rise.Goals as goal

pub returns : goal.returns
returns c = (λ holds. rise_true c.args.attrs.now (sym c.rise_from_zero.ensures ∙ holds), λ rise. c.rise_from_zero.ensures ∙ true_rise c.args.attrs.now rise)
