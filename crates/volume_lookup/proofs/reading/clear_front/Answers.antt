use Rattle.std.proofs.Common.{length, sym, ◌∙◌}
use Rattle.volume_lookup.proofs.Fronting.{none_front}
use Rattle.volume_lookup.proofs.reading.clear_front.Goals as goal

pub returns : goal.returns
returns c = c.clear.ensures ∙ sym (none_front c.args.at (length c.args.out.now))
