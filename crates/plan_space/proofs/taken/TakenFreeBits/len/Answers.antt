use Rattle.std.proofs.Common.{sym, ◌∙◌}
use Rattle.plan_space.proofs.Spanning.{length-with_spans}
use Rattle.plan_space.proofs.taken.TakenFreeBits.len.Goals as goal

pub returns : goal.returns
returns c = c.bits.ensures ∙ sym (length-with_spans c.args.self.now.spans.items c.args.self.now.base.now)
