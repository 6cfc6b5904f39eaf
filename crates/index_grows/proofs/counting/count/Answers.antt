use Rattle.index_grows.proofs.Counts.{counts_by}
use Rattle.index_grows.proofs.counting.count.Goals as goal

pub returns-clause-counts : goal.returns-clause-counts
returns-clause-counts g c = λ stays. (let is = c.stays.ensures stays in counts_by (g.B.FreeBits.bits c.args.bits.now) _ c.args.file.now c.args.root c.args.more c.in_ok-change.change is.0 c.in_ok-change.ensures.after is.1)
