use Rattle.draft_growth.proofs.Space.{none_taken}
use Rattle.draft_growth.proofs.held.stays_or_leaves.Goals as goal

pub returns-then-branch-clause-bits : goal.returns-then-branch-clause-bits
returns-then-branch-clause-bits g c = none_taken c.no_runs-taken.result.items (g.B.FreeBits.bits c.args.bits.now) c.no_runs-taken.ensures
