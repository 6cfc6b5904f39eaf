use Rattle.std.proofs.Common.{subst}
use Rattle.log_area.specs.Areas.{IsLogArea}
use Rattle.log_area.proofs.Numbering.{entry_small}
use Rattle.log_area.proofs.area.LogArea.append.Goals as goal

pub put-requires-clause-small : goal.put-requires-clause-small
put-requires-clause-small c =
    entry_small c.args.self.now c.args.entry.now c.next_at-at.result c.size-bytes.result (subst IsLogArea c.self.view_is c.self.invariant.0) c.requires.lap c.requires.place
    c.size-bytes.ensures c.next_at-at.ensures.value c.next_at-at.ensures.below
