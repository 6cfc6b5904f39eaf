use Rattle.ntfs_host.proofs.Telling.{refused_leaves}
use Rattle.ntfs_host.proofs.host.answer_into.Goals as goal

pub returns-in-Err-Refused-clause-leaves : goal.returns-in-Err-Refused-clause-leaves
returns-in-Err-Refused-clause-leaves g c =
    let refused = c.in-Err-Refused.field-0-is in
    refused_leaves _ _ c.write_refusal.result c.in-Err-Refused.refusal _ _ _ _ _ _ c.status_of.ensures (rw refused at c.in-Err-Refused.ensures.answer) (rw refused at c.in-Err-Refused.ensures.leaves)
