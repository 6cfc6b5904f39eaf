use Rattle.makes_keep.proofs.Keeping.{all_kept}
use Rattle.makes_keep.proofs.laws.makes_keep.Goals as goal

pub returns : goal.returns
returns c = all_kept c.times_are_set.ensures c.new_file_reads.ensures c.plans_keep.ensures c.record_is_body.ensures c.node_is_body.ensures
