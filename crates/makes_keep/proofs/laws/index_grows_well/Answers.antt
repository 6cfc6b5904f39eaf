use Rattle.makes_keep.proofs.Growing.{index_grows_well}
use Rattle.makes_keep.proofs.laws.index_grows_well.Goals as goal

pub returns : goal.returns
returns c = index_grows_well c.record_is_body.ensures
