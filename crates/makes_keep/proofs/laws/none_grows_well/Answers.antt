use Rattle.makes_keep.proofs.Growing.{none_grows_well}
use Rattle.makes_keep.proofs.laws.none_grows_well.Goals as goal

pub returns : goal.returns
returns c = none_grows_well
