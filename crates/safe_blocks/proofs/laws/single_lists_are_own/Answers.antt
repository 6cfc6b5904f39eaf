use Rattle.safe_blocks.proofs.Listing.{own_lists}
use Rattle.safe_blocks.proofs.laws.single_lists_are_own.Goals as goal

pub returns : goal.returns
returns c = own_lists
