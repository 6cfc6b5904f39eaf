use Rattle.tree_laws.proofs.Listing.{index_listed, index_kept_by, there_elsewhere, index_stays, index_changed, index_more, index_less, index_other}
use Rattle.tree_laws.proofs.laws.index_listed.Goals as goal

pub returns : goal.returns
returns c = record { listed = index_listed; kept = index_kept_by; elsewhere = there_elsewhere; stays = index_stays; changed = index_changed; more = index_more; less = index_less; other = index_other }
