use Rattle.ring_laws.proofs.SeenDisks.{without_left, without_content, without_recovered, without_seen, without_whole, without_bears, own_put, without_written, without_failed, without_again, without_synced}
use Rattle.ring_laws.proofs.laws.stores_see_disks.Goals as goal

pub returns : goal.returns
returns c = record {
  leaves = without_left;
  content = without_content;
  recovered = without_recovered;
  seen = without_seen;
  whole = without_whole;
  bears = without_bears;
  own_put = own_put;
  written = λ own geometry volume b new disk known sized. without_written own geometry volume b new known sized disk;
  failed = λ own geometry volume b new disk now known sized between. without_failed own geometry volume b new known sized disk now between;
  again = without_again;
  synced = without_synced;
}
