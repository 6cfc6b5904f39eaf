use Rattle.tree_laws.proofs.Parting.{record_bits_stay, spare_stay, cluster_bits_stay, room_stays, upper_stays, holder_stays, journal_stays}
use Rattle.tree_laws.proofs.laws.parts_elsewhere.Goals as goal

pub returns : goal.returns
returns c = record { records = record_bits_stay; spare = spare_stay; clusters = cluster_bits_stay; room = room_stays; upper = upper_stays; holder = holder_stays; journal = journal_stays }
