use Rattle.stream_laws.proofs.Changing.{apart_elsewhere, bytes_stay, slot_stays, records_stay, record_bytes_stay, in_use_stays, links_stay}
use Rattle.stream_laws.proofs.laws.stays_elsewhere.Goals as goal

pub returns : goal.returns
returns c = record { apart = apart_elsewhere; bytes = bytes_stay; slot = slot_stays; records = records_stay; body = record_bytes_stay; in_use = in_use_stays; links = links_stay }
