use Rattle.stream_laws.proofs.Loading.{same_table}
use Rattle.stream_laws.proofs.Rewriting.{volume_now, volume_written, one_changed, edits_changed, count_is, edits_in_place}
use Rattle.stream_laws.proofs.Tabling.{table_by_record}
use Rattle.stream_laws.proofs.laws.volume_rewritten.Goals as goal

pub returns : goal.returns
returns c = record { table = table_by_record; same_table = same_table; records = volume_now; writes = volume_written; one = one_changed; edits = edits_changed; count = count_is; in_place = edits_in_place }
