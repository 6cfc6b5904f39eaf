use Rattle.stream_laws.proofs.Tabling.{table_extents_is, table_once, table_apart}
use Rattle.stream_laws.proofs.laws.table_is_stream.Goals as goal

pub returns : goal.returns
returns c = record { extents = table_extents_is; once = table_once; apart = table_apart }
