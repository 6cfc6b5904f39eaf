use Rattle.std.proofs.Common.{Some, None}
use Rattle.log_laws.proofs.Standing.{stand_reading, reading_stands}
use Rattle.log_laws.proofs.laws.page_reading_is_table.Goals as goal

pub returns : goal.returns
returns c = record {
  read = λ raw first at entries some. (reading_stands raw first at some None entries, stand_reading raw first at some None entries);
  stopped = λ raw first at lsn entries some. (reading_stands raw first at some (Some lsn) entries, stand_reading raw first at some (Some lsn) entries);
}
