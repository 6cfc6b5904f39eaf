use Rattle.ring_laws.proofs.LogSectors.{read_is_raw, lies_in_row, lie_apart, kept_elsewhere, kept_by_page}
use Rattle.ring_laws.proofs.laws.pages_are_bytes.Goals as goal

pub returns : goal.returns
returns c = record {
  read = read_is_raw;
  row = λ place k i ring inside few. lies_in_row place ring k i inside few;
  apart = λ place j k ring inside inside' other. lie_apart place ring j k inside inside' other;
  elsewhere = kept_elsewhere;
  other_page = kept_by_page;
}
