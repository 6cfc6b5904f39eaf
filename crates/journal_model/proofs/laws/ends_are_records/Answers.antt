use Rattle.journal_model.proofs.Ends.{records_owned, owned_records, page_to_records, records_to_page}
use Rattle.journal_model.proofs.laws.ends_are_records.Goals as goal

pub returns : goal.returns
returns c = record {
  owned = λ bytes at entries each e. (owned_records bytes at entries each e, λ are. records_owned bytes at entries are.0 are.1);
  page = λ byte first next entries each e. (page_to_records byte first next entries each e, records_to_page byte first next entries each e);
}
