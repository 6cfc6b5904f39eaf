use Rattle.journal_model.proofs.PageRead.{page_table, table_page, page_refused, refused_page}
use Rattle.journal_model.proofs.laws.page_is_table.Goals as goal

pub returns : goal.returns
returns c = record {
  read = λ page at entries each. (page_table page at entries each, table_page page at entries);
  refused = λ page at fault each. (page_refused page at fault each, refused_page page at fault);
}
