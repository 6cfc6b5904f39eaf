use Rattle.log_page.proofs.PageAgain.{page_size, page_shape, page_again}
use Rattle.log_page.proofs.laws.page_read_again.Goals as goal

pub returns : goal.returns
returns c = record { size = page_size; shape = page_shape; read = page_again }
