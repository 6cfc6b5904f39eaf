use Rattle.log_page.proofs.Spelled.{length-restart_spelling, in_shape}
use Rattle.log_page.proofs.ReadAgain.{read_again}
use Rattle.log_page.proofs.laws.restart_read_again.Goals as goal

pub returns : goal.returns
returns c = record { size = length-restart_spelling; shape = in_shape; read = read_again }
