use Rattle.new_files.proofs.Standing.{new_file_is_read}
use Rattle.new_files.proofs.laws.new_file_reads.Goals as goal

pub returns : goal.returns
returns c = new_file_is_read
