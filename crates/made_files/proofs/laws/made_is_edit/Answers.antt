use Rattle.made_files.proofs.Making.{file_made}
use Rattle.made_files.proofs.laws.made_is_edit.Goals as goal

pub returns : goal.returns
returns c = file_made c.new_file_reads.ensures
