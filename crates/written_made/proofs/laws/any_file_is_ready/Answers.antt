use Rattle.written_made.proofs.Readying.{any_ready}
use Rattle.written_made.proofs.laws.any_file_is_ready.Goals as goal

pub returns : goal.returns
returns c = any_ready c.made_is_counted.ensures c.files_have_data.ensures
