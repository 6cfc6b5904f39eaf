use Rattle.state_files.proofs.Having.{have_data}
use Rattle.state_files.proofs.laws.files_have_data.Goals as goal

pub returns : goal.returns
returns c = have_data c.streams_of_states.ensures
