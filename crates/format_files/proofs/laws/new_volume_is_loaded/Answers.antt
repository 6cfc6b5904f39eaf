use Rattle.format_files.proofs.Tabling.{volume_loaded}
use Rattle.format_files.proofs.laws.new_volume_is_loaded.Goals as goal

pub returns : goal.returns
returns c = volume_loaded
