use Rattle.format_files.proofs.Linking.{keeps_names_law}
use Rattle.format_files.proofs.laws.new_volume_keeps_names.Goals as goal

pub returns : goal.returns
returns c = keeps_names_law
