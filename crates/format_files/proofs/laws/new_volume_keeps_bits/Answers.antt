use Rattle.format_files.proofs.Owning.{keeps_bits_law}
use Rattle.format_files.proofs.laws.new_volume_keeps_bits.Goals as goal

pub returns : goal.returns
returns c = keeps_bits_law
