use Rattle.format_plans.proofs.Taking.{image_takes_file_law}
use Rattle.format_plans.proofs.laws.new_image_takes_file.Goals as goal

pub returns : goal.returns
returns c = image_takes_file_law
