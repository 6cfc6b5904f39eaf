use Rattle.format_laws.proofs.Opening.{formatted_stands_for}
use Rattle.format_laws.proofs.laws.new_image_stands_for.Goals as goal

pub returns : goal.returns
returns c = formatted_stands_for
