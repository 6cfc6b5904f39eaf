use Rattle.index_node.proofs.EditsFit.{fits_put_in, fits_taken_out, fits_left, fits_right}
use Rattle.index_node.proofs.laws.edits_fit.Goals as goal

pub returns : goal.returns
returns c = record { put_in = fits_put_in; taken_out = fits_taken_out; left = fits_left; right = fits_right }
