use Rattle.std.proofs.Common.{sym, refl}
use Rattle.index_node.proofs.root_spelling.fits_last.Goals as goal

pub returns : goal.returns
returns c = (
  λ fits. record { no_reference = c.is_no_file.ensures.0 fits; no_key = sym (c.if-not-is_empty.ensures.0 refl); down = c.down_flag.ensures.fits },
  λ fits. c.is_no_file.ensures.1 fits.no_reference,
)
