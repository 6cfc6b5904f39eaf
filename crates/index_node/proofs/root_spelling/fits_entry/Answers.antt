use Rattle.std.proofs.Common.{◌≡◌, true, false, ap, sym, ◌∙◌}
use Rattle.record_model.specs.Values.{is_file_name}
use Rattle.index_node.proofs.root_spelling.fits_entry.Goals as goal

pub returns : goal.returns
returns c = (
  λ lawful. record {
    number = c.fits_file.ensures.number.0 c.if-not-fits_file.false;
    seq = c.fits_file.ensures.seq;
    key = ap is_file_name (sym c.as_slice.ensures) ∙ sym c.is_file_name.ensures.value ∙ lawful;
    down = c.down_flag.ensures.fits;
  },
  λ fits. c.is_file_name.ensures.value ∙ ap is_file_name c.as_slice.ensures ∙ fits.key,
)

pub returns-then-not-fits_file : goal.returns-then-not-fits_file
returns-then-not-fits_file c = (
  λ e. absurd cc,
  λ fits. let small : c.fits_file.result ≡ true = c.fits_file.ensures.number.1 fits.number in let great : c.fits_file.result ≡ false = c.if-not-fits_file.true in absurd cc,
)
