use Rattle.record_model.proofs.Spellings.{spelling_spells, spelling_read, spelling_has_length, spelling_inside}
use Rattle.record_model.proofs.record_laws.attr_read_again.Goals as goal

pub returns : goal.returns
returns c = record { spelled = spelling_spells; length = spelling_has_length; inside = spelling_inside; read = spelling_read }
