use Rattle.record_model.proofs.RecordSpelling.{spelling_signed, spelling_place, spelling_count, spelling_array}
use Rattle.record_model.proofs.record_laws.record_is_body.Goals as goal

pub returns : goal.returns
returns c = record { signed = spelling_signed; place = spelling_place; count = spelling_count; array = spelling_array }
