use Rattle.stream_laws.proofs.Rewriting.{goes_on_itself, goes_on_whole, rewrites_in_place, blank_free, blank_unsigned, zeros_blank}
use Rattle.stream_laws.proofs.laws.tables_go_on.Goals as goal

pub returns : goal.returns
returns c = record { itself = goes_on_itself; initialised = goes_on_whole; in_place = rewrites_in_place; blank = blank_free; blank_bytes = blank_unsigned; zeros = zeros_blank }
