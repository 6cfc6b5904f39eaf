use Rattle.tree_laws.proofs.Agreeing.{no_more_torn, agrees_with_itself, same_upper, same_index, kept_sizes, kept_bit, same_journal, same_node, same_spares}
use Rattle.tree_laws.proofs.laws.frame_of_state.Goals as goal

pub returns : goal.returns
returns c = record { writes = no_more_torn; itself = agrees_with_itself; upper = same_upper; index = same_index; sizes = kept_sizes; record_bit = kept_bit; journal = same_journal; node = same_node; spare = same_spares }
