use Rattle.std.proofs.Common.{◌∙◌, ◌++◌, true, ap, sym, subst, refl}
use Rattle.stream_map.specs.state_model.declared.stream.Extents.{Extents}
use Rattle.stream_map.specs.state_model.Loads.{no_extents}
use Rattle.volume_model.specs.Indexes.{blocks_of}
use Rattle.index_tree.specs.Allocations.{IsCounted}
use Rattle.index_tree.proofs.Listed.{nothing_counted, none_listed}
use Rattle.index_tree.proofs.blocks.BlockList.of_blocks.Goals as goal

pub invariant_of-result : goal.invariant_of-result
invariant_of-result c = subst (λ (e : Extents). IsCounted c.unwrap.result e true 0) (sym c.no_extents.ensures.value) (nothing_counted c.unwrap.result)

pub returns : goal.returns
returns c = ap (λ (e : Extents). blocks_of c.unwrap.result e ++ c.args.blocks.items) c.no_extents.ensures.value ∙ none_listed c.unwrap.result no_extents c.args.blocks.items refl
