use Rattle.std.proofs.Common.{arith}
use Rattle.file_tree.specs.Trees.{is_long}
use Rattle.state_model.specs.Files.{attr_link}
use Rattle.volume_links.proofs.Growing.{long_step}
use Rattle.volume_links.proofs.names.push_record.Goals as goal

pub loop-attr-preserved : goal.loop-attr-preserved
loop-attr-preserved c =
    long_step is_long (attr_link _) c.as_slice-attr-items.result.now c.loop-attr.attr-index c.attr-item.result c.in_ok-attr_link.field-0 _ _ _ (omega arith) c.attr-item.is c.in_ok-attr_link.ensures c.loop-attr.invariant c.in_ok-push_long.ensures
