use Rattle.std.proofs.Common.{◌≡◌, ℕ, length, ap, ◌∙◌, arith}
use Rattle.std.specs.List.{range_with_len, filter, flat_map}
use Rattle.file_tree.specs.Trees.{is_long}
use Rattle.state_model.specs.Files.{links_at}
use Rattle.state_model.specs.Loads.{table_in}
use Rattle.state_model.specs.Trees.{all_links}
use Rattle.volume_links.specs.Names.{long_links}
use Rattle.volume_links.proofs.Growing.{file_step}
use Rattle.volume_links.proofs.names.long_links.Goals as goal

pub loop-number-preserved : goal.loop-number-preserved
loop-number-preserved c = file_step c.args.files.now c.loop-number.number c.index-files-number.result _ _ (omega arith) c.index-files-number.is c.loop-number.invariant c.in_ok-push_file.ensures

pub returns : goal.returns
unfolding long_links all_links
returns c =
    let all : c.loop-number.number ≡ length c.args.files.now = omega arith in
    c.loop-number.invariant ∙ ap (λ (n : ℕ). filter is_long (flat_map (links_at (table_in c.args.files.now)) (range_with_len 0 n))) all
