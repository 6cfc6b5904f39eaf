use Rattle.std.proofs.Common.{Ok}
use Rattle.std.proofs.lemmas.Result.{err_from_is_err_and}
use Rattle.file_tree.specs.declared.tree.Tree.{Tree}
use Rattle.image_open.specs.volume_map.Maps.{volume_in, IsMapOf}
use Rattle.image_open.proofs.volume_map.Mapped.{met}
use Rattle.image_open.proofs.Steps.{fails_first, goes_on}
use Rattle.image_read.specs.Checks.{tree_on}
use Rattle.image_read.specs.declared.reading.ReadJournal.{ReadJournal}
use Rattle.image_read.specs.Records.{records_in, records_by}
use Rattle.image_read.proofs.Whole.{are_whole}
use Rattle.image_read.proofs.reading.records_by.Goals as goal

pub returns-in_err-tree_on-clause-answer : goal.returns-in_err-tree_on-clause-answer
unfolding records_by
returns-in_err-tree_on-clause-answer g c =
    let p = err_from_is_err_and c.from_residual.result c.from_residual.ensures.1 in
    rw (p.1, p.2) (fails_first _ (λ (t : Tree). t) (λ (j : ReadJournal). j) _ (λ content. tree_on content (volume_in c.args.map.now)) (λ content _. Ok (records_in content c.args.map.now.per_cluster c.args.extents.now)) (met _ (λ content. IsMapOf content c.args.map.now) _ c.requires.parts c.in_err-tree_on.ensures.answer))

pub records_in-requires-clause-whole : goal.records_in-requires-clause-whole
records_in-requires-clause-whole g c = rw c.in_ok-tree_on.ensures.kept.same (are_whole _ (volume_in c.args.map.now) c.args.extents.now c.in_ok-tree_on.field-0 c.requires.place (met _ (λ content. IsMapOf content c.args.map.now) _ c.requires.parts c.in_ok-tree_on.ensures.answer))

pub returns-clause-answer : goal.returns-clause-answer
unfolding records_by
returns-clause-answer g c =
    goes_on _ (λ (j : ReadJournal). j) c.in_ok-tree_on.field-0 c.records_in.result (λ content. tree_on content (volume_in c.args.map.now)) (λ content _. Ok (records_in content c.args.map.now.per_cluster c.args.extents.now)) (met _ (λ content. IsMapOf content c.args.map.now) _ c.requires.parts c.in_ok-tree_on.ensures.answer) (rw c.in_ok-tree_on.ensures.kept.same at c.records_in.ensures.answer)
