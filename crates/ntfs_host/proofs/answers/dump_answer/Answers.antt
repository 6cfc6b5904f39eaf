use Rattle.std.proofs.Common.{Global, Ok}
use Rattle.std.specs.Prelude.{String, string_bytes}
use Rattle.std.proofs.lemmas.Result.{err_from_is_err_and}
use Rattle.file_tree.specs.declared.tree.Tree.{Tree}
use Rattle.volume_run.specs.image_read.Checks.{check_of}
use Rattle.image_dump.specs.Texts.{dump_text}
use Rattle.ntfs_host.proofs.Answering.{fails_first, text_is, dump_is, refused_first, never_empty}
use Rattle.ntfs_host.proofs.answers.dump_answer.Goals as goal

pub returns-in_err-tree-clause-answer : goal.returns-in_err-tree-clause-answer
returns-in_err-tree-clause-answer g c =
    let p = err_from_is_err_and c.from_residual.result c.from_residual.ensures.1 in
    rw (p.1, p.2) (dump_is _ _ _ (refused_first _ _ c.in_err-tree.ensures.none) (fails_first _ (λ (t : Tree). t) (λ (s : String Global). string_bytes s) _ check_of (λ disk x. Ok (dump_text x)) c.in_err-tree.ensures.answer))

pub returns-clause-answer : goal.returns-clause-answer
returns-clause-answer g c = dump_is _ _ _ (never_empty _ c.in_ok-tree.tree c.in_ok-dump_of_tree.field-0 c.in_ok-tree.ensures.none) (text_is _ c.in_ok-tree.tree c.in_ok-dump_of_tree.field-0 check_of dump_text c.in_ok-tree.ensures.answer c.in_ok-dump_of_tree.ensures.text)
