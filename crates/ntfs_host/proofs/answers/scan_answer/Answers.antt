use Rattle.std.proofs.Common.{Vec, Global, Ok, ◌∙◌, ap}
use Rattle.std.specs.Prelude.{String, string_bytes}
use Rattle.std.proofs.lemmas.Result.{err_from_is_err_and}
use Rattle.file_tree.specs.declared.link.Link.{Link}
use Rattle.volume_run.specs.image_read.Scans.{scan_of}
use Rattle.image_dump.specs.Texts.{scan_text}
use Rattle.ntfs_host.proofs.Answering.{fails_first, text_is, scan_is, refused_first, never_empty}
use Rattle.ntfs_host.proofs.answers.scan_answer.Goals as goal

pub returns-in_err-links-clause-answer : goal.returns-in_err-links-clause-answer
returns-in_err-links-clause-answer g c =
    let p = err_from_is_err_and c.from_residual.result c.from_residual.ensures.1 in
    rw (p.1, p.2) (scan_is _ _ _ (refused_first _ _ c.in_err-links.ensures.none) (fails_first _ (λ (links : Vec Link Global). links.items) (λ (s : String Global). string_bytes s) _ scan_of (λ disk x. Ok (scan_text x)) c.in_err-links.ensures.answer))

pub returns-clause-answer : goal.returns-clause-answer
returns-clause-answer g c = scan_is _ _ _ (never_empty _ c.in_ok-links.links c.in_ok-text_of_links.field-0 c.in_ok-links.ensures.none) (text_is _ c.in_ok-links.links.items c.in_ok-text_of_links.field-0 scan_of scan_text c.in_ok-links.ensures.answer (c.in_ok-text_of_links.ensures.text ∙ ap scan_text c.deref.ensures.value))
