use Rattle.std.proofs.Common.{Vec, Global, Ok}
use Rattle.std.proofs.lemmas.Result.{err_from_is_err_and}
use Rattle.file_tree.specs.declared.link.Link.{Link}
use Rattle.volume_links.specs.Names.{loaded_links}
use Rattle.image_open.proofs.Steps.{map_error, map_value}
use Rattle.image_read.proofs.Links.{as_links}
use Rattle.image_read.proofs.scanning.links_in.Goals as goal

pub returns-in_err-load_links-clause-answer : goal.returns-in_err-load_links-clause-answer
returns-in_err-load_links-clause-answer g c =
    let p = err_from_is_err_and c.from_residual.result c.from_residual.ensures.1 in
    as_links _ (λ (links : Vec Link Global). links.items) c.args.geometry.now _
    (rw p.1 (map_error _ (λ (links : Vec Link Global). links.items) (λ (links : Vec Link Global). links.items) _ _ (λ content. loaded_links content c.args.geometry.now) p.2 c.in_err-load_links.ensures.answer))

pub returns-clause-answer : goal.returns-clause-answer
returns-clause-answer g c =
    as_links _ (λ (links : Vec Link Global). links.items) c.args.geometry.now (Ok c.in_ok-load_links.field-0) (map_value _ _ (λ content. loaded_links content c.args.geometry.now) c.in_ok-load_links.ensures.answer)
