use Rattle.std.proofs.Common.{ap, sym, ◌∙◌, Option, Some}
use Rattle.host_base.specs.declared.file_ref.FileRef.{FileRef}
use Rattle.volume_lookup.specs.volume_map.declared.head.Head.{Head}
use Rattle.volume_lookup.specs.volume_map.Heads.{no_head}
use Rattle.volume_census.proofs.Sparing.{least_there, least_none}
use Rattle.volume_census.proofs.spare.least_spare.Goals as goal

pub returns-in-Some : goal.returns-in-Some
returns-in-Some c =
    let at = c.in-Some.ensures.lookup.3 in
    let number = c.lowest_clear-number.result in
    sym
    (least_there c.args.heads.now c.args.bits.now number c.lowest_clear-number.ensures at.0
    ∙ ap (λ (h : Head). let found : Option FileRef = Some (record { number = number; seq = h.sequence }) in found) (sym (at.1 no_head)))

pub returns-in-None : goal.returns-in-None
returns-in-None c = sym (least_none c.args.heads.now c.args.bits.now c.lowest_clear-number.result c.lowest_clear-number.ensures c.in-None.ensures.lookup.3)
