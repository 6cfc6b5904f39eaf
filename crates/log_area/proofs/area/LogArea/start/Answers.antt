use Rattle.std.proofs.Common.{◌∙◌, ap}
use Rattle.std.specs.Prelude.{length}
use Rattle.log_reading.proofs.log_model.EntrySpelled.{length-zeros}
use Rattle.log_area.proofs.Keeping.{start_keeps}
use Rattle.log_area.proofs.area.LogArea.start.Goals as goal

pub invariant_of-result : goal.invariant_of-result
invariant_of-result c = (
  start_keeps c.args.place.now c.in_ok-page_firsts.field-0.items c.in_ok-empty_pages.field-0.items c.args.lap c.args.restart c.args.opens c.requires.ring c.requires.begun c.requires.lap c.requires.restart c.in_ok-page_firsts.ensures c.in_ok-empty_pages.ensures,
  ap length c.in_ok-zeroed.ensures ∙ length-zeros 4096,
)
