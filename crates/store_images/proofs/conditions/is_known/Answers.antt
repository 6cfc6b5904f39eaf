use Rattle.std.proofs.Common.{List, length, subst, sym, ap, ◌∙◌}
use Rattle.std.proofs.lemmas.Bool.{eqb-true}
use Rattle.txn_core.specs.txn_state.States.{facts_of}
use Rattle.log_page.specs.declared.places.LogPlace.{LogPlace}
use Rattle.log_page.specs.declared.places.Extent.{Extent}
use Rattle.store_images.specs.Running.{IsBeside}
use Rattle.store_images.proofs.Beside.{known_beside, no_items}
use Rattle.store_images.proofs.conditions.is_known.Goals.{then-is_empty, else-is_empty}
use Rattle.store_images.proofs.conditions.is_known.Goals as goal

pub returns-then-is_in_grid : goal.returns-then-is_in_grid
returns-then-is_in_grid c = λ beside. elim c.if-is_empty.branch [
  | then-is_empty w ↦ known_beside (facts_of c.args.state.now) c.args.block (sym c.found.ensures ∙ no_items c.found.result.now (eqb-true (length c.found.result.now) 0 (sym c.is_empty.ensures ∙ w.if-is_empty.true))) (sym w.is_in_grid.ensures ∙ sym w.value-is ∙ c.if-is_in_grid.true) (subst (λ (runs : List Extent). IsBeside runs c.args.block) (c.as_slice.ensures ∙ ap (λ (p : LogPlace). p.runs) c.place.ensures) (c.is_beside.ensures beside))
  | else-is_empty w ↦ absurd (let none = w.value-is in let is = c.if-is_in_grid.true in cc)
]
