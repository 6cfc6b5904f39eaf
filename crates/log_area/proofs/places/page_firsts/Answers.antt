use Rattle.std.proofs.Common.{ℕ, List, ◌∙◌, ap₂, sym, ◌++◌, ◌∷◌, [], arith}
use Rattle.std.proofs.lemmas.List.FromFn.{map-range_with_len_more}
use Rattle.log_area.specs.Areas.{page_first}
use Rattle.log_area.proofs.places.page_firsts.Goals as goal

pub loop-page-preserved : goal.loop-page-preserved
loop-page-preserved c =
    c.in_ok-push.ensures.items ∙ ap₂ (λ (xs : List ℕ) (x : ℕ). xs ++ x ∷ []) c.loop-page.invariant c.page_first.ensures
    ∙ sym (map-range_with_len_more (page_first c.args.place.now) 0 c.loop-page.page c.loop-page.page (omega arith))
