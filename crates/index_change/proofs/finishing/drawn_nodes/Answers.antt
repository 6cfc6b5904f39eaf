use Rattle.std.proofs.Common.{List, ℕ, ◌++◌, sym, ap, ◌∙◌, refl}
use Rattle.index_change.proofs.Joining.{front_is}
use Rattle.index_change.proofs.finishing.drawn_nodes.Goals as goal

pub returns-clause-drawn : goal.returns-clause-drawn
returns-clause-drawn c = record {
  root = refl;
  order = c.into_parts-writes.ensures.writes;
  taken = ap (λ (l : List ℕ). c.in_ok-taken.taken.items ++ l) (sym (c.as_slice.ensures.value ∙ c.reversed-left.ensures ∙ c.into_parts-writes.ensures.fresh)) ∙ c.in_ok-taken.ensures;
}

pub returns-clause-front : goal.returns-clause-front
returns-clause-front c = front_is _ _ _ c.in_ok-taken.ensures
