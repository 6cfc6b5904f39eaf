-- The deepest node on the way is the first to take what is pending.
use Rattle.std.proofs.Common.{◌≡◌, List, [], ◌∷◌, ◌++◌, refl, ap}
use Rattle.index_plan.specs.Plans.{Spot}
use Rattle.index_plan.specs.Lists.{Rise, step, rise}

pub rise_last : (frames : List Spot) (f : Spot) (r : Rise) → rise (frames ++ f ∷ []) r ≡ rise frames (step f r)
rise_last [] f r = refl
rise_last (g ∷ frames) f r = ap (step g) (rise_last frames f r)
