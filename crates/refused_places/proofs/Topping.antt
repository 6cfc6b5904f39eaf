-- A root that goes down as a whole.
use Rattle.std.proofs.Common.{◌≡◌, ℕ, ◌+◌, ◌≤◌, refl, inl, inr, arith}
use Rattle.std.proofs.lemmas.Bool.{cases_eq}
use Rattle.index_model.specs.Trees.{Tree, held, same}
use Rattle.index_model.proofs.Marks.{same_not}
use Rattle.index_plan.proofs.Standing.{same_self}
use Rattle.refused_places.specs.Topped.{LevelsTop}

once_below : (f : ℕ) (s : Tree) → held f s ≡ 0 → ((v : ℕ) → held v s ≤ 1) → (v : ℕ) → same v f + held v s ≤ 1
once_below f s none once v = elim (cases_eq v f) [
  | inl is ↦ (let own = same_self f in rw is (omega (arith, own, none)))
  | inr other ↦ (let no = same_not v f other in let most = once v in omega (arith, no, most))
]

pub levels_topped : LevelsTop
levels_topped nodes upper given room key t s f more k none blocks fits =
    let height = k.height in
    let fresh = k.fresh in
    let behind = k.behind in (
      record {
        keys = k.keys;
        once = once_below f s none k.once;
        fit = (inr fits, k.fit);
        root = (f, refl);
        height = omega (arith, height);
        fresh = omega (arith, fresh);
        behind = omega (arith, behind, blocks);
      },
      refl,
    )
