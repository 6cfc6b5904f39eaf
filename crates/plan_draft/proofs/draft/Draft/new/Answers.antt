use Rattle.std.proofs.Common.{◌≡◌, true, List, [], refl, sym, subst}
use Rattle.std.specs.Prelude.{All}
use Rattle.plan_draft.specs.declared.touched.Touched.{Touched}
use Rattle.std.proofs.lemmas.List.Elements.{All-nil}
use Rattle.plan_draft.specs.Touching.{keys_of, rises, IsWhole, IsOldOf}
use Rattle.plan_draft.proofs.draft.Draft.new.Goals as goal

nothing_rises : rises 0 (keys_of []) ≡ true
unfolding rises
nothing_rises = refl

pub invariant_of-result : goal.invariant_of-result
invariant_of-result g c = record {
  rises = subst (λ (l : List Touched). rises 0 (keys_of l) ≡ true) (sym c.new.ensures.items) nothing_rises;
  whole = subst (λ (l : List Touched). All IsWhole l) (sym c.new.ensures.items) (All-nil IsWhole);
  olds = λ content known. subst (λ (l : List Touched). All (IsOldOf content) l) (sym c.new.ensures.items) (All-nil (IsOldOf content));
}
