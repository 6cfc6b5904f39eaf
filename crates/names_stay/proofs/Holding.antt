-- What is held of names stays where the names do.
use Rattle.std.proofs.Common.{◌≡◌, subst, ℕ, ◌<◌, length, map, sym, ap₂, ◌∙◌}
use Rattle.std.specs.List.{range_with_len}
use Rattle.names_stay.specs.Held.{NamesStay}
use Rattle.same_names.proofs.Naming.{links_are, counts_are, parents_are, rooted_are, in_system_are}

by_number : {X : Type 0} (f g : ℕ → X) (count more : ℕ) → g ≡ f → more ≡ count → map g (range_with_len 0 more) ≡ map f (range_with_len 0 count)
by_number {X = X} f g count more same long = ap₂ (λ (h : ℕ → X) (k : ℕ). map h (range_with_len 0 k)) same long

pub still_held : NamesStay
still_held names records others k same = record {
  links = k.links ∙ sym (links_are records others same);
  sized = k.sized ∙ sym same.count;
  counted = λ n low. k.counted n (subst (λ (count : ℕ). n < count) same.count low) ∙ sym (counts_are records others same n);
  ways = record {
    parents = k.ways.parents ∙ sym (by_number _ _ (length records) (length others) (parents_are records others same) same.count);
    rooted = k.ways.rooted ∙ sym (by_number _ _ (length records) (length others) (rooted_are records others same) same.count);
    in_system = k.ways.in_system ∙ sym (by_number _ _ (length records) (length others) (in_system_are records others same) same.count);
  };
}
