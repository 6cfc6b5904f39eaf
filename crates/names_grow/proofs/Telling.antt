-- The names of records with a file more.
use Rattle.std.proofs.Common.{◌≡◌, subst, ℕ, ◌<◌, List, [], ◌∷◌, Bool, length, map, Option, sym, ap₂, ◌∙◌}
use Rattle.std.specs.List.{range_with_len}
use Rattle.same_names.specs.map_change.record_model.Records.{Record}
use Rattle.tree_laws.specs.file_tree.declared.link.Link.{Link}
use Rattle.volume_tree.specs.declared.names.Names.{Names}
use Rattle.volume_tree.specs.Named.{AreNamesOf}
use Rattle.made_names.specs.declared.naming.NewName.{NewName}
use Rattle.made_names.specs.Made.{MadeNamesTell, PutsName, with_file}
use Rattle.same_names.specs.Names.{SameNames, NamesTellSame}
use Rattle.names_grow.specs.Grown.{filled_up, GrownNamesTell, PutsFileMore}

by_number : {X : Type 0} (f g : ℕ → X) (count more : ℕ) → g ≡ f → more ≡ count → map g (range_with_len 0 more) ≡ map f (range_with_len 0 count)
by_number {X = X} f g count more same long = ap₂ (λ (h : ℕ → X) (k : ℕ). map h (range_with_len 0 k)) same long

-- what is held of names stays where the names do
still_held : NamesTellSame → (names : Names) (records others : List (Option Record)) → AreNamesOf names records → SameNames records others → AreNamesOf names others
still_held tell names records others k same = record {
  links = k.links ∙ sym (tell.links records others same);
  sized = k.sized ∙ sym same.count;
  counted = λ n low. k.counted n (subst (λ (count : ℕ). n < count) same.count low) ∙ sym (tell.counts records others n same);
  ways = tell.ways names.ways records others same k.ways;
}

pub grown_tell : MadeNamesTell → NamesTellSame → GrownNamesTell
grown_tell made tell records others n l old new more are puts =
    still_held tell new (with_file n more.file (filled_up (length others) records)) others (made (filled_up (length others) records) n more.file l old new are more.makes puts) more.names

pub puts_more : GrownNamesTell → (name : NewName) (old new : Names) → PutsName name.number name.links name.parent name.in_system old new → PutsFileMore name old new
puts_more tell name old new puts records others l more is are =
    tell records others name.number l old new more are
    (subst (λ (s : Bool). PutsName name.number (l ∷ []) l.parent.number s old new) is.in_system
    (subst (λ (d : ℕ). PutsName name.number (l ∷ []) d name.in_system old new) is.parent
    (subst (λ (ls : List Link). PutsName name.number ls name.parent name.in_system old new) is.links puts)))
