-- Types that don't fall.
use Rattle.std.proofs.Common.{◌≡◌, true, List, [], ◌∷◌, refl, arith}
use Rattle.std.proofs.lemmas.Bool.{and_parts, and_from, leb-true, le-leb}
use Rattle.record_model.specs.declared.attribute.Attr.{Attr}
use Rattle.record_model.specs.Records.{TypesRise}
use Rattle.record_writer.specs.Fitting.{rise_from}

rise_to : (a : Attr) (attrs : List Attr) → rise_from a.head.kind attrs ≡ true → TypesRise (a ∷ attrs)
rise_to a [] e = tt
rise_to a (b ∷ attrs) e = let parts = and_parts _ _ e in (leb-true _ _ parts.0, rise_to b attrs parts.1)

rise_back : (a : Attr) (attrs : List Attr) → TypesRise (a ∷ attrs) → rise_from a.head.kind attrs ≡ true
rise_back a [] rise = refl
rise_back a (b ∷ attrs) rise = and_from _ _ (le-leb _ _ rise.0) (rise_back b attrs rise.1)

pub rise_true : (attrs : List Attr) → rise_from 0 attrs ≡ true → TypesRise attrs
rise_true [] e = tt
rise_true (a ∷ attrs) e = let parts = and_parts _ _ e in rise_to a attrs parts.1

pub true_rise : (attrs : List Attr) → TypesRise attrs → rise_from 0 attrs ≡ true
true_rise [] rise = refl
true_rise (a ∷ attrs) rise = and_from _ _ (le-leb _ _ (omega arith)) (rise_back a attrs rise)
