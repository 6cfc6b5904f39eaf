-- What of an attribute its place in a written record asks for.
use Rattle.std.specs.Prelude.{ℕ, ◌<◌, ◌&&◌, nat_le, Bool, true, List, [], ◌∷◌, IsTrue}
use Rattle.record_model.specs.declared.attribute.Attr.{Attr}
use Rattle.record_model.specs.Attributes.{FitsAttr}
use Rattle.record_model.specs.Values.{has_lawful_value}
use Rattle.record_model.specs.Constants.{end_mark}

-- it has a spelling, isn't taken for the end mark, and has a lawful value
pub record FitsPlace (a : Attr) : Type 0 where
  pub attr : FitsAttr a
  pub kind : a.head.kind < end_mark
  pub lawful : IsTrue (has_lawful_value a)

-- no type is below the one before it, and the first isn't below this one
abbrev pub rise_from : ℕ → List Attr → Bool
rise_from least [] = true
rise_from least (a ∷ attrs) = nat_le least a.head.kind && rise_from a.head.kind attrs
