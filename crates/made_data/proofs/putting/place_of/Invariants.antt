use Rattle.std.proofs.Common.{◌≡◌, ◌+◌, drop}
use Rattle.made_data.specs.Ids.{place_of}
use Rattle.made_data.proofs.putting.place_of.Given as goal

-- those that were passed, and those that will be, are all that stand before the place
abbrev pub invariant-loop-attr : goal.invariant-loop-attr
invariant-loop-attr l = record {
  count : l.at ≡ l.attr-index;
  place : l.at + place_of l.kind l.name (drop l.attr-index l.attrs) ≡ place_of l.kind l.name l.attrs;
}
