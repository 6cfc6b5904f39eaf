-- Attributes that are held by reference.
use Rattle.std.specs.Prelude.{ℕ, ◌≤◌, List, map}
use Rattle.std.specs.Borrow.{Bor}
use Rattle.std.specs.List.{AllByRecursion}
use Rattle.record_model.specs.declared.attribute.Attr.{Attr}
use Rattle.state_model.specs.Streams.{first_vcn}

-- the attributes that references stand for
abbrev pub behind : List (Bor Attr) → List Attr
behind refs = map (λ (r : Bor Attr). r.now) refs

-- no attribute begins past this VCN
abbrev pub BeginUpTo : ℕ → List Attr → Type 0
BeginUpTo most attributes = AllByRecursion (λ a. first_vcn a ≤ most) attributes
