use Rattle.std.proofs.Common.{◌≡◌, ◌++◌, take}
use Rattle.std.specs.Prelude.{filter}
use Rattle.std.specs.List.{list_any}
use Rattle.state_model.specs.Loads.{is_named_in}
use Rattle.volume_map.proofs.extras.push_named.Given as goal

abbrev pub invariant-loop-attr : goal.invariant-loop-attr
invariant-loop-attr l = l.extra ≡ l.initial.extra ++ filter (λ a. list_any (is_named_in l.number l.holder a) l.entries) (take l.attr-index l.attr-items)
