use Rattle.std.proofs.Common.{◌≡◌}
use Rattle.std.specs.Prelude.{take}
use Rattle.std.specs.Option.{option_copied}
use Rattle.volume_map.specs.First.{first_of}
use Rattle.volume_map.proofs.Firsts.{attributes_in}
use Rattle.volume_map.proofs.flags.first_attribute.Given as goal

abbrev pub invariant-loop-attr : goal.invariant-loop-attr
invariant-loop-attr l = option_copied l.found ≡ first_of (attributes_in l.kind l.name (take l.attr-index l.attrs))
