use Rattle.std.proofs.Common.{◌≡◌, take}
use Rattle.lookup_laws.specs.Names.{long_units}
use Rattle.volume_lookup.proofs.listing.long_units.Given as goal

-- those of the links so far
abbrev pub invariant-loop-link : goal.invariant-loop-link
invariant-loop-link l = l.names ≡ long_units (take l.link-index l.links)
