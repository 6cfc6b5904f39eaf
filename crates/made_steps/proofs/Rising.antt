-- A level more may be added where a plan needs one.
use Rattle.std.proofs.Common.{inl}
use Rattle.record_model.specs.Records.{used_of}
use Rattle.index_change.specs.Plans.{root_room}
use Rattle.volume_model.specs.Indexes.{index_place}
use Rattle.volume_model.specs.Volumes.{upper_of}
use Rattle.node_spreads.specs.Rises.{CouldStayFlat}
use Rattle.node_spreads.proofs.Rising.{levels_needed}
use Rattle.made_steps.specs.Behind.{RisesWhereNeeded}

pub rises_where_needed : RisesWhereNeeded
rises_where_needed c v n r value key fresh t lawful holds once long up =
    let k : CouldStayFlat c (index_place v.per r) (upper_of c v) value (used_of r.attrs) key t = levels_needed c (index_place v.per r) (upper_of c v) value (used_of r.attrs) key fresh t lawful holds once long up in
    record { flat = k.flat; behind = 0; spread = k.spread (root_room (used_of r.attrs) value); may = inl (k.crowded, inl k.tight) }
