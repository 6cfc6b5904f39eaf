-- Files without attribute lists.
use Rattle.std.specs.Prelude.{Bool, true, not, Option, Some, None}
use Rattle.volume_map.specs.record_model.Records.{Record}
use Rattle.volume_map.specs.record_model.Constants.{attribute_list}
use Rattle.volume_map.specs.state_model.Files.{has_type}

-- the file, if there is one, has no attribute list
abbrev pub is_plain : Option Record → Bool
is_plain None = true
is_plain (Some r) = not (has_type attribute_list r)
