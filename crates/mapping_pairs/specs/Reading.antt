-- The reader's place, in the words of the definition.
use Rattle.record_model.specs.Pairs as pairs
use Rattle.mapping_pairs.specs.declared.reader.Place.{Place}

abbrev pub place_of : Place → pairs.Place
place_of p = record { at = p.at; clusters = p.clusters; lcn = p.lcn }
