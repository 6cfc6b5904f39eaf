-- Where a directory's index lies.
use Rattle.index_tree.specs.declared.place.DirPlace.{DirPlace}
use Rattle.index_model.specs.Indexes.{Place}

abbrev pub place_of : DirPlace → Place
place_of d = record { blocks = d.blocks; step = d.step }
