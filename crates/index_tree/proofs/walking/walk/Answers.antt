use Rattle.index_tree.specs.Places.{place_of}
use Rattle.index_tree.proofs.Calls.{walk_gives}
use Rattle.index_tree.proofs.walking.walk.Goals as goal

pub returns-clause-index : goal.returns-clause-index
returns-clause-index g c =
    walk_gives _ (place_of c.args.dir.now) c.args.up.now c.args.dir.now.root _ _ c.walk_from.result c.walk_from.ensures.cause c.walk_from.ensures.value
