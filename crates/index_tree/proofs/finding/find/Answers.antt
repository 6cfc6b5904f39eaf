use Rattle.index_tree.specs.Places.{place_of}
use Rattle.index_tree.proofs.Calls.{find_gives}
use Rattle.index_tree.proofs.finding.find.Goals as goal

pub returns-clause-found : goal.returns-clause-found
returns-clause-found g c =
    find_gives _ (place_of c.args.dir.now) c.args.up.now c.args.name.now c.args.dir.now.root _ _ c.find_from.result c.find_from.ensures.cause c.find_from.ensures.value
