use Rattle.std.proofs.Common.{◌∙◌}
use Rattle.index_tree.specs.Places.{place_of}
use Rattle.found_places.specs.Places.{LieBehind}
use Rattle.place_makes.proofs.Ranges.{lie_behind}
use Rattle.place_makes.proofs.Joins.{planned_there}
use Rattle.place_makes.proofs.making.plan_there.Goals as goal

pub returns-clause-plans : goal.returns-clause-plans
returns-clause-plans g c =
    let p = place_of c.args.dir.now in
    let fresh = c.deref.result.now in
    let lie : LieBehind 8 c.args.file.now fresh = lie_behind p c.args.file.now c.len-count.result fresh c.requires.place c.len-count.ensures (c.deref.ensures.value ∙ c.in_ok-fresh.ensures) in
    planned_there (g.V.View.content c.args.draft.now.view.now) c.planned.result c.args.up.now c.args.made.now c.args.file.now p c.args.dir.now.root c.args.dir.now.used fresh c.args.draft.now.touched.items c.requires.place c.requires.root c.requires.used lie c.planned.ensures.front c.planned.ensures.planned
