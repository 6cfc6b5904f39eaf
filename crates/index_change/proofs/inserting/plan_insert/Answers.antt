use Rattle.index_plan.specs.Lists.{own_key}
use Rattle.index_tree.specs.Places.{place_of}
use Rattle.index_change.proofs.Joining.{insert_laid}
use Rattle.index_change.proofs.inserting.plan_insert.Goals as goal

pub returns-clause-value : goal.returns-clause-value
returns-clause-value g c =
    let d = c.args.dir.now in
    insert_laid _ (place_of d) c.args.up.now d.root d.used (own_key c.args.key.now) c.args.fresh.now _ _ (g.met.V.View.sized c.args.v.now) c.requires.name c.requires.enough c.in_ok-nodes.ensures.value c.in_ok-nodes.ensures.front c.in_ok-lay_out.ensures.laid
