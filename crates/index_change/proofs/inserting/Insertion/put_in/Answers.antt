use Rattle.index_plan.specs.Lists.{own_key}
use Rattle.index_tree.specs.Places.{place_of}
use Rattle.index_change.proofs.Insertions.{by_most}
use Rattle.index_change.proofs.Puts.{puts_known}
use Rattle.index_change.proofs.inserting.Insertion.put_in.Goals as goal

pub returns-in-Ok-clause-value : goal.returns-in-Ok-clause-value
returns-in-Ok-clause-value g c =
    let o = c.args.self.now in
    let p = place_of o.dir.now in
    puts_known p o.up.now o.dir.now.root o.name.now o.dir.now.used (own_key o.key.now) o.fresh.now o.root.now _ _ c.in-Ok.rooted _ 16
    c.in_ok-held.ensures.same c.requires.enough c.requires.root c.requires.key c.requires.name c.in-Ok.ensures.planned c.in-Ok.ensures.level c.in-Ok.ensures.taken (by_most _ p o.root.now) c.in_ok-drawn_nodes-in-Ok.ensures.drawn
