use Rattle.index_tree.specs.Places.{place_of}
use Rattle.index_change.proofs.Insertions.{by_most}
use Rattle.index_change.proofs.Removings.{takes_known}
use Rattle.record_model.specs.disk_model.Content.{Content}
use Rattle.index_tree.specs.index_model.Walks.{walk_of}
use Rattle.index_change.proofs.Searches.{view_walked}
use Rattle.index_change.proofs.removing.Removal.take_out.Goals as goal

pub returns-in-Ok-clause-value : goal.returns-in-Ok-clause-value
returns-in-Ok-clause-value g c =
    let o = c.args.self.now in
    let p = place_of o.dir.now in
    takes_known p o.up.now o.dir.now.root o.dir.now.used o.link.now o.fresh.now o.root.now _ _ c.in-Ok.rooted c.into_vec.result.items c.in-Ok.gone c.finish.result 16
    c.in_ok-held.ensures.same (g.met.V.View.sized c.args.v.now) c.requires.enough c.requires.root c.in-Ok.ensures.planned c.in-Ok.ensures.taken c.into_vec.ensures (by_most _ p o.root.now) c.requires.keys c.finish.ensures.made c.finish.ensures.only

pub returns-in-Ok-clause-walked : goal.returns-in-Ok-clause-walked
returns-in-Ok-clause-walked g c =
    let o = c.args.self.now in
    view_walked _ c.finish.result (λ (x : Content). walk_of x (place_of o.dir.now) o.up.now o.dir.now.root) c.finish.ensures.only
