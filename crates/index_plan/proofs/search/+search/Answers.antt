use Rattle.std.proofs.Common.{◌-◌, refl, arith}
use Rattle.std.proofs.lemmas.Result.{err_from_is_err_and}
use Rattle.index_plan.proofs.Looking.{down_err, down_ok}
use Rattle.index_plan.proofs.search.+search.Goals as goal

pub seek_down-returns-in_err-place-clause-trail : goal.seek_down-returns-in_err-place-clause-trail
seek_down-returns-in_err-place-clause-trail g t c =
    let p = err_from_is_err_and c.from_residual-in_err-place.result c.from_residual-in_err-place.ensures.1 in
    rw (p.1, p.2) (down_err (g.N.Nodes.reads c.args.nodes.now) (g.N.Nodes.reads c.args.nodes.now) (g.N.Nodes.reads c.read_below.new.nodes) (g.T.Target.side c.args.target.now) c.args.levels (c.args.levels - 1) c.args.above c.in-Some.vcn c.args.down c.in_ok-node.node c.in_err-place.field-0.0
    refl c.in_ok-node.ensures.unchanged (omega arith) c.in-Some.is c.in_ok-node.ensures.node c.in_err-place.ensures.place)

pub seek_down-returns-clause-trail : goal.seek_down-returns-clause-trail
seek_down-returns-clause-trail g t c =
    rw c.in_ok-with_spot.ensures (down_ok (g.N.Nodes.reads c.args.nodes.now) (g.N.Nodes.reads c.args.nodes.now) (g.N.Nodes.reads c.read_below.new.nodes) (g.T.Target.side c.args.target.now) c.args.levels (c.args.levels - 1) c.args.above c.in-Some.vcn c.args.down c.in_ok-node.node c.in_ok-place.place
    refl c.in_ok-node.ensures.unchanged (omega arith) c.in-Some.is c.in_ok-node.ensures.node c.in_ok-place.ensures.place)
