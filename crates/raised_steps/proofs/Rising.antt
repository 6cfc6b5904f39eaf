-- A level more may be added where a block is split and the record would be too full without it.
use Rattle.std.proofs.Common.{◌<◌, Bool, inl, inr, subst, arith}
use Rattle.record_model.specs.Records.{used_of}
use Rattle.index_model.specs.Indexes.{node_of_block, nodes_of}
use Rattle.index_change.specs.Plans.{root_room, seventeen, needs_level}
use Rattle.volume_model.specs.Indexes.{index_place}
use Rattle.volume_model.specs.Volumes.{upper_of}
use Rattle.made_trees.specs.step_model.Spreads.{blocks_in, IsSpread}
use Rattle.node_spreads.specs.Nodes.{IsSpreadBy}
use Rattle.node_spreads.proofs.Fitting.{nodes_spread}
use Rattle.node_spreads.proofs.Widening.{spreads_wider}
use Rattle.raised_steps.specs.Rises.{RisesWhereFull}

pub rises_where_full : RisesWhereFull
rises_where_full c v n r value used key fresh t nodes more holds k flat some full crowded =
    let level : Bool = needs_level (upper_of c v) (root_room used value) key (seventeen fresh) t in
    let by : IsSpreadBy c (index_place v.per r) (upper_of c v) value used key fresh t nodes = nodes_spread c (index_place v.per r) (upper_of c v) value used key fresh t nodes (k.planned.1 t holds k.once) k.fit k.front k.enough k.once in
    let wide : IsSpread (nodes_of (node_of_block c (index_place v.per r))) (upper_of c v) (root_room (used_of r.attrs) value) key t level by.tree more =
    spreads_wider (nodes_of (node_of_block c (index_place v.per r))) (upper_of c v) (used_of r.attrs) used value key t level by.tree more k.least (by.spread more k.taken)
    in
    let split : blocks_in t < blocks_in by.tree = (let count = by.blocks in omega (arith, count, some)) in
    record {
      flat = by.tree;
      behind = more;
      spread = subst (λ (up : Bool). IsSpread (nodes_of (node_of_block c (index_place v.per r))) (upper_of c v) (root_room (used_of r.attrs) value) key t up by.tree more) flat wide;
      may = inl (crowded, inr (split, full by.tree by.root));
    }
