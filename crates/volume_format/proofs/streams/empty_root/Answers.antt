use Rattle.std.proofs.Common.{◌≡◌, [], ◌∷◌, sym, subst, rules}
use Rattle.record_model.specs.Nodes.{last_entry}
use Rattle.index_node.specs.Roots.{HaveSpelling}
use Rattle.volume_format.proofs.FittingStreams.{empty_fits}
use Rattle.volume_format.proofs.streams.empty_root.Goals as goal

pub write_root-requires : goal.write_root-requires
write_root-requires c =
    let e : c.push.new.self ≡ last_entry c.args.down ∷ [] = search (rules, c.in_ok-push.ensures.ok, c.last_entry.ensures, c.new-entries.ensures) in
    subst HaveSpelling (sym e) (empty_fits c.args.down c.requires)
