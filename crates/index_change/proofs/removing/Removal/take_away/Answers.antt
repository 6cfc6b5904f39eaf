use Rattle.index_tree.specs.Places.{place_of}
use Rattle.index_change.proofs.Removings.{empties_known, two_known}
use Rattle.index_change.proofs.removing.Removal.take_away.Goals as goal

pub returns-then-keys-lt2-clause-value : goal.returns-then-keys-lt2-clause-value
returns-then-keys-lt2-clause-value g c =
    let o = c.args.self.now in
    let p = place_of o.dir.now in
    empties_known p o.up.now o.dir.now.root o.dir.now.used o.link.now o.fresh.now o.root.now _ c.in_ok-keys.keys c.new-blocks.result.items c.few_of.new.blocks.items c.as_slice-root.result.now c.in_ok-emptied.field-0
    c.requires.root c.if-keys-lt2.true c.new-blocks.ensures.items c.as_slice-root.ensures c.in_ok-keys.ensures.keys c.in_ok-keys.ensures.blocks c.in_ok-emptied.ensures

pub take_out-requires-clause-keys : goal.take_out-requires-clause-keys
take_out-requires-clause-keys g c =
    let o = c.args.self.now in
    let p = place_of o.dir.now in
    two_known p o.up.now o.dir.now.root o.dir.now.used o.link.now o.fresh.now o.root.now _ _ c.in_ok-keys.keys c.as_slice-root.result.now c.in_ok-keys.ensures.same c.as_slice-root.ensures c.if-keys-lt2.false c.in_ok-keys.ensures.keys
