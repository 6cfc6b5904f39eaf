use Rattle.std.proofs.Common.{rules, ◌≡◌, false}
use Rattle.state_model.specs.Loads.{is_used}
use Rattle.volume_links.proofs.Seeing.{unused}
use Rattle.volume_links.proofs.scanning.take_body.Goals as goal

pub returns-then-not-is_used : goal.returns-then-not-is_used
returns-then-not-is_used c =
    let whole : c.args.body.now.torn ≡ false = search rules in
    let isnt : is_used c.args.body.now.bytes ≡ false = search rules in
    unused c.args.per c.args.number c.args.body.now c.args.links.now.items whole isnt
