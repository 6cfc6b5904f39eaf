use Rattle.std.proofs.Common.{rules, ◌≡◌, false}
use Rattle.state_model.specs.Files.{is_base_record}
use Rattle.volume_links.proofs.Seeing.{no_file}
use Rattle.volume_links.proofs.scanning.take_file.Goals as goal

pub returns-then-not-is_base_record : goal.returns-then-not-is_base_record
returns-then-not-is_base_record c =
    let isnt : is_base_record c.args.file.now ≡ false = search rules in
    no_file c.args.per c.args.number c.args.file.now c.args.links.now.items isnt
