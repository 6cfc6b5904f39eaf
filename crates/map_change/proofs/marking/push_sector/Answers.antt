use Rattle.map_change.proofs.Marked.{sector_read}
use Rattle.map_change.proofs.marking.push_sector.Goals as goal

pub returns-clause-value : goal.returns-clause-value
returns-clause-value g c =
    sector_read _ c.args.per c.args.stream.now c.args.count c.args.sector c.min.result _ c.front.new.out c.args.runs.now.items c.push_bits.new.runs.items c.requires.room c.min.ensures c.in_ok-front.ensures.bytes c.in_ok-push_bits.ensures
