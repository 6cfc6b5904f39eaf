use Rattle.map_change.proofs.After.{bits_in_words}
use Rattle.map_change.proofs.bits.changed_record_bits.Goals as goal

pub returns-clause-value : goal.returns-clause-value
returns-clause-value g c = bits_in_words _ c.changed_bits.result c.args.live.now.map.per_cluster _ _ _ _ _ _ _ _ c.args.changes.now c.in_ok-old.ensures.stream c.in_ok-old.ensures.count c.in_ok-new.ensures.stream c.in_ok-new.ensures.count c.changed_bits.ensures.value
