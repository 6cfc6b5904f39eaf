use Rattle.std.proofs.Common.{rules, ◌∙◌, sym, arith, map}
use Rattle.std.proofs.lemmas.List.FromFn.{map-range_with_len_more}
use Rattle.state_model.specs.Loads.{table_in}
use Rattle.volume_map.specs.Lists.{read_of, ten_at, tens_of}
use Rattle.volume_map.proofs.holding.tens_of.Goals as goal

pub loop-number-init : goal.loop-number-init
unfolding tens_of
loop-number-init c = search rules

pub loop-number-preserved : goal.loop-number-preserved
unfolding tens_of
loop-number-preserved c =
    c.in_ok-push.ensures.items
    ∙ rw (c.loop-number.invariant, c.ten_at.ensures) (sym (map-range_with_len_more (ten_at (table_in c.args.records.now) (map read_of c.args.lists.now)) 0 c.loop-number.number c.loop-number.number (omega arith)))
