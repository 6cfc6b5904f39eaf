use Rattle.std.proofs.Common.{rules, ℕ, ◌+◌, ◌*◌, sym, ◌∙◌, arith}
use Rattle.std.proofs.lemmas.List.FromFn.{map-range_with_len_more}
use Rattle.disk_model.specs.Numbers.{field}
use Rattle.record_model.specs.Attributes.{units_at}
use Rattle.record_model.proofs.units.units_at.Goals as goal

pub loop-i-preserved : goal.loop-i-preserved
unfolding units_at
loop-i-preserved c =
    c.in_ok-push.ensures.items
    ∙ rw (c.loop-i.invariant, c.u16_at.ensures) (sym (map-range_with_len_more (λ (i : ℕ). field (c.args.at + 2 * i) 2 c.args.bytes.now) 0 c.loop-i.i c.loop-i.i (omega arith)))

pub loop-i-init : goal.loop-i-init
unfolding units_at
loop-i-init c = search rules
