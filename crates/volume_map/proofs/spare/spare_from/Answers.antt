use Rattle.std.proofs.Common.{◌≡◌, ◌-◌, ◌∙◌, ℕ, length, ap, arith}
use Rattle.std.specs.List.{range_with_len, filter_map}
use Rattle.volume_map.specs.Heads.{spare_of}
use Rattle.volume_map.proofs.Heads.{spare_next}
use Rattle.volume_map.proofs.spare.spare_from.Goals as goal

pub loop-number-preserved : goal.loop-number-preserved
loop-number-preserved c = record {
  from = omega (arith, c.loop-number.invariant.from);
  within = omega (arith, c.loop-number.invariant.within);
  found = spare_next (spare_of c.args.heads.now c.args.bits.now) c.loop-number.number c.loop-number.spare _ _ c.loop-number.invariant.from c.loop-number.invariant.found c.spare_of.ensures c.in_ok-push_some.ensures;
}

pub returns : goal.returns
returns c =
    let e : c.loop-number.number - 24 ≡ length c.args.heads.now - 24 = omega (arith, c.loop-number.invariant.within, c.loop-number.invariant.from) in
    c.loop-number.invariant.found ∙ ap (λ (n : ℕ). filter_map (spare_of c.args.heads.now c.args.bits.now) (range_with_len 24 n)) e
