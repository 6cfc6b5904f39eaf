use Rattle.std.proofs.Common.{◌<◌, ◌+◌, length, sym, ◌∙◌, arith, refl}
use Rattle.std.proofs.lemmas.List.{ext_get_or}
use Rattle.std.proofs.lemmas.List.FromFn.{length-map-range_with_len, get_or-map-range_with_len}
use Rattle.volume_format.specs.Fillings.{filling_byte, filling_bytes}
use Rattle.volume_format.proofs.filling.Filling.fill.Goals as goal

pub returns : goal.returns
unfolding filling_bytes
returns c =
    ext_get_or 0 _ _
    (omega (arith, c.loop-i.auto.out, length-map-range_with_len (filling_byte c.args.self) c.args.at (length c.args.out.now)))
    (λ i lt.
    let inside : i < length c.args.out.now = omega (arith, c.loop-i.auto.out) in
    c.loop-i.invariant i (omega (arith, c.loop-i-test.false)) ∙ sym (get_or-map-range_with_len (filling_byte c.args.self) c.args.at (length c.args.out.now) i (c.args.at + i) 0 inside refl))
