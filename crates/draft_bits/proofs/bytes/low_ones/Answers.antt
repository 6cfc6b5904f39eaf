use Rattle.std.proofs.Common.{◌≡◌, ◌-◌, ◌^◌, ap, ◌∙◌, arith, ℕ}
use Rattle.std.proofs.lemmas.Nat.Bits.{ones_shr}
use Rattle.draft_bits.proofs.bytes.low_ones.Goals as goal

pub returns : goal.returns
returns c =
    let rest : 8 - (8 - c.args.len) ≡ c.args.len = omega arith in
    ones_shr 8 (8 - c.args.len) (omega arith) ∙ ap (λ (n : ℕ). 2 ^ n - 1) rest
