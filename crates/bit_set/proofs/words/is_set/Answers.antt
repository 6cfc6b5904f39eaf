use Rattle.std.proofs.Common.{ℕ, ap, ◌/◌, ◌%◌, get_or}
use Rattle.std.specs.Prelude.{◌==◌}
use Rattle.std.proofs.lemmas.Nat.Bits.{shr_and_one}
use Rattle.bit_set.proofs.words.is_set.Goals as goal

pub returns : goal.returns
returns c = ap (λ (x : ℕ). x == 1) (shr_and_one (get_or c.args.words.now (c.args.at / 64) 0) (c.args.at % 64))
