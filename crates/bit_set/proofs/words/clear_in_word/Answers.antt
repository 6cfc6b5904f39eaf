use Rattle.std.proofs.Common.{◌-◌, ◌/◌, ◌^◌, ◌∙◌, ap, ℕ, arith}
use Rattle.std.specs.Int.RustNames.{count_ones, bit_and}
use Rattle.bit_set.proofs.Bitwise.{count_ones-of_turned}
use Rattle.bit_set.proofs.words.clear_in_word.Goals as goal

pub returns : goal.returns
returns c =
    c.from.ensures
    ∙ ap (λ (m : ℕ). count_ones (bit_and (2 ^ 64 - 1 - c.args.word / 2 ^ c.args.from) m)) c.low_ones.ensures
    ∙ count_ones-of_turned c.args.word c.args.from c.args.len (omega arith) c.requires.within
