use Rattle.std.proofs.Common.{◌≡◌, ℕ, ◌+◌, ◌*◌, ◌<◌, ◌/◌, ◌%◌, get_or, ap, ap₂, ◌∙◌, arith}
use Rattle.std.specs.Prelude.{◌==◌}
use Rattle.std.specs.Int.{bit_at}
use Rattle.bit_set.proofs.Places.{bit_at-little_from}
use Rattle.bit_set.proofs.words.word_at.Goals as goal

pub returns : goal.returns
returns c = λ j lt.
    let same : get_or c.eight_bytes.result (0 + j / 8) 0 ≡ get_or c.args.bytes.now (c.args.at + j / 8) 0 = ap (λ (k : ℕ). get_or c.eight_bytes.result k 0) (omega arith) ∙ c.eight_bytes.ensures (j / 8) (omega arith) in
    let byte : c.args.at + j / 8 ≡ (8 * c.args.at + j) / 8 = omega arith in
    let place : j % 8 ≡ (8 * c.args.at + j) % 8 = omega arith in
    let small : (k : ℕ) → k < 0 + 8 → get_or c.eight_bytes.result k 0 < 256 = λ k below. rw (c.eight_bytes.ensures k (omega arith)) (omega (arith, c.type_inv.bytes (c.args.at + k))) in
    let value : bit_at c.read_u64.result j ≡ bit_at (get_or c.eight_bytes.result (0 + j / 8) 0) (j % 8) = ap (λ (x : ℕ). bit_at x j) c.read_u64.ensures ∙ bit_at-little_from 8 0 c.eight_bytes.result small j (omega arith) in
    ap (λ (x : ℕ). x == 1) (value ∙ ap (λ (x : ℕ). bit_at x (j % 8)) same ∙ ap₂ (λ (k i : ℕ). bit_at (get_or c.args.bytes.now k 0) i) byte place)
