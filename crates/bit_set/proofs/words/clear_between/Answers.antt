use Rattle.std.proofs.Common.{◌≡◌, ap, ℕ, ◌+◌, ◌-◌, ◌/◌, ◌%◌, get_or, refl, arith}
use Rattle.bit_set.specs.Words.{is_one, word_bit, clear_count}
use Rattle.bit_set.proofs.Bitwise.{clear_count-zero, clear_count-le, clear_count-add}
use Rattle.bit_set.proofs.Places.{clear_count-in_word}
use Rattle.bit_set.proofs.words.clear_between.Goals as goal

pub loop-at-init : goal.loop-at-init
loop-at-init c =
    let none : c.args.first - c.args.first ≡ 0 = omega arith in
    record { order = omega arith; within = omega arith; count = rw (none, clear_count-zero (word_bit c.args.words.now) c.args.first) refl }

pub overflow_add-count : goal.overflow_add-count
overflow_add-count c =
    let before = clear_count-le (word_bit c.args.words.now) c.args.first (c.loop-at.at - c.args.first) in
    let here = clear_count-le (is_one (get_or c.args.words.now (c.loop-at.at / 64) 0)) (c.loop-at.at % 64) c.stretch-len.result in
    omega arith

pub loop-at-preserved : goal.loop-at-preserved
loop-at-preserved c =
    let f = word_bit c.args.words.now in
    let at : c.args.first + (c.loop-at.at - c.args.first) ≡ c.loop-at.at = omega arith in
    let len : c.loop-at.at + c.stretch-len.result - c.args.first ≡ (c.loop-at.at - c.args.first) + c.stretch-len.result = omega arith in
    let whole = clear_count-add (word_bit c.args.words.now) c.args.first (c.loop-at.at - c.args.first) c.stretch-len.result in
    let here = clear_count-in_word c.args.words.now c.loop-at.at c.stretch-len.result c.stretch-len.ensures.word in
    let there : clear_count (word_bit c.args.words.now) (c.args.first + (c.loop-at.at - c.args.first)) c.stretch-len.result ≡ clear_count (word_bit c.args.words.now) c.loop-at.at c.stretch-len.result = ap (λ (x : ℕ). clear_count (word_bit c.args.words.now) x c.stretch-len.result) at in
    let sums : clear_count (word_bit c.args.words.now) c.args.first (c.loop-at.at + c.stretch-len.result - c.args.first) ≡ clear_count (word_bit c.args.words.now) c.args.first ((c.loop-at.at - c.args.first) + c.stretch-len.result) = ap (λ (x : ℕ). clear_count (word_bit c.args.words.now) c.args.first x) len in
    record { order = omega arith; within = omega arith; count = omega arith }

pub returns-clause-bound : goal.returns-clause-bound
returns-clause-bound c =
    let so_far = clear_count-le (word_bit c.args.words.now) c.args.first (c.loop-at.at - c.args.first) in
    omega arith
