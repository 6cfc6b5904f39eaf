use Rattle.std.proofs.Common.{ℕ, get_or, ap, ◌∙◌, List}
use Rattle.bit_set.proofs.Places.{get_or-padded, get_or-from}
use Rattle.bit_set.proofs.words.eight_bytes.Goals as goal

pub returns : goal.returns
returns c = λ k lt.
    rw (c.copy_from_slice.ensures.after)
    (get_or-padded c.split_at.result.1.now 8 c.min-count.result k c.min-count.ensures lt
    ∙ ap (λ (xs : List ℕ). get_or xs k 0) c.split_at.ensures.back
    ∙ get_or-from c.args.bytes.now c.args.at c.min.result k c.min.ensures)
