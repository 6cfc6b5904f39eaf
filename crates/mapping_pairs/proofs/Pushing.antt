-- The steps of the writer, over plain lists.
use Rattle.std.proofs.Common.{◌≡◌, ℕ, ℤ, pos, ◌+◌, ◌*◌, List, [], ◌∷◌, ◌++◌, length, unwrap_or, sym, ap, ◌∙◌, arith}
use Rattle.std.proofs.lemmas.List.{append_assoc}
use Rattle.record_model.specs.declared.runs.Run.{Run}
use Rattle.record_model.specs.Pairs.{signed_bytes, signed_width, delta_bytes, pair_of, pairs_from, pairs_of}
use Rattle.record_model.proofs.PairsSigned.{length-signed_bytes}

-- a header, the length's bytes and the delta's, one behind the other, are the pair
pub pair_pushed : (before : ℕ) (r : Run) (old a b out : List ℕ) (z : ℤ) (n d : ℕ) → z ≡ pos r.len → n ≡ signed_width z → d ≡ length (delta_bytes before r.lcn) → a ≡ old ++ (n + 16 * d) ∷ [] → b ≡ a ++ signed_bytes z → out ≡ b ++ delta_bytes before r.lcn → out ≡ old ++ pair_of before r
unfolding pair_of
pair_pushed before r old a b out z n d len_is n_is d_is a_is b_is out_is =
    let bytes = delta_bytes before r.lcn in
    let head : n + 16 * d ≡ length (signed_bytes z) + 16 * length bytes = ap (λ k. k + 16 * d) (n_is ∙ sym (length-signed_bytes z)) ∙ ap (λ k. length (signed_bytes z) + 16 * k) d_is in
    out_is
    ∙ ap (λ l. l ++ bytes) b_is
    ∙ ap (λ l. (l ++ signed_bytes z) ++ bytes) a_is
    ∙ append_assoc (old ++ (n + 16 * d) ∷ []) (signed_bytes z) bytes
    ∙ append_assoc old ((n + 16 * d) ∷ []) (signed_bytes z ++ bytes)
    ∙ ap (λ k. old ++ k ∷ (signed_bytes z ++ bytes)) head
    ∙ ap (λ x. old ++ (length (signed_bytes x) + 16 * length bytes) ∷ (signed_bytes x ++ bytes)) len_is

-- before the first run
pub none_pushed : (items : List ℕ) (before : ℕ) (runs : List Run) → items ≡ [] → before ≡ 0 → items ++ pairs_from before runs ≡ pairs_of runs
unfolding pairs_of
none_pushed items before runs empty zero_is = ap (λ l. l ++ pairs_from before runs) empty ∙ ap (λ n. pairs_from n runs) zero_is

-- one more run
pub one_pushed : (items more : List ℕ) (before next : ℕ) (r : Run) (rest after : List Run) (whole : List ℕ) → rest ≡ r ∷ after → more ≡ items ++ pair_of before r → next ≡ unwrap_or r.lcn before → items ++ pairs_from before rest ≡ whole → more ++ pairs_from next after ≡ whole
unfolding pairs_from
one_pushed items more before next r rest after whole is pushed lcn kept =
    ap (λ l. l ++ pairs_from next after) pushed
    ∙ ap (λ n. (items ++ pair_of before r) ++ pairs_from n after) lcn
    ∙ append_assoc items (pair_of before r) (pairs_from (unwrap_or r.lcn before) after)
    ∙ sym (ap (λ l. items ++ pairs_from before l) is)
    ∙ kept

-- behind the last run
pub all_pushed : (items out : List ℕ) (before : ℕ) (rest : List Run) (whole : List ℕ) → length rest ≡ 0 → out ≡ items ++ 0 ∷ [] → items ++ pairs_from before rest ≡ whole → out ≡ whole
unfolding pairs_from
all_pushed items out before [] whole none is kept = is ∙ kept
all_pushed items out before (r ∷ rest) whole none is kept = absurd (omega arith)
