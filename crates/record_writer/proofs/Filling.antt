-- Filled mapping pairs are read as the same runs.
use Rattle.std.proofs.Common.{◌≡◌, ℕ, ◌-◌, ◌+◌, List, [], ◌∷◌, ◌++◌, length, Ok, ap, ◌∙◌, arith, unwrap_or}
use Rattle.std.proofs.lemmas.List.{append_assoc}
use Rattle.disk_model.specs.Bytes.{zeros, up8}
use Rattle.record_model.specs.declared.runs.Run.{Run}
use Rattle.record_model.specs.Attributes.{filled}
use Rattle.record_model.specs.Pairs.{runs_of, SpellsRuns}
use Rattle.record_model.proofs.PairsRead.{spelled_read}
use Rattle.record_model.proofs.PairsBack.{read_spelled}

-- bytes behind the end are free
longer : (before : ℕ) (runs : List Run) (bytes more : List ℕ) → SpellsRuns before runs bytes → SpellsRuns before runs (bytes ++ more)
longer before [] bytes more spelled = (spelled.0 ++ more, ap (λ (l : List ℕ). l ++ more) spelled.1)
longer before (r ∷ runs) bytes more spelled =
    let rest = spelled.0 in
    let pair = spelled.1.0 in
    let behind = append_assoc pair.len (pair.delta ++ rest) more ∙ ap (λ (l : List ℕ). pair.len ++ l) (append_assoc pair.delta rest more) in (
      rest ++ more,
      (
        record {
          header = pair.header;
          len = pair.len;
          delta = pair.delta;
          whole = ap (λ (l : List ℕ). l ++ more) pair.whole ∙ ap (λ (l : List ℕ). pair.header ∷ l) behind;
          low_nibble = pair.low_nibble;
          high_nibble = pair.high_nibble;
          len_some = pair.len_some;
          len_width = pair.len_width;
          delta_width = pair.delta_width;
          len_is = pair.len_is;
          lcn_is = pair.lcn_is;
        },
        longer (unwrap_or r.lcn before) runs rest more spelled.1.1,
      ),
    )

pub filled_read : (first : ℕ) (pairs : List ℕ) (runs : List Run) → runs_of first pairs ≡ Ok runs → runs_of first (filled 0 pairs) ≡ Ok runs
unfolding filled
filled_read first pairs runs e =
    let back = read_spelled first runs pairs e in
    let more = zeros (up8 (0 + length pairs) - (0 + length pairs)) in
    spelled_read first runs (pairs ++ more) back.0 (longer 0 runs pairs more back.1)

-- so many zeros behind the pairs
pub filled_by : (pairs bytes : List ℕ) (n : ℕ) → bytes ≡ pairs ++ zeros n → n ≡ up8 (length pairs) - length pairs → bytes ≡ filled 0 pairs
unfolding filled
filled_by pairs bytes n e f = let same : n ≡ up8 (0 + length pairs) - (0 + length pairs) = omega (arith, f) in e ∙ ap (λ (x : ℕ). pairs ++ zeros x) same
