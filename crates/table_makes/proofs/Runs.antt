-- Runs that are the same.
use Rattle.std.proofs.Common.{◌≡◌, ℕ, ◌+◌, ◌<◌, ◌≤◌, List, [], ◌∷◌, ◌++◌, take, get_or, length, sym, ap, ◌∙◌, arith}
use Rattle.std.proofs.lemmas.List.{take_more, take_all}
use Rattle.record_model.specs.declared.runs.Run.{Run}

pub same_front : (old new : List Run) (i : ℕ) (d : Run) → i < length old → i < length new → take i new ≡ take i old → get_or old i d ≡ get_or new i d → take (i + 1) new ≡ take (i + 1) old
same_front old new i d first second same one =
    take_more new i d second
    ∙ ap (λ (l : List Run). l ++ get_or new i d ∷ []) same
    ∙ ap (λ (r : Run). take i old ++ r ∷ []) (sym one)
    ∙ sym (take_more old i d first)

-- lists that are the same as far as one of them goes, and as long
pub all_shared : (xs ys : List Run) (n : ℕ) → length xs ≤ n → length xs ≡ length ys → take n ys ≡ take n xs → xs ≡ ys
all_shared xs ys n long size same = sym (take_all n xs long) ∙ sym same ∙ take_all n ys (omega (arith, long, size))
