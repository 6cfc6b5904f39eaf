-- Pieces of an entry that are appended one after the other.
use Rattle.std.proofs.Common.{◌≡◌, ℕ, zero, suc, ◌+◌, List, [], ◌∷◌, ◌++◌, sym, ap, ◌∙◌, refl, arith}
use Rattle.std.proofs.lemmas.List.{append_assoc, append-nil}
use Rattle.disk_model.specs.Bytes.{zeros}
use Rattle.log_model.specs.declared.entry.Entry.{Entry}
use Rattle.log_model.specs.declared.entry.Act.{Act}
use Rattle.log_model.specs.declared.entry.Act.TheVariants.{Commit}
use Rattle.log_model.specs.Entries.{act_spelling, bytes_spelling, commit_spelling, front_spelling, entry_spelling}

zeros_more : (n : ℕ) → zeros (n + 1) ≡ zeros n ++ 0 ∷ []
unfolding zeros
zeros_more zero = refl
zeros_more (suc n) =
    let next : suc n + 1 ≡ suc (n + 1) = omega arith in
    ap zeros next ∙ ap (λ (x : List ℕ). 0 ∷ x) (zeros_more n)

pub zero_pushed : (old out more : List ℕ) (n : ℕ) → out ≡ old ++ zeros n → more ≡ out ++ 0 ∷ [] → more ≡ old ++ zeros (n + 1)
zero_pushed old out more n e f = f ∙ ap (λ (x : List ℕ). x ++ 0 ∷ []) e ∙ append_assoc old (zeros n) (0 ∷ []) ∙ ap (λ (x : List ℕ). old ++ x) (sym (zeros_more n))

pub no_zero : (old : List ℕ) → old ≡ old ++ zeros 0
unfolding zeros
no_zero old = sym (append-nil old)

-- a commit is its fields
pub commit_pushed : (old out fields : List ℕ) (act : Act) → act ≡ Commit → fields ≡ commit_spelling → out ≡ old ++ fields → out ≡ old ++ (act_spelling act ++ bytes_spelling act)
unfolding zeros
commit_pushed old out fields act is e f =
    let none : act_spelling Commit ++ zeros 0 ≡ commit_spelling = append-nil commit_spelling in
    f ∙ ap (λ (x : List ℕ). old ++ x) (e ∙ sym none) ∙ ap (λ (a : Act). old ++ (act_spelling a ++ bytes_spelling a)) (sym is)

-- the header, and what stands after it
pub entry_pushed : (e : Entry) (front out : List ℕ) → front ≡ front_spelling e → out ≡ front ++ (act_spelling e.act ++ bytes_spelling e.act) → out ≡ entry_spelling e
unfolding entry_spelling
entry_pushed e front out is f =
    f ∙ ap (λ (x : List ℕ). x ++ (act_spelling e.act ++ bytes_spelling e.act)) is ∙ sym (append_assoc (front_spelling e) (act_spelling e.act) (bytes_spelling e.act))
