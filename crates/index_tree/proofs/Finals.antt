-- The final link of a list.
use Rattle.std.proofs.Common.{◌≡◌, ◌-◌, suc, List, [], ◌∷◌, length, refl, ap, ◌∙◌, arith}
use Rattle.std.specs.Prelude.{slice_get}
use Rattle.volume_model.specs.file_tree.declared.link.Link.{Link}
use Rattle.index_model.specs.Walks.{final}

pub final_last : (links : List Link) → final links ≡ slice_get links (length links - 1)
final_last [] = refl
final_last (l ∷ []) = refl
final_last (l ∷ k ∷ links) =
    let whole : suc (suc (length links)) - 1 ≡ suc (length links) = omega arith in
    let later : suc (length links) - 1 ≡ length links = omega arith in
    rw (whole) (final_last (k ∷ links) ∙ ap (slice_get (k ∷ links)) later)
