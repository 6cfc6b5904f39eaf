-- Bytes that are put behind those that stand in a page.
use Rattle.std.proofs.Common.{◌≡◌, ℕ, zero, suc, ◌+◌, ◌-◌, ◌≤◌, List, [], ◌∷◌, ◌++◌, length, drop, refl, sym, ap, ap₂, ◌∙◌, arith}
use Rattle.std.proofs.lemmas.List.{append_assoc, length-append, take_at, drop_at, drop-replicate}
use Rattle.log_area.specs.disk_model.Bytes.{written, zeros}
use Rattle.log_area.proofs.disk_model.Puts.{written_parts}
use Rattle.ring_laws.proofs.log_model.EntrySpelled.{length-zeros}

pub drop_written : (k at place : ℕ) (new xs : List ℕ) → place ≡ k + at → drop k (written place new xs) ≡ written at new (drop k xs)
drop_written zero at place new xs is = ap (λ (p : ℕ). written p new xs) (is ∙ omega arith)
drop_written (suc k) at place new [] is = refl
drop_written (suc k) at place new (b ∷ bs) is =
    let next : place ≡ suc (k + at) = omega arith in
    ap (λ (p : ℕ). drop (suc k) (written p new (b ∷ bs))) next ∙ drop_written k at (k + at) new bs refl

pub drop-zeros : (m n : ℕ) → drop m (zeros n) ≡ zeros (n - m)
unfolding zeros
drop-zeros m n = drop-replicate m n 0

-- behind the front, over zeros
pub over_zeros : (front new : List ℕ) (m : ℕ) → length new ≤ m → written (length front) new (front ++ zeros m) ≡ (front ++ new) ++ zeros (m - length new)
over_zeros front new m le =
    let all = length-append front (zeros m) in
    let blank = length-zeros m in
    written_parts (length front) new (front ++ zeros m) (omega arith)
    ∙ ap₂ (λ (f : List ℕ) (b : List ℕ). f ++ (new ++ b)) (take_at front (zeros m) (length front) refl)
    (ap (drop (length new)) (drop_at front (zeros m) (length front) refl) ∙ drop-zeros (length new) m)
    ∙ sym (append_assoc front new (zeros (m - length new)))
