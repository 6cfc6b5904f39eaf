-- The numbers of a map's blocks stay small.
use Rattle.std.proofs.Common.{◌≡◌, ℕ, ◌*◌, ◌^◌, ◌<◌, Bool, List, ◌∷◌, Option, Some, None, sym, subst}
use Rattle.std.specs.Prelude.{All, Result, Ok, Err, OnOk, OnErr, IfSome, IfNone}
use Rattle.std.specs.Ordering.{nat_cmp}
use Rattle.std.specs.Map.{keys_of, remove_entry}
use Rattle.std.specs.BTreeMap.{insert_entry}
use Rattle.std.proofs.lemmas.List.Elements.{All-tail}
use Rattle.std.proofs.lemmas.Map.Views.{All-keys-insert_entry, All-map-remove_entry}

module _ {X : Type 0} where
  pub put_keys : {E : Type 0} (result : Result (Option X) E) (n : ℕ) (x : X) (es new : List (ℕ × X)) → OnOk result (new ≡ insert_entry nat_cmp es n x) → OnErr result (new ≡ es)
      → All (λ k. k < 3 * 2 ^ 64) (keys_of es) → n < 3 * 2 ^ 64 → All (λ k. k < 3 * 2 ^ 64) (keys_of new)
  put_keys (Ok r) n x es new made same small lt = subst (λ ks. All (λ k. k < 3 * 2 ^ 64) (keys_of ks)) (sym made) (All-keys-insert_entry nat_cmp n x (λ k. k < 3 * 2 ^ 64) es small lt)
  put_keys (Err e) n x es new made same small lt = subst (λ ks. All (λ k. k < 3 * 2 ^ 64) (keys_of ks)) (sym same) small

  pub take_keys : (test : ℕ → Bool) (es new : List (ℕ × X)) → new ≡ remove_entry test es → All (λ k. k < 3 * 2 ^ 64) (keys_of es) → All (λ k. k < 3 * 2 ^ 64) (keys_of new)
  take_keys test es new made small = subst (λ ks. All (λ k. k < 3 * 2 ^ 64) (keys_of ks)) (sym made) (All-map-remove_entry test (λ e. e.0) (λ k. k < 3 * 2 ^ 64) es small)

  pub pop_keys : (result : Option (ℕ × X)) (es new : List (ℕ × X)) → IfSome result (λ p. es ≡ p ∷ new) → IfNone result (new ≡ es) → All (λ k. k < 3 * 2 ^ 64) (keys_of es) → All (λ k. k < 3 * 2 ^ 64) (keys_of new)
  pop_keys (Some p) es new taken same small = All-tail (λ k. k < 3 * 2 ^ 64) _ _ (subst (λ ks. All (λ k. k < 3 * 2 ^ 64) (keys_of ks)) taken small)
  pop_keys None es new taken same small = subst (λ ks. All (λ k. k < 3 * 2 ^ 64) (keys_of ks)) (sym same) small
