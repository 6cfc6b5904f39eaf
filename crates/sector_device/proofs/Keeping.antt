-- What a call keeps, from its parts.
use Rattle.std.proofs.Common.{◌≡◌, ◌⊎◌, ℕ, ◌+◌, ◌*◌, ◌/◌, ◌%◌, ◌≤◌, Bool, true, false, List, [], ◌∷◌, ◌++◌, length, take, min, Result, Ok, Err, refl, sym, ap, ap₂, ◌∙◌, inl, inr, arith}
use Rattle.std.specs.Prelude.{IsErr, IsTrue}
use Rattle.std.proofs.lemmas.List.{length-take-le}
use Rattle.disk_model.specs.Bytes.{part}
use Rattle.disk_model.specs.Sectors.{sector_of, raw_from}
use Rattle.sector_device.specs.Sectors.{sectors_of}
use Rattle.sector_device.proofs.SectorParts.{raw_from_is_part}
use Rattle.sector_device.specs.Kept.{Adds, Keeps, KeepsWrite}
use Rattle.sector_device.specs.declared.memory.KeptCall.{KeptCall}
use Rattle.sector_device.specs.declared.memory.KeptCall.TheVariants.{Write}

clash : false ≡ true → ⊥
clash e = cc

pub keeps_of : {A B X Y : Type 0} (call good torn : KeptCall) (fails : Bool) (done : Result X Y) (result : Result A B) (old begun laid now : List KeptCall) → begun ≡ old → Adds call done begun laid → now ≡ laid → (fails ≡ false → call ≡ good) → (fails ≡ true → call ≡ torn)
    → (IsTrue fails → IsErr result) → (IsErr done → IsErr result) → (IsErr result → IsTrue fails ⊎ IsErr done) → Keeps good torn result old now
keeps_of call good torn true done (Ok v) old begun laid now b adds same to_good to_failed fails wrong only = absurd (clash (fails refl))
keeps_of call good torn false (Err y) (Ok v) old begun laid now b adds same to_good to_failed fails wrong only = absurd (clash (wrong refl))
keeps_of call good torn false (Ok x) (Ok v) old begun laid now b adds same to_good to_failed fails wrong only = record {
  ok = same ∙ adds.ok ∙ ap₂ (λ (l : List KeptCall) (k : KeptCall). l ++ k ∷ []) b (to_good refl);
  err = tt;
}
keeps_of call good torn fail (Err y) (Err e) old begun laid now b adds same to_good to_failed fails wrong only = record { ok = tt; err = inl (same ∙ adds.err ∙ b) }
keeps_of call good torn true (Ok x) (Err e) old begun laid now b adds same to_good to_failed fails wrong only = record {
  ok = tt;
  err = inr (same ∙ adds.ok ∙ ap₂ (λ (l : List KeptCall) (k : KeptCall). l ++ k ∷ []) b (to_failed refl));
}
keeps_of call good torn false (Ok x) (Err e) old begun laid now b adds same to_good to_failed fails wrong only = elim (only refl) [
  | inl h ↦ absurd (clash h)
  | inr h ↦ absurd (clash h)
]

-- what a write keeps: the bytes that stood where so many of its sectors went
pub write_keeps : {A B X Y : Type 0} (at first taken torn tearing : ℕ) (fails : Bool) (bytes items begun_items : List ℕ) (done : Result X Y) (result : Result A B) (old begun laid now : List KeptCall) → begun ≡ old → begun_items ≡ items → torn ≡ tearing → taken ≤ length bytes → (fails ≡ false → taken ≡ length bytes)
    → (fails ≡ true → taken ≡ 512 * min torn (length bytes / 512)) → length bytes % 512 ≡ 0 → 512 * first + length bytes ≤ 512 * (length items / 512) → Adds (Write at first (part (512 * first) (length (take taken bytes)) begun_items)) done begun laid → now ≡ laid
    → (IsTrue fails → IsErr result) → (IsErr done → IsErr result) → (IsErr result → IsTrue fails ⊎ IsErr done) → KeepsWrite at first (length bytes / 512) tearing (sectors_of items) result old now
write_keeps at first taken torn tearing fails bytes items begun_items done result old begun laid now b same_items same_torn short all front whole within adds same failed wrong only =
    keeps_of (Write at first (part (512 * first) (length (take taken bytes)) begun_items)) (Write at first (raw_from (sector_of (sectors_of items)) first (length bytes / 512))) (Write at first (raw_from (sector_of (sectors_of items)) first (min tearing (length bytes / 512))))
    fails done result old begun laid now b adds same
    (λ e. kept_old (length bytes / 512) (let size = all e in omega arith) (omega arith))
    (λ e. kept_old (min tearing (length bytes / 512)) (front e ∙ ap (λ (t : ℕ). 512 * min t (length bytes / 512)) same_torn) (omega arith))
    failed wrong only
  where
    kept_old : (n : ℕ) → taken ≡ 512 * n → n ≤ length bytes / 512 → Write at first (part (512 * first) (length (take taken bytes)) begun_items) ≡ Write at first (raw_from (sector_of (sectors_of items)) first n)
    kept_old n e le =
        ap (λ (l : List ℕ). Write at first l) (ap₂ (λ (k : ℕ) (l : List ℕ). part (512 * first) k l) (length-take-le taken bytes short ∙ e) same_items ∙ sym (raw_from_is_part items first n (omega (arith, le, within))))
