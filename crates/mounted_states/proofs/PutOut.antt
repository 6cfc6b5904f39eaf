-- Where a mount puts out each body that recovery found, no block stays torn.
use Rattle.std.proofs.Common.{◌≡◌, ℕ, ◌+◌, ◌≤◌, Bool, true, false, not, ◌&&◌, List, [], ◌∷◌, length, Some, None, refl, sym, ap, ◌∙◌, inl, inr, arith}
use Rattle.std.specs.Prelude.{if◌then◌else◌}
use Rattle.std.specs.List.{AllByRecursion}
use Rattle.std.proofs.lemmas.Bool.{cases_Bool}
use Rattle.disk_model.specs.declared.block.Block.{Block}
use Rattle.disk_model.specs.declared.block.Body.{Body}
use Rattle.disk_model.specs.Sectors.{same_block}
use Rattle.disk_model.specs.Content.{Content}
use Rattle.disk_model.proofs.Frames.{same_block-is}
use Rattle.log_model.specs.Logs.{is_written_out, recovered}
use Rattle.log_recovery.specs.declared.found.RecoveredBlock.{RecoveredBlock}
use Rattle.log_recovery.specs.LogStates.{LogState}
use Rattle.log_recovery.specs.Recovering.{held_body}
use Rattle.log_recovery.specs.Writing.{is_put_out, places_where}
use Rattle.stays_at_mount.specs.txn_mount.Contents.{stays_torn}
use Rattle.mounted_states.specs.Shown.{AllPutOut}

-- ---- as many places as items

few_places : {X : Type 0} (test : X → Bool) (i : ℕ) (xs : List X) → length (places_where test i xs) ≤ length xs
few_places test i [] = omega arith
few_places {X} test i (x ∷ xs) = by (test x) (few_places test (i + 1) xs)
  where
    by : (t : Bool) → length (places_where test (i + 1) xs) ≤ length xs → length (if t then i ∷ places_where test (i + 1) xs else places_where test (i + 1) xs) ≤ length (x ∷ xs)
    by true few = omega (arith, few)
    by false few = omega (arith, few)

all_pass : {X : Type 0} (test : X → Bool) (i : ℕ) (xs : List X) → length (places_where test i xs) ≡ length xs → AllByRecursion (λ x. test x ≡ true) xs
all_pass test i [] same = tt
all_pass {X} test i (x ∷ xs) same = by (test x) refl (few_places test (i + 1) xs) (λ rest. all_pass test (i + 1) xs rest) same
  where
    by : (t : Bool) → test x ≡ t → length (places_where test (i + 1) xs) ≤ length xs → (length (places_where test (i + 1) xs) ≡ length xs → AllByRecursion (λ y. test y ≡ true) xs) → length (if t then i ∷ places_where test (i + 1) xs else places_where test (i + 1) xs) ≡ length (x ∷ xs) → AllByRecursion (λ y. test y ≡ true) (x ∷ xs)
    by true is few more all = (is, more (omega (arith, all)))
    by false is few more all = absurd (omega (arith, few, all))

-- ---- the body of a block

module _ (test : Block → Bool) (b : Block) where
  held_passes : (bodies : List RecoveredBlock) (x : Body) → AllByRecursion (λ (r : RecoveredBlock). test r.block ≡ true) bodies → held_body bodies b ≡ Some x → test b ≡ true
  held_passes [] x all is = absurd cc
  held_passes (r ∷ bodies) x all is = by (same_block b r.block) refl (λ rest. held_passes bodies x all.1 rest) is
    where
      by : (t : Bool) → same_block b r.block ≡ t → (held_body bodies b ≡ Some x → test b ≡ true) → (if t then Some r.body else held_body bodies b) ≡ Some x → test b ≡ true
      by true same more is = ap test (same_block-is b r.block same) ∙ all.0
      by false same more is = more is

put_or_stays : (c : Content) (state : LogState) (b : Block) → (is_written_out c state.log b ≡ true → is_put_out c state.log b ≡ true) → stays_torn c state.log b ≡ false
put_or_stays c state b puts = elim (cases_Bool (is_written_out c state.log b)) [
  | inl written ↦ ap (λ (t : Bool). t && not (is_put_out c state.log b)) written ∙ ap not (puts written)
  | inr none ↦ ap (λ (t : Bool). t && not (is_put_out c state.log b)) none
]

pub all_put_out : AllPutOut
all_put_out c state found is same b =
    let put = all_pass (λ (r : RecoveredBlock). is_put_out c state.log r.block) 0 found.recovered.blocks.bodies.items (ap length (sym is.written) ∙ same) in
    put_or_stays c state b (λ written. held_passes (is_put_out c state.log) b found.recovered.blocks.bodies.items (recovered c state.log b) put
    (is.recovered.blocks.bodies b ∙ ap (λ (t : Bool). if t then Some (recovered c state.log b) else None) written))
