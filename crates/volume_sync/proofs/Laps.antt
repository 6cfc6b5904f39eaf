-- The laps of a store's log don't fall in a step, and its moments don't either.
use Rattle.std.proofs.Common.{◌≡◌, subst, ℕ, ◌+◌, ◌/◌, ◌<◌, ◌≤◌, Bool, true, false, cond, Result, Ok, Err, sym, arith}
use Rattle.std.specs.Prelude.{suc}
use Rattle.std.proofs.Math.Nat.{div-mul-le_self}
use Rattle.std.proofs.lemmas.Nat.{le-div}
use Rattle.host_base.specs.declared.outside.Failed.{Failed}
use Rattle.log_page.specs.Places.{entries_at}
use Rattle.log_area.specs.Areas.{LogAreaOf, ring_size, lap_at, is_filling, fits, next_number}
use Rattle.flush_policy.specs.declared.facts.StoreStep.{StoreStep}
use Rattle.flush_policy.specs.declared.facts.StoreStep.TheVariants.{SealPage, WritePage, SyncDevice, WriteOut, BeginCheckpoint, WriteRestart}
use Rattle.txn_model.specs.Values.{StoreFacts}
use Rattle.txn_laws.specs.Windows.{lap_behind}
use Rattle.volume_core.specs.txn_core.Steps.{HasTurned}
use Rattle.volume_core.specs.txn_core.Calls.{is_spelled}
use Rattle.volume_core.proofs.txn_core.AfterCalls.{out_log}

div_low : (n m k : ℕ) → 0 < k → n ≤ m → n / k ≤ m / k
div_low n m k some le = let whole = div-mul-le_self n k in le-div (n / k) m k some (omega (arith, whole, le))

next_upto : (a : LogAreaOf) → next_number a 0x58 ≤ a.sealed + 1
next_upto a = by (fits a 0x58)
  where
    by : (t : Bool) → cond t a.sealed (a.sealed + 1) ≤ a.sealed + 1
    by true = omega arith
    by false = omega arith

abbrev lap_next : LogAreaOf → ℕ
lap_next a = suc (lap_at a (next_number a 0x58))

abbrev sealed_by : LogAreaOf → Bool → LogAreaOf
sealed_by a t = cond t (record a { free = entries_at; sealed = a.sealed + 1 }) a

sealed_laps : (a : LogAreaOf) → 4 < a.pages → (t : Bool) → lap_next a ≤ lap_next (sealed_by a t)
sealed_laps a some true = let low = div_low (next_number a 0x58) (a.sealed + 1) (ring_size a) (omega (arith, some)) (next_upto a) in omega (arith, low)
sealed_laps a some false = omega arith

same_laps : (a b : LogAreaOf) → b ≡ a → lap_next a ≤ lap_next b
same_laps a b is = subst (λ (x : LogAreaOf). lap_next a ≤ lap_next x) (sym is) (omega arith)

abbrev at : (f g h : StoreFacts) → g ≡ h → lap_behind f ≤ lap_behind h → lap_behind f ≤ lap_behind g
at f g h is le = subst (λ (x : StoreFacts). lap_behind f ≤ lap_behind x) (sym is) le

pub laps_rise : (step : StoreStep) (result : Result (Unit {0}) Failed) (f g : StoreFacts) → 4 < f.log.pages → HasTurned step result f g → lap_behind f ≤ lap_behind g
laps_rise SealPage result f g some turned = at f g _ turned.1 (sealed_laps f.log some (is_filling f.log))
laps_rise WritePage (Ok tt) f g some turned = at f g _ turned (omega arith)
laps_rise WritePage (Err e) f g some turned = at f g _ turned (omega arith)
laps_rise SyncDevice (Ok tt) f g some turned = at f g _ turned (omega arith)
laps_rise SyncDevice (Err e) f g some turned = at f g _ turned (omega arith)
laps_rise (WriteOut b) (Ok tt) f g some turned = at f g _ turned.1 (same_laps f.log _ (out_log (is_spelled f b) true turned.0 b f).0)
laps_rise (WriteOut b) (Err e) f g some turned = at f g _ turned.1 (same_laps f.log _ (out_log (is_spelled f b) false turned.0 b f).0)
laps_rise BeginCheckpoint result f g some turned = at f g _ turned.1 (sealed_laps f.log some (is_filling f.log))
laps_rise WriteRestart (Ok tt) f g some turned = at f g _ turned (omega arith)
laps_rise WriteRestart (Err e) f g some turned = at f g _ turned (omega arith)
