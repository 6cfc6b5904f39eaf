-- A call of a device that went well began before the last moment.
use Rattle.std.proofs.Common.{◌≡◌, ℕ, ◌+◌, ◌^◌, ◌≤◌, List, Result, Ok, Err, inl, inr, arith}
use Rattle.std.specs.Prelude.{OnOk, IsErr}
use Rattle.std.proofs.lemmas.Bool.{cases_lt, lt-ltb}
use Rattle.host_base.specs.Causes.{last_moment}
use Rattle.sector_device.specs.Moments.{moment_after, Changes, Begins, Writes, Syncs}

pub went_on : {T E : Type 0} (result : Result T E) (old now : ℕ) → now ≡ moment_after old → (last_moment ≤ old → IsErr result) → OnOk result (now ≡ old + 2)
went_on (Err e) old now is ended = tt
went_on (Ok x) old now is ended =
    elim (cases_lt old (2 ^ 62)) [
      | inl lt ↦ (rw (lt-ltb old (2 ^ 62) lt) at is)
      | inr le ↦ (let bad = ended le in absurd cc)
    ]

pub began_write : {T E : Type 0} (result : Result T E) (old first : ℕ) (new : List (List ℕ)) (before now : Changes) → Writes old first new result before now → (last_moment ≤ old → IsErr result) → OnOk result (Begins 1 0 before now)
began_write (Err e) old first new before now is ended = tt
began_write (Ok x) old first new before now is ended =
    elim (cases_lt old (2 ^ 62)) [
      | inl lt ↦ (let w = rw (lt-ltb old (2 ^ 62) lt) at is.writes in record { written = w; synced = omega (arith, is.syncs) })
      | inr le ↦ (let bad = ended le in absurd cc)
    ]

pub began_sync : {T E : Type 0} (result : Result T E) (old : ℕ) (before now : Changes) → Syncs old result before now → (last_moment ≤ old → IsErr result) → OnOk result (Begins 0 1 before now)
began_sync (Err e) old before now is ended = tt
began_sync (Ok x) old before now is ended =
    elim (cases_lt old (2 ^ 62)) [
      | inl lt ↦ (let s = rw (lt-ltb old (2 ^ 62) lt) at is.syncs in record { written = omega (arith, is.writes); synced = s })
      | inr le ↦ (let bad = ended le in absurd cc)
    ]

pub began_none : (c : Changes) → Begins 0 0 c c
began_none c = record { written = omega arith; synced = omega arith }

-- calls after calls
pub began_more : (a b m n k s : ℕ) (before mid now : Changes) → a + m ≡ k → b + n ≡ s → Begins a b before mid → Begins m n mid now → Begins k s before now
began_more a b m n k s before mid now writes syncs first then =
    record { written = omega (arith, first.written, then.written, writes); synced = omega (arith, first.synced, then.synced, syncs) }

pub began_as : (a k : ℕ) (before now : Changes) → a ≡ k → Begins a 0 before now → Begins k 0 before now
began_as a k before now same b = record { written = omega (arith, b.written, same); synced = b.synced }
