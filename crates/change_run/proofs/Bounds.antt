-- The pages of the log that a run begins, and its laps.
use Rattle.std.proofs.Common.{◌≡◌, ℕ, ◌+◌, ◌-◌, ◌*◌, ◌/◌, ◌<◌, ◌≤◌, Bool, true, false, cond, refl, ap, ap₂, ◌∙◌, arith}
use Rattle.std.specs.Prelude.{nat_le, nat_lt}
use Rattle.std.proofs.Math.Nat.{div-mul-le_self}
use Rattle.std.proofs.lemmas.Nat.{le-div, div-mul-add}
use Rattle.std.proofs.lemmas.Bool.Decides.{nat_tests}
use Rattle.volume_replies.specs.log_area.Areas.{ring_size, lap_at, fits, is_filling, next_number}
use Rattle.volume_replies.specs.txn_model.Values.{StoreFacts}
use Rattle.volume_replies.specs.txn_model.Told.{pages_end}
use Rattle.volume_replies.specs.volume_core.crash_trees.txn_close.Passing.{BeginsNoPage}
use Rattle.volume_replies.specs.Replies.{BeginsAtMost}
use Rattle.change_run.specs.Runs.{LapsBounded}

-- ---- pages

once_more : (i n : ℕ) → (i + 1) * n ≡ i * n + n
once_more i n = omega arith

-- one command more, behind steps of the store
pub begins_more : (i : ℕ) (old v mid new : StoreFacts) → BeginsAtMost (i * ring_size old.log) old v → BeginsNoPage v mid → BeginsAtMost (ring_size mid.log) mid new → BeginsAtMost ((i + 1) * ring_size old.log) old new
begins_more i old v mid new so_far steps one = record {
  pages = one.pages ∙ (steps.pages ∙ so_far.pages);
  lap = one.lap ∙ (steps.lap ∙ so_far.lap);
  few =
      let size : ring_size mid.log ≡ ring_size old.log = ap (λ (n : ℕ). n - 4) (steps.pages ∙ so_far.pages) in
      let more = once_more i (ring_size old.log) in
      sum_of (pages_end old) (pages_end v) (pages_end mid) (pages_end new) (i * ring_size old.log) (ring_size old.log) (ring_size mid.log) ((i + 1) * ring_size old.log) so_far.few steps.begun one.few size more;
}
  where
    sum_of : (old v mid new many size now all : ℕ) → v ≤ old + many → mid ≡ v → new ≤ mid + now → now ≡ size → all ≡ many + size → new ≤ old + all
    sum_of old v mid new many size now all a b c d e = omega (arith, a, b, c, d, e)

-- ---- laps

-- the next entry, which is of the least size, stands on no page behind the one after the last
next_by : (t u : Bool) (free sealed : ℕ) → nat_le (free + 0x58) 4096 ≡ t → nat_lt 0x40 free ≡ u → cond t sealed (sealed + 1) ≤ sealed + cond u 1 0
next_by true true free sealed one two = omega arith
next_by true false free sealed one two = omega arith
next_by false true free sealed one two = omega arith
next_by false false free sealed one two = grind (arith, nat_tests, one, two)

pub next_upto : (f : StoreFacts) → next_number f.log 0x58 ≤ pages_end f
next_upto f = next_by (fits f.log 0x58) (is_filling f.log) f.log.free f.log.sealed refl refl

div_low : (n m k : ℕ) → 0 < k → n ≤ m → n / k ≤ m / k
div_low n m k some le = let whole = div-mul-le_self n k in le-div (n / k) m k some (omega (arith, whole, le))

pub lap_bound : LapsBounded
lap_bound n f g some none begins =
    let size = ring_size f.log in
    let high : next_number g.log 0x58 ≤ n * size + 0 = (let a = next_upto g in let b = begins.few in omega (arith, a, b, none)) in
    let low = div_low (next_number g.log 0x58) (n * size + 0) size (omega (arith, some)) high in
    let laps : (n * size + 0) / size ≡ n = div-mul-add n size 0 (omega (arith, some)) in
    let is : lap_at g.log (next_number g.log 0x58) ≡ f.log.lap + next_number g.log 0x58 / size = ap₂ (λ (l : ℕ) (p : ℕ). l + next_number g.log 0x58 / (p - 4)) begins.lap begins.pages in
    omega (arith, is, low, laps)
