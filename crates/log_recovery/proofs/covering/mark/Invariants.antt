use Rattle.std.proofs.Common.{◌≡◌, ℕ, false, length, get_or}
use Rattle.std.specs.Prelude.{◌||◌, ◌&&◌, nat_le, nat_lt}
use Rattle.log_recovery.proofs.covering.mark.Given as goal

-- the places so far are marked
abbrev pub invariant-loop-i : goal.invariant-loop-i
invariant-loop-i l = record {
  size : length l.marks ≡ length l.initial.marks;
  marks : (j : ℕ) → get_or l.marks j false ≡ (get_or l.initial.marks j false || (nat_le l.fn.at j && nat_lt j l.i));
}
