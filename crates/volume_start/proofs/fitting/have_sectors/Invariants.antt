use Rattle.std.proofs.Common.{◌≡◌, ◌+◌, drop}
use Rattle.std.specs.Prelude.{sum_by}
use Rattle.log_page.specs.declared.places.Extent.{Extent}
use Rattle.volume_start.proofs.fitting.have_sectors.Given as goal

-- what is left to count, beside all, is what was to be counted, beside those that are left
abbrev pub invariant-loop-run : goal.invariant-loop-run
invariant-loop-run l = sum_by (λ (e : Extent). e.sectors) l.runs + l.left ≡ l.count + sum_by (λ (e : Extent). e.sectors) (drop l.run-index l.runs)
