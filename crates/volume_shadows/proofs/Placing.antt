-- The place of a block in a stream, by the run in which it begins.
use Rattle.std.proofs.Common.{◌≡◌, ℕ, ◌+◌, ◌-◌, ◌*◌, ◌/◌, ◌%◌, ◌<◌, ◌≤◌, Bool, false, cond, nat_le, nat_lt, ◌&&◌, List, Some, None, ap, ◌∙◌, arith}
use Rattle.std.proofs.Math.Nat.{mod-lt}
use Rattle.std.proofs.lemmas.Bool.{le-leb, lt-ltb}
use Rattle.std.proofs.lemmas.Bool.Decides.{nat_tests}
use Rattle.std.proofs.lemmas.Nat.{div-add-mod', mul-add-lt}
use Rattle.disk_model.specs.declared.block.BlockKind.{BlockKind}
use Rattle.disk_model.specs.declared.block.BlockKind.TheVariants.{Plain, FileRec, Index}
use Rattle.disk_model.specs.Sectors.{sectors}
use Rattle.state_model.specs.record_model.declared.runs.Run.{Run}
use Rattle.log_recovery.specs.declared.found.Shadow.{Shadow}
use Rattle.volume_shadows.specs.Tries.{run_first, run_end, number_of, tried_at, tried}

-- ---- numbers

some_sectors : (kind : BlockKind) → 0 < sectors kind
some_sectors Plain = omega arith
some_sectors FileRec = omega arith
some_sectors Index = omega arith

place_again : (kind : BlockKind) (n : ℕ) → sectors kind * n / sectors kind ≡ n
place_again Plain n = omega arith
place_again FileRec n = omega arith
place_again Index n = omega arith

-- the sector of a place, so many clusters behind the first of a run
module _ (per lcn vcn len up m : ℕ) where
  split : (lcn + up) * per ≡ lcn * per + up * per
  split = omega arith

  begun_at : lcn * per ≤ (lcn + up) * per + m
  begun_at = omega (arith, split)

  before_end : up < len → m < per → (lcn + up) * per + m < (lcn + len) * per
  before_end within small = let less : lcn + up < lcn + len = omega (arith, within) in omega (arith, mul-add-lt (lcn + up) per m (lcn + len) less small)

  place_at : vcn * per + ((lcn + up) * per + m - lcn * per) ≡ (vcn + up) * per + m
  place_at = let joined : (vcn + up) * per ≡ vcn * per + up * per = omega arith in omega (arith, split, joined)

-- ---- the block in a run

pub numbered : (per : ℕ) (kind : BlockKind) (r : Run) (lcn n : ℕ) → 0 < per → r.lcn ≡ Some lcn → r.vcn ≤ sectors kind * n / per → sectors kind * n / per < r.vcn + r.len
    → number_of per kind r ((lcn + (sectors kind * n / per - r.vcn)) * per + sectors kind * n % per) ≡ Some n
unfolding number_of
numbered per kind r lcn n some is begun within =
    let v = sectors kind * n / per in
    let m = sectors kind * n % per in
    let up = v - r.vcn in
    let small : m < per = mod-lt (sectors kind * n) some in
    let back : r.vcn + up ≡ v = omega (arith, begun) in
    let less : up < r.len = omega (arith, begun, within) in
    let first = (lcn + up) * per + m in
    rw is
    (ap (λ (b : Bool). cond (b && nat_lt first ((lcn + r.len) * per)) (Some ((r.vcn * per + (first - lcn * per)) / sectors kind)) None) (le-leb (lcn * per) first (begun_at per lcn r.vcn r.len up m))
    ∙ ap (λ (b : Bool). cond b (Some ((r.vcn * per + (first - lcn * per)) / sectors kind)) None) (lt-ltb first ((lcn + r.len) * per) (before_end per lcn r.vcn r.len up m less small))
    ∙ ap (λ (x : ℕ). Some (x / sectors kind)) (place_at per lcn r.vcn r.len up m ∙ ap (λ (x : ℕ). x * per + m) back ∙ div-add-mod' (sectors kind * n) per)
    ∙ ap (λ (x : ℕ). Some x) (place_again kind n))

-- ---- outside of the run

tests_before : (a f e : ℕ) → f < a → (nat_le a f && nat_lt f e) ≡ false
tests_before a f e lt = grind (arith, nat_tests)

tests_behind : (a f e : ℕ) → e ≤ f → (nat_le a f && nat_lt f e) ≡ false
tests_behind a f e le = grind (arith, nat_tests)

outside : (per : ℕ) (kind : BlockKind) (count : ℕ) (near : List Run) (r : Run) (s : Shadow) → (nat_le (run_first per r) s.block.first && nat_lt s.block.first (run_end per r)) ≡ false → tried per kind count near r s ≡ None
unfolding tried number_of
outside per kind count near r s out = ap (λ (b : Bool). tried_at per kind count near s (cond b (Some ((r.vcn * per + (s.block.first - run_first per r)) / sectors kind)) None)) out

-- a shadow that begins before a run, or behind it, isn't in it
pub tried_before : (per : ℕ) (kind : BlockKind) (count : ℕ) (near : List Run) (r : Run) (s : Shadow) → s.block.first < run_first per r → tried per kind count near r s ≡ None
tried_before per kind count near r s lt = outside per kind count near r s (tests_before (run_first per r) s.block.first (run_end per r) lt)

pub tried_behind : (per : ℕ) (kind : BlockKind) (count : ℕ) (near : List Run) (r : Run) (s : Shadow) → run_end per r ≤ s.block.first → tried per kind count near r s ≡ None
tried_behind per kind count near r s le = outside per kind count near r s (tests_behind (run_first per r) s.block.first (run_end per r) le)
