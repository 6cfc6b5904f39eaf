-- A page is sent behind the read of its place.
use Rattle.std.proofs.Common.{◌≡◌, ℕ, List, Option, Result, ap, ◌∙◌, subst}
use Rattle.std.specs.Prelude.{OnOk, OnErr}
use Rattle.std.specs.Option.{option_map}
use Rattle.disk_model.specs.Bytes.{written}
use Rattle.sector_device.specs.Moments.{moment_after, Changes, Writes}
use Rattle.sector_device.specs.Sectors.{sectors_of, IsTornBy}
use Rattle.log_area.specs.Calls.{Sends}

pub sends_behind : {D T E : Type 0} (gives : D → Option (List (List ℕ))) (changes : D → Changes) (moment : D → ℕ) (begun first : ℕ) (bytes : List ℕ) (result : Result T E) (old mid new : D)
    → gives mid ≡ gives old → changes mid ≡ changes old → moment mid ≡ begun → Sends gives changes moment (moment mid) first bytes result mid new → Sends gives changes moment begun first bytes result old new
sends_behind gives changes moment begun first bytes result old mid new same unchanged at s = record {
  whole = subst (λ (g : Option (List (List ℕ))). OnOk result (gives new ≡ option_map (written first (sectors_of bytes)) g)) same s.whole;
  torn = subst (λ (g : Option (List (List ℕ))). OnErr result (IsTornBy first (sectors_of bytes) g (gives new))) same s.torn;
  writes = subst (λ (m : ℕ). Writes m first (sectors_of bytes) result (changes old) (changes new)) at (subst (λ (x : Changes). Writes (moment mid) first (sectors_of bytes) result x (changes new)) unchanged s.writes);
  later = s.later ∙ ap moment_after at;
}
