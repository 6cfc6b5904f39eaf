-- The first page of a session, which its first restart page names.
use Rattle.std.proofs.Common.{◌≡◌, subst, ℕ, ◌+◌, ◌-◌, ◌*◌, ◌/◌, ◌%◌, ◌^◌, ◌<◌, ◌≤◌, false, List, Option, Ok, refl, sym, ap, ap₂, ◌∙◌, inl, arith}
use Rattle.std.specs.Prelude.{IfSome}
use native.Mathlib.Nat.{zero-div, zero-mod}
use Rattle.txn_laws.specs.sector_device.Disks.{Disk, IsSized, SeesDisk}
use Rattle.txn_laws.specs.sector_device.Moments.{Changes}
use Rattle.txn_laws.specs.log_page.declared.places.LogPlace.{LogPlace}
use Rattle.txn_laws.specs.log_page.Places.{lap_of, page_of, sequence_bits}
use Rattle.txn_laws.specs.log_reading.Rings.{IsRingPlace}
use Rattle.device_blocks.specs.log_area.Areas.{LogAreaOf, new_area, lap_at, next_number, next_lsn, number_of, IsOldest}
use Rattle.txn_laws.specs.ring_laws.Numbers.{LogSession}
use Rattle.txn_laws.proofs.ring_laws.Numbering.{says_lap, says_page, says_ring}
use Rattle.txn_laws.proofs.ring_laws.RingFacts.{has_ring, log_small}
use Rattle.txn_laws.specs.area_laws.Laws.{SendsRestart, MayName}
use Rattle.txn_laws.specs.Laws.{first_lsn, opened_area}
use Rattle.txn_laws.proofs.Openings.{opens_log}
use Rattle.txn_laws.proofs.Telling.{known_before_write, known_before_sync}
use Rattle.txn_core.specs.Kept.{IsBegun}
use Rattle.txn_core.specs.Openings.{OpensOn, NamesAndSyncs, StartsThen}

module _ (place : LogPlace) (lies : IsRingPlace place) (lap restart opens : ℕ) where
  abbrev s : LogSession
  s = record { place = place; lap = lap }

  abbrev lsn : ℕ
  lsn = first_lsn place lap restart opens

  lap_is : lap_of place.pages lsn ≡ lap
  lap_is = let none : 0 / (place.pages - 4) ≡ 0 = zero-div (place.pages - 4) in says_lap s (has_ring place lies) (log_small place lies) 0 ∙ omega (arith, none)

  page_is : page_of place.pages lsn ≡ 4
  page_is = let none : 0 % (place.pages - 4) ≡ 0 = zero-mod (place.pages - 4) in says_page s (has_ring place lies) (log_small place lies) 0 ∙ omega (arith, none)

  number_is : number_of (new_area place lap restart opens) lsn ≡ 0
  number_is =
      ap₂ (λ (l : ℕ) (p : ℕ). (l - lap) * (place.pages - 4) + (p - 4)) lap_is page_is
      ∙ (let none : lap - lap ≡ 0 = omega arith in ap (λ (l : ℕ). l * (place.pages - 4) + (4 - 4)) none ∙ omega arith)

  pub first_oldest : IsOldest (new_area place lap restart opens) lsn
  first_oldest = record {
    inside = says_ring s (has_ring place lies) (log_small place lies) 0;
    lap = (let e = lap_is in omega (arith, e));
    from = omega arith;
    upto = (let e = number_is in omega (arith, e));
  }

  pub first_begun : IsBegun (opened_area place lap restart opens)
  first_begun = record {
    some = has_ring place lies;
    few = lies.small;
    free = refl;
    sealed = refl;
    done = refl;
    synced = refl;
    oldest = number_is;
    named = refl;
    sent = refl;
  }

  pub first_lap : lap < 2 ^ sequence_bits place.pages → lap_at (new_area place lap restart opens) (next_number (new_area place lap restart opens) 0x58) < 2 ^ sequence_bits place.pages
  first_lap small = let none : 0 / (place.pages - 4) ≡ 0 = zero-div (place.pages - 4) in omega (arith, none, small)

named_first : (place : LogPlace) (lies : IsRingPlace place) (lap restart opens oldest : ℕ) (disk : Disk) (on : OpensOn place lap restart opens disk) → oldest ≡ first_lsn place lap restart opens → oldest < 2 ^ 64 → lap < 2 ^ sequence_bits place.pages → opens ≤ 2 ^ 31
    → MayName (new_area place lap restart opens) on.restarts on.fields (first_lsn place lap restart opens) false
named_first place lies lap restart opens oldest disk on is small laps few = record {
  synced = refl;
  place = first_oldest place lies lap restart opens;
  lap = first_lap place lies lap restart opens laps;
  again = tt;
  small = omega (arith, is, small);
  few = omega (arith, few);
  newer = λ x said. inl (omega (arith, few));
}

-- where a restart page was sent and the device synced, a store may begin
pub opens_then : {D : Type 0} (gives : D → Option (List (List ℕ))) (changes : D → Changes) (moment : D → ℕ) (place : LogPlace) (lies : IsRingPlace place) (lap restart opens oldest : ℕ) (old new : D)
    → oldest ≡ first_lsn place lap restart opens → oldest < 2 ^ 64 → lap < 2 ^ sequence_bits place.pages → opens ≤ 2 ^ 31 → IfSome (changes old).disk (OpensOn place lap restart opens) → SeesDisk (gives old) (changes old).disk
    → IfSome (changes new).disk IsSized → NamesAndSyncs gives changes moment (new_area place lap restart opens) oldest old new → StartsThen changes place (opened_area place lap restart opens) new
opens_then gives changes moment place lies lap restart opens oldest old new is small laps few may sees sized named = λ found disk known.
    let mid = known_before_sync _ _ (changes named.mid) (changes new) named.syncs disk known in
    let first = known_before_write _ _ _ _ (changes old) (changes named.mid) named.sends.sends.writes mid.0 mid.1 in
    let on : OpensOn place lap restart opens first.0 = subst (λ (o : Option Disk). IfSome o (OpensOn place lap restart opens)) first.1 may in
    opens_log gives changes moment place found lap restart opens on.ring on.restarts on.fields first.0 named.word old named.mid new first.1 sees sized on.stands
    (named_first place lies lap restart opens oldest first.0 on is small laps few)
    (subst (λ (n : ℕ). SendsRestart gives changes moment (new_area place lap restart opens) n false named.word (Ok tt) old named.mid) is named.sends) named.syncs

-- the place of the next commit of a new session is the front of its first page
pub oldest_is : (place : LogPlace) (lies : IsRingPlace place) (lap restart opens n : ℕ) (a : LogAreaOf) → a ≡ new_area place lap restart opens → lap < 2 ^ sequence_bits place.pages
    → (lap_at a (next_number a 0x58) < 2 ^ sequence_bits a.pages → n ≡ next_lsn a 0x58) → n ≡ first_lsn place lap restart opens
oldest_is place lies lap restart opens n a is small exact =
    let there : lap_at (new_area place lap restart opens) (next_number (new_area place lap restart opens) 0x58) < 2 ^ sequence_bits place.pages → n ≡ next_lsn (new_area place lap restart opens) 0x58
    = subst (λ (b : LogAreaOf). lap_at b (next_number b 0x58) < 2 ^ sequence_bits b.pages → n ≡ next_lsn b 0x58) is exact in
    there (first_lap place lies lap restart opens small)

pub oldest_place : (place : LogPlace) (lies : IsRingPlace place) (lap restart opens n : ℕ) (a : LogAreaOf) → a ≡ new_area place lap restart opens → n ≡ first_lsn place lap restart opens → IsOldest a n
oldest_place place lies lap restart opens n a is first =
    subst (λ (b : LogAreaOf). IsOldest b n) (sym is) (subst (λ (m : ℕ). IsOldest (new_area place lap restart opens) m) (sym first) (first_oldest place lies lap restart opens))

pub remainder_small : (n m : ℕ) → n ≡ m % 2 ^ 64 → n < 2 ^ 64
remainder_small n m is = omega (arith, is)
