-- A session may begin on a log that was read: its ring stands on the disk.
use Rattle.std.proofs.Common.{◌≡◌, ◌⊎◌, subst, ℕ, ◌+◌, ◌-◌, ◌^◌, ◌<◌, ◌≤◌, Bool, true, false, List, [], Option, Some, None, Result, Ok, Err, refl, sym, ap, ap₂, ◌∙◌, inl, inr, arith}
use Rattle.std.specs.Prelude.{if◌then◌else◌, ◌&&◌, ◌||◌, nat_le, not, is_some, is_none, unwrap_or}
use Rattle.std.proofs.lemmas.Bool.{ltb-true}
use Rattle.host_base.specs.Answers.{needs}
use Rattle.disk_model.specs.declared.block.Block.{Block}
use Rattle.disk_model.specs.Content.{Content, content_of}
use Rattle.txn_core.specs.log_page.declared.fault.PageFault.{PageFault}
use Rattle.txn_core.specs.log_page.declared.places.LogPlace.{LogPlace}
use Rattle.txn_core.specs.log_page.declared.restart.Restart.{Restart}
use Rattle.txn_core.specs.log_page.Places.{lap_of, sequence_bits}
use Rattle.txn_core.specs.log_page.Restarts.{restart_of, is_newer, is_second_chosen, whole_one, chosen, is_blank, is_emptied}
use Rattle.txn_core.specs.log_page.LiveLogs.{said_lsn, greatest_lsn, lap_above, next_lap}
use Rattle.txn_core.specs.log_laws.NextLaps.{IsSaid}
use Rattle.txn_core.proofs.log_laws.Fresh.{above}
use Rattle.log_recovery.specs.log_reading.declared.fault.LogRefusal.{LogRefusal}
use Rattle.log_recovery.specs.log_reading.declared.fault.LogRefusal.TheVariants.{ForeignLog, NoRestart}
use Rattle.log_recovery.specs.log_reading.declared.front.RestartFront.{RestartFront}
use Rattle.log_recovery.specs.log_reading.Fronts.{chosen_in, next_restart, next_opens, is_readable, front_in}
use Rattle.log_recovery.specs.log_reading.LogPages.{page_in}
use Rattle.log_recovery.specs.log_reading.Rings.{IsRingPlace}
use Rattle.log_recovery.specs.LogStates.{LogState, has_lap, lap_by, lap_in}
use Rattle.txn_core.specs.log_area.Areas.{new_area}
use Rattle.sector_device.specs.Disks.{Disk, IsSized, seen}
use Rattle.txn_core.specs.ring_laws.PageBytes.{raw_page, IsStill}
use Rattle.txn_core.specs.ring_laws.RestartPages.{IsBelow, said_restart, found_restarts}
use Rattle.txn_core.specs.ring_laws.RingPages.{first_ring}
use Rattle.txn_core.proofs.ring_laws.LogSectors.{read_is_raw}
use Rattle.txn_core.specs.area_laws.Standing.{Stands}
use Rattle.txn_core.proofs.area_laws.Joined.{starts}
use Rattle.txn_core.proofs.txn_laws.Syncs.{and_right}
use Rattle.txn_mount.specs.Contents.{ReadsLog}
use Rattle.txn_mount.specs.Images.{OneIsNewer}
use Rattle.txn_mount.proofs.Reading.{ok_then}

same_ok : {A : Type 0} (x y : A) → ◌≡◌ {A = Result A LogRefusal} (Ok x) (Ok y) → x ≡ y
same_ok x y e = cc

pub needs_true : (test : Bool) (e : LogRefusal) (u : Unit {0}) → needs test e ≡ Ok u → test ≡ true
needs_true true e u is = refl
needs_true false e u is = absurd cc

pub front_parts : (first second : List ℕ) (front : RestartFront) → front_in first second ≡ Ok front
    → (front.chosen ≡ chosen_in first second) × (front.restart ≡ next_restart first second) × (front.opens ≡ next_opens (chosen_in first second)) × (is_readable (chosen_in first second) first second ≡ Ok tt)
unfolding front_in
front_parts first second front e =
    let made : RestartFront = record { chosen = chosen_in first second; restart = next_restart first second; opens = next_opens (chosen_in first second) } in
    let a = ok_then (is_readable (chosen_in first second) first second) (λ (u : Unit {0}). Ok made) front e in
    let is : made ≡ front = same_ok made front a.2 in
    (sym (ap (λ (f : RestartFront). f.chosen) is), sym (ap (λ (f : RestartFront). f.restart) is), sym (ap (λ (f : RestartFront). f.opens) is), a.1)

-- and where the restart pages are read alike, with a page chosen or emptied alike
pub front_made : (first second : List ℕ) → is_readable (chosen_in first second) first second ≡ Ok tt → (front : RestartFront) × (front_in first second ≡ Ok front) × (front.chosen ≡ chosen_in first second)
unfolding front_in
front_made first second readable =
    (record { chosen = chosen_in first second; restart = next_restart first second; opens = next_opens (chosen_in first second) }, rw readable refl, refl)

-- the next restart page goes to this place, and the chosen one stands at the other
pub record Finds (raw : ℕ → List ℕ) (chosen : Option Restart) (next : ℕ) : Type 0 where
  pub said : said_restart (raw (1 - next)) ≡ chosen
  pub below : OneIsNewer (said_restart (raw 0)) (said_restart (raw 1)) → IsBelow (said_restart (raw next)) chosen
  pub blank : chosen ≡ None → is_blank (raw (1 - next)) ≡ true
  pub small : next < 2

abbrev pick : (chosen : Option Restart) (second u v : Bool) → ℕ
pick chosen second u v = if is_some chosen then (if second then 0 else 1) else (if u && not v then 1 else 0)

module _ (raw : ℕ → List ℕ) where
  first_one : (a : Restart) (b : Option Restart) → said_restart (raw 0) ≡ Some a → said_restart (raw 1) ≡ b → (OneIsNewer (said_restart (raw 0)) (said_restart (raw 1)) → IsBelow b (Some a)) → Finds raw (Some a) 1
  first_one a b is other below = record {
    said = is;
    below = λ alone. subst (λ (o : Option Restart). IsBelow o (Some a)) (sym other) (below alone);
    blank = λ none. absurd cc;
    small = omega arith;
  }

  second_one : (a : Option Restart) (b : Restart) → said_restart (raw 0) ≡ a → said_restart (raw 1) ≡ Some b → IsBelow a (Some b) → Finds raw (Some b) 0
  second_one a b other is below = record {
    said = is;
    below = λ alone. subst (λ (o : Option Restart). IsBelow o (Some b)) (sym other) below;
    blank = λ none. absurd cc;
    small = omega arith;
  }

  neither : said_restart (raw 0) ≡ None → said_restart (raw 1) ≡ None → (u v : Bool) → is_blank (raw 0) ≡ u → is_blank (raw 1) ≡ v → (u || v) ≡ true → Finds raw None (if u && not v then 1 else 0)
  neither none none' true true is is' some = record { said = none'; below = λ alone. subst (λ (o : Option Restart). IsBelow o None) (sym none) tt; blank = λ e. is'; small = omega arith }
  neither none none' true false is is' some = record { said = none; below = λ alone. subst (λ (o : Option Restart). IsBelow o None) (sym none') tt; blank = λ e. is; small = omega arith }
  neither none none' false true is is' some = record { said = none'; below = λ alone. subst (λ (o : Option Restart). IsBelow o None) (sym none) tt; blank = λ e. is'; small = omega arith }
  neither none none' false false is is' some = absurd cc

  newer_one : (a b : Restart) → said_restart (raw 0) ≡ Some a → said_restart (raw 1) ≡ Some b → is_newer a b ≡ false → OneIsNewer (said_restart (raw 0)) (said_restart (raw 1)) → IsBelow (Some b) (Some a)
  newer_one a b is is' older alone = go (subst (λ (o : Option Restart). OneIsNewer (Some a) o) is' (subst (λ (o : Option Restart). OneIsNewer o (said_restart (raw 1))) is alone))
    where
      go : (is_newer a b ≡ true) ⊎ (is_newer b a ≡ true) → is_newer b a ≡ true
      go (inl newer) = absurd cc
      go (inr newer) = newer

  both : (a b : Restart) → said_restart (raw 0) ≡ Some a → said_restart (raw 1) ≡ Some b → (v : Bool) → is_newer a b ≡ v → (x y : Bool)
      → Finds raw (if v then Some b else Some a) (pick (if v then Some b else Some a) v x y)
  both a b is is' true newer x y = second_one (Some a) b is is' newer
  both a b is is' false older x y = first_one a (Some b) is is' (λ alone. newer_one a b is is' older alone)

  by_pages : (a b : Result Restart PageFault) → restart_of (raw 0) ≡ a → restart_of (raw 1) ≡ b → (is_none (chosen a b) ≡ true → (is_blank (raw 0) || is_blank (raw 1)) ≡ true)
      → Finds raw (chosen a b) (pick (chosen a b) (is_second_chosen a b) (is_blank (raw 0)) (is_blank (raw 1)))
  by_pages (Ok a) (Ok b) is is' blank = both a b (ap whole_one is) (ap whole_one is') (is_newer a b) refl (is_blank (raw 0)) (is_blank (raw 1))
  by_pages (Ok a) (Err e) is is' blank = first_one a None (ap whole_one is) (ap whole_one is') (λ alone. tt)
  by_pages (Err e) (Ok b) is is' blank = second_one None b (ap whole_one is) (ap whole_one is') tt
  by_pages (Err e) (Err f) is is' blank = neither (ap whole_one is) (ap whole_one is') (is_blank (raw 0)) (is_blank (raw 1)) refl refl (blank refl)

  emptied_blank : (o : Option Restart) → chosen_in (raw 0) (raw 1) ≡ o → is_readable o (raw 0) (raw 1) ≡ Ok tt → is_none o ≡ true → (is_blank (raw 0) || is_blank (raw 1)) ≡ true
  emptied_blank (Some r) is readable none = absurd cc
  emptied_blank None is readable none = and_right (is_none (chosen_in (raw 0) (raw 1))) (is_blank (raw 0) || is_blank (raw 1)) (needs_true (is_emptied (raw 0) (raw 1)) NoRestart tt readable)

  pub finds_pages : is_readable (chosen_in (raw 0) (raw 1)) (raw 0) (raw 1) ≡ Ok tt → Finds raw (chosen_in (raw 0) (raw 1)) (next_restart (raw 0) (raw 1))
  unfolding next_restart
  finds_pages readable = by_pages (restart_of (raw 0)) (restart_of (raw 1)) refl refl (emptied_blank (chosen_in (raw 0) (raw 1)) refl readable)

-- ---- laps

lap_parts : (pages lap : ℕ) (greatest : Option ℕ) → lap_by pages greatest ≡ Ok lap → (lap ≡ lap_above pages greatest) × (lap + 2 ^ 16 < 2 ^ sequence_bits pages)
unfolding lap_by
lap_parts pages lap greatest e =
    let a = ok_then (needs (has_lap pages (lap_above pages greatest)) (ForeignLog (unwrap_or greatest 0))) (λ (u : Unit {0}). Ok (lap_above pages greatest)) lap e in
    let is : lap_above pages greatest ≡ lap = same_ok (lap_above pages greatest) lap a.2 in
    let low : lap_above pages greatest + 2 ^ 16 < 2 ^ sequence_bits pages = ltb-true _ _ (needs_true (has_lap pages (lap_above pages greatest)) (ForeignLog (unwrap_or greatest 0)) a.0 a.1) in
    (sym is, subst (λ (n : ℕ). n + 2 ^ 16 < 2 ^ sequence_bits pages) is low)

pub lap_is : (c : Content) (place : LogPlace) (chosen : Option Restart) (lap : ℕ) → lap_in c place chosen ≡ Ok lap → (lap ≡ next_lap place.pages (page_in c place) chosen) × (lap + 2 ^ 16 < 2 ^ sequence_bits place.pages)
unfolding lap_in
lap_is c place chosen lap e = lap_parts place.pages lap (greatest_lsn place.pages (page_in c place) chosen) e

above_one : (pages : ℕ) (o : Option ℕ) → 1 ≤ lap_above pages o
above_one pages (Some lsn) = omega arith
above_one pages None = omega arith

opens_few : (o : Option Restart) → next_opens o ≤ 2 ^ 31
opens_few None = omega arith
opens_few (Some r) = go (nat_le (2 ^ 31) r.opens) refl
  where
    go : (v : Bool) → nat_le (2 ^ 31) r.opens ≡ v → (if v then 0 else r.opens + 1) ≤ 2 ^ 31
    go true is = omega arith
    go false is = grind (arith)

-- ---- the ring stands

module _ (place : LogPlace) (ring : IsRingPlace place) (kept : List Block) (first : Disk) (state : LogState) (r : ReadsLog (content_of (seen first)) place kept state) where
  abbrev c : Content
  c = content_of (seen first)

  abbrev raw : ℕ → List ℕ
  raw = raw_page place (seen first)

  pub fronted_raw : front_in (raw 0) (raw 1) ≡ Ok r.front
  fronted_raw =
      let some = ring.ring in
      ap₂ (λ (a : List ℕ) (b : List ℕ). front_in a b) (sym (read_is_raw place (seen first) 0 ring (omega (arith, some)))) (sym (read_is_raw place (seen first) 1 ring (omega (arith, some)))) ∙ r.fronted

  pub chosen_raw : r.front.chosen ≡ chosen_in (raw 0) (raw 1)
  chosen_raw = (front_parts (raw 0) (raw 1) r.front fronted_raw).0

  pub readable_raw : is_readable (chosen_in (raw 0) (raw 1)) (raw 0) (raw 1) ≡ Ok tt
  readable_raw = (front_parts (raw 0) (raw 1) r.front fronted_raw).3

  lap_parts_of : (state.next_lap ≡ next_lap place.pages (page_in c place) r.front.chosen) × (state.next_lap + 2 ^ 16 < 2 ^ sequence_bits place.pages)
  lap_parts_of = lap_is c place r.front.chosen state.next_lap r.lap

  pub laps_below : (lsn : ℕ) → IsSaid place.pages (page_in c place) r.front.chosen lsn → lap_of place.pages lsn < state.next_lap
  laps_below lsn said = subst (λ (n : ℕ). lap_of place.pages lsn < n) (sym lap_parts_of.0) (above place.pages (page_in c place) r.front.chosen lsn said)

  pub lap_some : 1 ≤ state.next_lap
  lap_some = subst (λ (n : ℕ). 1 ≤ n) (sym lap_parts_of.0) (above_one place.pages (greatest_lsn place.pages (page_in c place) r.front.chosen))

  pub lap_small : state.next_lap < 2 ^ sequence_bits place.pages
  lap_small = let e = lap_parts_of.1 in omega (arith, e)

  pub opens_small : state.opens ≤ 2 ^ 31
  opens_small = subst (λ (n : ℕ). n ≤ 2 ^ 31) (sym (r.opens ∙ (front_parts (raw 0) (raw 1) r.front fronted_raw).2)) (opens_few (chosen_in (raw 0) (raw 1)))

  pub found : Finds raw r.front.chosen state.restart
  found = subst (λ (o : Option Restart). Finds raw o state.restart) (sym chosen_raw)
      (subst (λ (n : ℕ). Finds raw (chosen_in (raw 0) (raw 1)) n) (sym (r.restart ∙ (front_parts (raw 0) (raw 1) r.front fronted_raw).1)) (finds_pages raw readable_raw))

  module _ (alone : OneIsNewer (said_restart (raw 0)) (said_restart (raw 1))) where
    module _ (disk : Disk) (sized : IsSized disk) (still : (k : ℕ) → k < place.pages → IsStill place disk k) (alike : (k : ℕ) → k < place.pages → raw_page place (seen disk) k ≡ raw k) where
      small_page : (k : ℕ) → k < 2 → k < place.pages
      small_page k lt = let some = ring.ring in omega (arith, lt, some)

      pub ring_stands : Stands (record { place = place; lap = state.next_lap }) (new_area place state.next_lap state.restart state.opens) (first_ring (record { place = place; lap = state.next_lap })) (found_restarts state.restart) [] (λ n. r.front.chosen) disk
      ring_stands =
          starts (record { place = place; lap = state.next_lap }) state.restart state.opens (λ n. r.front.chosen) disk ring lap_some lap_small found.small sized still
          (λ k lsn inside said. laps_below lsn (inr (record { page = k; begun = inside.begun; inside = inside.inside; says = ap said_lsn (read_is_raw place (seen first) k ring inside.inside ∙ sym (alike k inside.inside)) ∙ said })))
          (ap said_restart (alike (1 - state.restart) (small_page (1 - state.restart) (omega arith))) ∙ found.said)
          (subst (λ (o : Option Restart). IsBelow o r.front.chosen) (sym (ap said_restart (alike state.restart (small_page state.restart found.small)))) (found.below alone))
          (λ none. ap is_blank (alike (1 - state.restart) (small_page (1 - state.restart) (omega arith))) ∙ found.blank none)
          (λ x is. laps_below x.current (inl (record { restart = x; is = is; says = refl })))
