-- Where a page of a ring begins.
use Rattle.std.proofs.Common.{◌≡◌, ℕ, ◌+◌, ◌*◌, ◌<◌, ◌≤◌, Bool, true, false, cond, ltb, Option, Some, None, sym, ap, ◌∙◌, subst, inl, inr, arith}
use Rattle.std.proofs.lemmas.Bool.{cases_lt, lt-ltb, le-ltb}
use Rattle.std.specs.Prelude.{unwrap_or}
use Rattle.log_reading.specs.log_page.declared.places.LogPlace.{LogPlace}
use Rattle.log_reading.specs.LogPages.{sector_in, sector_below, log_sector}
use Rattle.log_reading.specs.Rings.{IsPageAt, IsRingPlace}
use Rattle.log_area.specs.Areas.{page_first}

below_is : (count s : ℕ) (o : Option ℕ) → sector_below count o ≡ Some s → (o ≡ Some s) × (s < count)
below_is count s None e = absurd cc
below_is count s (Some t) e =
    elim (cases_lt t count) [
      | inl lt ↦
          let is : Some t ≡ Some s = rw (lt-ltb t count lt) at e in
          let same : t ≡ s = cc in
          (is, omega arith)
      | inr le ↦
          let is : None ≡ Some s = rw (le-ltb t count le) at e in
          absurd cc
    ]

placed : (place : LogPlace) (n s : ℕ) → log_sector place n ≡ Some s → (sector_in place.runs n ≡ Some s) × (s < place.device)
placed place n s e = go (ltb (512 * n) place.initialised) e
  where
    go : (b : Bool) → cond b (sector_below place.device (sector_in place.runs n)) None ≡ Some s → (sector_in place.runs n ≡ Some s) × (s < place.device)
    go true e = below_is place.device s (sector_in place.runs n) e
    go false e = absurd cc

pub first_is : (place : LogPlace) (n first : ℕ) → IsPageAt place n first → (page_first place n ≡ first) × (sector_in place.runs (8 * n) ≡ Some first)
first_is place n first p =
    let here : log_sector place (8 * n) ≡ Some first = subst (λ (x : ℕ). log_sector place x ≡ Some first) (omega arith) (p.row 0 (omega arith) ∙ ap Some (omega arith)) in
    (ap (λ (o : Option ℕ). unwrap_or o 0) here, (placed place (8 * n) first here).0)

pub ends_inside : (place : LogPlace) (n : ℕ) → IsRingPlace place → n < place.pages → page_first place n + 8 ≤ place.device
ends_inside place n ring lt =
    let at = ring.pages n lt in
    let last = (placed place (8 * n + 7) (at.0 + 7) (at.1.row 7 (omega arith))).1 in
    let is = (first_is place n at.0 at.1).0 in
    omega arith

-- what is found is the first sector
pub first_found : (place : LogPlace) (n found : ℕ) → IsRingPlace place → n < place.pages
    → ((s : ℕ) → s < place.device → sector_in place.runs (8 * n) ≡ Some s → found ≡ s) → found ≡ page_first place n
first_found place n found ring lt finds =
    let at = ring.pages n lt in
    let is = first_is place n at.0 at.1 in
    let ends = ends_inside place n ring lt in
    finds at.0 (omega arith) is.1 ∙ sym is.0
