-- The lap that a mount of an image begins.
use Rattle.std.proofs.Common.{◌≡◌, subst, ℕ, suc, ◌+◌, ◌-◌, ◌/◌, ◌%◌, ◌^◌, ◌<◌, ◌≤◌, Bool, true, false, cond, List, Option, Some, None, refl, sym, ap, ap₂, ◌∙◌, inl, inr, arith}
use Rattle.std.specs.Prelude.{IfSome}
use Rattle.std.proofs.Math.Nat.{mod-lt, div-mul-le_self}
use Rattle.std.proofs.lemmas.Nat.{le-div}
use Rattle.std.proofs.lemmas.Bool.{cases_Bool}
use Rattle.std.proofs.lemmas.Bool.Decides.{nat_tests}
use Rattle.area_laws.specs.disk_model.Sectors.{sector_of}
use Rattle.area_laws.specs.sector_device.Disks.{Disk, MayLeave}
use Rattle.area_laws.specs.sector_device.Moments.{Changes, MayLeaveNow}
use Rattle.area_laws.specs.log_page.declared.restart.Restart.{Restart}
use Rattle.area_laws.specs.log_page.Places.{place_bits, lap_of}
use Rattle.area_laws.specs.log_page.Restarts.{is_newer}
use Rattle.area_laws.proofs.log_page.PlacesFit.{log_fits}
use Rattle.area_laws.specs.log_reading.Fronts.{chosen_in}
use Rattle.area_laws.specs.log_area.declared.restart.SentRestart.{SentRestart}
use Rattle.area_laws.specs.log_area.Areas.{LogAreaOf, IsLogArea, ring_size, lap_at, next_number, next_at, next_lsn, sent_word}
use Rattle.area_laws.proofs.log_area.Numbering.{next_inside}
use Rattle.store_claims.specs.store_model.Rings.{Restarts}
use Rattle.store_claims.specs.store_model.Stores.{Store}
use Rattle.store_claims.specs.Windows.{StoreWindow}
use Rattle.store_claims.proofs.store_model.Told.{true≢false}
use Rattle.area_laws.specs.ring_laws.Numbers.{LogSession, lap_of_page}
use Rattle.area_laws.specs.ring_laws.PageBytes.{raw_page}
use Rattle.area_laws.specs.ring_laws.RestartPages.{RestartFields, IsBelow}
use Rattle.area_laws.proofs.ring_laws.RingFacts.{laps_climb}
use Rattle.area_laws.proofs.ring_laws.RingReads.{lap_is_next}
use Rattle.area_laws.specs.Standing.{IsOlder, StandsRestarts}
use Rattle.area_laws.proofs.Entries.{lap_in_page}
use Rattle.area_laws.proofs.Reading.{is_read}
use Rattle.area_laws.proofs.Rising.{next_place}
use Rattle.txn_model.specs.Values.{StoreFacts}
use Rattle.txn_laws.specs.Standing.{StandsBehindAs, session_of}
use Rattle.txn_laws.specs.Windows.{HasWindowAs, lap_behind, next_lap_in}

-- ---- restart pages

module _ (s : LogSession) (a : LogAreaOf) (q : Restarts) (fields : RestartFields) (disk : Disk) (h : StandsRestarts s a q fields disk) where
  older_low : (x : Restart) → IsOlder a x → x.current ≤ next_lsn a 0x58
  older_low x (inl less) = omega (arith, less)
  older_low x (inr same) = (let is = same.0 in omega (arith, is))

  -- the last one that was written
  last_low : (v : Bool) → q.done ≡ v → (r : Restart) → fields (cond v (suc q.sure) q.sure) ≡ Some r → r.current ≤ next_lsn a 0x58
  last_low v is r said = older_low r (subst (λ (o : Option Restart). IfSome o (IsOlder a)) said (subst (λ (v : Bool). IfSome (fields (cond v (suc q.sure) q.sure)) (IsOlder a)) is h.older))

  newer_low : (r x : Restart) → is_newer r x ≡ true → r.current ≤ x.current
  newer_low r x is = grind (arith, nat_tests, is)

  sure_low : (r : Restart) → fields q.sure ≡ Some r → r.current ≤ next_lsn a 0x58
  sure_low r said = elim (cases_Bool q.done) [
    | inl done ↦
        let begun = h.restarts.restarts.begun done in
        let next = h.restarts.says begun in
        let below = subst (λ (o : Option Restart). IsBelow o (fields (suc q.sure))) said (h.restarts.rises begun) in
        let newer : is_newer r next.0 ≡ true = subst (λ (o : Option Restart). IsBelow (Some r) o) next.1 below in
        let one = newer_low r next.0 newer in
        let two = last_low true done next.0 next.1 in
        omega (arith, one, two)
    | inr none ↦ last_low false none r said
  ]

  begun_low : (r : Restart) → q.begun ≡ true → fields (suc q.sure) ≡ Some r → r.current ≤ next_lsn a 0x58
  begun_low r begun said = elim (cases_Bool q.done) [
    | inl done ↦ last_low true done r said
    | inr none ↦ by_sent a.sent refl none
  ]
    where
      page_is : (x y : Restart) → Some x ≡ Some y → x ≡ y
      page_is x y e = cc

      by_sent : (o : Option SentRestart) → a.sent ≡ o → q.done ≡ false → r.current ≤ next_lsn a 0x58
      by_sent (Some x) is none =
          let page : fields (suc q.sure) ≡ Some x.page = subst (λ (o : Option SentRestart). IfSome o (λ y. fields (suc q.sure) ≡ Some y.page)) is h.said in
          let same : r ≡ x.page = page_is r x.page (sym said ∙ page) in
          let low = (subst (λ (o : Option SentRestart). IfSome o (λ y. (y.page.current ≤ next_lsn a 0x58) × (y.page.opens ≡ a.opens))) is h.sent_before).0 in
          subst (λ (p : Restart). p.current ≤ next_lsn a 0x58) (sym same) low
      by_sent None is none = absurd (true≢false (sym begun ∙ h.restarts.unbegun (ap sent_word is) none))

-- an LSN up to that of the least entry that would go next is of its page's lap at most
lap_low : (a : LogAreaOf) → IsLogArea a → (lsn : ℕ) → lsn ≤ next_lsn a 0x58 → lap_of a.pages lsn ≤ lap_at a (next_number a 0x58)
lap_low a k lsn le =
    let n = next_number a 0x58 in
    let at = next_at a 0x58 in
    let inside = next_inside a 0x58 (omega arith) in
    let some = k.some in
    let few = k.few in
    let place : n % ring_size a < ring_size a = mod-lt n (omega (arith, some)) in
    let here : lap_of a.pages (next_lsn a 0x58) ≡ lap_at a n = lap_in_page a.pages (lap_at a n) (4 + n % ring_size a) at (omega (arith, few)) (omega (arith, place, some)) (omega (arith, inside)) in
    let w = 2 ^ place_bits a.pages in
    let fits = log_fits a.pages (omega (arith, some)) (omega (arith, few)) in
    let whole = div-mul-le_self lsn w in
    let low : lap_of a.pages lsn ≤ lap_of a.pages (next_lsn a 0x58) = le-div (lsn / w) (next_lsn a 0x58) w (omega (arith, fits)) (omega (arith, whole, le)) in
    omega (arith, here, low)

-- ---- of a store

-- no page was sent behind the one that is filled
pub sent_below : {ends : Bool} (f : StoreFacts) (disk : Disk) (m : Store) (h : StandsBehindAs ends f disk m) (c : Option ℕ) → f.log.check ≡ c → h.ring.sent ≤ f.log.sealed
sent_below f disk m h (Some word) is = omega (arith, h.stands.ring.ring.next, h.stands.ring.begun word is, h.stands.ring.done)
sent_below f disk m h None is = omega (arith, h.stands.ring.ring.unbegun is, h.stands.ring.done, h.stands.ring.area.sealed_pages)

-- a mount of an image begins the lap behind that at most
pub next_lap_shown : {ends : Bool} (count : ℕ) (changes : Changes) (f : StoreFacts) (w : StoreWindow) (image : List (List ℕ)) → HasWindowAs ends changes f w → MayLeaveNow count changes image
    → next_lap_in f.place (sector_of image) ≤ lap_behind f
next_lap_shown count changes f w image has left =
    let may : MayLeave count has.0 image = subst (λ (o : Option Disk). IfSome o (λ d. MayLeave count d image)) has.1 left in
    let h = has.3 in
    let s = session_of f h.lap in
    let n = next_number f.log 0x58 in
    let ring = h.stands.ring.ring in
    let chosen = chosen_in (raw_page f.place (sector_of image) 0) (raw_page f.place (sector_of image) 1) in
    let chooses = (is_read s f.log h.ring h.restarts h.pages h.fields has.0 h.stands count image may).1 in
    let same : lap_of_page s n ≡ lap_at f.log n = ap₂ (λ (p : ℕ) (l : ℕ). l + n / (p - 4)) (sym h.stands.ring.session.pages) (sym h.stands.ring.session.lap) in
    let sent : h.ring.sent ≤ f.log.sealed = sent_below f has.0 has.2 h f.log.check refl in
    let ahead : f.log.sealed ≤ n = elim (next_place f.log 0x58) [
      | inl x ↦ (let is = x.1 in omega (arith, is))
      | inr x ↦ (let is = x.1 in omega (arith, is))
    ] in
    let climb = laps_climb s ring.lies h.ring.sent n (omega (arith, sent, ahead)) in
    let low : (c : Restart) → chosen ≡ Some c → lap_of f.place.pages c.current ≤ lap_of_page s n = λ c is.
    let under : c.current ≤ next_lsn f.log 0x58 = elim chooses.is [
      | inl sure ↦ sure_low s f.log h.restarts h.fields has.0 h.stands.restarts c (sym sure.1 ∙ is)
      | inr begun ↦ begun_low s f.log h.restarts h.fields has.0 h.stands.restarts c begun.0 (sym begun.2 ∙ is)
    ] in
    let lap = lap_low f.log h.stands.ring.area c.current under in
    subst (λ (p : ℕ). lap_of p c.current ≤ lap_of_page s n) h.stands.ring.session.pages (omega (arith, lap, same)) in
    let next = lap_is_next s h.ring f.log.check h.pages has.0 ring (sector_of image) may.each chosen n climb low in
    omega (arith, next, same)
