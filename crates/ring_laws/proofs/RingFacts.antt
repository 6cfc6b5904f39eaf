-- What the steps of a ring are proved by.
use Rattle.std.proofs.Common.{◌≡◌, ◌≢◌, ◌⊎◌, ℕ, zero, suc, ◌+◌, ◌*◌, ◌/◌, ◌^◌, ◌<◌, ◌≤◌, max, Bool, true, false, cond, nat_eq, List, [], ◌∷◌, take, drop, Option, Some, None, refl, sym, ap, ◌∙◌, subst, inl, inr, arith}
use Rattle.std.specs.Prelude.{Contains, if◌then◌else◌, ◌==◌}
use Rattle.std.specs.List.{starts_with}
use Rattle.std.specs.Cmp.Lexicographic.{pointwise}
use Rattle.std.proofs.lemmas.Bool.{cases_lt, eq-eqb, ne_eqb, eqb-true}
use Rattle.std.proofs.lemmas.Nat.{le-div}
use Rattle.std.proofs.Math.Nat.{div-mul-le_self}
use Rattle.log_reading.specs.disk_model.Numbers.{field}
use Rattle.log_reading.proofs.disk_model.Fields.{field-take}
use Rattle.log_reading.specs.log_page.declared.places.LogPlace.{LogPlace}
use Rattle.log_reading.specs.log_page.Places.{page_bytes, first_page}
use Rattle.log_reading.specs.log_page.RecordPages.{record_signature}
use Rattle.log_reading.specs.log_page.LiveLogs.{said_lsn}
use Rattle.log_reading.specs.Rings.{IsRingPlace}
use Rattle.store_model.specs.sector_device.Sectors.{sector_in}
use Rattle.store_model.specs.sector_device.Disks.{Disk, newest, seen, MayHold}
use Rattle.store_model.proofs.sector_device.Images.{holds_seen}
use Rattle.store_model.specs.Geometry.{SectorBytes}
use Rattle.store_model.specs.Rings.{PagePlaces, Ring, is_page, HasPlaces, IsRing, PutsPage}
use Rattle.store_model.specs.Rings.RingStep.{write_fails, write}
use Rattle.store_model.proofs.Rings.{ring-step}
use Rattle.ring_laws.specs.Numbers.{LogSession, ring_size, lap_of_page, lsn_of_page}
use Rattle.ring_laws.specs.PageBytes.{page_sector, raw_page, CanLeavePage, IsStill, AreAlike}
use Rattle.ring_laws.specs.RingPages.{page_written, page_sent}
use Rattle.ring_laws.proofs.Numbering.{lsns_rise}
use Rattle.ring_laws.proofs.LogSectors.{raw_same}

-- ---- what can't be

pub true_false : true ≢ false
true_false e = cc

pub some_none : (a : ℕ) → ◌≡◌ {A = Option ℕ} (Some a) None → ⊥
some_none a e = cc

pub some_same : (a b : ℕ) → ◌≡◌ {A = Option ℕ} (Some a) (Some b) → a ≡ b
some_same a b e = cc

-- ---- logs

pub has_ring : (place : LogPlace) → IsRingPlace place → first_page < place.pages
has_ring place lies = omega (arith, lies.ring)

pub log_small : (place : LogPlace) → IsRingPlace place → page_bytes * place.pages < 2 ^ 64
log_small place lies = omega (arith, lies.small)

pub laps_climb : (s : LogSession) → IsRingPlace s.place → (m n : ℕ) → m ≤ n → lap_of_page s m ≤ lap_of_page s n
laps_climb s lies m n le =
    let size = ring_size s in
    let some : 0 < size = omega (arith, lies.ring) in
    let back = div-mul-le_self m size in
    let climb = le-div (m / size) n size some (omega (arith, back, le)) in
    omega (arith, climb)

pub one_number : (s : LogSession) → IsRingPlace s.place → (m n : ℕ) → lsn_of_page s m ≡ lsn_of_page s n → m ≡ n
one_number s lies m n same = elim (cases_lt m n) [
  | inl less ↦ absurd (omega (arith, same, lsns_rise s (has_ring s.place lies) (log_small s.place lies) m n less))
  | inr more ↦ elim (cases_lt n m) [
    | inl less ↦ absurd (omega (arith, same, lsns_rise s (has_ring s.place lies) (log_small s.place lies) n m less))
    | inr even ↦ omega (arith, more, even)
  ]
]

-- ---- disks that are alike in a page

module _ (place : LogPlace) (from to : ℕ) (before now : Disk) (alike : AreAlike place from to before now) (k : ℕ) (low : from ≤ k) (high : k < to) where
  pub alike_holds : (i : ℕ) (value : List ℕ) → i < 8 → MayHold now (page_sector place k + i) value → MayHold before (page_sector place k + i) value
  alike_holds i value few (inl e) = inl (e ∙ alike.durable k i low high few)
  alike_holds i value few (inr m) = inr (subst (λ (vs : List (List ℕ)). Contains vs value) (alike.written k i low high few) m)

  pub alike_seen : (i : ℕ) → i < 8 → seen now (page_sector place k + i) ≡ seen before (page_sector place k + i)
  alike_seen i few = ap (λ (vs : List (List ℕ)). newest vs (now.durable (page_sector place k + i))) (alike.written k i low high few) ∙ ap (newest (before.written (page_sector place k + i))) (alike.durable k i low high few)

  pub alike_page : raw_page place (seen now) k ≡ raw_page place (seen before) k
  alike_page = raw_same place (seen now) (seen before) k alike_seen

  pub alike_image : (image : SectorBytes) → CanLeavePage place now image k → CanLeavePage place before image k
  alike_image image left i few = alike_holds i (image (page_sector place k + i)) few (left i few)

  pub alike_still : IsStill place before k → IsStill place now k
  alike_still still i few = alike.written k i low high few ∙ still i few

pub seen_left : (place : LogPlace) (disk : Disk) (k : ℕ) → CanLeavePage place disk (seen disk) k
seen_left place disk k i few = holds_seen disk (page_sector place k + i)

-- the first sector, as the first of eight
pub first_sector : (place : LogPlace) (disk : Disk) (k : ℕ) (value : List ℕ) → MayHold disk (page_sector place k) value → MayHold disk (page_sector place k + 0) value
first_sector place disk k value holds = subst (λ (n : ℕ). MayHold disk n value) (let e : page_sector place k ≡ page_sector place k + 0 = omega arith in e) holds

-- ---- what the first sector says

take_fewer : (m n : ℕ) (bytes : List ℕ) → m ≤ n → take m (take n bytes) ≡ take m bytes
take_fewer zero n bytes le = none n bytes
  where
    none : (n : ℕ) (bytes : List ℕ) → take 0 (take n bytes) ≡ take 0 bytes
    none zero bytes = nothing bytes
      where
        nothing : (bytes : List ℕ) → take 0 (take 0 bytes) ≡ take 0 bytes
        nothing [] = refl
        nothing (b ∷ bytes) = refl
    none (suc n) [] = refl
    none (suc n) (b ∷ bytes) = refl
take_fewer (suc m) zero bytes le = absurd (omega (arith, le))
take_fewer (suc m) (suc n) [] le = refl
take_fewer (suc m) (suc n) (b ∷ bytes) le = ap (λ (l : List ℕ). b ∷ l) (take_fewer m n bytes (omega (arith, le)))

pub first_says : (bytes : List ℕ) → said_lsn (sector_in bytes 0) ≡ said_lsn bytes
unfolding sector_in
first_says bytes =
    let begins : starts_with nat_eq (take 512 bytes) record_signature ≡ starts_with nat_eq bytes record_signature = ap (pointwise nat_eq record_signature) (take_fewer 4 512 bytes (omega arith)) in
    let lsn : field 0x08 8 (take 512 bytes) ≡ field 0x08 8 bytes = field-take 0x08 8 512 bytes (omega arith) in
    ap (λ (l : List ℕ). said_lsn (take 512 l)) (none bytes) ∙ ap (λ (b : Bool). cond b (Some (field 0x08 8 (take 512 bytes))) None) begins ∙ ap (λ (n : ℕ). cond (starts_with nat_eq bytes record_signature) (Some n) None) lsn
  where
    none : (bytes : List ℕ) → drop (512 * 0) bytes ≡ bytes
    none [] = refl
    none (b ∷ bytes) = refl

-- ---- values of places

pub there_page : (o : Option ℕ) (j : ℕ) → is_page o j ≡ true → o ≡ Some j
there_page (Some n) j e = ap (λ (m : ℕ). Some m) (eqb-true n j e)
there_page None j e = absurd cc

-- one value more at a place
abbrev pub put_value : PagePlaces → ℕ → Option ℕ → PagePlaces
put_value p k x = record { durable = p.durable; written = λ n. if n == k then x ∷ p.written n else p.written n }

pub puts_value : (place : ℕ → ℕ) (j : ℕ) (x : Option ℕ) (p : PagePlaces) → (x ≡ Some j) ⊎ (x ≡ None) → PutsPage place j x p (put_value p (place j) x)
puts_value place j x p whole = record {
  whole = whole;
  durable = λ k. refl;
  own = ap (λ (b : Bool). if b then x ∷ p.written (place j) else p.written (place j)) (eq-eqb (place j) (place j) refl);
  other = λ k apart. ap (λ (b : Bool). if b then x ∷ p.written k else p.written k) (ne_eqb k (place j) apart);
}

-- what a page that was begun may be: whole, torn, and what a read gives of it
abbrev pub with_page : PagePlaces → ℕ → ℕ → Option ℕ → PagePlaces
with_page p k j x = put_value (put_value (put_value p k (Some j)) k None) k x

pub with_own : (p : PagePlaces) (k j : ℕ) (x : Option ℕ) → (with_page p k j x).written k ≡ x ∷ (None ∷ (Some j ∷ p.written k))
with_own p k j x = rw (eq-eqb k k refl) refl

pub with_other : (p : PagePlaces) (k j n : ℕ) (x : Option ℕ) → n ≢ k → (with_page p k j x).written n ≡ p.written n
with_other p k j n x apart = rw (ne_eqb n k apart) refl

same_sent : (a b : ℕ) → max (max a b) b ≡ max a b
same_sent a b = omega arith

pub sent_again : (place : ℕ → ℕ) (r : Ring) (p after : PagePlaces) → IsRing place (page_sent (page_sent r p) after) → IsRing place (page_sent r after)
sent_again place r p after ring = subst (λ (n : ℕ). IsRing place (record r { sent = n; places = after })) (same_sent r.sent (suc r.done)) ring

pub written_again : (place : ℕ → ℕ) (r : Ring) (p after : PagePlaces) → IsRing place (page_written (page_sent r p) after) → IsRing place (page_written r after)
written_again place r p after ring = subst (λ (n : ℕ). IsRing place (record r { done = suc r.done; sent = n; places = after })) (same_sent r.sent (suc r.done)) ring

module _ (place : ℕ → ℕ) (r : Ring) (places : HasPlaces r.size place) (room : r.done < r.oldest + r.size) (x : Option ℕ) where
  abbrev k : ℕ
  k = place r.done

  abbrev one : PagePlaces
  one = put_value r.places k (Some r.done)

  abbrev two : PagePlaces
  two = put_value one k None

  first_fails : IsRing place r → IsRing place (page_sent r one)
  first_fails ring = ring-step place r (page_sent r one) places (write_fails (Some r.done) one room (puts_value place r.done (Some r.done) r.places (inl refl))) ring

  second_fails : IsRing place r → IsRing place (page_sent r two)
  second_fails ring = sent_again place r one two
      (ring-step place (page_sent r one) (page_sent (page_sent r one) two) places (write_fails None two room (puts_value place r.done None one (inr refl))) (first_fails ring))

  pub third_fails : (x ≡ Some r.done) ⊎ (x ≡ None) → IsRing place r → IsRing place (page_sent r (with_page r.places k r.done x))
  third_fails whole ring = sent_again place r two (with_page r.places k r.done x)
      (ring-step place (page_sent r two) (page_sent (page_sent r two) (with_page r.places k r.done x)) places (write_fails x (with_page r.places k r.done x) room (puts_value place r.done x two whole)) (second_fails ring))

  pub third_is_written : x ≡ Some r.done → IsRing place r → IsRing place (page_written r (with_page r.places k r.done x))
  third_is_written whole ring = subst (λ (y : Option ℕ). IsRing place (page_written r (with_page r.places k r.done y))) (sym whole)
      (written_again place r two (with_page r.places k r.done (Some r.done))
      (ring-step place (page_sent r two) (page_written (page_sent r two) (with_page r.places k r.done (Some r.done))) places
      (write (with_page r.places k r.done (Some r.done)) room (puts_value place r.done (Some r.done) two (inl refl))) (second_fails ring)))
