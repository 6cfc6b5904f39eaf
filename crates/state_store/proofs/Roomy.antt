-- Whether there is room, by the pages that were counted.
use Rattle.std.proofs.Common.{◌≡◌, subst, ℕ, suc, ◌+◌, ◌-◌, ◌/◌, ◌^◌, ◌<◌, ◌≤◌, Bool, true, false, cond, List, sym, ap, ◌∙◌, inl, inr, arith}
use Rattle.std.proofs.Math.Nat.{div-mul-le_self, add-div_left}
use Rattle.std.proofs.lemmas.Nat.{le-div}
use Rattle.std.proofs.lemmas.Bool.{cases_lt, le-leb, lt-leb}
use Rattle.host_base.specs.Answers.{needs}
use Rattle.disk_model.specs.declared.block.Change.{Change}
use Rattle.turn_laws.specs.log_page.Places.{sequence_bits}
use Rattle.turn_laws.specs.log_area.Areas.{LogAreaOf, ring_size, lap_at, fits, next_number, free_pages}
use Rattle.turn_laws.specs.txn_model.Values.{StoreFacts}
use Rattle.turn_laws.specs.txn_log.Counts.{capped}
use Rattle.turn_laws.specs.txn_log.Laws.{HasRoom}
use Rattle.turn_laws.specs.txn_core.Rooms.{LacksRoom}
use Rattle.state_store.specs.Rooms.{pages_of_changes, room_for, room_in, MayNumber}

-- ---- there is room

has_all : (a : LogAreaOf) (tx n pages : ℕ) → pages ≡ capped n → HasRoom a tx 0 pages → HasRoom a tx 0 n
has_all a tx n pages is room =
    let within : pages ≤ free_pages a = room.room in
    let free : free_pages a ≤ a.pages = omega arith in
    let few = room.ring.few in
    let all : pages ≡ n = below n pages is (omega arith) in
    subst (λ (m : ℕ). HasRoom a tx 0 m) all room
  where
    below : (n pages : ℕ) → pages ≡ capped n → pages < 2 ^ 64 - 1 → pages ≡ n
    below n pages is small = omega (arith, is)

room_is : (n room : ℕ) → n ≤ room → room_for n room ≡ needs true (record { pages = capped n; room = room })
room_is n room le = ap (λ (t : Bool). needs t (record { pages = capped n; room = room })) (le-leb n room le)

pub is_roomy : (f : StoreFacts) (changes : List Change) (pages : ℕ) → pages ≡ capped (pages_of_changes f changes) → HasRoom f.log f.tx 0 pages
    → HasRoom f.log f.tx 0 (pages_of_changes f changes) × (room_in f changes ≡ needs true (record { pages = capped (pages_of_changes f changes); room = free_pages f.log }))
is_roomy f changes pages is room =
    let all = has_all f.log f.tx (pages_of_changes f changes) pages is room in
    (all, room_is (pages_of_changes f changes) (free_pages f.log) all.room)

-- ---- there is none

behind_next : (a : LogAreaOf) (n laps : ℕ) → 4 < a.pages → n ≤ ring_size a → suc (lap_at a (next_number a 0x58)) < laps → lap_at a (a.sealed + n) < laps
behind_next a n laps some le near =
    let size = ring_size a in
    let full : 0 < size = omega (arith, some) in
    let back = div-mul-le_self (a.sealed + n) size in
    let step = by_fit (fits a 0x58) in
    let far : (a.sealed + n) / size ≤ (size + next_number a 0x58) / size = le-div ((a.sealed + n) / size) (size + next_number a 0x58) size full (omega (arith, back, step, le)) in
    let turn : (size + next_number a 0x58) / size ≡ next_number a 0x58 / size + 1 = add-div_left (next_number a 0x58) full in
    omega (arith, far, turn, near)
  where
    by_fit : (t : Bool) → a.sealed ≤ cond t a.sealed (a.sealed + 1)
    by_fit true = omega arith
    by_fit false = omega arith

short_of : (f : StoreFacts) (n pages : ℕ) → pages ≡ capped n → 4 < f.log.pages → MayNumber f → LacksRoom f.log pages → free_pages f.log < n
short_of f n pages is some may (inl few) = omega (arith, is, few)
short_of f n pages is some may (inr (inl none)) = absurd (none (let laps = may.laps in omega (arith, laps)))
short_of f n pages is some may (inr (inr ends)) = elim (cases_lt (free_pages f.log) n) [
  | inl short ↦ short
  | inr fits ↦
      (let laps = may.laps in
      let low = behind_next f.log pages (2 ^ sequence_bits f.log.pages) some (omega (arith, is, fits)) laps in
      absurd (omega (arith, low, ends)))
]

pub is_short : (f : StoreFacts) (changes : List Change) (pages room : ℕ) → pages ≡ capped (pages_of_changes f changes) → room ≡ free_pages f.log → 4 < f.log.pages → MayNumber f → LacksRoom f.log pages
    → room_in f changes ≡ needs false (record { pages = pages; room = room })
is_short f changes pages room is free some may lacks =
    let n = pages_of_changes f changes in
    ap (λ (t : Bool). needs t (record { pages = capped n; room = free_pages f.log })) (lt-leb n (free_pages f.log) (short_of f n pages is some may lacks))
    ∙ ap (λ (p : ℕ). needs false (record { pages = p; room = free_pages f.log })) (sym is)
    ∙ ap (λ (r : ℕ). needs false (record { pages = pages; room = r })) (sym free)
