-- Sectors and their bytes, and a piece that a write doesn't meet.
use Rattle.std.proofs.Common.{◌≡◌, ◌⊎◌, ℕ, zero, suc, ◌+◌, ◌-◌, ◌*◌, ◌/◌, ◌<◌, ◌≤◌, Bool, true, false, List, ◌++◌, length, Option, Some, None, Result, Ok, Err, refl, sym, ap, ◌∙◌, inl, inr, arith}
use Rattle.std.specs.Prelude.{OnOk, OnErr}
use Rattle.std.specs.Option.{option_map, ForSome}
use Rattle.std.proofs.lemmas.Bool.{cases_lt}
use Rattle.std.proofs.lemmas.List.{append-nil}
use Rattle.disk_model.specs.Bytes.{part, written}
use Rattle.disk_model.specs.Sectors.{sector_of, raw_from, zero_sector}
use Rattle.disk_model.proofs.Sectors.{length-raw_from, part-raw_from}
use Rattle.disk_model.proofs.Frames.{written_before, written_behind}
use Rattle.log_area.specs.sector_device.Disks.{is_within}
use Rattle.log_area.specs.sector_device.Sectors.{sector_in, sectors_of, IsTornBy}
use Rattle.log_area.specs.sector_device.WholeSectors.{length-sectors_of, get_or-sectors_of}
use Rattle.log_area.proofs.sector_device.SectorParts.{outside_stays}
use Rattle.log_area.proofs.sector_device.KeptCalls.{cases_within}
use Rattle.device_view.specs.Devices.{IsHeld}
use Rattle.device_blocks.specs.Pieces.{MeetsPiece}

-- ---- the raw bytes of sectors

pub raw_sectors : (at : ℕ → List ℕ) (first n : ℕ) → ((s : ℕ) → length (at s) ≡ 512) → length (sectors_of (raw_from at first n)) ≡ n
raw_sectors at first n sized =
    let e = length-raw_from at first n sized in
    let m = length-sectors_of (raw_from at first n) in
    omega (arith, e, m)

one_sector : (at : ℕ → List ℕ) (s : ℕ) → raw_from at s 1 ≡ at s
unfolding raw_from
one_sector at s = append-nil (at s)

raw_sector_at : (at : ℕ → List ℕ) (first n k : ℕ) → ((s : ℕ) → length (at s) ≡ 512) → k < n → sector_of (sectors_of (raw_from at first n)) k ≡ at (first + k)
unfolding sector_in
raw_sector_at at first n k sized lt =
    let e = length-raw_from at first n sized in
    get_or-sectors_of (raw_from at first n) k zero_sector (omega (arith, e)) ∙ part-raw_from at first k 1 n sized (omega arith) ∙ one_sector at (first + k)

pub raw_sector : (at : ℕ → List ℕ) (first n s : ℕ) → ((i : ℕ) → length (at i) ≡ 512) → is_within first n s ≡ true → sector_of (sectors_of (raw_from at first n)) (s - first) ≡ at s
raw_sector at first n s sized within = elim (cases_within first n s) [
  | inl here ↦
      let place : first + (s - first) ≡ s = omega (arith, here.1.0) in
      raw_sector_at at first n (s - first) sized (omega (arith, here.1.0, here.1.1)) ∙ ap at place
  | inr there ↦ let no : true ≡ false = sym within ∙ there.0 in absurd cc
]

same_raw : (f g : ℕ → List ℕ) (a n : ℕ) → ((s : ℕ) → a ≤ s → s < a + n → f s ≡ g s) → raw_from f a n ≡ raw_from g a n
unfolding raw_from
same_raw f g a zero same = refl
same_raw f g a (suc n) same =
    let rest = same_raw f g (a + 1) n (λ s le lt. same s (omega (arith, le)) (omega (arith, lt))) in
    ap (λ (x : List ℕ). x ++ raw_from f (a + 1) n) (same a (omega arith) (omega arith)) ∙ ap (λ (x : List ℕ). g a ++ x) rest

-- ---- a piece that isn't met

outside_of : (p first count s : ℕ) → (MeetsPiece p first count → ⊥) → 128 * p ≤ s → s < 128 * p + 128 → (s < first) ⊎ (first + count ≤ s)
outside_of p first count s apart from upto = elim (cases_lt first (128 * p + 128)) [
  | inl low ↦ elim (cases_lt (128 * p) (first + count)) [
    | inl high ↦ absurd (apart (low, high))
    | inr before ↦ inr (omega arith)
  ]
  | inr behind ↦ inl (omega arith)
]

-- the sectors outside of a write stay
abbrev IsFrame : ℕ → ℕ → List (List ℕ) → List (List ℕ) → Type 0
IsFrame first count before now = (s : ℕ) → (s < first) ⊎ (first + count ≤ s) → sector_of now s ≡ sector_of before s

held_by : (p first count : ℕ) (bytes : List ℕ) (before now : List (List ℕ)) → (MeetsPiece p first count → ⊥) → IsFrame first count before now
    → bytes ≡ raw_from (sector_of before) (128 * p) 128 → bytes ≡ raw_from (sector_of now) (128 * p) 128
held_by p first count bytes before now apart frame held =
    held ∙ same_raw (sector_of before) (sector_of now) (128 * p) 128 (λ s le lt. sym (frame s (outside_of p first count s apart le lt)))

written_frame : (first s : ℕ) (new before : List (List ℕ)) → (s < first) ⊎ (first + length new ≤ s) → sector_of (written first new before) s ≡ sector_of before s
written_frame first s new before (inl lt) = written_before first new before s zero_sector lt
written_frame first s new before (inr le) = written_behind first new before s zero_sector le

there_by : (first n m s : ℕ) → n ≡ m → (s < first) ⊎ (first + n ≤ s) → (s < first) ⊎ (first + m ≤ s)
there_by first n m s e (inl before) = inl before
there_by first n m s e (inr behind) = inr (omega (arith, e, behind))

-- what a write leaves of a piece that it doesn't meet
pub held_behind : {T E : Type 0} (piece : Option ℕ) (room bytes : List ℕ) (first : ℕ) (result : Result T E) (old now : Option (List (List ℕ)))
    → ForSome piece (λ p. MeetsPiece p first (length bytes / 512) → ⊥) → OnOk result (now ≡ option_map (written first (sectors_of bytes)) old) → OnErr result (IsTornBy first (sectors_of bytes) old now)
    → IsHeld piece room old → IsHeld piece room now
held_behind piece room bytes first (Ok x) None now apart ok err held = λ p is disk e. let no : None ≡ Some disk = sym ok ∙ e in absurd cc
held_behind piece room bytes first (Ok x) (Some before) now apart ok err held = λ p is disk e.
    let known : Some (written first (sectors_of bytes) before) ≡ Some disk = sym ok ∙ e in
    let same : disk ≡ written first (sectors_of bytes) before = cc in
    let count = length-sectors_of bytes in
    held_by p first (length bytes / 512) room before disk (apart p is)
    (λ s there. ap (λ (d : List (List ℕ)). sector_of d s) same ∙ written_frame first s (sectors_of bytes) before (there_by first (length bytes / 512) (length (sectors_of bytes)) s (sym count) there))
    (held p is before refl)
held_behind piece room bytes first (Err f) None None apart ok err held = λ p is disk e. absurd cc
held_behind piece room bytes first (Err f) None (Some now) apart ok err held = absurd err
held_behind piece room bytes first (Err f) (Some before) None apart ok err held = absurd err
held_behind piece room bytes first (Err f) (Some before) (Some now) apart ok err held = λ p is disk e.
    let same : disk ≡ now = cc in
    let count = length-sectors_of bytes in
    held_by p first (length bytes / 512) room before disk (apart p is)
    (λ s there. ap (λ (d : List (List ℕ)). sector_of d s) same ∙ outside_stays before (sectors_of bytes) now first s err (there_by first (length bytes / 512) (length (sectors_of bytes)) s (sym count) there))
    (held p is before refl)
