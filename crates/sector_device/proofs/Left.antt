-- An image is made out of kept calls, from the newest back.
use Rattle.std.proofs.Common.{◌≡◌, ◌⊎◌, subst, ℕ, suc, ◌+◌, ◌-◌, ◌≤◌, ◌<◌, Bool, true, false, cond, List, [], ◌∷◌, length, get_or, refl, sym, ap, ◌∙◌, inl, inr, arith}
use Rattle.std.specs.Prelude.{Contains, nat_lt}
use Rattle.std.proofs.lemmas.Bool.{cases_lt, lt-ltb, le-ltb}
use Rattle.disk_model.specs.Sectors.{sector_of}
use Rattle.sector_device.specs.Sectors.{sectors_of}
use Rattle.sector_device.specs.Disks.{Disk, MayHold}
use Rattle.sector_device.specs.Kept.{written_by, durable_by}
use Rattle.sector_device.specs.Left.{before_call, LeftBy, MayHoldBy, IsFair, Decides}
use Rattle.sector_device.specs.declared.memory.KeptCall.{KeptCall}
use Rattle.sector_device.specs.declared.memory.KeptCall.TheVariants.{Read, Write, Sync, Failed}
use Rattle.sector_device.proofs.KeptCalls.{cases_within}

-- ---- the calls after a number of them are taken back

pub left_before : (count : ℕ) (now image : List (List ℕ)) (call : KeptCall) (calls : List KeptCall) → LeftBy count (before_call call now) calls image → LeftBy count now (call ∷ calls) image
left_before count now image Read calls h = h
left_before count now image Failed calls h = h
left_before count now image (Sync at) calls (inl h) = inr (inl (omega arith, h))
left_before count now image (Sync at) calls (inr h) = inr (inr h)
left_before count now image (Write at first old) calls (inl h) = inr (inl (omega arith, h))
left_before count now image (Write at first old) calls (inr h) = inr (inr h)

-- ---- the writes since the last sync, sector by sector

clash : (b : Bool) → b ≡ true → b ≡ false → ⊥
clash b t f = cc

-- of a sector outside, a write says what the calls before it say
outside_says : (s at first : ℕ) (old now value : List ℕ) (calls : List KeptCall) → (s < first) ⊎ (first + length (sectors_of old) ≤ s) → MayHoldBy s now calls value → MayHoldBy s now (Write at first old ∷ calls) value
outside_says s at first old now value calls out h =
    elim (cases_within first (length (sectors_of old)) s) [
      | inl w ↦ absurd (elim out [ inl lt ↦ omega (arith, w.1.0) | inr le ↦ omega (arith, w.1.1) ])
      | inr w ↦ rw w.0 h
    ]

-- inside it says the value that stands there, and what is said of the old one
inside_now : (s at first : ℕ) (old now : List ℕ) (calls : List KeptCall) → first ≤ s → s < first + length (sectors_of old) → MayHoldBy s now (Write at first old ∷ calls) now
inside_now s at first old now calls from lt =
    elim (cases_within first (length (sectors_of old)) s) [
      | inl w ↦ rw w.0 (inr (0, omega arith, refl))
      | inr w ↦ absurd (elim w.1 [ inl a ↦ omega (arith, from) | inr b ↦ omega (arith, lt) ])
    ]

inside_old : (s at first : ℕ) (old now value : List ℕ) (calls : List KeptCall) → first ≤ s → s < first + length (sectors_of old) → MayHoldBy s (sector_of (sectors_of old) (s - first)) calls value → MayHoldBy s now (Write at first old ∷ calls) value
inside_old s at first old now value calls from lt h =
    elim (cases_within first (length (sectors_of old)) s) [
      | inl w ↦ rw w.0 (go h)
      | inr w ↦ absurd (elim w.1 [ inl a ↦ omega (arith, from) | inr b ↦ omega (arith, lt) ])
    ]
  where
    go : MayHoldBy s (sector_of (sectors_of old) (s - first)) calls value → (value ≡ durable_by s (sector_of (sectors_of old) (s - first)) calls) ⊎ Contains (now ∷ written_by s (sector_of (sectors_of old) (s - first)) calls) value
    go (inl e) = inl e
    go (inr c) = inr (suc c.0, omega (arith, c.1), c.2)

-- at the start and at the end of a write's sectors
pub fair_begins : (disk : Disk) (image : List (List ℕ)) (decided : List Bool) (at first : ℕ) (old : List ℕ) (calls : List KeptCall) → IsFair disk image decided 0 [] (Write at first old ∷ calls) → IsFair disk image decided first calls (Write at first old ∷ calls)
fair_begins disk image decided at first old calls fair = record {
  done = fair.done;
  left = λ s value undecided h.
      elim (cases_lt s first) [
        | inl lt ↦ (let k = rw (lt-ltb s first lt) at h in fair.left s value undecided (rw (le-ltb s 0 (omega arith)) (outside_says s at first old (sector_of image s) value calls (inl lt) k)))
        | inr le ↦ (let k = rw (le-ltb s first le) at h in fair.left s value undecided (rw (le-ltb s 0 (omega arith)) k))
      ];
}

pub fair_ends : (disk : Disk) (image : List (List ℕ)) (decided : List Bool) (at first : ℕ) (old : List ℕ) (calls : List KeptCall) → IsFair disk image decided (first + length (sectors_of old)) calls (Write at first old ∷ calls) → IsFair disk image decided 0 [] calls
fair_ends disk image decided at first old calls fair = record {
  done = fair.done;
  left = λ s value undecided h.
      (let k = rw (le-ltb s 0 (omega arith)) at h in
      elim (cases_lt s (first + length (sectors_of old))) [
        | inl lt ↦ fair.left s value undecided (rw (lt-ltb s (first + length (sectors_of old)) lt) k)
        | inr le ↦ fair.left s value undecided (rw (le-ltb s (first + length (sectors_of old)) le) (outside_says s at first old (sector_of image s) value calls (inr le) k))
      ]);
}

-- one sector more
pub fair_goes_on : (disk : Disk) (image later : List (List ℕ)) (decided now : List Bool) (at first j : ℕ) (old : List ℕ) (calls : List KeptCall) → j < length (sectors_of old) → Decides (first + j) (sector_of (sectors_of old) j) image later decided now
    → IsFair disk image decided (first + j) calls (Write at first old ∷ calls) → IsFair disk later now (first + j + 1) calls (Write at first old ∷ calls)
fair_goes_on disk image later decided now at first j old calls lt step fair = record {
  done = λ s decides.
      elim (cases_eq s) [
        | inl same ↦ subst (λ (k : ℕ). MayHold disk k (sector_of later k)) (sym same) (done_here (subst (λ (k : ℕ). get_or now k false ≡ true) same decides))
        | inr other ↦
            let o = step.others s other in
            subst (λ (v : List ℕ). MayHold disk s v) (sym o.1) (fair.done s (sym o.0 ∙ decides))
      ];
  left = λ s value undecided h.
      elim (cases_eq s) [
        | inl same ↦ subst (λ (k : ℕ). MayHold disk k value) (sym same) (left_here value (subst (λ (k : ℕ). get_or now k false ≡ false) same undecided)
            (subst (λ (k : ℕ). MayHoldBy k (sector_of later k) (cond (nat_lt k (first + j + 1)) calls (Write at first old ∷ calls)) value) same h))
        | inr other ↦
            let o = step.others s other in
            fair.left s value (sym o.0 ∙ undecided) (subst (λ (v : List ℕ). MayHoldBy s v (cond (nat_lt s (first + j)) calls (Write at first old ∷ calls)) value) o.1
            (subst (λ (b : Bool). MayHoldBy s (sector_of later s) (cond b calls (Write at first old ∷ calls)) value) (same_side s other) h))
      ];
}
  where
    cases_eq : (s : ℕ) → (s ≡ first + j) ⊎ (s ≡ first + j → ⊥)
    cases_eq s = elim (cases_lt s (first + j)) [
      | inl less ↦ inr (λ e. omega (arith, less, e))
      | inr from ↦ elim (cases_lt (first + j) s) [
        | inl more ↦ inr (λ e. omega (arith, more, e))
        | inr back ↦ inl (omega (arith, from, back))
      ]
    ]

    same_side : (s : ℕ) → (s ≡ first + j → ⊥) → nat_lt s (first + j + 1) ≡ nat_lt s (first + j)
    same_side s other = elim (cases_lt s (first + j)) [
      | inl less ↦ lt-ltb s (first + j + 1) (omega (arith, less)) ∙ sym (lt-ltb s (first + j) less)
      | inr from ↦ elim (cases_lt (first + j) s) [
        | inl more ↦ le-ltb s (first + j + 1) (omega (arith, more)) ∙ sym (le-ltb s (first + j) from)
        | inr back ↦ absurd (other (omega (arith, from, back)))
      ]
    ]

    left_old : (value : List ℕ) → get_or decided (first + j) false ≡ false → MayHoldBy (first + j) (sector_of image (first + j)) (Write at first old ∷ calls) value → MayHold disk (first + j) value
    left_old value undecided h = fair.left (first + j) value undecided (rw (le-ltb (first + j) (first + j) (omega arith)) h)

    done_by : (b : Bool) → get_or decided (first + j) false ≡ b → MayHold disk (first + j) (sector_of image (first + j))
    done_by true e = fair.done (first + j) e
    done_by false e = left_old (sector_of image (first + j)) e (inside_now (first + j) at first old (sector_of image (first + j)) calls (omega arith) (omega (arith, lt)))

    done_here : get_or now (first + j) false ≡ true → MayHold disk (first + j) (sector_of later (first + j))
    done_here decides =
        elim step.here [
          | inl a ↦ subst (λ (v : List ℕ). MayHold disk (first + j) v) (sym a.1) (done_by (get_or decided (first + j) false) refl)
          | inr b ↦ absurd (clash (get_or now (first + j) false) decides b.1.0)
        ]

    left_here : (value : List ℕ) → get_or now (first + j) false ≡ false → MayHoldBy (first + j) (sector_of later (first + j)) (cond (nat_lt (first + j) (first + j + 1)) calls (Write at first old ∷ calls)) value → MayHold disk (first + j) value
    left_here value undecided h =
        elim step.here [
          | inl a ↦ absurd (clash (get_or now (first + j) false) a.0 undecided)
          | inr b ↦
              let k = rw (lt-ltb (first + j) (first + j + 1) (omega arith)) at h in
              let place : j ≡ first + j - first = omega arith in
              let is : sector_of later (first + j) ≡ sector_of (sectors_of old) (first + j - first) = b.1.1 ∙ ap (λ (n : ℕ). sector_of (sectors_of old) n) place in
              left_old value b.0 (inside_old (first + j) at first old (sector_of image (first + j)) value calls (omega arith) (omega (arith, lt)) (subst (λ (v : List ℕ). MayHoldBy (first + j) v calls value) is k))
        ]

-- where no call is left, or a sync comes, the image is one
pub fair_is_image : (disk : Disk) (image : List (List ℕ)) (decided : List Bool) (calls : List KeptCall) → ((s : ℕ) (v : List ℕ) → durable_by s v calls ≡ v) → IsFair disk image decided 0 [] calls → (s : ℕ) → MayHold disk s (sector_of image s)
fair_is_image disk image decided calls last fair s = go (get_or decided s false) refl
  where
    go : (b : Bool) → get_or decided s false ≡ b → MayHold disk s (sector_of image s)
    go true e = fair.done s e
    go false e = fair.left s (sector_of image s) e (rw (le-ltb s 0 (omega arith)) (inl (sym (last s (sector_of image s)))))
