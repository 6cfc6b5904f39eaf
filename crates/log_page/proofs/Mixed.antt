-- Pages that were written in part.
use Rattle.std.proofs.Common.{◌≡◌, ◌≢◌, ◌⊎◌, ℕ, ◌+◌, ◌*◌, ◌/◌, ◌%◌, ◌^◌, ◌<◌, ◌≤◌, Bool, true, false, cond, List, length, slice_index, Result, Ok, Err, refl, sym, ap, ◌∙◌, subst, inl, inr, arith}
use Rattle.std.specs.Prelude.{is_ok, nat_lt}
use Rattle.std.proofs.lemmas.Bool.{cases_Bool, cases_eq, cases_lt, and_parts, eqb-true}
use Rattle.std.proofs.lemmas.List.{ext_get_or, get_or_past}
use Rattle.disk_model.specs.declared.fixups.FixupFault.{FixupFault}
use Rattle.disk_model.specs.Fixups.{sector_count, last_word, fixup_of, restored}
use Rattle.disk_model.specs.Bytes.{AreBytes}
use Rattle.disk_model.proofs.Fields.{field_same, field-lt}
use Rattle.disk_model.proofs.Protection.{read_parts, whole_sector, length-restored, slice_index-restored}
use Rattle.log_page.specs.CheckWords.{is_last_word}
use Rattle.log_record.specs.log_model.declared.entry.Entry.{Entry}
use Rattle.log_page.specs.declared.fault.PageFault.TheVariants.{NotWhole}
use Rattle.log_page.specs.RecordPages.{Reading, first_lsn, is_whole_page, AppendsPage}
use Rattle.log_page.specs.PageLaws.{IsPartWritten}
use Rattle.log_page.proofs.Words.{ends_one}

-- the check word of bytes whose update sequence holds
checked : (r : Result ℕ FixupFault) → is_ok r ≡ true → (check : ℕ) × (r ≡ Ok check)
checked (Ok check) e = (check, refl)
checked (Err fault) e = absurd cc

-- sectors that are all new or all old, where each new one ends with the new word and no old one does
one_kind : (raw : List ℕ) (check new_check : ℕ) (is_new : ℕ → Bool)
    → ((i : ℕ) → i < sector_count raw → is_new i ≡ true → last_word raw i ≡ new_check) → ((i : ℕ) → i < sector_count raw → is_new i ≡ false → last_word raw i ≢ new_check)
    → fixup_of raw ≡ Ok check → ((i : ℕ) → i < sector_count raw → is_new i ≡ true) ⊎ ((i : ℕ) → i < sector_count raw → is_new i ≡ false)
one_kind raw check new_check is_new new old e =
    let parts = read_parts raw check e in
    elim (cases_eq check new_check) [
      | inl same ↦ inl (λ i lt. elim (cases_Bool (is_new i)) [
        | inl yes_new ↦ yes_new
        | inr no_new ↦ absurd (old i lt no_new (whole_sector raw i parts.1 lt ∙ parts.2 ∙ same))
      ])
      | inr other ↦ inr (λ i lt. elim (cases_Bool (is_new i)) [
        | inl yes_new ↦ absurd (other (sym (whole_sector raw i parts.1 lt ∙ parts.2) ∙ new i lt yes_new))
        | inr no_new ↦ no_new
      ])
    ]

module _ (old new raw : List ℕ) (check : ℕ) (is_new : ℕ → Bool) (part : IsPartWritten old new raw check is_new) where
  -- the bytes of a sector
  from_new : (i : ℕ) → i < 4096 → is_new (i / 512) ≡ true → slice_index raw i ≡ slice_index new i
  from_new i lt e = part.bytes i lt ∙ ap (λ (b : Bool). cond b (slice_index new i) (slice_index old i)) e

  from_old : (i : ℕ) → i < 4096 → is_new (i / 512) ≡ false → slice_index raw i ≡ slice_index old i
  from_old i lt e = part.bytes i lt ∙ ap (λ (b : Bool). cond b (slice_index new i) (slice_index old i)) e

  -- the last word of a sector
  new_word : (sector : ℕ) → sector < 8 → is_new sector ≡ true → last_word raw sector ≡ check
  new_word sector lt e =
      field_same (512 * sector + 510) (512 * sector + 510) 2 raw new (λ k two.
      let here : sector ≡ (512 * sector + 510 + k) / 512 = omega arith in
      from_new (512 * sector + 510 + k) (omega arith) (ap is_new (sym here) ∙ e))
      ∙ part.ends sector lt

  old_word : (sector : ℕ) → sector < 8 → is_new sector ≡ false → last_word raw sector ≢ check
  old_word sector lt e ends =
      let same : last_word raw sector ≡ last_word old sector =
      field_same (512 * sector + 510) (512 * sector + 510) 2 raw old (λ k two.
      let here : sector ≡ (512 * sector + 510 + k) / 512 = omega arith in
      from_old (512 * sector + 510 + k) (omega arith) (ap is_new (sym here) ∙ e)) in
      let size = part.old_size in
      let used : is_last_word old check ≡ true = ends_one old check sector (omega arith) (sym same ∙ ends) in
      let unused : is_last_word old check ≡ false = part.picked.unused in
      absurd cc

  pub new_or_old : is_ok (fixup_of raw) ≡ true → (raw ≡ new) ⊎ (raw ≡ old)
  new_or_old e =
      let size = part.size in
      let word = checked (fixup_of raw) e in
      elim (one_kind raw word.0 check is_new (λ i lt is. new_word i (omega arith) is) (λ i lt is. old_word i (omega arith) is) word.1) [
        | inl all ↦ inl (ext_get_or 0 raw new (part.size ∙ sym part.new_size) (λ i lt. from_new i (omega arith) (all (i / 512) (omega arith))))
        | inr none ↦ inr (ext_get_or 0 raw old (part.size ∙ sym part.old_size) (λ i lt. from_old i (omega arith) (none (i / 512) (omega arith))))
      ]

-- ---- whole pages

-- the update sequence of a whole page holds, and its first entry has the LSN
whole_parts : (pages lsn : ℕ) (raw : List ℕ) → is_whole_page pages raw lsn ≡ true → (is_ok (fixup_of raw) ≡ true) × (first_lsn (restored raw) ≡ lsn)
unfolding is_whole_page
whole_parts pages lsn raw e =
    let outer = and_parts _ _ e in
    let inner = and_parts _ _ outer.1 in
    let first = and_parts _ _ inner.0 in
    (outer.0, eqb-true _ _ first.1)

pub old_sector_shows : (pages lsn : ℕ) (old new raw : List ℕ) (check : ℕ) (is_new : ℕ → Bool)
    → IsPartWritten old new raw check is_new → is_whole_page pages old lsn ≡ false → is_whole_page pages raw lsn ≡ true → raw ≡ new
old_sector_shows pages lsn old new raw check is_new part before now =
    elim (new_or_old old new raw check is_new part (whole_parts pages lsn raw now).0) [
      | inl same ↦ same
      | inr same ↦ (let still : is_whole_page pages old lsn ≡ true = ap (λ (x : List ℕ). is_whole_page pages x lsn) (sym same) ∙ now in absurd cc)
    ]

pub other_lap_shows : (pages lsn other : ℕ) (raw : List ℕ) → is_whole_page pages raw lsn ≡ true → is_whole_page pages raw other ≡ true → lsn ≡ other
other_lap_shows pages lsn other raw e f = sym (whole_parts pages lsn raw e).1 ∙ (whole_parts pages other raw f).1

-- ---- LSNs of 64 bits

AreBytes-restored : (raw : List ℕ) → AreBytes raw → AreBytes (restored raw)
AreBytes-restored raw each i = elim (cases_lt i (length raw)) [
  | inl lt ↦ subst (λ (x : ℕ). x < 256) (sym (slice_index-restored raw i lt)) (either (nat_lt (i % 512) 510) _ _ (each _) (each _))
  | inr past ↦ subst (λ (x : ℕ). x < 256) (sym (get_or_past (restored raw) i 0 (omega (arith, length-restored raw)))) (omega arith)
]
  where
    either : (b : Bool) (x y : ℕ) → x < 256 → y < 256 → cond b x y < 256
    either true x y low high = low
    either false x y low high = high

-- a page isn't whole at an LSN of more than 64 bits
pub too_late : (pages lsn : ℕ) (raw : List ℕ) → AreBytes raw → 2 ^ 64 ≤ lsn → is_whole_page pages raw lsn ≡ false
too_late pages lsn raw each late = elim (cases_Bool (is_whole_page pages raw lsn)) [
  | inl whole ↦
      let here = (whole_parts pages lsn raw whole).1 in
      let small : first_lsn (restored raw) < 2 ^ 64 = field-lt 0x40 8 (restored raw) (AreBytes-restored raw each) in
      absurd (omega arith)
  | inr other ↦ other
]

pub not_whole_late : (whole : Bool) (reading : Reading) (entries : List Entry) → whole ≡ false → AppendsPage whole reading entries entries (Err NotWhole)
not_whole_late true reading entries e = absurd cc
not_whole_late false reading entries e = (refl, refl)
