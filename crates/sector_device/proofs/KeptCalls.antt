-- What one more kept call makes of the disk that the kept calls say.
use Rattle.std.proofs.Common.{◌≡◌, ◌⊎◌, subst, ℕ, ◌+◌, ◌-◌, ◌*◌, ◌/◌, ◌%◌, ◌≤◌, ◌<◌, Bool, true, false, List, [], ◌∷◌, ◌++◌, length, take, drop, reverse, Option, Some, None, Result, Ok, Err, refl, sym, ap, ap₂, ◌∙◌, inl, inr, arith}
use Rattle.std.specs.Prelude.{IsErr, IsTrue, OnOk, OnErr}
use Rattle.std.specs.Option.{option_map}
use Rattle.std.proofs.lemmas.Bool.{cases_lt, lt-ltb, le-ltb, le-leb, lt-leb}
use Rattle.std.proofs.lemmas.List.{reverse-append, length-take, get_or-take, ext_get_or}
use mathlib.Core.Path.{fun_ext}
use Rattle.disk_model.specs.host_base.Causes.{last_moment}
use Rattle.disk_model.specs.Bytes.{part, written}
use Rattle.disk_model.specs.Sectors.{sector_of, zero_sector}
use Rattle.disk_model.proofs.Frames.{written_within, written_before, written_behind, length-written}
use Rattle.sector_device.specs.Sectors.{sectors_of, IsMixOf}
use Rattle.sector_device.specs.WholeSectors.{length-sectors_of}
use Rattle.sector_device.proofs.SectorParts.{written_in_sectors, sector_of_part, count_of_part}
use Rattle.sector_device.specs.Disks.{Disk, Past, seen, is_within, put, settled, IsBetween, IsTornDisk}
use Rattle.sector_device.specs.Moments.{Changes, with_call, count_after, past_after, IsChanged, Writes}
use Rattle.sector_device.specs.Kept.{written_by, durable_by, disk_by, past_by, AreKept}
use Rattle.sector_device.specs.KeptLaws.{seen_by}
use Rattle.sector_device.specs.declared.memory.KeptCall.{KeptCall}
use Rattle.sector_device.specs.declared.memory.KeptCall.TheVariants.{Write, Sync}
use Rattle.sector_device.specs.declared.device.Call.TheVariants as call

-- what kept calls say of a device
abbrev pub changes_by : ℕ → ℕ → List (List ℕ) → List KeptCall → Changes
changes_by w s now done = record { writes = w; syncs = s; disk = Some (disk_by now (reverse done)); past = past_by now (reverse done) }

-- ---- a sector in a range or outside

pub cases_within : (first n s : ℕ) → ((is_within first n s ≡ true) × ((first ≤ s) × (s < first + n))) ⊎ ((is_within first n s ≡ false) × ((s < first) ⊎ (first + n ≤ s)))
cases_within first n s = elim (cases_lt s first) [
  | inl before ↦ inr (rw (lt-leb first s before) refl, inl before)
  | inr from ↦ elim (cases_lt s (first + n)) [
    | inl within ↦ inl (rw (le-leb first s from, lt-ltb s (first + n) within) refl, (from, within))
    | inr behind ↦ inr (rw (le-leb first s from, le-ltb s (first + n) behind) refl, inr behind)
  ]
]

-- a sector outside what was written
pub outside : (first s : ℕ) (new g : List (List ℕ)) → (s < first) ⊎ (first + length new ≤ s) → sector_of (written first new g) s ≡ sector_of g s
outside first s new g (inl lt) = written_before first new g s zero_sector lt
outside first s new g (inr le) = written_behind first new g s zero_sector le

-- and one inside
pub inside : (first s : ℕ) (new g : List (List ℕ)) → first ≤ s → s < first + length new → first + length new ≤ length g → sector_of (written first new g) s ≡ sector_of new (s - first)
inside first s new g from lt le =
    let e : s ≡ first + (s - first) = omega arith in
    written_within first new g s (s - first) zero_sector e (omega arith) (omega arith)

-- ---- a sync

pub sync_kept : (w s at : ℕ) (now : List (List ℕ)) (done new : List KeptCall) → new ≡ done ++ Sync at ∷ [] → IsChanged (at + 1) settled (changes_by w s now done) (changes_by w s now new)
sync_kept w s at now done new is =
    let e : reverse new ≡ Sync at ∷ reverse done = ap (λ (l : List KeptCall). reverse l) is ∙ reverse-append done (Sync at ∷ []) in
    let values : (λ (k : ℕ). sector_of now k) ≡ seen (disk_by now (reverse done)) = fun_ext (λ k. seen_by now (reverse done) k) in
    record {
      writes = refl;
      syncs = refl;
      disk = ap (λ (l : List KeptCall). Some (disk_by now l)) e ∙ ap (λ (f : ℕ → List ℕ). Some (record { durable = f; written = λ _. [] })) values;
      past = ap (λ (l : List KeptCall). past_by now l) e;
    }

-- ---- a write, over sectors that held the old values

module _ (first at : ℕ) (old : List ℕ) (new g : List (List ℕ)) (same : length (sectors_of old) ≡ length new) (was : (j : ℕ) → j < length new → sector_of (sectors_of old) j ≡ sector_of g (first + j)) (within : first + length new ≤ length g) where
  was_at : (s : ℕ) → first ≤ s → s < first + length new → sector_of (sectors_of old) (s - first) ≡ sector_of g s
  was_at s from lt =
      let e : first + (s - first) ≡ s = omega arith in
      was (s - first) (omega arith) ∙ ap (λ (k : ℕ). sector_of g k) e

  pub undone : written first (sectors_of old) (written first new g) ≡ g
  undone =
      let len : length (written first (sectors_of old) (written first new g)) ≡ length g = length-written first (sectors_of old) (written first new g) ∙ length-written first new g in
      ext_get_or zero_sector (written first (sectors_of old) (written first new g)) g len (λ s lt.
      elim (cases_within first (length new) s) [
        | inl h ↦ inside first s (sectors_of old) (written first new g) h.1.0 (omega (arith, same, h.1.1)) (omega (arith, same, length-written first new g)) ∙ was_at s h.1.0 h.1.1
        | inr h ↦ outside first s (sectors_of old) (written first new g) (subst (λ (n : ℕ). (s < first) ⊎ (first + n ≤ s)) (sym same) h.1) ∙ outside first s new g h.1
      ])

  written_put : (calls : List KeptCall) (s : ℕ) → written_by s (sector_of (written first new g) s) (Write at first old ∷ calls) ≡ (put first new (disk_by g calls)).written s
  written_put calls s =
      rw same (elim (cases_within first (length new) s) [
        | inl h ↦ rw h.0 (ap₂ (λ (v u : List ℕ). v ∷ written_by s u calls) (inside first s new g h.1.0 h.1.1 within) (was_at s h.1.0 h.1.1))
        | inr h ↦ rw h.0 (ap (λ (v : List ℕ). written_by s v calls) (outside first s new g h.1))
      ])

  durable_put : (calls : List KeptCall) (s : ℕ) → durable_by s (sector_of (written first new g) s) (Write at first old ∷ calls) ≡ durable_by s (sector_of g s) calls
  durable_put calls s =
      rw same (elim (cases_within first (length new) s) [
        | inl h ↦ rw h.0 (ap (λ (u : List ℕ). durable_by s u calls) (was_at s h.1.0 h.1.1))
        | inr h ↦ rw h.0 (ap (λ (v : List ℕ). durable_by s v calls) (outside first s new g h.1))
      ])

  pub put_kept : (calls : List KeptCall) → disk_by (written first new g) (Write at first old ∷ calls) ≡ put first new (disk_by g calls)
  put_kept calls = ap₂ (λ (d : ℕ → List ℕ) (w : ℕ → List (List ℕ)). record { durable = d; written = w }) (fun_ext (λ s. durable_put calls s)) (fun_ext (λ s. written_put calls s))

  pub write_kept : (w s : ℕ) (done later : List KeptCall) → later ≡ done ++ Write at first old ∷ [] → IsChanged (at + 1) (put first new) (changes_by w s g done) (changes_by w s (written first new g) later)
  write_kept w s done later is =
      let e : reverse later ≡ Write at first old ∷ reverse done = ap (λ (l : List KeptCall). reverse l) is ∙ reverse-append done (Write at first old ∷ []) in
      record {
        writes = refl;
        syncs = refl;
        disk = ap (λ (l : List KeptCall). Some (disk_by (written first new g) l)) e ∙ ap (λ (d : Disk). Some d) (put_kept (reverse done));
        past = ap (λ (l : List KeptCall). past_by (written first new g) l) e ∙ ap (λ (l : List (List ℕ)). record { until = at + 1; disk = disk_by l (reverse done) } ∷ past_by l (reverse done)) undone;
      }

-- ---- a front of a write

between : (first k : ℕ) (new : List (List ℕ)) (d : Disk) → IsBetween d (put first new d) (put first (take k new) d)
between first k new d = record {
  durable = λ s. refl;
  written = λ s.
      elim (cases_within first (length (take k new)) s) [
        | inl h ↦
            let short : length (take k new) ≤ k = omega (arith, length-take k new) in
            let less : length (take k new) ≤ length new = omega (arith, length-take k new) in
            let from : first ≤ s = h.1.0 in
            let lt : s < first + length (take k new) = h.1.1 in
            let at : sector_of (take k new) (s - first) ≡ sector_of new (s - first) = get_or-take k new (s - first) zero_sector (omega arith) in
            let here : is_within first (length new) s ≡ true = rw (le-leb first s from, lt-ltb s (first + length new) (omega arith)) refl in
            inr (rw (h.0, here) (ap (λ (v : List ℕ). v ∷ d.written s) at))
        | inr h ↦ inl (rw h.0 refl)
      ];
}

torn_disk : (first k : ℕ) (new : List (List ℕ)) (old now : Option Disk) → now ≡ option_map (put first (take k new)) old → IsTornDisk first new old now
torn_disk first k new None now is = subst (λ (o : Option Disk). IsTornDisk first new None o) (sym is) tt
torn_disk first k new (Some d) now is = subst (λ (o : Option Disk). IsTornDisk first new (Some d) o) (sym is) (between first k new d)

same_disk : (first : ℕ) (new : List (List ℕ)) (old : Option Disk) → IsTornDisk first new old old
same_disk first new None = tt
same_disk first new (Some d) = record { durable = λ s. refl; written = λ s. inl refl }

pub mix : (first k : ℕ) (new g : List (List ℕ)) → first + length new ≤ length g → IsMixOf g (written first new g) (written first (take k new) g)
mix first k new g within = record {
  counted = length-written first (take k new) g;
  each = λ s.
      elim (cases_within first (length (take k new)) s) [
        | inl h ↦
            let short : length (take k new) ≤ k = omega (arith, length-take k new) in
            let less : length (take k new) ≤ length new = omega (arith, length-take k new) in
            let from : first ≤ s = h.1.0 in
            let lt : s < first + length (take k new) = h.1.1 in
            inr (inside first s (take k new) g from lt (omega arith) ∙ get_or-take k new (s - first) zero_sector (omega arith) ∙ sym (inside first s new g from (omega arith) within))
        | inr h ↦ inl (outside first s (take k new) g h.1)
      ];
}

-- ---- a call, from its parts

counted : (m n : ℕ) → m < last_moment → n + 1 ≡ count_after m n
counted m n lt = rw (lt-ltb m last_moment lt) refl

clash : false ≡ true → ⊥
clash e = cc

no_end : {A : Type 0} (m : ℕ) → m < last_moment → last_moment ≤ m → A
no_end m lt le = absurd (omega arith)

pub write_done : {A B X Y : Type 0} (m first k : ℕ) (fails : Bool) (new : List (List ℕ)) (done : Result X Y) (result : Result A B) (old begun laid now : Changes) → m < last_moment → begun ≡ with_call call.Write old → OnOk done (IsChanged (m + 1) (put first (take k new)) begun laid) → OnErr done (laid ≡ begun) → now ≡ laid
    → (fails ≡ false → take k new ≡ new) → (IsTrue fails → IsErr result) → (IsErr done → IsErr result) → Writes m first new result old now
write_done m first k fails new (Ok x) (Err e) old begun laid now lt b ok err same whole failed wrong =
    let disk : begun.disk ≡ old.disk = ap (λ (c : Changes). c.disk) b in
    let past : begun.past ≡ old.past = ap (λ (c : Changes). c.past) b in
    let is : now.disk ≡ option_map (put first (take k new)) old.disk = ap (λ (c : Changes). c.disk) same ∙ ok.disk ∙ ap (λ (o : Option Disk). option_map (put first (take k new)) o) disk in
    record {
      writes = ap (λ (c : Changes). c.writes) same ∙ ok.writes ∙ ap (λ (c : Changes). c.writes) b ∙ counted m old.writes lt;
      syncs = ap (λ (c : Changes). c.syncs) same ∙ ok.syncs ∙ ap (λ (c : Changes). c.syncs) b;
      ok = tt;
      err = torn_disk first k new old.disk now.disk is;
      past = inl (ap (λ (c : Changes). c.past) same ∙ ok.past ∙ ap₂ (λ (o : Option Disk) (p : List Past). past_after (m + 1) o p) disk past);
      ended = no_end m lt;
    }
write_done m first k fails new (Err y) (Err e) old begun laid now lt b ok err same whole failed wrong =
    let is : now ≡ begun = same ∙ err in
    let disk : now.disk ≡ old.disk = ap (λ (c : Changes). c.disk) (is ∙ b) in
    record {
      writes = ap (λ (c : Changes). c.writes) (is ∙ b) ∙ counted m old.writes lt;
      syncs = ap (λ (c : Changes). c.syncs) (is ∙ b);
      ok = tt;
      err = subst (λ (o : Option Disk). IsTornDisk first new old.disk o) (sym disk) (same_disk first new old.disk);
      past = inr (ap (λ (c : Changes). c.past) (is ∙ b), disk);
      ended = no_end m lt;
    }
write_done m first k fails new (Err y) (Ok v) old begun laid now lt b ok err same whole failed wrong = absurd (clash (wrong refl))
write_done m first k true new (Ok x) (Ok v) old begun laid now lt b ok err same whole failed wrong = absurd (clash (failed refl))
write_done m first k false new (Ok x) (Ok v) old begun laid now lt b ok err same whole failed wrong =
    let disk : begun.disk ≡ old.disk = ap (λ (c : Changes). c.disk) b in
    let past : begun.past ≡ old.past = ap (λ (c : Changes). c.past) b in
    let is : now.disk ≡ option_map (put first new) old.disk = ap (λ (c : Changes). c.disk) same ∙ ok.disk ∙ ap₂ (λ (l : List (List ℕ)) (o : Option Disk). option_map (put first l) o) (whole refl) disk in
    record {
      writes = ap (λ (c : Changes). c.writes) same ∙ ok.writes ∙ ap (λ (c : Changes). c.writes) b ∙ counted m old.writes lt;
      syncs = ap (λ (c : Changes). c.syncs) same ∙ ok.syncs ∙ ap (λ (c : Changes). c.syncs) b;
      ok = is;
      err = tt;
      past = inl (ap (λ (c : Changes). c.past) same ∙ ok.past ∙ ap₂ (λ (o : Option Disk) (p : List Past). past_after (m + 1) o p) disk past);
      ended = no_end m lt;
    }

-- the same of a front that is said by itself
pub write_done_of : {A B X Y : Type 0} (m first k : ℕ) (fails : Bool) (new front : List (List ℕ)) (done : Result X Y) (result : Result A B) (old begun laid now : Changes) → m < last_moment → front ≡ take k new → begun ≡ with_call call.Write old → OnOk done (IsChanged (m + 1) (put first front) begun laid) → OnErr done (laid ≡ begun)
    → now ≡ laid → (fails ≡ false → front ≡ new) → (IsTrue fails → IsErr result) → (IsErr done → IsErr result) → Writes m first new result old now
write_done_of m first k fails new front done result old begun laid now lt e b ok err same whole failed wrong =
    write_done m first k fails new done result old begun laid now lt b (subst (λ (l : List (List ℕ)). OnOk done (IsChanged (m + 1) (put first l) begun laid)) e ok) err same (λ no_fail. sym e ∙ whole no_fail) failed wrong

any_err : {A B P : Type 0} (result : Result A B) → P → OnErr result P
any_err (Ok v) p = tt
any_err (Err e) p = p

pub torn_of : {A B X Y : Type 0} (first k : ℕ) (new front g begun laid now : List (List ℕ)) (done : Result X Y) (result : Result A B) → front ≡ take k new → first + length new ≤ length g → begun ≡ g → OnOk done (laid ≡ written first front begun) → OnErr done (laid ≡ begun) → now ≡ laid → OnErr result (IsMixOf g (written first new g) now)
torn_of first k new front g begun laid now (Ok x) result e within b ok err same =
    any_err result (subst (λ (l : List (List ℕ)). IsMixOf g (written first new g) l) (sym (same ∙ ok ∙ ap₂ (λ (l m : List (List ℕ)). written first l m) e b)) (mix first k new g within))
torn_of first k new front g begun laid now (Err x) result e within b ok err same =
    any_err result (subst (λ (l : List (List ℕ)). IsMixOf g (written first new g) l) (sym (same ∙ err ∙ b)) (record { counted = refl; each = λ s. inl refl }))

-- ---- a write, by its bytes

pub lay_kept : (w s at first : ℕ) (bytes new after old : List ℕ) (done later : List KeptCall) → length new % 512 ≡ 0 → 512 * first + length new ≤ 512 * (length bytes / 512) → old ≡ part (512 * first) (length new) bytes → after ≡ written (512 * first) new bytes
    → later ≡ done ++ Write at first old ∷ [] → IsChanged (at + 1) (put first (sectors_of new)) (changes_by w s (sectors_of bytes) done) (changes_by w s (sectors_of after) later)
lay_kept w s at first bytes new after old done later whole within was is kept =
    let inside_bytes : 512 * first + length new ≤ length bytes = omega arith in
    let count : length (sectors_of new) ≡ length new / 512 = length-sectors_of new in
    let all : length (sectors_of bytes) ≡ length bytes / 512 = length-sectors_of bytes in
    let old_count : length (sectors_of old) ≡ length (sectors_of new) = ap (λ (l : List ℕ). length (sectors_of l)) was ∙ count_of_part first (length new) bytes inside_bytes ∙ sym count in
    let now : sectors_of after ≡ written first (sectors_of new) (sectors_of bytes) = ap (λ (l : List ℕ). sectors_of l) is ∙ sym (written_in_sectors bytes new first whole inside_bytes) in
    subst (λ (l : List (List ℕ)). IsChanged (at + 1) (put first (sectors_of new)) (changes_by w s (sectors_of bytes) done) (changes_by w s l later)) (sym now)
    (write_kept first at old (sectors_of new) (sectors_of bytes) old_count (λ j lt.
    ap (λ (l : List ℕ). sector_of (sectors_of l) j) was ∙ sector_of_part first (length new) j bytes whole inside_bytes (omega (arith, count)))
    (omega (arith, count, all)) w s done later kept)

pub lay_inside : (m at first : ℕ) (bytes new after old : List ℕ) (done later : List KeptCall) → at + 2 ≤ m → 512 * first + length new ≤ 512 * (length bytes / 512) → old ≡ part (512 * first) (length new) bytes → after ≡ written (512 * first) new bytes
    → later ≡ done ++ Write at first old ∷ [] → AreKept m (length bytes / 512) (reverse done) → AreKept m (length after / 512) (reverse later)
lay_inside m at first bytes new after old done later over within was is kept before =
    let inside_bytes : 512 * first + length new ≤ length bytes = omega arith in
    let e : reverse later ≡ Write at first old ∷ reverse done = ap (λ (l : List KeptCall). reverse l) kept ∙ reverse-append done (Write at first old ∷ []) in
    let len : length after ≡ length bytes = ap (λ (l : List ℕ). length l) is ∙ length-written (512 * first) new bytes in
    let old_count : length (sectors_of old) ≡ length new / 512 = ap (λ (l : List ℕ). length (sectors_of l)) was ∙ count_of_part first (length new) bytes inside_bytes in
    subst (λ (n : ℕ). AreKept m (n / 512) (reverse later)) (sym len) (subst (λ (l : List KeptCall). AreKept m (length bytes / 512) l) (sym e) (over, (omega (arith, old_count), before)))

-- the slice that a write keeps
pub kept_part : (first n : ℕ) (old now bytes : List ℕ) → old ≡ take (512 * first + n - 512 * first) (drop (512 * first) now) → now ≡ bytes → old ≡ part (512 * first) n bytes
kept_part first n old now bytes is same =
    let e : 512 * first + n - 512 * first ≡ n = omega arith in
    is ∙ ap (λ (k : ℕ). take k (drop (512 * first) now)) e ∙ ap (λ (l : List ℕ). part (512 * first) n l) same
