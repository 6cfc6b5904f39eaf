-- The clusters of a stream that grows.
use Rattle.std.proofs.Common.{◌≡◌, ◌≢◌, ℕ, ◌+◌, ◌-◌, ◌*◌, ◌/◌, ◌%◌, ◌<◌, Bool, true, false, cond, leb, ltb, List, [], ◌∷◌, ◌++◌, find, Option, Some, None, refl, sym, ap, ◌∙◌, inl, inr, arith}
use Rattle.std.specs.Prelude.{option_map}
use Rattle.std.proofs.lemmas.Bool.{cases_Bool, and_parts, and_from, lt-ltb, ltb-true}
use Rattle.volume_model.specs.disk_model.declared.block.Block.{Block}
use Rattle.volume_model.specs.disk_model.declared.block.BlockKind.{BlockKind}
use Rattle.volume_model.specs.disk_model.declared.block.BlockKind.TheVariants.{Plain}
use Rattle.volume_model.specs.disk_model.Laws.{IsElsewhere}
use Rattle.volume_model.specs.disk_model.Sectors.{HasSector, sectors}
use Rattle.volume_model.specs.disk_model.Writes.{Write}
use Rattle.volume_model.specs.record_model.declared.runs.Run.{Run}
use Rattle.volume_model.specs.state_model.declared.stream.Extents.{Extents}
use Rattle.volume_model.specs.state_model.Streams.{holds, lcn_in, block_at}
use Rattle.volume_model.specs.Volumes.{Volume}
use Rattle.volume_model.specs.Owners.{volume_runs, uses}
use Rattle.stream_laws.specs.Frames.{IsRead}
use Rattle.stream_laws.specs.Growth.{TakesFree, longer, LiesInRun}
use Rattle.stream_laws.specs.Leaving.{IsInAnother}
use Rattle.stream_laws.specs.Places.{AreOnce, AreApart}
use Rattle.stream_laws.specs.Sharing.{StreamKey, stream_at, runs_in}
use Rattle.stream_laws.proofs.Changing.{apart_elsewhere}
use Rattle.stream_laws.proofs.Placing.{lists_apart, apart_from_unused}
use Rattle.stream_laws.proofs.Sharing.{stream_of_volume, stream_once, streams_apart}

pub taken_once : (v : Volume) (s : StreamKey) (runs : List Run) → AreOnce (volume_runs v.files) → TakesFree v s runs → AreOnce runs
taken_once v s runs once takes x = elim (takes x) [
  | inl own ↦ omega (arith, own, stream_once v s once x)
  | inr free ↦ free.1
]

pub taken_apart : (v : Volume) (s t : StreamKey) (runs : List Run) → AreOnce (volume_runs v.files) → TakesFree v s runs → s ≢ t → AreApart runs (runs_in (stream_at v t))
taken_apart v s t runs once takes differ x = elim (takes x) [
  | inl own ↦ omega (arith, own, streams_apart v s t once differ x)
  | inr free ↦ (let none = free.0 in let one = free.1 in omega (arith, none, one, stream_of_volume v t x))
]

pub another_elsewhere : (v : Volume) (s : StreamKey) (f : Extents) (w : Write) (b : Block) → 0 < v.per → AreOnce (volume_runs v.files) → TakesFree v s f.runs → IsInAnother v s w → IsRead v.per f b → IsElsewhere b w
another_elsewhere v s f w b some once takes other read =
    apart_elsewhere b w (lists_apart v.per f.runs (runs_in (stream_at v other.stream)) Plain other.kind read.sector other.number b w.block some (taken_apart v s other.stream f.runs once takes other.differs) read.lies other.lies)

pub behind_elsewhere : (v : Volume) (f : Extents) (w : Write) (b : Block) → 0 < v.per → ((d : ℕ) → HasSector w.block d → uses f.runs (d / v.per) ≡ 0) → IsRead v.per f b → IsElsewhere b w
behind_elsewhere v f w b some unused read = apart_elsewhere b w (apart_from_unused v.per f.runs Plain read.sector b w.block some read.lies unused)

-- ---- runs behind runs

holds_longer : (first last : ℕ) (r : Run) (more : ℕ) → holds first last r ≡ true → holds first last (longer r more) ≡ true
holds_longer first last r more is =
    let parts = and_parts (leb r.vcn first) (ltb last (r.vcn + r.len)) is in
    and_from _ _ parts.0 (lt-ltb last (r.vcn + (r.len + more)) (omega (arith, ltb-true last (r.vcn + r.len) parts.1)))

-- the first run that holds the place leads to the same cluster
found_longer : (first last : ℕ) (front behind : List Run) (r : Run) (more : ℕ) (found : Run) → find (holds first last) (front ++ r ∷ []) ≡ Some found → lcn_in first (find (holds first last) (front ++ longer r more ∷ behind)) ≡ lcn_in first (find (holds first last) (front ++ r ∷ []))
found_longer first last [] behind r more found is = elim (cases_Bool (holds first last r)) [
  | inl here ↦
      ap (λ (t : Bool). lcn_in first (cond t (Some (longer r more)) (find (holds first last) behind))) (holds_longer first last r more here)
      ∙ sym (ap (λ (t : Bool). lcn_in first (cond t (Some r) None)) here)
  | inr fails ↦ absurd (clash (sym (ap (λ (t : Bool). cond t (Some r) None) fails) ∙ is))
]
  where
    clash : None ≡ Some found → ⊥
    clash e = cc
found_longer first last (x ∷ front) behind r more found is = by (holds first last x) is (found_longer first last front behind r more found)
  where
    by : (t : Bool) → cond t (Some x) (find (holds first last) (front ++ r ∷ [])) ≡ Some found → (find (holds first last) (front ++ r ∷ []) ≡ Some found → lcn_in first (find (holds first last) (front ++ longer r more ∷ behind)) ≡ lcn_in first (find (holds first last) (front ++ r ∷ [])))
        → lcn_in first (cond t (Some x) (find (holds first last) (front ++ longer r more ∷ behind))) ≡ lcn_in first (cond t (Some x) (find (holds first last) (front ++ r ∷ [])))
    by true here rest = refl
    by false later rest = rest later

pub block_longer : (per : ℕ) (front behind : List Run) (r : Run) (more : ℕ) (kind : BlockKind) (n : ℕ) → LiesInRun per (front ++ r ∷ []) kind n → block_at per (front ++ longer r more ∷ behind) kind n ≡ block_at per (front ++ r ∷ []) kind n
unfolding block_at
block_longer per front behind r more kind n lies =
    let first = sectors kind * n in
    ap (λ (o : Option ℕ). option_map (λ lcn. record { first = lcn * per + first % per; kind = kind }) o) (found_longer (first / per) ((first + sectors kind - 1) / per) front behind r more lies.0 lies.1)

found_first : (p : Run → Bool) (runs behind : List Run) (found : Run) → find p runs ≡ Some found → find p (runs ++ behind) ≡ find p runs
found_first p [] behind found is = absurd cc
found_first p (x ∷ runs) behind found is = by (p x) is (found_first p runs behind found)
  where
    by : (t : Bool) → cond t (Some x) (find p runs) ≡ Some found → (find p runs ≡ Some found → find p (runs ++ behind) ≡ find p runs) → cond t (Some x) (find p (runs ++ behind)) ≡ cond t (Some x) (find p runs)
    by true here rest = refl
    by false later rest = rest later

pub block_before : (per : ℕ) (runs behind : List Run) (kind : BlockKind) (n : ℕ) → LiesInRun per runs kind n → block_at per (runs ++ behind) kind n ≡ block_at per runs kind n
unfolding block_at
block_before per runs behind kind n lies =
    let first = sectors kind * n in
    ap (λ (o : Option Run). option_map (λ lcn. record { first = lcn * per + first % per; kind = kind }) (lcn_in (first / per) o)) (found_first (holds (first / per) ((first + sectors kind - 1) / per)) runs behind lies.0 lies.1)
