-- The blocks that a volume owns, each at one place of one stream.
use Rattle.std.proofs.Common.{◌≡◌, ◌≢◌, ◌⊎◌, ℕ, ◌*◌, ◌<◌, true, false, not, eqb, nat_eq, List, [], ◌∷◌, Option, Some, refl, sym, ap, subst, ◌∙◌, inl, inr}
use Rattle.std.specs.Cmp.Lexicographic.{pointwise}
use Rattle.std.proofs.lemmas.Bool.{cases_Bool, cases_eq, both_ways, and_from, and_parts, eq-eqb, false_from_ne_true}
use Rattle.volume_model.specs.disk_model.declared.block.Block.{Block}
use Rattle.volume_model.specs.disk_model.declared.block.BlockKind.{BlockKind}
use Rattle.volume_model.specs.disk_model.declared.block.BlockKind.TheVariants.{Plain, FileRec, Index}
use Rattle.volume_model.specs.disk_model.Sectors.{sectors, same_kind, overlap, are_rivals}
use Rattle.volume_model.specs.state_model.Streams.{block_at}
use Rattle.volume_model.specs.Volumes.{Volume}
use Rattle.volume_model.specs.Owners.{volume_runs}
use Rattle.stream_laws.specs.Owners.{stream_kind, initialised_in, Owns, IsLive}
use Rattle.stream_laws.specs.Places.{AreOnce}
use Rattle.stream_laws.specs.Sharing.{StreamKey, stream_at, runs_in}
use Rattle.stream_laws.proofs.Changing.{itself}
use Rattle.stream_laws.proofs.Placing.{one_place}
use Rattle.stream_laws.proofs.Sharing.{same_from_test, same_key, stream_once, stream_blocks_apart}

-- ---- streams are the same or not

name_itself : (name : List ℕ) → pointwise nat_eq name name ≡ true
name_itself [] = refl
name_itself (x ∷ name) = and_from (eqb x x) (pointwise nat_eq name name) (eq-eqb x x refl) (name_itself name)

same_or_not : (s t : StreamKey) → (s ≡ t) ⊎ (s ≢ t)
same_or_not s t = elim (cases_eq s.file t.file) [
  | inr files ↦ inr (λ same. files (ap (λ (k : StreamKey). k.file) same))
  | inl file ↦ elim (cases_eq s.kind t.kind) [
    | inr kinds ↦ inr (λ same. kinds (ap (λ (k : StreamKey). k.kind) same))
    | inl kind ↦ elim (cases_Bool (pointwise nat_eq s.name t.name)) [
      | inl is ↦ inl (same_key s t file kind (same_from_test s.name t.name is))
      | inr other ↦ inr (λ same. both_ways (pointwise nat_eq s.name t.name) other (sym (ap (λ (k : StreamKey). pointwise nat_eq s.name k.name) same) ∙ name_itself s.name))
    ]
  ]
]

-- ---- owned blocks that share a sector

pub record AreOne (v : Volume) (a b : Block) (first : Owns v a) (second : Owns v b) : Type 0 where
  pub stream : first.stream ≡ second.stream
  pub number : first.number ≡ second.number
  pub block : a ≡ b

some_same : (o : Option Block) (a b : Block) → o ≡ Some a → o ≡ Some b → a ≡ b
some_same o a b first second = cc

pub are_one : (v : Volume) (a b : Block) → 0 < v.per → AreOnce (volume_runs v.files) → (first : Owns v a) (second : Owns v b) → overlap a b ≡ true → AreOne v a b first second
are_one v a b some once first second both = elim (same_or_not first.stream second.stream) [
  | inl same ↦
      (let there : block_at v.per (runs_in (stream_at v first.stream)) (stream_kind first.stream) second.number ≡ Some b = ap (λ (s : StreamKey). block_at v.per (runs_in (stream_at v s)) (stream_kind s) second.number) same ∙ second.lies in
      let number : first.number ≡ second.number = one_place v.per (runs_in (stream_at v first.stream)) (stream_kind first.stream) first.number second.number a b some (stream_once v first.stream once) first.lies there both in
      let here : block_at v.per (runs_in (stream_at v first.stream)) (stream_kind first.stream) second.number ≡ Some a = sym (ap (block_at v.per (runs_in (stream_at v first.stream)) (stream_kind first.stream)) number) ∙ first.lies in
      record { stream = same; number = number; block = some_same (block_at v.per (runs_in (stream_at v first.stream)) (stream_kind first.stream) second.number) a b here there })
  | inr differ ↦
      absurd (both_ways (overlap a b) (stream_blocks_apart v first.stream second.stream (stream_kind first.stream) (stream_kind second.stream) first.number second.number a b some once differ first.lies second.lies) both)
]

pub one_block : (v : Volume) (a b : Block) → 0 < v.per → AreOnce (volume_runs v.files) → Owns v a → Owns v b → overlap a b ≡ true → a ≡ b
one_block v a b some once first second both = (are_one v a b some once first second both).block

kind_itself : (k : BlockKind) → same_kind k k ≡ true
kind_itself Plain = refl
kind_itself FileRec = refl
kind_itself Index = refl

pub no_rivals : (v : Volume) (a b : Block) → 0 < v.per → AreOnce (volume_runs v.files) → Owns v a → Owns v b → are_rivals a b ≡ false
no_rivals v a b some once first second = false_from_ne_true (are_rivals a b) (λ rivals.
    let parts = and_parts (not (same_kind a.kind b.kind)) (overlap a b) rivals in
    let same = one_block v a b some once first second parts.1 in
    let kinds : same_kind a.kind b.kind ≡ true = sym (ap (λ (x : Block). same_kind a.kind x.kind) same) ∙ kind_itself a.kind in
    both_ways (not (same_kind a.kind b.kind)) (ap not kinds) parts.0)

pub one_owner : (v : Volume) (b : Block) → 0 < v.per → AreOnce (volume_runs v.files) → (first second : Owns v b) → (first.stream ≡ second.stream) × (first.number ≡ second.number)
one_owner v b some once first second = let one = are_one v b b some once first second (itself b) in (one.stream, one.number)

pub live_anyhow : (v : Volume) (b : Block) → 0 < v.per → AreOnce (volume_runs v.files) → IsLive v b → (owned : Owns v b) → 512 * (sectors (stream_kind owned.stream) * owned.number) < initialised_in (stream_at v owned.stream)
live_anyhow v b some once live owned =
    let one = one_owner v b some once live.owned owned in
    subst (λ (s : StreamKey). 512 * (sectors (stream_kind s) * owned.number) < initialised_in (stream_at v s)) one.0
    (subst (λ (n : ℕ). 512 * (sectors (stream_kind live.owned.stream) * n) < initialised_in (stream_at v live.owned.stream)) one.1 live.begins)
