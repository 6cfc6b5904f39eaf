-- What a file with clusters that came and went makes of the draft.
use Rattle.std.proofs.Common.{◌≡◌, ℕ, ◌/◌, ◌<◌, Bool, true, false, cond, List, length, Option, Some, None, Result, Ok, refl, sym, ap, ap₂, ◌∙◌, arith}
use Rattle.std.proofs.lemmas.Bool.{and_right}
use Rattle.host_base.specs.Answers.{◌>>=◌}
use Rattle.draft_records.specs.disk_model.declared.block.Block.{Block}
use Rattle.draft_records.specs.disk_model.declared.block.BlockKind.TheVariants.{Plain, FileRec}
use Rattle.draft_records.specs.disk_model.Bodies.{BodyOf}
use Rattle.draft_records.specs.disk_model.Content.{Content, HasSizes}
use Rattle.draft_records.specs.disk_model.Sectors.{same_kind, same_block}
use Rattle.draft_records.specs.record_model.Records.{Record, record_spelling}
use Rattle.draft_records.specs.record_writer.NormalLaws.{FitsByRoom}
use Rattle.draft_records.specs.state_model.declared.stream.Extents.{Extents}
use Rattle.draft_records.proofs.stream_map.Reading.{kind-block_at}
use Rattle.draft_records.specs.volume_model.Owners.{uses}
use Rattle.draft_records.specs.plan_bodies.Bodies.{NewBody, body_in}
use Rattle.draft_records.proofs.plan_bodies.Putting.{block_itself}
use Rattle.draft_records.specs.plan_draft.declared.touched.Touched.{Touched}
use Rattle.draft_records.specs.plan_draft.Touching.{bodies_of, touch}
use Rattle.draft_records.specs.plan_draft.Drafts.{drafted}
use Rattle.draft_records.proofs.plan_draft.Puts.{bodies_touch, rises_touch, whole_touch}
use Rattle.draft_records.proofs.plan_draft.Same.{one_in_order}
use Rattle.draft_runs.specs.draft_bits.Effects.{stream_bit, IsKept, IsNoSector}
use Rattle.draft_runs.proofs.draft_bits.BitEffects.{same_bit}
use Rattle.draft_records.specs.Records.{record_block, is_past, has_mirror, fits_room, written_record, body_of_record, touch_if}
use Rattle.draft_records.proofs.Steps.{kind_of_size}
use Rattle.draft_records.proofs.Written.{body_long}
use Rattle.draft_records.specs.resized_streams.declared.resized.Resized.{Resized}
use Rattle.draft_resized.specs.Resized.{resized_bytes, with_file}
use Rattle.draft_resized.specs.Effects.{PutsWhole, ResizedIsPut}
use Rattle.draft_runs.proofs.RunEffects.{runs_put}

-- ---- the record's bytes

spelled_of : (r : Record) → fits_room r ≡ Ok tt → body_of_record r ≡ Ok (record_spelling (written_record r))
spelled_of r room = ap (λ (x : Result (Unit {0}) ℕ). x >>= λ _. Ok (record_spelling (written_record r))) room

pub long_of : (r : Record) → FitsByRoom r → fits_room r ≡ Ok tt → length (record_spelling (written_record r)) ≡ 1024
long_of r fits room = body_long r (record_spelling (written_record r)) fits (spelled_of r room)

-- ---- blocks of two kinds

plain_apart : (a b : Block) → a.kind ≡ FileRec → b.kind ≡ Plain → same_block b a ≡ false
plain_apart a b file plain = and_right _ (same_kind b.kind a.kind) (ap₂ same_kind plain file)

file_apart : (a b : Block) → a.kind ≡ Plain → b.kind ≡ FileRec → same_block b a ≡ false
file_apart a b plain file = and_right _ (same_kind b.kind a.kind) (ap₂ same_kind file plain)

no_sector : (per : ℕ) (e bitmap : Extents) (n : ℕ) (b : Block) → record_block per e n ≡ Some b → IsNoSector per bitmap.runs b
no_sector per e bitmap n b lies = λ s a there. file_apart a b (kind-block_at per bitmap.runs Plain s a (sym there)) (kind-block_at per e.runs FileRec n b (sym lies))

-- ---- a record put into a block, if there is one

body_after : (touched : List Touched) (a b : Block) (fresh : Bool) (bytes : List ℕ) (old : BodyOf) → body_in (bodies_of (touch a fresh bytes old touched)) b ≡ cond (same_block b a) (Some bytes) (body_in (bodies_of touched) b)
body_after touched a b fresh bytes old = ap (λ (l : List NewBody). body_in l b) (bodies_touch touched a fresh bytes old) ∙ one_in_order (record { block = a; bytes = bytes }) (bodies_of touched) b

kept_if : (c : Content) (o : Option Block) (fresh : Bool) (bytes : List ℕ) (touched : List Touched) → HasSizes c → length bytes ≡ 1024 → ((b : Block) → o ≡ Some b → b.kind ≡ FileRec) → IsKept touched → IsKept (touch_if c o fresh bytes touched)
kept_if c None fresh bytes touched sized long kind is = is
kept_if c (Some b) fresh bytes touched sized long kind is = record {
  rises = rises_touch 0 touched b fresh bytes (c b) is.rises (omega arith);
  whole = whole_touch touched b fresh bytes (c b) is.whole (kind_of_size (length bytes) b.kind (kind b refl) long) (sized b);
}

away_if : (c : Content) (o : Option Block) (fresh : Bool) (bytes : List ℕ) (touched : List Touched) (b : Block) → ((a : Block) → o ≡ Some a → same_block b a ≡ false) → body_in (bodies_of (touch_if c o fresh bytes touched)) b ≡ body_in (bodies_of touched) b
away_if c None fresh bytes touched b apart = refl
away_if c (Some a) fresh bytes touched b apart = body_after touched a b fresh bytes (c a) ∙ ap (λ (t : Bool). cond t (Some bytes) (body_in (bodies_of touched) b)) (apart a refl)

here_if : (c : Content) (o : Option Block) (fresh : Bool) (bytes : List ℕ) (touched : List Touched) (b : Block) → o ≡ Some b → body_in (bodies_of (touch_if c o fresh bytes touched)) b ≡ Some bytes
here_if c o fresh bytes touched b is =
    ap (λ (p : Option Block). body_in (bodies_of (touch_if c p fresh bytes touched)) b) is
    ∙ body_after touched b b fresh bytes (c b)
    ∙ ap (λ (t : Bool). cond t (Some bytes) (body_in (bodies_of touched) b)) (block_itself b)

either : (t : Bool) (o : Option (List ℕ)) (bytes : List ℕ) → o ≡ Some bytes → cond t (Some bytes) o ≡ Some bytes
either true o bytes is = refl
either false o bytes is = is

stays_if : (c : Content) (o : Option Block) (fresh : Bool) (bytes : List ℕ) (touched : List Touched) (b : Block) → body_in (bodies_of touched) b ≡ Some bytes → body_in (bodies_of (touch_if c o fresh bytes touched)) b ≡ Some bytes
stays_if c None fresh bytes touched b is = is
stays_if c (Some a) fresh bytes touched b is = body_after touched a b fresh bytes (c a) ∙ either (same_block b a) (body_in (bodies_of touched) b) bytes is

-- ---- the record in the table and in the mirror

module _ (c : Content) (per : ℕ) (table mirror : Extents) (n : ℕ) (bytes : List ℕ) (old : List Touched) where
  abbrev own : List Touched
  own = touch_if c (record_block per table n) (is_past table n) bytes old

  abbrev both : Bool → List Touched
  both t = cond t (touch_if c (record_block per mirror n) (is_past mirror n) bytes own) own

  kind_in : (e : Extents) (b : Block) → record_block per e n ≡ Some b → b.kind ≡ FileRec
  kind_in e b lies = kind-block_at per e.runs FileRec n b (sym lies)

  pub kept_both : (t : Bool) → HasSizes c → length bytes ≡ 1024 → IsKept old → IsKept (both t)
  kept_both true sized long is = kept_if c (record_block per mirror n) (is_past mirror n) bytes own sized long (kind_in mirror) (kept_if c (record_block per table n) (is_past table n) bytes old sized long (kind_in table) is)
  kept_both false sized long is = kept_if c (record_block per table n) (is_past table n) bytes old sized long (kind_in table) is

  pub away_both : (t : Bool) (b : Block) → b.kind ≡ Plain → body_in (bodies_of (both t)) b ≡ body_in (bodies_of old) b
  away_both true b plain =
      away_if c (record_block per mirror n) (is_past mirror n) bytes own b (λ a there. plain_apart a b (kind_in mirror a there) plain)
      ∙ away_if c (record_block per table n) (is_past table n) bytes old b (λ a there. plain_apart a b (kind_in table a there) plain)
  away_both false b plain = away_if c (record_block per table n) (is_past table n) bytes old b (λ a there. plain_apart a b (kind_in table a there) plain)

  own_both : (t : Bool) (b : Block) → record_block per table n ≡ Some b → body_in (bodies_of (both t)) b ≡ Some bytes
  own_both true b lies = stays_if c (record_block per mirror n) (is_past mirror n) bytes own b (here_if c (record_block per table n) (is_past table n) bytes old b lies)
  own_both false b lies = here_if c (record_block per table n) (is_past table n) bytes old b lies

  mirror_both : (t : Bool) (b : Block) → t ≡ true → record_block per mirror n ≡ Some b → body_in (bodies_of (both t)) b ≡ Some bytes
  mirror_both true b is lies = here_if c (record_block per mirror n) (is_past mirror n) bytes own b lies
  mirror_both false b is lies = absurd cc

-- ---- the law

module _ (c : Content) (per : ℕ) (bitmap table mirror : Extents) (n : ℕ) (z : Resized) (old new : List Touched) (is : PutsWhole c per bitmap table mirror n z old new) where
  abbrev first : List Touched
  first = with_file c per table mirror n z old

  abbrev mid : List Touched
  mid = is.put.0

  abbrev bit_of : List Touched → ℕ → Bool
  bit_of touched i = stream_bit (drafted touched c) per bitmap i

  first_kept : IsKept first
  first_kept = kept_both c per table mirror n (resized_bytes z) old (has_mirror mirror n) is.sized (long_of z.file is.fits is.room) is.kept

  mid_kept : IsKept mid
  mid_kept = runs_put.kept c per bitmap true z.taken.items first mid is.sized first_kept is.put.1.0

  new_kept : IsKept new
  new_kept = runs_put.kept c per bitmap false z.freed.items mid new is.sized mid_kept is.put.1.1

  stays : (b : Block) → IsNoSector per bitmap.runs b → body_in (bodies_of new) b ≡ body_in (bodies_of first) b
  stays b apart = runs_put.elsewhere c per bitmap false z.freed.items mid new b is.put.1.1 apart ∙ runs_put.elsewhere c per bitmap true z.taken.items first mid b is.put.1.0 apart

  own_is : (b : Block) → record_block per table n ≡ Some b → body_in (bodies_of new) b ≡ Some (resized_bytes z)
  own_is b lies = stays b (no_sector per table bitmap n b lies) ∙ own_both c per table mirror n (resized_bytes z) old (has_mirror mirror n) b lies

  mirror_is : (b : Block) → has_mirror mirror n ≡ true → record_block per mirror n ≡ Some b → body_in (bodies_of new) b ≡ Some (resized_bytes z)
  mirror_is b has lies = stays b (no_sector per mirror bitmap n b lies) ∙ mirror_both c per table mirror n (resized_bytes z) old (has_mirror mirror n) b has lies

  untouched : (i : ℕ) → i / 8 < bitmap.initialised → bit_of first i ≡ bit_of old i
  untouched i below = same_bit c per bitmap i old first is.sized is.kept first_kept below (λ b lies. away_both c per table mirror n (resized_bytes z) old (has_mirror mirror n) b (kind-block_at per bitmap.runs Plain (i / 8 / 512) b (sym lies)))

  not_freed : (i : ℕ) → i / 8 < bitmap.initialised → uses z.freed.items i ≡ 0 → bit_of new i ≡ bit_of mid i
  not_freed i below none = runs_put.others c per bitmap i false z.freed.items mid new is.sized mid_kept is.own is.put.1.1 below none

  not_taken : (i : ℕ) → i / 8 < bitmap.initialised → uses z.taken.items i ≡ 0 → bit_of mid i ≡ bit_of first i
  not_taken i below none = runs_put.others c per bitmap i true z.taken.items first mid is.sized first_kept is.own is.put.1.0 below none

pub resized_put : ResizedIsPut
resized_put = record {
  own = λ c per bitmap table mirror n z old new b is lies. own_is c per bitmap table mirror n z old new is b lies;
  mirrored = λ c per bitmap table mirror n z old new b is has lies. mirror_is c per bitmap table mirror n z old new is b has lies;
  taken = λ c per bitmap table mirror n i z old new b is below lies some none.
      not_freed c per bitmap table mirror n z old new is i below none
      ∙ runs_put.inside c per bitmap i true z.taken.items (with_file c per table mirror n z old) is.put.0 b is.sized (first_kept c per bitmap table mirror n z old new is) is.own is.put.1.0 below lies some;
  freed = λ c per bitmap table mirror n i z old new b is below lies some. runs_put.inside c per bitmap i false z.freed.items is.put.0 new b is.sized (mid_kept c per bitmap table mirror n z old new is) is.own is.put.1.1 below lies some;
  others = λ c per bitmap table mirror n i z old new is below none_taken none_freed.
      not_freed c per bitmap table mirror n z old new is i below none_freed
      ∙ not_taken c per bitmap table mirror n z old new is i below none_taken
      ∙ untouched c per bitmap table mirror n z old new is i below;
  whole = λ c per bitmap table mirror n z old new is. new_kept c per bitmap table mirror n z old new is;
}
