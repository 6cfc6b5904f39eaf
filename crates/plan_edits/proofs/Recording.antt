-- A record that a draft has put is an edit of a plan.
use Rattle.std.proofs.Common.{◌≡◌, ◌⊎◌, ℕ, Bool, true, false, cond, eqb, List, Option, Some, None, refl, sym, ap, ap₂, subst, ◌∙◌, inl, inr}
use Rattle.std.specs.Prelude.{is_some}
use Rattle.std.proofs.lemmas.Bool.{and_right}
use Rattle.disk_model.specs.declared.block.Block.{Block}
use Rattle.disk_model.specs.declared.block.BlockKind.TheVariants.{Plain, FileRec}
use Rattle.disk_model.specs.Bodies.{BodyOf}
use Rattle.disk_model.specs.Content.{Content, HasSizes}
use Rattle.disk_model.specs.Sectors.{same_block, same_kind}
use Rattle.plan_values.specs.record_model.declared.runs.Run.{Run}
use Rattle.plan_values.specs.record_model.Records.{Record, record_spelling}
use Rattle.plan_values.specs.state_model.declared.stream.Extents.{Extents}
use Rattle.plan_values.specs.state_model.declared.stream.Stream.{Stream}
use Rattle.plan_values.specs.state_model.declared.stream.Stream.TheVariants.{Held, Placed}
use Rattle.plan_values.specs.state_model.Streams.{block_at}
use Rattle.plan_values.specs.volume_model.Volumes.{Volume, cluster_bits}
use Rattle.plan_values.specs.stream_laws.Frames.{SameBytesInSome}
use Rattle.plan_values.specs.stream_laws.Sharing.{stream_at, runs_in}
use Rattle.plan_values.proofs.stream_laws.Loading.{same_cluster_bits}
use Rattle.plan_values.proofs.stream_map.Reading.{kind-block_at}
use Rattle.plan_values.specs.plan_bodies.Bodies.{NewBody, body_in, content_with}
use Rattle.plan_values.proofs.plan_bodies.Putting.{block_itself, either}
use Rattle.draft_resized.specs.plan_draft.declared.touched.Touched.{Touched}
use Rattle.draft_resized.specs.plan_draft.Touching.{bodies_of, touch}
use Rattle.draft_resized.specs.plan_draft.Drafts.{drafted}
use Rattle.draft_resized.proofs.plan_draft.Puts.{bodies_touch}
use Rattle.draft_resized.proofs.plan_draft.Same.{one_in_order}
use Rattle.plan_values.specs.plan_model.Edits.{IsOwnedIn}
use Rattle.plan_values.specs.plan_model.Made.{ReadsAs}
use Rattle.plan_values.proofs.plan_model.OneRecord.{own_record}
use Rattle.draft_resized.specs.draft_bits.Effects.{IsKept, IsNoSector}
use Rattle.draft_resized.proofs.draft_bits.BitEffects.{drafted_same}
use Rattle.draft_resized.specs.draft_records.Records.{record_block, is_past, has_mirror, written_record, touch_if, touch_record}
use Rattle.draft_resized.proofs.FileEffects.{long_of, away_both}
use Rattle.plan_values.specs.plan_growth.Streams.{marks_streams}
use Rattle.plan_edits.specs.Written.{IsInUse}
use Rattle.plan_edits.specs.Puts.{PutsBlocks, IsMirrored}
use Rattle.plan_edits.specs.Edits.{bitmap_key}
use Rattle.plan_edits.specs.Records.{PutsRecordOf, IsRecordEdit, RecordIsEdit}
use Rattle.plan_edits.proofs.Reading.{written_read}
use Rattle.plan_edits.proofs.Putting.{Goes, file_goes, content_goes, each_turned}
use Rattle.plan_edits.proofs.Editing.{mirror_owned, same_bytes, used_block, some_of}

-- ---- what is no sector of a stream, and no sector that is touched

-- a file record's block is none
pub no_sector : (per : ℕ) (runs others : List Run) (n : ℕ) (b : Block) → block_at per others FileRec n ≡ Some b → IsNoSector per runs b
no_sector per runs others n b lies s a there = and_right (eqb b.first a.first) (same_kind b.kind a.kind) (ap₂ same_kind (kind-block_at per others FileRec n b (sym lies)) (kind-block_at per runs Plain s a (sym there)))

-- the bits of clusters are the same where the sectors of their stream have the bodies that they had
pub bits_stay : (c : Content) (v : Volume) (old new : List Touched) → HasSizes c → IsKept old → IsKept new
    → ((b : Block) (s : ℕ) → block_at v.per (runs_in (stream_at v bitmap_key)) Plain s ≡ Some b → body_in (bodies_of new) b ≡ body_in (bodies_of old) b) → cluster_bits (drafted new c) v ≡ cluster_bits (drafted old c) v
bits_stay c v old new sized old_is new_is same = same_cluster_bits (drafted old c) (drafted new c) v (by_stream (stream_at v bitmap_key) refl)
  where
    by_stream : (o : Option Stream) → stream_at v bitmap_key ≡ o → SameBytesInSome (drafted old c) (drafted new c) v.per o
    by_stream None is = tt
    by_stream (Some (Held value)) is = tt
    by_stream (Some (Placed e)) is = λ b read. ap (λ (x : BodyOf). x.bytes) (drafted_same c old new b sized old_is new_is (same b read.sector (ap (λ (o : Option Stream). block_at v.per (runs_in o) Plain read.sector) is ∙ read.lies)))

-- ---- a record's own block

after_touch : (touched : List Touched) (a b : Block) (fresh : Bool) (bytes : List ℕ) (old : BodyOf) → body_in (bodies_of (touch a fresh bytes old touched)) b ≡ cond (same_block b a) (Some bytes) (body_in (bodies_of touched) b)
after_touch touched a b fresh bytes old = ap (λ (l : List NewBody). body_in l b) (bodies_touch touched a fresh bytes old) ∙ one_in_order (record { block = a; bytes = bytes }) (bodies_of touched) b

put_at : (c : Content) (o : Option Block) (fresh : Bool) (bytes : List ℕ) (touched : List Touched) (b : Block) → o ≡ Some b → body_in (bodies_of (touch_if c o fresh bytes touched)) b ≡ Some bytes
put_at c o fresh bytes touched b is =
    ap (λ (p : Option Block). body_in (bodies_of (touch_if c p fresh bytes touched)) b) is
    ∙ after_touch touched b b fresh bytes (c b)
    ∙ ap (λ (t : Bool). cond t (Some bytes) (body_in (bodies_of touched) b)) (block_itself b)

or_same : (t : Bool) (o : Option (List ℕ)) (bytes : List ℕ) → o ≡ Some bytes → cond t (Some bytes) o ≡ Some bytes
or_same true o bytes is = refl
or_same false o bytes is = is

still_put : (c : Content) (o : Option Block) (fresh : Bool) (bytes : List ℕ) (touched : List Touched) (b : Block) → body_in (bodies_of touched) b ≡ Some bytes → body_in (bodies_of (touch_if c o fresh bytes touched)) b ≡ Some bytes
still_put c None fresh bytes touched b is = is
still_put c (Some a) fresh bytes touched b is = after_touch touched a b fresh bytes (c a) ∙ or_same (same_block b a) (body_in (bodies_of touched) b) bytes is

own_put : (c : Content) (per : ℕ) (table mirror : Extents) (n : ℕ) (bytes : List ℕ) (old : List Touched) (b : Block) → record_block per table n ≡ Some b → body_in (bodies_of (touch_record c per table mirror n bytes old)) b ≡ Some bytes
own_put c per table mirror n bytes old b lies = by_mirror (has_mirror mirror n)
  where
    own : List Touched
    own = touch_if c (record_block per table n) (is_past table n) bytes old

    by_mirror : (t : Bool) → body_in (bodies_of (cond t (touch_if c (record_block per mirror n) (is_past mirror n) bytes own) own)) b ≡ Some bytes
    by_mirror true = still_put c (record_block per mirror n) (is_past mirror n) bytes own b (put_at c (record_block per table n) (is_past table n) bytes old b lies)
    by_mirror false = put_at c (record_block per table n) (is_past table n) bytes old b lies

-- ---- the edit

module _ (c : Content) (v : Volume) (mirror : Extents) (n : ℕ) (p : Record) (old new : List Touched) (is : PutsRecordOf c v mirror n p old new) where
  abbrev d : Content
  d = drafted old c

  abbrev bytes : List ℕ
  bytes = record_spelling (written_record p)

  abbrev here : Block → Type 0
  here b = IsMirrored v.per v.table mirror n b

  goes : Goes here here old new
  goes = subst (Goes here here old) (sym is.put) (file_goes c v.per v.table mirror n bytes old is.sized is.kept (long_of p is.fits is.room))

  pub new_kept : IsKept new
  new_kept = goes.kept

  puts : PutsBlocks here here old new
  puts = goes.blocks

  -- sectors stay
  pub sectors_stay : (b : Block) → b.kind ≡ Plain → body_in (bodies_of new) b ≡ body_in (bodies_of old) b
  sectors_stay b plain = ap (λ (t : List Touched). body_in (bodies_of t) b) is.put ∙ away_both c v.per v.table mirror n bytes old (has_mirror mirror n) b plain

  put_here : (b : Block) → record_block v.per v.table n ≡ Some b → body_in puts.bodies b ≡ Some bytes
  put_here b lies =
      let there = puts.put b (inl lies) in
      same_bytes (body_in puts.bodies b) (body_in (bodies_of old) b) bytes there.0
      (sym (puts.same b ∙ either (bodies_of old) puts.bodies b puts.whole.own) ∙ ap (λ (t : List Touched). body_in (bodies_of t) b) is.put ∙ own_put c v.per v.table mirror n bytes old b lies) there.1

  anew : IsInUse p → is_some (record_block v.per v.table n) ≡ true → ReadsAs v puts.bodies n (written_record p)
  anew used some =
      let at = some_of (record_block v.per v.table n) some in
      record { block = at.0; place = at.1; bytes = bytes; put = put_here at.0 at.1; reads = written_read.reads p is.fits is.room used }

  at_block : (b : Block) → here b → IsOwnedIn marks_streams v b ⊎ (record_block v.per v.table n ≡ Some b)
  at_block b (inl own) = inr own
  at_block b (inr other) = inl (mirror_owned v mirror n b is.mirror_is other.1)

  content : content_with d puts.bodies ≡ drafted new c
  content = content_goes c puts.bodies old new is.sized is.kept new_kept puts.whole puts.same

  marks : cluster_bits (content_with d puts.bodies) v ≡ cluster_bits d v
  marks =
      ap (λ (y : Content). cluster_bits y v) content
      ∙ bits_stay c v old new is.sized is.kept new_kept (λ b s there. sectors_stay b (kind-block_at v.per (runs_in (stream_at v bitmap_key)) Plain s b (sym there)))

  edit_of : IsInUse p → is_some (record_block v.per v.table n) ≡ true → IsRecordEdit c v n p old new
  edit_of used some = record {
    bodies = puts.bodies;
    edits = record { same = puts.same; content = content };
    puts = record {
      whole = puts.whole;
      anew = anew used some;
      each = each_turned here (λ b. IsOwnedIn marks_streams v b ⊎ (record_block v.per v.table n ≡ Some b)) puts.bodies at_block puts.each;
    };
    marked = marks;
  }

pub record_edit : RecordIsEdit
record_edit = record {
  edit = λ c g clusters v mirror n r p old new state file no_list used is. edit_of c v mirror n p old new is used (used_block (drafted old c) v.per v.table n r (own_record (drafted old c) g clusters v n r state file no_list).slot);
  kept = λ c v mirror n p old new is. new_kept c v mirror n p old new is;
}
