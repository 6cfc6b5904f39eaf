-- What a draft has put of a file is an edit of a plan.
use Rattle.std.proofs.Common.{◌≡◌, ◌⊎◌, ℕ, ◌+◌, ◌*◌, ◌/◌, ◌%◌, ◌<◌, ◌≤◌, Bool, true, false, not, ◌&&◌, ◌||◌, ◌≢◌, cond, leb, List, [], ◌∷◌, Option, Some, None, refl, sym, ap, ap₂, subst, ◌∙◌, inl, inr, arith}
use Rattle.std.specs.Prelude.{is_some}
use Rattle.std.specs.List.{AllByRecursion}
use Rattle.std.specs.Option.{option_or}
use Rattle.std.proofs.lemmas.Bool.{cases_lt, le-leb, lt-leb}
use Rattle.std.proofs.lemmas.List.FromFn.{get_or-map-range_with_len}
use Rattle.disk_model.specs.declared.block.Block.{Block}
use Rattle.disk_model.specs.declared.block.BlockKind.{BlockKind}
use Rattle.disk_model.specs.declared.block.BlockKind.TheVariants.{Plain, FileRec}
use Rattle.disk_model.specs.Content.{Content}
use Rattle.plan_values.specs.record_model.declared.runs.Run.{Run}
use Rattle.plan_values.specs.record_model.Constants.{index_allocation}
use Rattle.plan_values.specs.record_model.Pairs.{cluster_limit, HasSpelling}
use Rattle.plan_values.specs.record_model.Records.{Record}
use Rattle.bit_set.specs.Bits.{bit}
use Rattle.bit_set.specs.Words.{is_one, byte_bit}
use Rattle.plan_values.specs.state_model.declared.geometry.Geometry.{Geometry}
use Rattle.plan_values.specs.state_model.declared.stream.Extents.{Extents}
use Rattle.plan_values.specs.state_model.declared.stream.Stream.{Stream}
use Rattle.plan_values.specs.state_model.declared.stream.Stream.TheVariants.{Held, Placed}
use Rattle.plan_values.specs.state_model.Loads.{Slot, Free, Used, slot_at, table_slot, extents_or, total_clusters}
use Rattle.plan_values.specs.state_model.Streams.{block_at, byte_at, extent_bytes}
use Rattle.plan_values.specs.volume_model.Volumes.{Volume, bytes_or, cluster_bitmap, cluster_bits}
use Rattle.plan_values.specs.volume_model.Owners.{uses}
use Rattle.plan_values.specs.stream_laws.Owners.{stream_kind}
use Rattle.plan_values.specs.stream_laws.Sharing.{stream_at, runs_in}
use Rattle.plan_values.proofs.stream_laws.Bitmapping.{cluster_bit}
use Rattle.plan_values.specs.stream_runs.Runs.{front}
use Rattle.plan_values.proofs.stream_runs.Merging.{follow-merged, follow-grown}
use Rattle.plan_values.proofs.stream_runs.Parts.{follow-front}
use Rattle.plan_values.specs.plan_owners.States.{Stands}
use Rattle.plan_values.specs.plan_bodies.Bodies.{NewBody, body_in, content_with}
use Rattle.plan_values.proofs.plan_bodies.Putting.{either}
use Rattle.draft_resized.specs.plan_draft.declared.touched.Touched.{Touched}
use Rattle.draft_resized.specs.plan_draft.Touching.{bodies_of}
use Rattle.draft_resized.specs.plan_draft.Drafts.{drafted}
use Rattle.plan_values.specs.plan_model.Edits.{IsOwnedIn}
use Rattle.plan_values.specs.plan_model.Made.{ReadsAs}
use Rattle.plan_values.proofs.plan_model.OneRecord.{own_record}
use Rattle.draft_resized.specs.draft_bits.Effects.{stream_bit}
use Rattle.draft_resized.specs.draft_records.Records.{record_block, written_record}
use Rattle.plan_values.specs.record_streams.Placing.{placed_record}
use Rattle.plan_values.specs.resized_streams.declared.resized.Resized.{Resized}
use Rattle.plan_values.specs.resized_streams.Resizing.{lengthened, shortened, clusters_for, IsGrown, IsCut}
use Rattle.draft_resized.specs.Resized.{resized_bytes}
use Rattle.draft_resized.proofs.FileEffects.{resized_put}
use Rattle.plan_values.specs.plan_growth.Streams.{IsOwnStream, MayTake, marks_streams}
use Rattle.plan_values.specs.plan_growth.Growing.{GrowsStream}
use Rattle.plan_values.specs.plan_growth.Cutting.{CutsStream}
use Rattle.plan_edits.specs.Written.{IsInUse}
use Rattle.plan_edits.specs.Puts.{PutsBlocks, IsSectorOf, IsMirrored}
use Rattle.plan_edits.specs.Edits.{bitmap_key, mirror_key, HasBitmap, PutsOfVolume, is_marked, IsEdit, ResizedIsEdit}
use Rattle.plan_edits.proofs.Reading.{written_read}
use Rattle.plan_edits.proofs.Putting.{resized_goes, content_goes}

pub some_of : {A : Type 0} (o : Option A) → is_some o ≡ true → (x : A) × (o ≡ Some x)
some_of None is = absurd cc
some_of (Some x) is = (x, refl)

-- ---- the bit of a cluster

bit_in : (c : Content) (per : ℕ) (e : Extents) (o : Option Stream) (x : ℕ) → o ≡ Some (Placed e) → x / 8 < e.real → byte_bit (bytes_or c per o) x ≡ stream_bit c per e x
unfolding extent_bytes
bit_in c per e o x is within =
    ap (λ (s : Option Stream). byte_bit (bytes_or c per s) x) is
    ∙ ap (λ (y : ℕ). is_one y (x % 8)) (get_or-map-range_with_len (byte_at c per e) 0 e.real (x / 8) (x / 8) 0 within (omega arith))

pub bit_is : (c : Content) (v : Volume) (bitmap : Extents) (x : ℕ) → HasBitmap v bitmap → x < v.clusters → bit (cluster_bits c v) x ≡ stream_bit c v.per bitmap x
bit_is c v bitmap x has low =
    let below = has.below in
    let lawful = has.lawful in
    cluster_bit c v x low ∙ bit_in c v.per bitmap (cluster_bitmap v) x has.stream (omega (arith, below, lawful, low))

-- ---- where what is put lies

pub same_runs : (o : Option Stream) (e : Extents) → extents_or o ≡ e → runs_in o ≡ e.runs
same_runs None e is = ap (λ (x : Extents). x.runs) is
same_runs (Some (Held value)) e is = ap (λ (x : Extents). x.runs) is
same_runs (Some (Placed f)) e is = ap (λ (x : Extents). x.runs) is

pub mirror_kind : stream_kind mirror_key ≡ FileRec
unfolding stream_kind
mirror_kind = refl

pub bitmap_kind : stream_kind bitmap_key ≡ Plain
unfolding stream_kind
bitmap_kind = refl

-- the mirror's block of a record is one of the mirror's stream
pub mirror_owned : (v : Volume) (mirror : Extents) (n : ℕ) (b : Block) → extents_or (stream_at v mirror_key) ≡ mirror → record_block v.per mirror n ≡ Some b → IsOwnedIn marks_streams v b
mirror_owned v mirror n b is lies = record {
  stream = mirror_key;
  chosen = refl;
  number = n;
  lies = ap₂ (λ (runs : List Run) (kind : BlockKind). block_at v.per runs kind n) (same_runs (stream_at v mirror_key) mirror is) mirror_kind ∙ lies;
}

pub same_bytes : (o rest : Option (List ℕ)) (bytes found : List ℕ) → option_or o rest ≡ Some bytes → o ≡ Some found → o ≡ Some bytes
same_bytes None rest bytes found all one = absurd cc
same_bytes (Some x) rest bytes found all one = all

module _ (c : Content) (v : Volume) (bitmap mirror : Extents) (n : ℕ) (z : Resized) (old new : List Touched) (is : PutsOfVolume c v bitmap mirror n z old new) where
  abbrev d : Content
  d = drafted old c

  abbrev after : Content
  after = drafted new c

  abbrev s : Record
  s = written_record z.file

  puts : PutsBlocks (λ b. IsMirrored v.per v.table mirror n b ⊎ IsSectorOf v.per bitmap.runs b) (IsMirrored v.per v.table mirror n) old new
  puts = resized_goes c v.per bitmap v.table mirror n z old new is.put

  pub in_bitmap : (b : Block) → IsSectorOf v.per bitmap.runs b → IsOwnedIn marks_streams v b
  in_bitmap b lies = record {
    stream = bitmap_key;
    chosen = refl;
    number = lies.0;
    lies = ap₂ (λ (o : Option Stream) (kind : BlockKind). block_at v.per (runs_in o) kind lies.0) is.bits.stream bitmap_kind ∙ lies.1;
  }

  at_block : (b : Block) → IsMirrored v.per v.table mirror n b ⊎ IsSectorOf v.per bitmap.runs b → IsOwnedIn marks_streams v b ⊎ (record_block v.per v.table n ≡ Some b)
  at_block b (inl (inl own)) = inr own
  at_block b (inl (inr other)) = inl (mirror_owned v mirror n b is.mirror_is other.1)
  at_block b (inr sector) = inl (in_bitmap b sector)

  each_block : (bodies : List NewBody) → AllByRecursion (λ p. IsMirrored v.per v.table mirror n p.block ⊎ IsSectorOf v.per bitmap.runs p.block) bodies → AllByRecursion (λ p. IsOwnedIn marks_streams v p.block ⊎ (record_block v.per v.table n ≡ Some p.block)) bodies
  each_block [] all = tt
  each_block (p ∷ bodies) all = (at_block p.block all.0, each_block bodies all.1)

  -- ---- the record

  put_here : (b : Block) → record_block v.per v.table n ≡ Some b → body_in puts.bodies b ≡ Some (resized_bytes z)
  put_here b lies =
      let there = puts.put b (inl lies) in
      same_bytes (body_in puts.bodies b) (body_in (bodies_of old) b) (resized_bytes z) there.0
      (sym (puts.same b ∙ either (bodies_of old) puts.bodies b puts.whole.own) ∙ resized_put.own c v.per bitmap v.table mirror n z old new b is.put lies) there.1

  anew : IsInUse z.file → is_some (record_block v.per v.table n) ≡ true → ReadsAs v puts.bodies n s
  anew used some =
      let at = some_of (record_block v.per v.table n) some in
      record { block = at.0; place = at.1; bytes = resized_bytes z; put = put_here at.0 at.1; reads = written_read.reads z.file is.put.fits is.put.room used }

  -- ---- the bits

  content_is : content_with d puts.bodies ≡ after
  content_is = content_goes c puts.bodies old new is.put.sized is.put.kept (resized_put.whole c v.per bitmap v.table mirror n z old new is.put) puts.whole puts.same

  lies_at : (x : ℕ) → x < v.clusters → (b : Block) × (block_at v.per bitmap.runs Plain (x / 8 / 512) ≡ Some b)
  lies_at x low = (let below = is.bits.below in some_of (block_at v.per bitmap.runs Plain (x / 8 / 512)) (is.bits.lies (x / 8 / 512) (omega (arith, below, low))))

  marks : (x : ℕ) (went came : Bool) → leb 1 (uses z.freed.items x) ≡ went → leb 1 (uses z.taken.items x) ≡ came → (was now : Bool) → now ≡ not went && (came || was) → now ≡ is_marked z x was
  marks x went came is_went is_came was now same = same ∙ sym (ap₂ (λ (s t : Bool). not s && (t || was)) is_went is_came)

  went : (x : ℕ) → x < v.clusters → 0 < uses z.freed.items x → stream_bit after v.per bitmap x ≡ is_marked z x (stream_bit d v.per bitmap x)
  went x low some =
      let below = is.bits.below in
      let at = lies_at x low in
      let clear = resized_put.freed c v.per bitmap v.table mirror n x z old new at.0 is.put (omega (arith, below, low)) at.1 some in
      marks x true (leb 1 (uses z.taken.items x)) (le-leb 1 (uses z.freed.items x) some) refl (stream_bit d v.per bitmap x) (stream_bit after v.per bitmap x) clear

  came : (x : ℕ) → x < v.clusters → uses z.freed.items x ≡ 0 → 0 < uses z.taken.items x → stream_bit after v.per bitmap x ≡ is_marked z x (stream_bit d v.per bitmap x)
  came x low none some =
      let below = is.bits.below in
      let at = lies_at x low in
      let set = resized_put.taken c v.per bitmap v.table mirror n x z old new at.0 is.put (omega (arith, below, low)) at.1 some none in
      marks x false true (lt-leb 1 (uses z.freed.items x) (omega (arith, none))) (le-leb 1 (uses z.taken.items x) some) (stream_bit d v.per bitmap x) (stream_bit after v.per bitmap x) set

  stayed : (x : ℕ) → x < v.clusters → uses z.freed.items x ≡ 0 → uses z.taken.items x ≡ 0 → stream_bit after v.per bitmap x ≡ is_marked z x (stream_bit d v.per bitmap x)
  stayed x low none_freed none_taken =
      let below = is.bits.below in
      let same = resized_put.others c v.per bitmap v.table mirror n x z old new is.put (omega (arith, below, low)) none_taken none_freed in
      marks x false false (lt-leb 1 (uses z.freed.items x) (omega (arith, none_freed))) (lt-leb 1 (uses z.taken.items x) (omega (arith, none_taken))) (stream_bit d v.per bitmap x) (stream_bit after v.per bitmap x) same

  stream_marked : (x : ℕ) → x < v.clusters → stream_bit after v.per bitmap x ≡ is_marked z x (stream_bit d v.per bitmap x)
  stream_marked x low = elim (cases_lt 0 (uses z.freed.items x)) [
    | inl some ↦ went x low some
    | inr none ↦ (let none_freed : uses z.freed.items x ≡ 0 = omega (arith, none) in elim (cases_lt 0 (uses z.taken.items x)) [
      | inl some ↦ came x low none_freed some
      | inr neither ↦ stayed x low none_freed (omega (arith, neither))
    ])
  ]

  all_marked : (x : ℕ) → x < v.clusters → bit (cluster_bits (content_with d puts.bodies) v) x ≡ is_marked z x (bit (cluster_bits d v) x)
  all_marked x low =
      ap (λ (y : Content). bit (cluster_bits y v) x) content_is
      ∙ bit_is after v bitmap x is.bits low
      ∙ stream_marked x low
      ∙ ap (is_marked z x) (sym (bit_is d v bitmap x is.bits low))

  pub edit_is : IsInUse z.file → is_some (record_block v.per v.table n) ≡ true → IsEdit c v n z old new
  edit_is used some = record {
    bodies = puts.bodies;
    same = puts.same;
    content = content_is;
    puts = record { whole = puts.whole; anew = anew used some; each = each_block puts.bodies puts.each };
    marked = all_marked;
  }

-- ---- in a state

has_block : (c : Content) (o : Option Block) (r : Record) → slot_at c o ≡ Used r → is_some o ≡ true
has_block c None r is = absurd cc
has_block c (Some b) r is = refl

pub not_free : (t : Bool) (x : Slot) (r : Record) → cond t Free x ≡ Used r → x ≡ Used r
not_free true x r is = absurd cc
not_free false x r is = is

pub used_block : (c : Content) (per : ℕ) (e : Extents) (n : ℕ) (r : Record) → table_slot c per e n ≡ Used r → is_some (record_block per e n) ≡ true
unfolding table_slot
used_block c per e n r is = has_block c (record_block per e n) r (not_free (leb e.initialised (1024 * n)) (slot_at c (record_block per e n)) r is)

pub uses-none : (x : ℕ) → uses [] x ≡ 0
unfolding uses
uses-none x = refl

pub only_came : (z : Resized) (more : List Run) (x : ℕ) (was : Bool) → z.taken.items ≡ more → z.freed.items ≡ [] → is_marked z x was ≡ (leb 1 (uses more x) || was)
only_came z more x was came none =
    ap₂ (λ (freed taken : List Run). not (leb 1 (uses freed x)) && (leb 1 (uses taken x) || was)) none came ∙ ap (λ (k : ℕ). not (leb 1 k) && (leb 1 (uses more x) || was)) (uses-none x)

only_went : (z : Resized) (x : ℕ) (was : Bool) → z.taken.items ≡ [] → is_marked z x was ≡ (not (leb 1 (uses z.freed.items x)) && was)
only_went z x was none =
    ap (λ (taken : List Run). not (leb 1 (uses z.freed.items x)) && (leb 1 (uses taken x) || was)) none ∙ ap (λ (k : ℕ). not (leb 1 (uses z.freed.items x)) && (leb 1 k || was)) (uses-none x)

module _ (c : Content) (g : Geometry) (clusters : ℕ) (v : Volume) (bitmap mirror : Extents) (n kind : ℕ) (name : List ℕ) (e : Extents) (r : Record) (z : Resized) (old new : List Touched)
    (state : Stands (drafted old c) g clusters v) (own : IsOwnStream v n kind name r (Placed e)) (spelled : HasSpelling 0 e.runs) (is : PutsOfVolume c v bitmap mirror n z old new) where
  slot : table_slot (drafted old c) v.per v.table n ≡ Used r
  slot = (own_record (drafted old c) g clusters v n r state own.file own.no_list).slot

  edit_of : (f : Extents) → HasSpelling 0 f.runs → z.file ≡ placed_record v.per kind name f r → IsEdit c v n z old new
  edit_of f follow file =
      edit_is c v bitmap mirror n z old new is
      (subst IsInUse (sym file) (written_read.placed v.per kind name f r follow (written_read.used (drafted old c) v.per v.table n r slot)))
      (used_block (drafted old c) v.per v.table n r slot)

  grown_is : (more : List Run) → IsGrown v.per kind name e r more z → MayTake v.clusters (cluster_bits (drafted old c) v) more → total_clusters e.runs + total_clusters more ≤ cluster_limit
      → (edit : IsEdit c v n z old new) × GrowsStream (drafted old c) v n kind name e r more z (written_record z.file) edit.bodies
  grown_is more grown taken room =
      let edit : IsEdit c v n z old new = edit_of (lengthened v.per more e) (follow-grown e.runs more spelled taken.spelled room) grown.file in (
        edit,
        record {
          own = own;
          spelled = spelled;
          grown = grown;
          taken = taken;
          room = room;
          written = written_read.written z.file;
          puts = edit.puts;
          marked = λ x low. edit.marked x low ∙ only_came z more x (bit (cluster_bits (drafted old c) v) x) grown.taken grown.freed;
        },
      )

  cut_is : (size : ℕ) → index_allocation ≢ kind → IsCut v.per kind name e r size z → size ≤ e.real → (edit : IsEdit c v n z old new) × CutsStream (drafted old c) v n kind name e r size z (written_record z.file) edit.bodies
  cut_is size no_index cut less =
      let edit : IsEdit c v n z old new = edit_of (shortened v.per size e) (follow-merged 0 0 (front (clusters_for v.per size) e.runs) (follow-front 0 0 (clusters_for v.per size) e.runs spelled)) cut.file in (
        edit,
        record {
          own = own;
          no_index = no_index;
          spelled = spelled;
          cut = cut;
          less = less;
          written = written_read.written z.file;
          puts = edit.puts;
          marked = λ x low. edit.marked x low ∙ only_went z x (bit (cluster_bits (drafted old c) v) x) cut.taken;
        },
      )

pub resized_edit : ResizedIsEdit
resized_edit = record {
  bits = bit_is;
  edit = λ c v bitmap mirror n z old new is used some. edit_is c v bitmap mirror n z old new is used some;
  grown = λ c g clusters v bitmap mirror n kind name e r more z old new state own spelled grown taken room is. grown_is c g clusters v bitmap mirror n kind name e r z old new state own spelled is more grown taken room;
  cut = λ c g clusters v bitmap mirror n kind name e r size z old new state own no_index spelled cut less is. cut_is c g clusters v bitmap mirror n kind name e r z old new state own spelled is size no_index cut less;
}
