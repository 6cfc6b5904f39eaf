-- Drafts over two contents that put the same, where the contents differ in blocks alone that are put.
use Rattle.std.proofs.Common.{◌≡◌, ℕ, zero, suc, ◌+◌, ◌*◌, ◌/◌, ◌%◌, Bool, true, false, cond, List, [], ◌∷◌, length, Option, Some, None, refl, sym, ap, subst, ◌∙◌, arith}
use mathlib.Core.Path.{fun_ext}
use Rattle.std.specs.Prelude.{nat_le}
use Rattle.disk_model.specs.declared.block.Block.{Block}
use Rattle.disk_model.specs.declared.block.BlockKind.TheVariants.{Plain, FileRec}
use Rattle.disk_model.specs.Bodies.{BodyOf}
use Rattle.disk_model.specs.Bytes.{written}
use Rattle.disk_model.specs.Content.{Content, HasSizes}
use Rattle.disk_model.specs.Sectors.{sectors, same_block}
use Rattle.disk_model.proofs.Frames.{length-written}
use Rattle.record_model.specs.declared.runs.Run.{Run}
use Rattle.record_model.specs.Records.{Record, record_spelling}
use Rattle.state_model.specs.declared.stream.Extents.{Extents}
use Rattle.state_model.specs.Streams.{block_at}
use Rattle.file_changes.proofs.stream_map.Reading.{kind-block_at}
use Rattle.plan_bodies.specs.Bodies.{NewBody, AreBodies, body_in, body_or, content_with}
use Rattle.plan_bodies.proofs.Putting.{body_put, sized_with}
use Rattle.plan_draft.specs.declared.touched.Touched.{Touched}
use Rattle.plan_draft.specs.Touching.{bodies_of, put_in_order, touch}
use Rattle.plan_draft.specs.Drafts.{drafted}
use Rattle.plan_draft.specs.Writing.{zeros_or, present}
use Rattle.plan_draft.proofs.Parts.{zeros_long}
use Rattle.plan_draft.proofs.Puts.{bodies_touch, rises_touch, whole_touch}
use Rattle.plan_draft.proofs.Same.{one_in_order}
use Rattle.plan_draft.proofs.Touching.{are_bodies}
use Rattle.file_changes.specs.draft_streams.Parts.{offset_in, bytes_in, touch_part, touch_sectors, first_sector, sector_count, touch_bytes}
use Rattle.file_changes.specs.draft_bits.Filling.{FillsBytes, bytes_from, byte_count, first_past}
use Rattle.file_changes.specs.draft_bits.Effects.{IsKept}
use Rattle.file_changes.specs.draft_runs.Clusters.{PutsClusters, PutsRuns}
use Rattle.file_changes.specs.draft_records.Records.{record_block, is_past, has_mirror, written_record, touch_if, touch_record}
use Rattle.file_changes.proofs.draft_records.Steps.{kind_of_size}
use Rattle.file_changes.specs.resized_streams.declared.resized.Resized.{Resized}
use Rattle.file_changes.specs.draft_resized.Resized.{with_file, PutsResized}
use Rattle.file_changes.specs.draft_resized.Moved.{PutsMoved}
use Rattle.file_changes.proofs.draft_resized.FileEffects.{long_of, kept_both}
use Rattle.file_changes.specs.file_puts.declared.streams.VolumeStreams.{VolumeStreams}
use Rattle.file_changes.specs.file_puts.Puts.{PutsFileRecord}
use Rattle.file_changes.proofs.written_values.Joining.{nothing_kept}

-- What is touched over a content, and over the content with these bodies, has the same bodies, whole and in order, and puts all blocks of
-- these.
pub record AreAlike (base : List NewBody) (xs ys : List Touched) : Type 0 where
  pub bodies : bodies_of ys ≡ bodies_of xs
  pub kept : IsKept xs
  pub covers : (b : Block) → body_in (bodies_of xs) b ≡ None → body_in base b ≡ None

-- ---- one block

or_same : (x y : BodyOf) (o : Option (List ℕ)) → (o ≡ None → y ≡ x) → body_or y o ≡ body_or x o
or_same x y None same = same refl
or_same x y (Some bytes) same = refl

none_before : (s : Bool) (bytes : List ℕ) (o : Option (List ℕ)) → cond s (Some bytes) o ≡ None → o ≡ None
none_before true bytes o none = absurd cc
none_before false bytes o none = none

pub touched_in : (touched : List Touched) (a b : Block) (fresh : Bool) (bytes : List ℕ) (old : BodyOf) → body_in (bodies_of (touch a fresh bytes old touched)) b ≡ cond (same_block b a) (Some bytes) (body_in (bodies_of touched) b)
touched_in touched a b fresh bytes old = ap (λ (l : List NewBody). body_in l b) (bodies_touch touched a fresh bytes old) ∙ one_in_order (record { block = a; bytes = bytes }) (bodies_of touched) b

-- what is put into a block has its size
size_in : (bodies : List NewBody) (b : Block) (bytes : List ℕ) → AreBodies bodies → body_in bodies b ≡ Some bytes → (c : Content) → HasSizes c → length bytes ≡ 512 * sectors b.kind
size_in bodies b bytes are is c sized =
    let body : content_with c bodies b ≡ body_or (c b) (Some bytes) = body_put c bodies b sized are ∙ ap (body_or (c b)) is in
    ap (λ (x : BodyOf). length x.bytes) (sym body) ∙ sized_with c bodies sized b

or_zeros : (c : Content) (bodies : List NewBody) (b : Block) (o : Option (List ℕ)) → HasSizes c → AreBodies bodies → body_in bodies b ≡ o → length (zeros_or b o) ≡ 512 * sectors b.kind
or_zeros c bodies b None sized are is = zeros_long (512 * sectors b.kind)
or_zeros c bodies b (Some bytes) sized are is = size_in bodies b bytes are is c sized

present_size : (c : Content) (bodies : List NewBody) (b : Block) (fresh : Bool) → HasSizes c → AreBodies bodies → length (present c bodies b fresh) ≡ 512 * sectors b.kind
present_size c bodies b true sized are = or_zeros c bodies b (body_in bodies b) sized are refl
present_size c bodies b false sized are = sized_with c bodies sized b

module _ (c : Content) (base : List NewBody) (sized : HasSizes c) (are : AreBodies base) where
  abbrev d : Content
  d = content_with c base

  -- both drafts have one content
  pub same_drafted : (xs ys : List Touched) → AreAlike base xs ys → drafted ys (content_with c base) ≡ drafted xs c
  same_drafted xs ys is =
      let all : AreBodies (bodies_of xs) = are_bodies xs is.kept.rises is.kept.whole in
      let agree : (b : Block) → body_in (bodies_of xs) b ≡ None → content_with c base b ≡ c b = λ b none. body_put c base b sized are ∙ ap (body_or (c b)) (is.covers b none) in
      let each : (b : Block) → content_with (content_with c base) (bodies_of xs) b ≡ content_with c (bodies_of xs) b = λ b.
      body_put (content_with c base) (bodies_of xs) b (sized_with c base sized) all ∙ or_same (c b) (content_with c base b) (body_in (bodies_of xs) b) (agree b) ∙ sym (body_put c (bodies_of xs) b sized all)
      in
      ap (content_with (content_with c base)) is.bodies ∙ fun_ext each

  touch_alike : (xs ys : List Touched) (a : Block) (fresh : Bool) (bytes : List ℕ) → length bytes ≡ 512 * sectors a.kind → AreAlike base xs ys → AreAlike base (touch a fresh bytes (c a) xs) (touch a fresh bytes (d a) ys)
  touch_alike xs ys a fresh bytes long is = record {
    bodies = bodies_touch ys a fresh bytes (d a) ∙ ap (put_in_order (record { block = a; bytes = bytes })) is.bodies ∙ sym (bodies_touch xs a fresh bytes (c a));
    kept = record { rises = rises_touch 0 xs a fresh bytes (c a) is.kept.rises (omega arith); whole = whole_touch xs a fresh bytes (c a) is.kept.whole long (sized a) };
    covers = λ b none. is.covers b (none_before (same_block b a) bytes (body_in (bodies_of xs) b) (sym (touched_in xs a b fresh bytes (c a)) ∙ none));
  }

  -- ---- bytes in a stream

  present_alike : (xs ys : List Touched) (b : Block) (fresh : Bool) → AreAlike base xs ys → present d (bodies_of ys) b fresh ≡ present c (bodies_of xs) b fresh
  present_alike xs ys b true is = ap (λ (l : List NewBody). zeros_or b (body_in l b)) is.bodies
  present_alike xs ys b false is = ap (λ (x : Content). (x b).bytes) (same_drafted xs ys is)

  part_alike : (xs ys : List Touched) (o : Option Block) (fresh : Bool) (offset : ℕ) (bytes : List ℕ) → AreAlike base xs ys → AreAlike base (touch_part c o fresh offset bytes xs) (touch_part d o fresh offset bytes ys)
  part_alike xs ys None fresh offset bytes is = is
  part_alike xs ys (Some b) fresh offset bytes is =
      let had : List ℕ = present c (bodies_of xs) b fresh in
      let long : length (written offset bytes had) ≡ 512 * sectors b.kind = length-written offset bytes had ∙ present_size c (bodies_of xs) b fresh sized (are_bodies xs is.kept.rises is.kept.whole) in
      subst (λ (l : List ℕ). AreAlike base (touch b fresh (written offset bytes had) (c b) xs) (touch b fresh (written offset bytes l) (d b) ys)) (sym (present_alike xs ys b fresh is)) (touch_alike xs ys b fresh (written offset bytes had) long is)

  sectors_alike : (per : ℕ) (runs : List Run) (fresh at : ℕ) (bytes : List ℕ) (first n : ℕ) (xs ys : List Touched) → AreAlike base xs ys → AreAlike base (touch_sectors c per runs fresh at bytes first n xs) (touch_sectors d per runs fresh at bytes first n ys)
  unfolding touch_sectors
  sectors_alike per runs fresh at bytes first zero xs ys is = is
  sectors_alike per runs fresh at bytes first (suc n) xs ys is =
      part_alike (touch_sectors c per runs fresh at bytes first n xs) (touch_sectors d per runs fresh at bytes first n ys) (block_at per runs Plain (first + n)) (nat_le fresh (first + n)) (offset_in at (first + n)) (bytes_in at (first + n) bytes)
      (sectors_alike per runs fresh at bytes first n xs ys is)

  bytes_alike : (per : ℕ) (runs : List Run) (fresh at : ℕ) (bytes : List ℕ) (xs ys : List Touched) → AreAlike base xs ys → AreAlike base (touch_bytes c per runs fresh at bytes xs) (touch_bytes d per runs fresh at bytes ys)
  bytes_alike per runs fresh at bytes xs ys is = sectors_alike per runs fresh at bytes (first_sector at) (sector_count at (length bytes)) xs ys is

  -- ---- bits of clusters

  clusters_alike : (per : ℕ) (e : Extents) (value : Bool) (o : Option ℕ) (len : ℕ) (xs new ys : List Touched) → PutsClusters c per e value o len xs new → AreAlike base xs ys → (more : List Touched) × (PutsClusters d per e value o len ys more × AreAlike base new more)
  clusters_alike per e value None len xs new ys put is = (ys, (refl, subst (λ (t : List Touched). AreAlike base t ys) (sym put) is))
  clusters_alike per e value (Some first) len xs new ys put is =
      let more : List Touched = touch_bytes d per e.runs (first_past e) (first / 8) put.0 ys in (
        more,
        (
          (put.0, (subst (λ (x : Content). FillsBytes (bytes_from x per e (first / 8) (byte_count first len)) put.0 (first % 8) (first % 8 + len) value) (sym (same_drafted xs ys is)) put.1.0, refl)),
          subst (λ (t : List Touched). AreAlike base t more) (sym put.1.1) (bytes_alike per e.runs (first_past e) (first / 8) put.0 xs ys is),
        ),
      )

  runs_alike : (per : ℕ) (e : Extents) (value : Bool) (runs : List Run) (xs new ys : List Touched) → PutsRuns c per e value runs xs new → AreAlike base xs ys → (more : List Touched) × (PutsRuns d per e value runs ys more × AreAlike base new more)
  unfolding PutsRuns
  runs_alike per e value [] xs new ys put is = (ys, (refl, subst (λ (t : List Touched). AreAlike base t ys) (sym put) is))
  runs_alike per e value (r ∷ runs) xs new ys put is =
      let first = clusters_alike per e value r.lcn r.len xs put.0 ys put.1.0 is in
      let rest = runs_alike per e value runs put.0 new first.0 put.1.1 first.1.1 in
      (rest.0, ((first.0, (first.1.0, rest.1.0)), rest.1.1))

  -- ---- records

  if_alike : (xs ys : List Touched) (o : Option Block) (fresh : Bool) (bytes : List ℕ) → length bytes ≡ 1024 → ((b : Block) → o ≡ Some b → b.kind ≡ FileRec) → AreAlike base xs ys → AreAlike base (touch_if c o fresh bytes xs) (touch_if d o fresh bytes ys)
  if_alike xs ys None fresh bytes long kind is = is
  if_alike xs ys (Some b) fresh bytes long kind is = touch_alike xs ys b fresh bytes (kind_of_size (length bytes) b.kind (kind b refl) long) is

  module _ (per : ℕ) (table mirror : Extents) (n : ℕ) (bytes : List ℕ) (xs ys : List Touched) (long : length bytes ≡ 1024) (is : AreAlike base xs ys) where
    kind_in : (e : Extents) (b : Block) → record_block per e n ≡ Some b → b.kind ≡ FileRec
    kind_in e b lies = kind-block_at per e.runs FileRec n b (sym lies)

    own_alike : AreAlike base (touch_if c (record_block per table n) (is_past table n) bytes xs) (touch_if d (record_block per table n) (is_past table n) bytes ys)
    own_alike = if_alike xs ys (record_block per table n) (is_past table n) bytes long (kind_in table) is

    both_alike : (t : Bool) → AreAlike base (cond t (touch_if c (record_block per mirror n) (is_past mirror n) bytes (touch_if c (record_block per table n) (is_past table n) bytes xs)) (touch_if c (record_block per table n) (is_past table n) bytes xs))
        (cond t (touch_if d (record_block per mirror n) (is_past mirror n) bytes (touch_if d (record_block per table n) (is_past table n) bytes ys)) (touch_if d (record_block per table n) (is_past table n) bytes ys))
    both_alike true =
        if_alike (touch_if c (record_block per table n) (is_past table n) bytes xs) (touch_if d (record_block per table n) (is_past table n) bytes ys) (record_block per mirror n) (is_past mirror n) bytes long (kind_in mirror) own_alike
    both_alike false = own_alike

    pub record_alike : AreAlike base (touch_record c per table mirror n bytes xs) (touch_record d per table mirror n bytes ys)
    record_alike = both_alike (has_mirror mirror n)

  -- a record that is put over the one is put over the other
  pub file_alike : (s : VolumeStreams) (n : ℕ) (p : Record) (xs new ys : List Touched) → PutsFileRecord c s n p xs new → AreAlike base xs ys → (more : List Touched) × (PutsFileRecord d s n p ys more × AreAlike base new more)
  file_alike s n p xs new ys put is =
      let bytes : List ℕ = record_spelling (written_record p) in
      let more : List Touched = touch_record d 8 s.table s.mirror n bytes ys in (
        more,
        (
          record { fits = put.fits; room = put.room; put = refl },
          subst (λ (t : List Touched). AreAlike base t more) (sym put.put) (record_alike 8 s.table s.mirror n bytes xs ys (long_of p put.fits put.room) is),
        ),
      )

  -- so is a file with the bits of its clusters, where both are alike behind its record
  resized_alike : (per : ℕ) (bitmap table mirror : Extents) (n : ℕ) (z : Resized) (xs new ys : List Touched) → PutsResized c per bitmap table mirror n z xs new → AreAlike base (with_file c per table mirror n z xs) (with_file d per table mirror n z ys)
      → (more : List Touched) × (PutsResized d per bitmap table mirror n z ys more × AreAlike base new more)
  resized_alike per bitmap table mirror n z xs new ys put is =
      let taken = runs_alike per bitmap true z.taken.items (with_file c per table mirror n z xs) put.0 (with_file d per table mirror n z ys) put.1.0 is in
      let freed = runs_alike per bitmap false z.freed.items put.0 new taken.0 put.1.1 taken.1.1 in
      (freed.0, ((taken.0, (taken.1.0, freed.1.0)), freed.1.1))

  -- and a value that left its record
  pub moved_alike : (per : ℕ) (bitmap table mirror : Extents) (n : ℕ) (z : Resized) (value : List ℕ) (xs new ys : List Touched) → PutsMoved c per bitmap table mirror n z value xs new → AreAlike base (with_file c per table mirror n z xs) (with_file d per table mirror n z ys)
      → (more : List Touched) × (PutsMoved d per bitmap table mirror n z value ys more × AreAlike base new more)
  moved_alike per bitmap table mirror n z value xs new ys put is =
      let file = resized_alike per bitmap table mirror n z xs put.0 ys put.1.0 is in
      let more : List Touched = touch_bytes d per z.extents.runs 0 0 value file.0 in
      (more, ((file.0, (file.1.0, refl)), subst (λ (t : List Touched). AreAlike base t more) (sym put.1.1) (bytes_alike per z.extents.runs 0 0 value put.0 file.0 file.1.1)))

-- ---- one record over another one

none_too : (s : Bool) (bytes more : List ℕ) (o p : Option (List ℕ)) → (o ≡ None → p ≡ None) → cond s (Some bytes) o ≡ None → cond s (Some more) p ≡ None
none_too true bytes more o p stays none = absurd cc
none_too false bytes more o p stays none = stays none

if_none : (c : Content) (o : Option Block) (fresh : Bool) (bytes more : List ℕ) (xs ys : List Touched) → ((b : Block) → body_in (bodies_of xs) b ≡ None → body_in (bodies_of ys) b ≡ None)
    → (b : Block) → body_in (bodies_of (touch_if c o fresh bytes xs)) b ≡ None → body_in (bodies_of (touch_if c o fresh more ys)) b ≡ None
if_none c None fresh bytes more xs ys stays b none = stays b none
if_none c (Some a) fresh bytes more xs ys stays b none =
    touched_in ys a b fresh more (c a) ∙ none_too (same_block b a) bytes more (body_in (bodies_of xs) b) (body_in (bodies_of ys) b) (stays b) (sym (touched_in xs a b fresh bytes (c a)) ∙ none)

if_bodies : (c d : Content) (o : Option Block) (fresh : Bool) (bytes : List ℕ) (xs ys : List Touched) → bodies_of ys ≡ bodies_of xs → bodies_of (touch_if d o fresh bytes ys) ≡ bodies_of (touch_if c o fresh bytes xs)
if_bodies c d None fresh bytes xs ys same = same
if_bodies c d (Some a) fresh bytes xs ys same = bodies_touch ys a fresh bytes (d a) ∙ ap (put_in_order (record { block = a; bytes = bytes })) same ∙ sym (bodies_touch xs a fresh bytes (c a))

module _ (c d : Content) (per : ℕ) (table mirror : Extents) (n : ℕ) (before bytes : List ℕ) (sized : HasSizes c) (long : length bytes ≡ 1024) where
  abbrev own_in : Content → List ℕ → List Touched
  own_in x l = touch_if x (record_block per table n) (is_past table n) l []

  abbrev both_in : Content → List ℕ → Bool → List Touched
  both_in x l t = cond t (touch_if x (record_block per mirror n) (is_past mirror n) l (own_in x l)) (own_in x l)

  both_none : (t : Bool) (b : Block) → body_in (bodies_of (both_in c bytes t)) b ≡ None → body_in (bodies_of (both_in c before t)) b ≡ None
  both_none true b none = if_none c (record_block per mirror n) (is_past mirror n) bytes before (own_in c bytes) (own_in c before) (if_none c (record_block per table n) (is_past table n) bytes before [] [] (λ x is. is)) b none
  both_none false b none = if_none c (record_block per table n) (is_past table n) bytes before [] [] (λ x is. is) b none

  both_bodies : (t : Bool) → bodies_of (both_in d bytes t) ≡ bodies_of (both_in c bytes t)
  both_bodies true = if_bodies c d (record_block per mirror n) (is_past mirror n) bytes (own_in c bytes) (own_in d bytes) (if_bodies c d (record_block per table n) (is_past table n) bytes [] [] refl)
  both_bodies false = if_bodies c d (record_block per table n) (is_past table n) bytes [] [] refl

  -- a record over another one that was put alone puts the same as alone
  pub first_alike : AreAlike (bodies_of (touch_record c per table mirror n before [])) (touch_record c per table mirror n bytes []) (touch_record d per table mirror n bytes [])
  first_alike = record {
    bodies = both_bodies (has_mirror mirror n);
    kept = kept_both c per table mirror n bytes [] (has_mirror mirror n) sized long nothing_kept;
    covers = both_none (has_mirror mirror n);
  }
