-- What a table that grows puts into a draft, as bodies of a plan.
use Rattle.std.proofs.Common.{◌≡◌, ◌⊎◌, ℕ, zero, suc, ◌+◌, ◌-◌, ◌*◌, ◌/◌, ◌<◌, ◌≤◌, Bool, true, false, cond, List, [], ◌∷◌, length, Option, Some, None, Ok, refl, sym, ap, subst, ◌∙◌, inl, inr, arith}
use Rattle.std.specs.List.{list_all, AllByRecursion}
use Rattle.std.specs.Option.{option_or}
use Rattle.std.proofs.lemmas.Bool.{cases_lt, ne_eqb, leb-true, le-leb, and_parts}
use Rattle.disk_model.specs.declared.block.Block.{Block}
use Rattle.disk_model.specs.declared.block.BlockKind.TheVariants.{Plain, FileRec}
use Rattle.disk_model.specs.Bodies.{BodyOf}
use Rattle.disk_model.specs.Bytes.{zeros}
use Rattle.disk_model.specs.Content.{Content, HasSizes}
use Rattle.disk_model.specs.Sectors.{same_block, sectors}
use Rattle.record_model.specs.declared.runs.Run.{Run}
use Rattle.state_model.specs.declared.stream.Extents.{Extents}
use Rattle.state_model.specs.declared.stream.Stream.{Stream}
use Rattle.state_model.specs.declared.stream.Stream.TheVariants.{Held, Placed}
use Rattle.state_model.specs.Streams.{block_at}
use Rattle.volume_model.specs.Sizes.{lies_below, lies_inside}
use Rattle.stream_laws.specs.Owners.{initialised_in}
use Rattle.stream_laws.specs.Sharing.{runs_in}
use Rattle.stream_map.proofs.Reading.{kind-block_at}
use Rattle.plan_edits.proofs.record_streams.Kept.{but_room_fits}
use Rattle.plan_bodies.specs.Bodies.{NewBody, body_in, put_bodies}
use Rattle.plan_bodies.proofs.Putting.{block_itself, either, all_in_both, are_bodies as both_are}
use Rattle.plan_draft.specs.declared.touched.Touched.{Touched}
use Rattle.plan_draft.specs.Touching.{bodies_of, touch}
use Rattle.plan_draft.proofs.Parts.{zeros_long}
use Rattle.plan_draft.proofs.Puts.{bodies_touch, rises_touch, whole_touch}
use Rattle.plan_draft.proofs.Same.{put_same}
use Rattle.plan_edits.specs.plan_model.Drafts.{IsPut}
use Rattle.draft_streams.specs.Parts.{sector_count, touch_bytes, touch_sectors}
use Rattle.draft_bits.specs.Filling.{first_past, PutsBits}
use Rattle.draft_bits.specs.Effects.{IsKept}
use Rattle.plan_edits.specs.draft_records.Records.{record_block, has_mirror, fits_room, touch_if, touch_record}
use Rattle.plan_edits.proofs.draft_records.Steps.{kind_of_size}
use Rattle.draft_runs.specs.Clusters.{PutsClusters, PutsRuns}
use Rattle.plan_edits.proofs.draft_resized.FileEffects.{long_of, kept_both}
use Rattle.draft_growth.specs.draft_bitmaps.declared.bitmap.Bitmap.{Bitmap}
use Rattle.draft_growth.specs.draft_bitmaps.Bitmaps.{with_value, with_extents, with_record, own_bytes, byte_end, is_below, raised, with_zeros, IsBitmap, PutsRaised, PutsPlacedBy, PutsInto}
use Rattle.draft_growth.specs.draft_bitmaps.Effects.{room_in}
use Rattle.draft_growth.proofs.draft_bitmaps.Room.{same_room}
use Rattle.draft_growth.specs.Clusters.{PutsClustersOf, PutsRunsOf}
use Rattle.draft_growth.specs.Growing.{with_empty_records, with_leaving}
use Rattle.plan_edits.specs.Puts.{IsSectorOf, IsSectorWith, IsMirrored}
use Rattle.plan_edits.proofs.Putting.{Goes, bytes_go, drafts_put, each_turned, joined_same, found_in, left_put}

-- ---- none, one, and one behind another

abbrev pub IsNone : Block → Type 0
IsNone b = ⊥

pub turned : (among more puts fewer : Block → Type 0) (old new : List Touched) → ((b : Block) → among b → more b) → ((b : Block) → fewer b → puts b) → Goes among puts old new → Goes more fewer old new
turned among more puts fewer old new turn less is = record {
  blocks = record {
    bodies = is.blocks.bodies;
    whole = is.blocks.whole;
    each = each_turned among more is.blocks.bodies turn is.blocks.each;
    put = λ b some. is.blocks.put b (less b some);
    same = is.blocks.same;
  };
  kept = is.kept;
}

right_put : (x y : Option (List ℕ)) (bytes : List ℕ) → x ≡ Some bytes → option_or x y ≡ Some bytes
right_put x y bytes is = ap (λ (o : Option (List ℕ)). option_or o y) is

pub behind : (among first second puts : Block → Type 0) (old mid new : List Touched) → ((b : Block) → puts b → first b ⊎ second b) → Goes among first old mid → Goes among second mid new → Goes among puts old new
behind among first second puts old mid new which one two =
    let f = one.blocks in
    let s = two.blocks in
    record {
      blocks = record {
        bodies = put_bodies s.bodies f.bodies;
        whole = both_are f.bodies s.bodies f.whole s.whole;
        each = all_in_both (λ p. among p.block) f.bodies s.bodies f.each s.each;
        put = λ b some. put_by b (which b some);
        same = joined_same f.bodies s.bodies old mid new f.whole s.whole f.same s.same;
      };
      kept = two.kept;
    }
  where
    put_by : (b : Block) → first b ⊎ second b → IsPut (put_bodies two.blocks.bodies one.blocks.bodies) b
    put_by b (inl here) =
        let there = one.blocks.put b here in
        let all = left_put (body_in two.blocks.bodies b) (body_in one.blocks.bodies b) there.0 there.1 in
        (all.0, found_in one.blocks.bodies two.blocks.bodies b two.blocks.whole ∙ all.1)
    put_by b (inr here) =
        let there = two.blocks.put b here in
        (there.0, found_in one.blocks.bodies two.blocks.bodies b two.blocks.whole ∙ right_put (body_in two.blocks.bodies b) (body_in one.blocks.bodies b) there.0 there.1)

stays : (among puts : Block → Type 0) (old : List Touched) → ((b : Block) → puts b → ⊥) → IsKept old → Goes among puts old old
stays among puts old none kept = record {
  blocks = record { bodies = []; whole = record { whole = tt; own = tt }; each = tt; put = λ b some. absurd (none b some); same = λ b. refl };
  kept = kept;
}

put_alone : (w : NewBody) → body_in (w ∷ []) w.block ≡ Some w.bytes
put_alone w = ap (λ (t : Bool). cond t (Some w.bytes) None) (block_itself w.block)

touches : (among : Block → Type 0) (old : List Touched) (a : Block) (fresh : Bool) (bytes : List ℕ) (was : BodyOf) → among a → length bytes ≡ 512 * sectors a.kind → length was.bytes ≡ 512 * sectors a.kind → IsKept old → Goes among (λ b. a ≡ b) old (touch a fresh bytes was old)
touches among old a fresh bytes was is long was_long kept =
    let w : NewBody = record { block = a; bytes = bytes } in
    record {
      blocks = record {
        bodies = w ∷ [];
        whole = record { whole = (long, tt); own = (tt, tt) };
        each = (is, tt);
        put = λ b same. (bytes, ap (λ (x : Block). body_in (w ∷ []) x) (sym same) ∙ put_alone w);
        same = λ b. ap (λ (l : List NewBody). body_in l b) (bodies_touch old a fresh bytes was) ∙ put_same w (bodies_of old) (bodies_of old) (λ x. refl) b;
      };
      kept = record { rises = rises_touch 0 old a fresh bytes was kept.rises (omega arith); whole = whole_touch old a fresh bytes was kept.whole long was_long };
    }

-- a block that isn't among those that are put to has the body from before
none_in : (among : Block → Type 0) (bodies : List NewBody) (b : Block) → ((a : Block) → among a → same_block b a ≡ false) → AllByRecursion (λ p. among p.block) bodies → body_in bodies b ≡ None
none_in among [] b apart all = refl
none_in among (w ∷ bodies) b apart all = ap (λ (t : Bool). cond t (Some w.bytes) (body_in bodies b)) (apart w.block all.0) ∙ none_in among bodies b apart all.1

pub away : (among puts : Block → Type 0) (old new : List Touched) (b : Block) → Goes among puts old new → ((a : Block) → among a → same_block b a ≡ false) → body_in (bodies_of new) b ≡ body_in (bodies_of old) b
away among puts old new b is apart =
    is.blocks.same b
    ∙ either (bodies_of old) is.blocks.bodies b is.blocks.whole.own
    ∙ ap (λ (o : Option (List ℕ)). option_or o (body_in (bodies_of old) b)) (none_in among is.blocks.bodies b apart is.blocks.each)

-- ---- records

pub file_goes : (c : Content) (per : ℕ) (table mirror : Extents) (n : ℕ) (bytes : List ℕ) (old : List Touched) → HasSizes c → IsKept old → length bytes ≡ 1024 → Goes (IsMirrored per table mirror n) (IsMirrored per table mirror n) old (touch_record c per table mirror n bytes old)
file_goes c per table mirror n bytes old sized kept long = record { blocks = drafts_put.file c per table mirror n bytes old sized kept long; kept = kept_both c per table mirror n bytes old (has_mirror mirror n) sized long kept }

pub bitmap_file_goes : (c : Content) (per : ℕ) (table mirror : Extents) (b : Bitmap) (old : List Touched) → HasSizes c → IsKept old → IsBitmap b → fits_room b.file ≡ Ok tt → Goes (IsMirrored per table mirror b.number) (IsMirrored per table mirror b.number) old (with_record c per table mirror b old)
bitmap_file_goes c per table mirror b old sized kept stands room = file_goes c per table mirror b.number (own_bytes b) old sized kept (long_of b.file (but_room_fits b.file stands.fits) room)

same_some : (a b : Block) → Some a ≡ Some b → a ≡ b
same_some a b is = cc

no_such : (b : Block) → None ≡ Some b → ⊥
no_such b is = absurd cc

record_goes : (c : Content) (among : Block → Type 0) (o : Option Block) (fresh : Bool) (bytes : List ℕ) (old : List Touched) → HasSizes c → length bytes ≡ 1024 → ((b : Block) → o ≡ Some b → b.kind ≡ FileRec) → ((b : Block) → o ≡ Some b → among b) → IsKept old → Goes among (λ b. o ≡ Some b) old (touch_if c o fresh bytes old)
record_goes c among None fresh bytes old sized long kind is kept = stays among (λ b. None ≡ Some b) old no_such kept
record_goes c among (Some a) fresh bytes old sized long kind is kept =
    turned among among (λ b. a ≡ b) (λ b. Some a ≡ Some b) old (touch a fresh bytes (c a) old) (λ b x. x) (λ b same. same_some a b same)
    (touches among old a fresh bytes (c a) (is a refl) (kind_of_size (length bytes) a.kind (kind a refl) long) (sized a) kept)

-- one of so many records from this one on
abbrev pub IsRecordFrom : ℕ → Extents → ℕ → ℕ → Block → Type 0
IsRecordFrom per e first n b = (m : ℕ) × ((first ≤ m) × ((m < first + n) × (record_block per e m ≡ Some b)))

pub empties_go : (c : Content) (per : ℕ) (e : Extents) (body : List ℕ) (first n : ℕ) (old : List Touched) → HasSizes c → length body ≡ 1024 → IsKept old → Goes (IsRecordFrom per e first n) (IsRecordFrom per e first n) old (with_empty_records c per e body first n old)
unfolding with_empty_records
empties_go c per e body first zero old sized long kept = stays (IsRecordFrom per e first 0) (IsRecordFrom per e first 0) old (λ b is. omega (arith, is.1.0, is.1.1.0)) kept
empties_go c per e body first (suc n) old sized long kept =
    let all : Block → Type 0 = IsRecordFrom per e first (suc n) in
    let before = empties_go c per e body first n old sized long kept in
    let mid : List Touched = with_empty_records c per e body first n old in
    behind all (IsRecordFrom per e first n) (λ b. record_block per e (first + n) ≡ Some b) all old mid (touch_if c (record_block per e (first + n)) true body mid)
    (λ b is. elim (cases_lt is.0 (first + n)) [
      | inl less ↦ inl (is.0, (is.1.0, (less, is.1.1.1)))
      | inr ge ↦ (let top = is.1.1.0 in let same : is.0 ≡ first + n = omega (arith, ge, top) in inr (sym (ap (record_block per e) same) ∙ is.1.1.1))
    ])
    (turned (IsRecordFrom per e first n) all (IsRecordFrom per e first n) (IsRecordFrom per e first n) old mid (λ b is. (is.0, (is.1.0, (let top = is.1.1.0 in omega (arith, top), is.1.1.1)))) (λ b is. is) before)
    (record_goes c all (record_block per e (first + n)) true body mid sized long (λ b lies. kind-block_at per e.runs FileRec (first + n) b (sym lies)) (λ b lies. (first + n, (omega arith, (omega arith, lies)))) before.kept)

-- ---- bits

pub bits_go : (c : Content) (per : ℕ) (e : Extents) (first len : ℕ) (value : Bool) (old new : List Touched) → HasSizes c → IsKept old → PutsBits c per e first len value old new → Goes (IsSectorOf per e.runs) IsNone old new
bits_go c per e first len value old new sized kept put =
    subst (Goes (IsSectorOf per e.runs) IsNone old) (sym put.1.1)
    (turned (IsSectorOf per e.runs) (IsSectorOf per e.runs) (IsSectorWith per e.runs (first / 8) (length put.0)) IsNone old (touch_bytes c per e.runs (first_past e) (first / 8) put.0 old) (λ b x. x) (λ b none. absurd none)
    (bytes_go c per e.runs (first_past e) (first / 8) put.0 old sized kept))

-- a sector of the bitmap that comes to be initialised
abbrev pub IsComing : ℕ → Stream → Stream → Block → Type 0
IsComing per s new b = (m : ℕ) × ((block_at per (runs_in (Some s)) Plain m ≡ Some b) × ((initialised_in (Some s) ≤ 512 * m) × (512 * m < initialised_in (Some new))))

-- its record or its sectors
abbrev pub IsOfBitmap : ℕ → Extents → Extents → ℕ → Stream → Block → Type 0
IsOfBitmap per table mirror n s b = IsMirrored per table mirror n b ⊎ IsSectorOf per (runs_in (Some s)) b

pub in_zeros : (initialised more m : ℕ) → initialised ≤ 512 * m → 512 * m < initialised + more → (initialised / 512 ≤ m) × (m < initialised / 512 + sector_count initialised more)
in_zeros initialised more m low high =
    let some : (more ≡ 0) → ⊥ = λ none. omega (arith, low, high, none) in
    let count : sector_count initialised more ≡ (initialised + more + 511) / 512 - initialised / 512 = counted more some in
    (omega (arith, low), omega (arith, low, high, count))
  where
    counted : (n : ℕ) → (n ≡ 0 → ⊥) → sector_count initialised n ≡ (initialised + n + 511) / 512 - initialised / 512
    counted n none = ap (λ (t : Bool). cond t 0 ((initialised + n + 511) / 512 - initialised / 512)) (ne_eqb n 0 none)

module _ (c : Content) (per : ℕ) (table mirror : Extents) (b : Bitmap) (first len : ℕ) (bit : Bool) (old new : List Touched) (sized : HasSizes c) (kept : IsKept old) where
  abbrev Goal : Stream → Bitmap → Type 0
  Goal s x = Goes (IsOfBitmap per table mirror b.number s) (IsComing per s x.stream) old new

  held_goes : (value bytes : List ℕ) → IsBitmap (with_value bytes b) → fits_room (with_value bytes b).file ≡ Ok tt → new ≡ with_record c per table mirror (with_value bytes b) old → Goal (Held value) (with_value bytes b)
  held_goes value bytes stands room put =
      subst (λ (t : List Touched). Goes (IsOfBitmap per table mirror b.number (Held value)) (IsComing per (Held value) (Held bytes)) old t) (sym put)
      (turned (IsMirrored per table mirror b.number) (IsOfBitmap per table mirror b.number (Held value)) (IsMirrored per table mirror b.number) (IsComing per (Held value) (Held bytes)) old (with_record c per table mirror (with_value bytes b) old) (λ x is. inl is)
      (λ x is. absurd (let high = is.1.1.1 in omega (arith, high))) (bitmap_file_goes c per table mirror (with_value bytes b) old sized kept stands room))

  below_goes : (e : Extents) → b.stream ≡ Placed e → PutsBits c per e first len bit old new → Goal (Placed e) b
  below_goes e is put =
      turned (IsSectorOf per e.runs) (IsOfBitmap per table mirror b.number (Placed e)) IsNone (IsComing per (Placed e) b.stream) old new (λ x lies. inr lies)
      (λ x coming. (let high : 512 * coming.0 < e.initialised = subst (λ (s : Stream). 512 * coming.0 < initialised_in (Some s)) is coming.1.1.1 in let low = coming.1.1.0 in omega (arith, low, high))) (bits_go c per e first len bit old new sized kept put)

  past_goes : (e : Extents) → byte_end first len ≤ e.initialised ⊎ (e.initialised < byte_end first len) → IsBitmap (with_extents per (raised first len e) b) → fits_room (with_extents per (raised first len e) b).file ≡ Ok tt
      → PutsRaised c per table mirror (with_extents per (raised first len e) b) e first len bit old new → Goal (Placed e) (with_extents per (raised first len e) b)
  past_goes e which stands room put =
      let x : Bitmap = with_extents per (raised first len e) b in
      let end : ℕ = byte_end first len in
      let mid : List Touched = with_record c per table mirror x old in
      let zeroed : List Touched = with_zeros c per e end mid in
      let among : Block → Type 0 = IsOfBitmap per table mirror b.number (Placed e) in
      let coming : Block → Type 0 = IsComing per (Placed e) (Placed (raised first len e)) in
      let one = bitmap_file_goes c per table mirror x old sized kept stands room in
      let two = bytes_go c per e.runs (first_past e) e.initialised (zeros (end - e.initialised)) mid sized one.kept in
      let three = bits_go c per (raised first len e) first len bit zeroed new sized two.kept put in
      behind among IsNone coming coming old mid new (λ a is. inr is) (turned (IsMirrored per table mirror b.number) among (IsMirrored per table mirror b.number) IsNone old mid (λ a is. inl is) (λ a none. absurd none) one)
      (behind among coming IsNone coming mid zeroed new (λ a is. inl is)
      (turned (IsSectorOf per e.runs) among (IsSectorWith per e.runs e.initialised (length (zeros (end - e.initialised)))) coming mid zeroed (λ a is. inr is) (λ a is. zeroed_sector a is) two)
      (turned (IsSectorOf per e.runs) among IsNone IsNone zeroed new (λ a is. inr is) (λ a none. none) three))
    where
      zeroed_sector : (a : Block) → IsComing per (Placed e) (Placed (raised first len e)) a → IsSectorWith per e.runs e.initialised (length (zeros (byte_end first len - e.initialised))) a
      zeroed_sector a is =
          let low = is.1.1.0 in
          let high = is.1.1.1 in
          let place = in_zeros e.initialised (byte_end first len - e.initialised) is.0 low (omega (arith, low, high)) in
          (is.0, (place.0, subst (λ (n : ℕ). is.0 < e.initialised / 512 + sector_count e.initialised n) (sym (zeros_long (byte_end first len - e.initialised))) place.1, is.1.0))

  by_below : (t : Bool) (e : Extents) (after : Bitmap) → is_below e first len ≡ t → b.stream ≡ Placed e → IsBitmap after → cond t (Ok tt) (fits_room (with_extents per (raised first len e) b).file) ≡ Ok tt → PutsPlacedBy t c per table mirror b e first len bit old new after → Goal (Placed e) after
  by_below true e after is stream stands room put = subst (Goal (Placed e)) (sym put.1) (below_goes e stream put.0)
  by_below false e after is stream stands room put =
      subst (Goal (Placed e)) (sym put.1)
      (past_goes e (elim (cases_lt e.initialised (byte_end first len)) [ inl less ↦ inr less | inr le ↦ inl le ]) (subst IsBitmap put.1 stands) room (subst (λ (x : Bitmap). PutsRaised c per table mirror x e first len bit old new) put.1 put.0))

  pub bitmap_goes : (s : Stream) (after : Bitmap) → b.stream ≡ s → IsBitmap after → room_in s per b first len ≡ Ok tt → PutsInto s c per table mirror b first len bit old new after → Goal s after
  bitmap_goes (Held value) after stream stands room put =
      let bytes = put.0.0 in
      let is = put.0.1.1 in
      subst (Goal (Held value)) (sym is) (held_goes value bytes (subst IsBitmap is stands) (same_room b.kind [] bytes value b.file put.0.1.0.same_count ∙ room) (subst (λ (x : Bitmap). new ≡ with_record c per table mirror x old) is put.1))
  bitmap_goes (Placed e) after stream stands room put = by_below (is_below e first len) e after refl stream stands room put

-- ---- bytes that leave the record

no_sector : (per m : ℕ) (b : Block) → block_at per [] Plain m ≡ Some b → ⊥
unfolding block_at
no_sector per m b is = absurd cc

-- a sector of the stream with some of so many first bytes
abbrev pub IsLeft : ℕ → Stream → ℕ → Block → Type 0
IsLeft per s n b = IsSectorWith per (runs_in (Some s)) 0 n b

pub leaving_goes : (c : Content) (per : ℕ) (s : Stream) (bytes : List ℕ) (old : List Touched) → HasSizes c → IsKept old → Goes (IsSectorOf per (runs_in (Some s))) (IsLeft per s (length bytes)) old (with_leaving c per s bytes old)
leaving_goes c per (Held value) bytes old sized kept = stays (IsSectorOf per []) (IsSectorWith per [] 0 (length bytes)) old (λ b is. no_sector per is.0 b is.1.2) kept
leaving_goes c per (Placed e) bytes old sized kept = bytes_go c per e.runs 0 0 bytes old sized kept

-- where none leave, all is as before
no_bytes : (c : Content) (per : ℕ) (s : Stream) (old : List Touched) → with_leaving c per s [] old ≡ old
unfolding touch_sectors
no_bytes c per (Held value) old = refl
no_bytes c per (Placed e) old = refl

pub none_leaving : (c : Content) (per : ℕ) (s : Stream) (bytes : List ℕ) (old : List Touched) → bytes ≡ [] → with_leaving c per s bytes old ≡ old
none_leaving c per s bytes old none = ap (λ (l : List ℕ). with_leaving c per s l old) none ∙ no_bytes c per s old

-- ---- bits of clusters that lie below the initialised size

module _ (c : Content) (per : ℕ) (table mirror e : Extents) (bit : Bool) (limit : ℕ) (few : limit ≤ 8 * e.initialised) where
  is_inside : (first len : ℕ) → lies_below limit len (Some first) ≡ true → is_below e first len ≡ true
  is_inside first len inside = (let end : first + len ≤ limit = leb-true (first + len) limit inside in le-leb (byte_end first len) e.initialised (omega (arith, end, few)))

  into_placed : (b : Bitmap) (first len : ℕ) (old new : List Touched) (after : Bitmap) → b.stream ≡ Placed e → is_below e first len ≡ true → PutsInto b.stream c per table mirror b first len bit old new after → PutsBits c per e first len bit old new × (after ≡ b)
  into_placed b first len old new after stream below put =
      let placed : PutsInto (Placed e) c per table mirror b first len bit old new after = subst (λ (s : Stream). PutsInto s c per table mirror b first len bit old new after) stream put in
      subst (λ (t : Bool). PutsPlacedBy t c per table mirror b e first len bit old new after) below placed

  one_run : (o : Option ℕ) (len : ℕ) (b : Bitmap) (old new : List Touched) (after : Bitmap) → b.stream ≡ Placed e → lies_below limit len o ≡ true → PutsClustersOf c per table mirror bit o len b old new after → PutsClusters c per e bit o len old new × (after ≡ b)
  one_run None len b old new after stream inside put = put
  one_run (Some first) len b old new after stream inside put = into_placed b first len old new after stream (is_inside first len inside) put

  pub runs_as : (runs : List Run) (b : Bitmap) (old new : List Touched) (after : Bitmap) → b.stream ≡ Placed e → list_all (lies_inside limit) runs ≡ true → PutsRunsOf c per table mirror bit runs b old new after → PutsRuns c per e bit runs old new × (after ≡ b)
  unfolding PutsRunsOf PutsRuns
  runs_as [] b old new after stream inside put = put
  runs_as (r ∷ runs) b old new after stream inside put =
      let parts = and_parts (lies_inside limit r) (list_all (lies_inside limit) runs) inside in
      let one = one_run r.lcn r.len b old put.1 put.0 stream parts.0 put.2 in
      let rest = runs_as runs put.0 put.1 new after (ap (λ (x : Bitmap). x.stream) one.1 ∙ stream) parts.1 put.3 in
      ((put.1, (one.0, rest.0)), rest.1 ∙ one.1)

cluster_goes : (c : Content) (per : ℕ) (e : Extents) (value : Bool) (o : Option ℕ) (len : ℕ) (old new : List Touched) → HasSizes c → IsKept old → PutsClusters c per e value o len old new → Goes (IsSectorOf per e.runs) IsNone old new
cluster_goes c per e value None len old new sized kept put = subst (Goes (IsSectorOf per e.runs) IsNone old) (sym put) (stays (IsSectorOf per e.runs) IsNone old (λ b none. none) kept)
cluster_goes c per e value (Some first) len old new sized kept put = bits_go c per e first len value old new sized kept put

pub runs_go : (c : Content) (per : ℕ) (e : Extents) (value : Bool) (runs : List Run) (old new : List Touched) → HasSizes c → IsKept old → PutsRuns c per e value runs old new → Goes (IsSectorOf per e.runs) IsNone old new
unfolding PutsRuns
runs_go c per e value [] old new sized kept put = subst (Goes (IsSectorOf per e.runs) IsNone old) (sym put) (stays (IsSectorOf per e.runs) IsNone old (λ b none. none) kept)
runs_go c per e value (r ∷ runs) old new sized kept put =
    let one = cluster_goes c per e value r.lcn r.len old put.0 sized kept put.1.0 in
    behind (IsSectorOf per e.runs) IsNone IsNone IsNone old put.0 new (λ b none. inl none) one (runs_go c per e value runs put.0 new sized one.kept put.1.1)
