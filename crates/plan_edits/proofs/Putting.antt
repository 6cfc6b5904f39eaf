-- What an edit puts into a draft, as the bodies of a plan.
use Rattle.std.proofs.Common.{◌≡◌, ◌⊎◌, ℕ, zero, suc, ◌+◌, ◌*◌, ◌/◌, ◌<◌, ◌≤◌, Bool, true, false, cond, List, [], ◌∷◌, length, Option, Some, None, refl, sym, ap, subst, ◌∙◌, inl, inr, arith}
use Rattle.std.specs.Prelude.{nat_le}
use Rattle.std.specs.List.{AllByRecursion}
use Rattle.std.specs.Option.{option_or}
use Rattle.std.proofs.lemmas.Bool.{cases_lt}
use Rattle.disk_model.specs.declared.block.Block.{Block}
use Rattle.disk_model.specs.declared.block.BlockKind.TheVariants.{Plain, FileRec}
use Rattle.disk_model.specs.Bodies.{BodyOf}
use Rattle.disk_model.specs.Bytes.{written}
use Rattle.disk_model.specs.Content.{Content, HasSizes}
use Rattle.disk_model.specs.Sectors.{sectors}
use Rattle.disk_model.proofs.Frames.{length-written}
use Rattle.plan_values.specs.record_model.declared.runs.Run.{Run}
use Rattle.plan_values.specs.state_model.declared.stream.Extents.{Extents}
use Rattle.plan_values.specs.state_model.Streams.{block_at}
use Rattle.plan_values.proofs.stream_map.Reading.{kind-block_at}
use Rattle.plan_values.specs.plan_bodies.Bodies.{NewBody, AreBodies, body_in, body_or, put_bodies, content_with}
use Rattle.plan_values.proofs.plan_bodies.Putting.{body_put, block_itself, sized_with, either, all_in_both, are_bodies as both_are, contents_put}
use Rattle.draft_resized.specs.plan_draft.declared.touched.Touched.{Touched}
use Rattle.draft_resized.specs.plan_draft.Touching.{bodies_of, touch}
use Rattle.draft_resized.specs.plan_draft.Drafts.{drafted}
use Rattle.draft_resized.specs.plan_draft.Same.{PutSame}
use Rattle.draft_resized.specs.plan_draft.Writing.{zeros_or, present}
use Rattle.draft_resized.proofs.plan_draft.Parts.{zeros_long}
use Rattle.draft_resized.proofs.plan_draft.Puts.{bodies_touch, rises_touch, whole_touch}
use Rattle.draft_resized.proofs.plan_draft.Same.{same_content, put_same}
use Rattle.draft_resized.proofs.plan_draft.Touching.{are_bodies}
use Rattle.plan_values.specs.plan_model.Drafts.{IsPut}
use Rattle.draft_resized.specs.draft_streams.Parts.{offset_in, bytes_in, touch_part, touch_sectors, first_sector, sector_count, touch_bytes}
use Rattle.draft_resized.specs.draft_bits.Filling.{first_past}
use Rattle.draft_resized.specs.draft_bits.Effects.{IsKept}
use Rattle.draft_resized.specs.draft_records.Records.{record_block, is_past, has_mirror, touch_if, touch_record}
use Rattle.draft_resized.proofs.draft_records.Steps.{kind_of_size}
use Rattle.plan_values.specs.resized_streams.declared.resized.Resized.{Resized}
use Rattle.draft_resized.specs.draft_runs.Clusters.{PutsClusters, PutsRuns}
use Rattle.draft_resized.specs.Resized.{resized_bytes, with_file}
use Rattle.draft_resized.specs.Effects.{PutsWhole}
use Rattle.draft_resized.proofs.FileEffects.{long_of}
use Rattle.plan_edits.specs.Puts.{PutsBlocks, IsSectorOf, IsSectorWith, IsRecordOf, IsMirrored, DraftsPutBlocks}

-- ---- none, one, and one behind another

abbrev IsNone : Block → Type 0
IsNone b = ⊥

no_blocks : (among : Block → Type 0) (old : List Touched) → PutsBlocks among IsNone old old
no_blocks among old = record {
  bodies = [];
  whole = record { whole = tt; own = tt };
  each = tt;
  put = λ b none. absurd none;
  same = λ b. refl;
}

pub put_alone : (w : NewBody) → body_in (w ∷ []) w.block ≡ Some w.bytes
put_alone w = ap (λ (t : Bool). cond t (Some w.bytes) None) (block_itself w.block)

one_block : (among : Block → Type 0) (old : List Touched) (a : Block) (fresh : Bool) (bytes : List ℕ) (was : BodyOf) → among a → length bytes ≡ 512 * sectors a.kind → PutsBlocks among (λ b. a ≡ b) old (touch a fresh bytes was old)
one_block among old a fresh bytes was is long =
    let w : NewBody = record { block = a; bytes = bytes } in
    record {
      bodies = w ∷ [];
      whole = record { whole = (long, tt); own = (tt, tt) };
      each = (is, tt);
      put = λ b same. (bytes, ap (λ (x : Block). body_in (w ∷ []) x) (sym same) ∙ put_alone w);
      same = λ b. ap (λ (l : List NewBody). body_in l b) (bodies_touch old a fresh bytes was) ∙ put_same w (bodies_of old) (bodies_of old) (λ x. refl) b;
    }

or_again : (x y z : Option (List ℕ)) → option_or x (option_or y z) ≡ option_or (option_or x y) z
or_again None y z = refl
or_again (Some bytes) y z = refl

pub left_put : (x y : Option (List ℕ)) (bytes : List ℕ) → y ≡ Some bytes → (all : List ℕ) × (option_or x y ≡ Some all)
left_put None y bytes is = (bytes, is)
left_put (Some all) y bytes is = (all, refl)

pub right_put : (x y : Option (List ℕ)) (bytes : List ℕ) → x ≡ Some bytes → option_or x y ≡ Some bytes
right_put x y bytes is = ap (λ (o : Option (List ℕ)). option_or o y) is

pub found_in : (first second : List NewBody) (b : Block) → AreBodies second → body_in (put_bodies second first) b ≡ option_or (body_in second b) (body_in first b)
found_in first second b are = either first second b are.own

pub joined_same : (first second : List NewBody) (old mid new : List Touched) → AreBodies first → AreBodies second → PutSame (bodies_of mid) (put_bodies first (bodies_of old)) → PutSame (bodies_of new) (put_bodies second (bodies_of mid))
    → PutSame (bodies_of new) (put_bodies (put_bodies second first) (bodies_of old))
joined_same first second old mid new are_first are_second before behind b =
    behind b
    ∙ found_in (bodies_of mid) second b are_second
    ∙ ap (option_or (body_in second b)) (before b ∙ found_in (bodies_of old) first b are_first)
    ∙ or_again (body_in second b) (body_in first b) (body_in (bodies_of old) b)
    ∙ ap (λ (o : Option (List ℕ)). option_or o (body_in (bodies_of old) b)) (sym (found_in first second b are_second))
    ∙ sym (found_in (bodies_of old) (put_bodies second first) b (both_are first second are_first are_second))

one_behind : (among first second : Block → Type 0) (old mid new : List Touched) → PutsBlocks among first old mid → PutsBlocks among second mid new → PutsBlocks among (λ b. first b ⊎ second b) old new
one_behind among first second old mid new f s = record {
  bodies = put_bodies s.bodies f.bodies;
  whole = both_are f.bodies s.bodies f.whole s.whole;
  each = all_in_both (λ p. among p.block) f.bodies s.bodies f.each s.each;
  put = put_by;
  same = joined_same f.bodies s.bodies old mid new f.whole s.whole f.same s.same;
}
  where
    put_by : (b : Block) → first b ⊎ second b → IsPut (put_bodies s.bodies f.bodies) b
    put_by b (inl one) =
        let there = f.put b one in
        let all = left_put (body_in s.bodies b) (body_in f.bodies b) there.0 there.1 in
        (all.0, found_in f.bodies s.bodies b s.whole ∙ all.1)
    put_by b (inr two) =
        let there = s.put b two in
        (there.0, found_in f.bodies s.bodies b s.whole ∙ right_put (body_in s.bodies b) (body_in f.bodies b) there.0 there.1)

pub each_turned : (among more : Block → Type 0) (bodies : List NewBody) → ((b : Block) → among b → more b) → AllByRecursion (λ p. among p.block) bodies → AllByRecursion (λ p. more p.block) bodies
each_turned among more [] turn all = tt
each_turned among more (w ∷ bodies) turn all = (turn w.block all.0, each_turned among more bodies turn all.1)

turned : (among more puts fewer : Block → Type 0) (old new : List Touched) → ((b : Block) → among b → more b) → ((b : Block) → fewer b → puts b) → PutsBlocks among puts old new → PutsBlocks more fewer old new
turned among more puts fewer old new turn less is = record {
  bodies = is.bodies;
  whole = is.whole;
  each = each_turned among more is.bodies turn is.each;
  put = λ b some. is.put b (less b some);
  same = is.same;
}

-- ---- an edit that keeps whole bodies in order

pub record Goes (among puts : Block → Type 0) (old new : List Touched) : Type 0 where
  pub blocks : PutsBlocks among puts old new
  pub kept : IsKept new

pub goes_behind : (among first second puts : Block → Type 0) (old mid new : List Touched) → ((b : Block) → puts b → first b ⊎ second b) → Goes among first old mid → Goes among second mid new → Goes among puts old new
goes_behind among first second puts old mid new which f s = record {
  blocks = turned among among (λ b. first b ⊎ second b) puts old new (λ b is. is) which (one_behind among first second old mid new f.blocks s.blocks);
  kept = s.kept;
}

stays : (among puts : Block → Type 0) (old new : List Touched) → new ≡ old → ((b : Block) → puts b → ⊥) → IsKept old → Goes among puts old new
stays among puts old new same none kept = subst (Goes among puts old) (sym same) (record { blocks = turned among among IsNone puts old old (λ b is. is) none (no_blocks among old); kept = kept })

pub touches : (among : Block → Type 0) (old : List Touched) (a : Block) (fresh : Bool) (bytes : List ℕ) (was : BodyOf) → among a → length bytes ≡ 512 * sectors a.kind → length was.bytes ≡ 512 * sectors a.kind → IsKept old → Goes among (λ b. a ≡ b) old (touch a fresh bytes was old)
touches among old a fresh bytes was is long was_long kept = record {
  blocks = one_block among old a fresh bytes was is long;
  kept = record { rises = rises_touch 0 old a fresh bytes was kept.rises (omega arith); whole = whole_touch old a fresh bytes was kept.whole long was_long };
}

-- ---- bytes in a stream

size_in : (bodies : List NewBody) (b : Block) (bytes : List ℕ) → AreBodies bodies → body_in bodies b ≡ Some bytes → (c : Content) → HasSizes c → length bytes ≡ 512 * sectors b.kind
size_in bodies b bytes are is c sized =
    let body : content_with c bodies b ≡ body_or (c b) (Some bytes) = body_put c bodies b sized are ∙ ap (body_or (c b)) is in
    ap (λ (x : BodyOf). length x.bytes) (sym body) ∙ sized_with c bodies sized b

or_zeros : (c : Content) (bodies : List NewBody) (b : Block) (o : Option (List ℕ)) → HasSizes c → AreBodies bodies → body_in bodies b ≡ o → length (zeros_or b o) ≡ 512 * sectors b.kind
or_zeros c bodies b None sized are is = zeros_long (512 * sectors b.kind)
or_zeros c bodies b (Some bytes) sized are is = size_in bodies b bytes are is c sized

present_size : (c : Content) (bodies : List NewBody) (b : Block) (fresh : Bool) → HasSizes c → AreBodies bodies → length (present c bodies b fresh) ≡ 512 * sectors b.kind
present_size c bodies b true sized are = or_zeros c bodies b (body_in bodies b) sized are refl
present_size c bodies b false sized are = sized_with c bodies sized b

pub same_some : (a b : Block) → Some a ≡ Some b → a ≡ b
same_some a b is = cc

sector_goes : (c : Content) (among : Block → Type 0) (o : Option Block) (fresh : Bool) (offset : ℕ) (bytes : List ℕ) (old : List Touched) → HasSizes c → ((b : Block) → o ≡ Some b → among b) → IsKept old → Goes among (λ b. o ≡ Some b) old (touch_part c o fresh offset bytes old)
sector_goes c among None fresh offset bytes old sized is kept = stays among (λ b. None ≡ Some b) old old refl (λ b clash. absurd cc) kept
sector_goes c among (Some a) fresh offset bytes old sized is kept =
    let had : List ℕ = present c (bodies_of old) a fresh in
    let put : Goes among (λ b. a ≡ b) old (touch a fresh (written offset bytes had) (c a) old) = touches among old a fresh (written offset bytes had) (c a) (is a refl) (length-written offset bytes had ∙ present_size c (bodies_of old) a fresh sized (are_bodies old kept.rises kept.whole)) (sized a) kept in
    record { blocks = turned among among (λ b. a ≡ b) (λ b. Some a ≡ Some b) old (touch a fresh (written offset bytes had) (c a) old) (λ b x. x) (λ b same. same_some a b same) put.blocks; kept = put.kept }

module _ (c : Content) (per : ℕ) (runs : List Run) (fresh at : ℕ) (bytes : List ℕ) (old : List Touched) (sized : HasSizes c) (kept : IsKept old) where
  abbrev within : ℕ → ℕ → Block → Type 0
  within first n b = (s : ℕ) × ((first ≤ s) × (s < first + n) × (block_at per runs Plain s ≡ Some b))

  sectors_go : (first n : ℕ) → Goes (IsSectorOf per runs) (within first n) old (touch_sectors c per runs fresh at bytes first n old)
  unfolding touch_sectors
  sectors_go first zero = stays (IsSectorOf per runs) (within first zero) old old refl (λ b is. absurd (omega (arith, is.1.0, is.1.1))) kept
  sectors_go first (suc n) =
      let before = sectors_go first n in
      let mid : List Touched = touch_sectors c per runs fresh at bytes first n old in
      goes_behind (IsSectorOf per runs) (within first n) (λ b. block_at per runs Plain (first + n) ≡ Some b) (within first (suc n)) old mid (touch_part c (block_at per runs Plain (first + n)) (nat_le fresh (first + n)) (offset_in at (first + n)) (bytes_in at (first + n) bytes) mid)
      (λ b is. elim (cases_lt is.0 (first + n)) [
        | inl less ↦ inl (is.0, (is.1.0, less, is.1.2))
        | inr ge ↦ (let last : is.0 ≡ first + n = omega (arith, ge, is.1.1) in inr (ap (block_at per runs Plain) (sym last) ∙ is.1.2))
      ])
      before
      (sector_goes c (IsSectorOf per runs) (block_at per runs Plain (first + n)) (nat_le fresh (first + n)) (offset_in at (first + n)) (bytes_in at (first + n) bytes) mid sized (λ b is. (first + n, is)) before.kept)

  pub bytes_go : Goes (IsSectorOf per runs) (IsSectorWith per runs at (length bytes)) old (touch_bytes c per runs fresh at bytes old)
  bytes_go = sectors_go (first_sector at) (sector_count at (length bytes))

-- ---- bits of clusters

forget : (among puts : Block → Type 0) (old new : List Touched) → Goes among puts old new → Goes among IsNone old new
forget among puts old new is = record { blocks = turned among among puts IsNone old new (λ b x. x) (λ b none. absurd none) is.blocks; kept = is.kept }

pub clusters_go : (c : Content) (per : ℕ) (e : Extents) (value : Bool) (o : Option ℕ) (len : ℕ) (old new : List Touched) → HasSizes c → IsKept old → PutsClusters c per e value o len old new → Goes (IsSectorOf per e.runs) IsNone old new
clusters_go c per e value None len old new sized kept put = stays (IsSectorOf per e.runs) IsNone old new put (λ b none. none) kept
clusters_go c per e value (Some first) len old new sized kept put =
    subst (Goes (IsSectorOf per e.runs) IsNone old) (sym put.1.1)
    (forget (IsSectorOf per e.runs) (IsSectorWith per e.runs (first / 8) (length put.0)) old (touch_bytes c per e.runs (first_past e) (first / 8) put.0 old) (bytes_go c per e.runs (first_past e) (first / 8) put.0 old sized kept))

none_of : (b : Block) → IsNone b → IsNone b ⊎ IsNone b
none_of b none = inl none

pub runs_go : (c : Content) (per : ℕ) (e : Extents) (value : Bool) (runs : List Run) (old new : List Touched) → HasSizes c → IsKept old → PutsRuns c per e value runs old new → Goes (IsSectorOf per e.runs) IsNone old new
unfolding PutsRuns
runs_go c per e value [] old new sized kept put = stays (IsSectorOf per e.runs) IsNone old new put (λ b none. none) kept
runs_go c per e value (r ∷ runs) old new sized kept put =
    let first = clusters_go c per e value r.lcn r.len old put.0 sized kept put.1.0 in
    goes_behind (IsSectorOf per e.runs) IsNone IsNone IsNone old put.0 new none_of first (runs_go c per e value runs put.0 new sized first.kept put.1.1)

-- ---- a record

pub record_goes : (c : Content) (among : Block → Type 0) (o : Option Block) (fresh : Bool) (bytes : List ℕ) (old : List Touched) → HasSizes c → length bytes ≡ 1024 → ((b : Block) → o ≡ Some b → b.kind ≡ FileRec) → ((b : Block) → o ≡ Some b → among b) → IsKept old → Goes among (λ b. o ≡ Some b) old (touch_if c o fresh bytes old)
record_goes c among None fresh bytes old sized long kind is kept = stays among (λ b. None ≡ Some b) old old refl (λ b clash. absurd cc) kept
record_goes c among (Some a) fresh bytes old sized long kind is kept =
    let put : Goes among (λ b. a ≡ b) old (touch a fresh bytes (c a) old) = touches among old a fresh bytes (c a) (is a refl) (kind_of_size (length bytes) a.kind (kind a refl) long) (sized a) kept in
    record { blocks = turned among among (λ b. a ≡ b) (λ b. Some a ≡ Some b) old (touch a fresh bytes (c a) old) (λ b x. x) (λ b same. same_some a b same) put.blocks; kept = put.kept }

module _ (c : Content) (per : ℕ) (table mirror : Extents) (n : ℕ) (bytes : List ℕ) (old : List Touched) (sized : HasSizes c) (kept : IsKept old) (long : length bytes ≡ 1024) where
  abbrev own : List Touched
  own = touch_if c (record_block per table n) (is_past table n) bytes old

  abbrev here : Block → Type 0
  here b = IsMirrored per table mirror n b

  kind_in : (e : Extents) (b : Block) → record_block per e n ≡ Some b → b.kind ≡ FileRec
  kind_in e b lies = kind-block_at per e.runs FileRec n b (sym lies)

  own_goes : Goes here (IsRecordOf per table n) old own
  own_goes = record_goes c here (record_block per table n) (is_past table n) bytes old sized long (kind_in table) (λ b is. inl is) kept

  file_by : (t : Bool) → has_mirror mirror n ≡ t → Goes here here old (cond t (touch_if c (record_block per mirror n) (is_past mirror n) bytes own) own)
  file_by true has =
      goes_behind here (IsRecordOf per table n) (IsRecordOf per mirror n) here old own (touch_if c (record_block per mirror n) (is_past mirror n) bytes own) (λ b is. elim is [
        | inl its ↦ inl its
        | inr other ↦ inr other.1
      ])
      own_goes
      (record_goes c here (record_block per mirror n) (is_past mirror n) bytes own sized long (kind_in mirror) (λ b is. inr (has, is)) own_goes.kept)
  file_by false has = record {
    blocks = turned here here (IsRecordOf per table n) here old own (λ b x. x) (λ b is. elim is [
      | inl its ↦ its
      | inr other ↦ (let clash : true ≡ false = sym other.0 ∙ has in absurd cc)
    ]) own_goes.blocks;
    kept = own_goes.kept;
  }

  pub file_goes : Goes here here old (touch_record c per table mirror n bytes old)
  file_goes = file_by (has_mirror mirror n) refl

-- ---- a file with the bits of its clusters

module _ (c : Content) (per : ℕ) (bitmap table mirror : Extents) (n : ℕ) (z : Resized) (old new : List Touched) (is : PutsWhole c per bitmap table mirror n z old new) where
  abbrev first : List Touched
  first = with_file c per table mirror n z old

  abbrev put_to : Block → Type 0
  put_to b = IsMirrored per table mirror n b ⊎ IsSectorOf per bitmap.runs b

  first_goes : Goes put_to (IsMirrored per table mirror n) old first
  first_goes =
      let file = file_goes c per table mirror n (resized_bytes z) old is.sized is.kept (long_of z.file is.fits is.room) in
      record { blocks = turned (IsMirrored per table mirror n) put_to (IsMirrored per table mirror n) (IsMirrored per table mirror n) old first (λ b x. inl x) (λ b x. x) file.blocks; kept = file.kept }

  bits_go : (value : Bool) (runs : List Run) (before after : List Touched) → IsKept before → PutsRuns c per bitmap value runs before after → Goes put_to IsNone before after
  bits_go value runs before after kept put =
      let bits = runs_go c per bitmap value runs before after is.sized kept put in
      record { blocks = turned (IsSectorOf per bitmap.runs) put_to IsNone IsNone before after (λ b x. inr x) (λ b x. x) bits.blocks; kept = bits.kept }

  pub resized_goes : PutsBlocks put_to (IsMirrored per table mirror n) old new
  resized_goes =
      let taken = bits_go true z.taken.items first is.put.0 first_goes.kept is.put.1.0 in
      let freed = bits_go false z.freed.items is.put.0 new taken.kept is.put.1.1 in
      let both = goes_behind put_to IsNone IsNone IsNone first is.put.0 new none_of taken freed in
      (goes_behind put_to (IsMirrored per table mirror n) IsNone (IsMirrored per table mirror n) old first new (λ b x. inl x) first_goes both).blocks

pub content_goes : (c : Content) (bodies : List NewBody) (old new : List Touched) → HasSizes c → IsKept old → IsKept new → AreBodies bodies → PutSame (bodies_of new) (put_bodies bodies (bodies_of old)) → content_with (drafted old c) bodies ≡ drafted new c
content_goes c bodies old new sized old_is new_is whole same =
    let were : AreBodies (bodies_of old) = are_bodies old old_is.rises old_is.whole in
    sym (contents_put c (bodies_of old) bodies sized were whole)
    ∙ sym (same_content c (bodies_of new) (put_bodies bodies (bodies_of old)) sized (are_bodies new new_is.rises new_is.whole) (both_are (bodies_of old) bodies were whole) same)

kept_same : (bodies more : List NewBody) (old new : List Touched) → AreBodies more → PutSame (bodies_of old) bodies → PutSame (bodies_of new) (put_bodies more (bodies_of old)) → PutSame (bodies_of new) (put_bodies more bodies)
kept_same bodies more old new are before behind b = behind b ∙ found_in (bodies_of old) more b are ∙ ap (option_or (body_in more b)) (before b) ∙ sym (found_in bodies more b are)

pub drafts_put : DraftsPutBlocks
drafts_put = record {
  bytes = λ c per runs fresh at bytes old sized kept. (bytes_go c per runs fresh at bytes old sized kept).blocks;
  file = λ c per table mirror n bytes old sized kept long. (file_goes c per table mirror n bytes old sized kept long).blocks;
  resized = resized_goes;
  joined = joined_same;
  content = content_goes;
  kept = kept_same;
}
