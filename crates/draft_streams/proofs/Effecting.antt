-- What bytes that are put into a stream make of it.
use Rattle.std.proofs.Common.{◌≡◌, ◌⊎◌, ℕ, zero, suc, ◌+◌, ◌-◌, ◌*◌, ◌/◌, ◌%◌, ◌<◌, ◌≤◌, Bool, true, false, cond, List, length, get_or, drop, min, Option, Some, None, refl, sym, ap, subst, ◌∙◌, inl, inr, arith}
use Rattle.std.specs.Prelude.{All, nat_le, slice_index}
use Rattle.std.proofs.lemmas.Bool.{cases_lt, ne_eqb}
use Rattle.std.proofs.lemmas.List.{get_or-take, get_or-drop, length-take, length-drop}
use Rattle.stream_map.specs.disk_model.declared.block.Block.{Block}
use Rattle.stream_map.specs.disk_model.declared.block.BlockKind.TheVariants.{Plain}
use Rattle.stream_map.specs.disk_model.Bodies.{BodyOf}
use Rattle.stream_map.specs.disk_model.Bytes.{written}
use Rattle.stream_map.specs.disk_model.Content.{Content, HasSizes}
use Rattle.stream_map.specs.disk_model.Sectors.{sectors, same_block}
use Rattle.stream_map.proofs.disk_model.Frames.{written_within, written_before, written_behind, length-written}
use Rattle.stream_map.specs.record_model.declared.runs.Run.{Run}
use Rattle.stream_map.specs.state_model.Streams.{block_at}
use Rattle.stream_map.proofs.Reading.{kind-block_at}
use Rattle.plan_draft.specs.plan_bodies.Bodies.{NewBody, AreBodies, body_in, body_or, content_with}
use Rattle.plan_draft.proofs.plan_bodies.Putting.{body_put, sized_with, block_itself}
use Rattle.plan_draft.specs.declared.touched.Touched.{Touched}
use Rattle.plan_draft.specs.Touching.{bodies_of, touch, rises, keys_of, IsWhole}
use Rattle.plan_draft.specs.Writing.{zeros_or, present}
use Rattle.plan_draft.proofs.Parts.{zeros_long}
use Rattle.plan_draft.proofs.Puts.{bodies_touch, rises_touch, whole_touch}
use Rattle.plan_draft.proofs.Same.{one_in_order}
use Rattle.plan_draft.proofs.Touching.{are_bodies}
use Rattle.draft_streams.specs.Parts.{offset_in, bytes_in, touch_part, touch_sectors, first_sector, sector_count}
use Rattle.draft_streams.specs.Effects.{HasOwnSectors, BytesArePut}

-- ---- one block

-- in a block's place stands what is touched there, and elsewhere what stood there
touched_in : (touched : List Touched) (a b : Block) (fresh : Bool) (bytes : List ℕ) (old : BodyOf) → body_in (bodies_of (touch a fresh bytes old touched)) b ≡ cond (same_block b a) (Some bytes) (body_in (bodies_of touched) b)
touched_in touched a b fresh bytes old = ap (λ (l : List NewBody). body_in l b) (bodies_touch touched a fresh bytes old) ∙ one_in_order (record { block = a; bytes = bytes }) (bodies_of touched) b

-- a list of bodies in their order
record IsDraft (touched : List Touched) : Type 0 where
  up : rises 0 (keys_of touched) ≡ true
  whole : All IsWhole touched

-- what is put into a block has its size
size_in : (bodies : List NewBody) (b : Block) (bytes : List ℕ) → AreBodies bodies → body_in bodies b ≡ Some bytes → (c : Content) → HasSizes c → length bytes ≡ 512 * sectors b.kind
size_in bodies b bytes are is c sized =
    let body : content_with c bodies b ≡ body_or (c b) (Some bytes) = body_put c bodies b sized are ∙ ap (body_or (c b)) is in
    ap (λ (x : BodyOf). length x.bytes) (sym body) ∙ sized_with c bodies sized b

or_zeros : (c : Content) (bodies : List NewBody) (b : Block) (o : Option (List ℕ)) → HasSizes c → AreBodies bodies → body_in bodies b ≡ o → length (zeros_or b o) ≡ 512 * sectors b.kind
or_zeros c bodies b None sized are is = zeros_long (512 * sectors b.kind)
or_zeros c bodies b (Some bytes) sized are is = size_in bodies b bytes are is c sized

present_size : (c : Content) (bodies : List NewBody) (b : Block) (fresh : Bool) → HasSizes c → AreBodies bodies → length (present c bodies b fresh) ≡ 512 * sectors b.kind
present_size c bodies b true sized are = or_zeros c bodies b (body_in bodies b) sized are refl
present_size c bodies b false sized are = sized_with c bodies sized b

-- what a block has hangs on what is put into it alone
present_same : (c : Content) (xs ys : List NewBody) (b : Block) (fresh : Bool) → HasSizes c → AreBodies xs → AreBodies ys → body_in xs b ≡ body_in ys b → present c xs b fresh ≡ present c ys b fresh
present_same c xs ys b true sized are_xs are_ys same = ap (zeros_or b) same
present_same c xs ys b false sized are_xs are_ys same = ap (λ (x : BodyOf). x.bytes) (body_put c xs b sized are_xs ∙ ap (body_or (c b)) same ∙ sym (body_put c ys b sized are_ys))

-- ---- one sector

are_of : (touched : List Touched) → IsDraft touched → AreBodies (bodies_of touched)
are_of touched is = are_bodies touched is.up is.whole

draft_part : (c : Content) (o : Option Block) (fresh : Bool) (offset : ℕ) (bytes : List ℕ) (touched : List Touched) → HasSizes c → IsDraft touched → IsDraft (touch_part c o fresh offset bytes touched)
draft_part c None fresh offset bytes touched sized is = is
draft_part c (Some b) fresh offset bytes touched sized is = record {
  up = rises_touch 0 touched b fresh (written offset bytes (present c (bodies_of touched) b fresh)) (c b) is.up (omega arith);
  whole = whole_touch touched b fresh (written offset bytes (present c (bodies_of touched) b fresh)) (c b) is.whole (length-written offset bytes (present c (bodies_of touched) b fresh) ∙ present_size c (bodies_of touched) b fresh sized (are_of touched is)) (sized b);
}

part_elsewhere : (c : Content) (o : Option Block) (fresh : Bool) (offset : ℕ) (bytes : List ℕ) (touched : List Touched) (b : Block) → ((a : Block) → o ≡ Some a → same_block b a ≡ false) → body_in (bodies_of (touch_part c o fresh offset bytes touched)) b ≡ body_in (bodies_of touched) b
part_elsewhere c None fresh offset bytes touched b apart = refl
part_elsewhere c (Some a) fresh offset bytes touched b apart =
    let new = written offset bytes (present c (bodies_of touched) a fresh) in
    touched_in touched a b fresh new (c a) ∙ ap (λ (s : Bool). cond s (Some new) (body_in (bodies_of touched) b)) (apart a refl)

part_here : (c : Content) (o : Option Block) (fresh : Bool) (offset : ℕ) (bytes : List ℕ) (touched : List Touched) (b : Block) → o ≡ Some b → body_in (bodies_of (touch_part c o fresh offset bytes touched)) b ≡ Some (written offset bytes (present c (bodies_of touched) b fresh))
part_here c o fresh offset bytes touched b is =
    let new = written offset bytes (present c (bodies_of touched) b fresh) in
    ap (λ (p : Option Block). body_in (bodies_of (touch_part c p fresh offset bytes touched)) b) is
    ∙ touched_in touched b b fresh new (c b)
    ∙ ap (λ (s : Bool). cond s (Some new) (body_in (bodies_of touched) b)) (block_itself b)

-- ---- all sectors

module _ (c : Content) (per : ℕ) (runs : List Run) (fresh at : ℕ) (bytes : List ℕ) (first : ℕ) (touched : List Touched) where
  abbrev after : ℕ → List Touched
  after n = touch_sectors c per runs fresh at bytes first n touched

  draft_after : (n : ℕ) → HasSizes c → IsDraft touched → IsDraft (after n)
  unfolding touch_sectors
  draft_after zero sized is = is
  draft_after (suc n) sized is = draft_part c (block_at per runs Plain (first + n)) (nat_le fresh (first + n)) (offset_in at (first + n)) (bytes_in at (first + n) bytes) (after n) sized (draft_after n sized is)

  elsewhere : (n : ℕ) (b : Block) → ((s : ℕ) (a : Block) → first ≤ s → s < first + n → block_at per runs Plain s ≡ Some a → same_block b a ≡ false) → body_in (bodies_of (after n)) b ≡ body_in (bodies_of touched) b
  unfolding touch_sectors
  elsewhere zero b apart = refl
  elsewhere (suc n) b apart =
      part_elsewhere c (block_at per runs Plain (first + n)) (nat_le fresh (first + n)) (offset_in at (first + n)) (bytes_in at (first + n) bytes) (after n) b (λ a is. apart (first + n) a (omega arith) (omega arith) is)
      ∙ elsewhere n b (λ s a low high is. apart s a low (omega arith) is)

  abbrev body_at : Block → ℕ → List ℕ
  body_at b s = written (offset_in at s) (bytes_in at s bytes) (present c (bodies_of touched) b (nat_le fresh s))

  last_put : (n : ℕ) (b : Block) → HasSizes c → IsDraft touched → HasOwnSectors per runs → block_at per runs Plain (first + n) ≡ Some b → body_in (bodies_of (after (suc n))) b ≡ Some (body_at b (first + n))
  unfolding touch_sectors
  last_put n b sized is own lies =
      part_here c (block_at per runs Plain (first + n)) (nat_le fresh (first + n)) (offset_in at (first + n)) (bytes_in at (first + n) bytes) (after n) b lies
      ∙ ap (λ (l : List ℕ). Some (written (offset_in at (first + n)) (bytes_in at (first + n) bytes) l))
      (present_same c (bodies_of (after n)) (bodies_of touched) b (nat_le fresh (first + n)) sized (are_of (after n) (draft_after n sized is)) (are_of touched is)
      (elsewhere n b (λ s a low high there. own (first + n) s b a (λ e. absurd (omega (arith, e, high))) lies there)))

  sector_put : (n s : ℕ) (b : Block) → HasSizes c → IsDraft touched → HasOwnSectors per runs → first ≤ s → s < first + n → block_at per runs Plain s ≡ Some b → body_in (bodies_of (after n)) b ≡ Some (body_at b s)
  unfolding touch_sectors
  sector_put zero s b sized is own low high lies = absurd (omega (arith, low, high))
  sector_put (suc n) s b sized is own low high lies = elim (cases_lt s (first + n)) [
    | inl less ↦
        part_elsewhere c (block_at per runs Plain (first + n)) (nat_le fresh (first + n)) (offset_in at (first + n)) (bytes_in at (first + n) bytes) (after n) b (λ a there. own s (first + n) b a (λ e. absurd (omega (arith, e, less))) lies there)
        ∙ sector_put n s b sized is own low less lies
    | inr ge ↦
        (let same : s ≡ first + n = omega (arith, ge, high) in
        subst (λ (t : ℕ). body_in (bodies_of (after (suc n))) b ≡ Some (body_at b t)) (sym same) (last_put n b sized is own (sym (ap (block_at per runs Plain) same) ∙ lies)))
  ]

-- ---- bytes

-- where the bytes that fall into a sector stand among all
length_in : (at s : ℕ) (bytes : List ℕ) → length (bytes_in at s bytes) ≡ min (512 - (at - 512 * s)) (length bytes - (512 * s - at))
length_in at s bytes = length-take (512 - (at - 512 * s)) (drop (512 * s - at) bytes) ∙ ap (min (512 - (at - 512 * s))) (length-drop (512 * s - at) bytes)

byte_in : (at s j : ℕ) (bytes : List ℕ) → j < 512 - (at - 512 * s) → get_or (bytes_in at s bytes) j 0 ≡ get_or bytes (512 * s - at + j) 0
byte_in at s j bytes lt = get_or-take (512 - (at - 512 * s)) (drop (512 * s - at) bytes) j 0 lt ∙ get_or-drop (512 * s - at) bytes j 0

min_above : (a b n : ℕ) → n < a → n < b → n < min a b
min_above a b n l m = omega (arith, l, m)

-- a byte that falls there
byte_inside : (at s j : ℕ) (bytes old : List ℕ) → length old ≡ 512 → j < 512 → at ≤ 512 * s + j → 512 * s + j < at + length bytes → slice_index (written (at - 512 * s) (bytes_in at s bytes) old) j ≡ slice_index bytes (512 * s + j - at)
byte_inside at s j bytes old size short low high =
    let k = j - (at - 512 * s) in
    let room : k < 512 - (at - 512 * s) = omega (arith, short, low) in
    let left : k < length bytes - (512 * s - at) = omega (arith, low, high) in
    let long : k < length (bytes_in at s bytes) = subst (λ (n : ℕ). k < n) (sym (length_in at s bytes)) (min_above (512 - (at - 512 * s)) (length bytes - (512 * s - at)) k room left) in
    let place : j ≡ (at - 512 * s) + k = omega (arith, low) in
    let among : 512 * s - at + k ≡ 512 * s + j - at = omega (arith, low) in
    written_within (at - 512 * s) (bytes_in at s bytes) old j k 0 place long (omega (arith, short, size))
    ∙ byte_in at s k bytes room
    ∙ ap (λ (i : ℕ). get_or bytes i 0) among

min_below : (a b n : ℕ) → b ≤ n → min a b ≤ n
min_below a b n l = omega (arith, l)

byte_beside : (at s j : ℕ) (bytes old : List ℕ) → (512 * s + j < at) ⊎ (at + length bytes ≤ 512 * s + j) → slice_index (written (at - 512 * s) (bytes_in at s bytes) old) j ≡ slice_index old j
byte_beside at s j bytes old (inl before) = written_before (at - 512 * s) (bytes_in at s bytes) old j 0 (omega (arith, before))
byte_beside at s j bytes old (inr behind) = elim (cases_lt at (512 * s)) [
  | inl less ↦
      (let count : length (bytes_in at s bytes) ≤ length bytes - (512 * s - at) = subst (λ (n : ℕ). n ≤ length bytes - (512 * s - at)) (sym (length_in at s bytes)) (min_below (512 - (at - 512 * s)) (length bytes - (512 * s - at)) (length bytes - (512 * s - at)) (omega arith)) in
      written_behind (at - 512 * s) (bytes_in at s bytes) old j 0 (omega (arith, behind, less, count)))
  | inr ge ↦
      (let count : length (bytes_in at s bytes) ≤ length bytes - (512 * s - at) = subst (λ (n : ℕ). n ≤ length bytes - (512 * s - at)) (sym (length_in at s bytes)) (min_below (512 - (at - 512 * s)) (length bytes - (512 * s - at)) (length bytes - (512 * s - at)) (omega arith)) in
      written_behind (at - 512 * s) (bytes_in at s bytes) old j 0 (omega (arith, behind, ge, count)))
]

-- ---- the law

plain_size : (per : ℕ) (runs : List Run) (s : ℕ) (b : Block) (n : ℕ) → block_at per runs Plain s ≡ Some b → n ≡ 512 * sectors b.kind → n ≡ 512
plain_size per runs s b n lies size = size ∙ ap (λ k. 512 * sectors k) (kind-block_at per runs Plain s b (sym lies))

within : (at n i : ℕ) → at ≤ i → i < at + n → i / 512 < at / 512 + ((at + n + 511) / 512 - at / 512)
within at n i low high = omega (arith, low, high)

count_some : (at n : ℕ) → 0 < n → sector_count at n ≡ (at + n + 511) / 512 - at / 512
count_some at n some = ap (λ (t : Bool). cond t 0 ((at + n + 511) / 512 - at / 512)) (ne_eqb n 0 (λ is. absurd (omega (arith, some, is))))

counted : (at n i : ℕ) → at ≤ i → i < at + n → i / 512 < first_sector at + sector_count at n
counted at n i low high = subst (λ (k : ℕ). i / 512 < at / 512 + k) (sym (count_some at n (omega (arith, low, high)))) (within at n i low high)

joined : (i : ℕ) → 512 * (i / 512) + i % 512 ≡ i
joined i = omega arith

pub effects : BytesArePut
effects = record {
  inside = λ c per runs fresh at i bytes touched b sized up whole own lies low high.
      (let s = i / 512 in
      let j = i % 512 in
      let is : IsDraft touched = record { up = up; whole = whole } in
      let old = present c (bodies_of touched) b (nat_le fresh s) in
      let size : length old ≡ 512 = plain_size per runs s b (length old) lies (present_size c (bodies_of touched) b (nat_le fresh s) sized (are_of touched is)) in
      let here = joined i in (
        written (offset_in at s) (bytes_in at s bytes) old,
        (
          sector_put c per runs fresh at bytes (first_sector at) touched (sector_count at (length bytes)) s b sized is own (omega (arith, low)) (counted at (length bytes) i low high) lies,
          byte_inside at s j bytes old size (omega arith) (omega (arith, low, here)) (omega (arith, high, here)) ∙ ap (λ (k : ℕ). get_or bytes (k - at) 0) here,
        ),
      ));
  beside = λ c per runs fresh at i bytes touched b sized up whole own lies low high where_.
      (let s = i / 512 in
      let j = i % 512 in
      let is : IsDraft touched = record { up = up; whole = whole } in
      let old = present c (bodies_of touched) b (nat_le fresh s) in (
        written (offset_in at s) (bytes_in at s bytes) old,
        (
          sector_put c per runs fresh at bytes (first_sector at) touched (sector_count at (length bytes)) s b sized is own low high lies,
          byte_beside at s j bytes old (subst (λ (k : ℕ). (k < at) ⊎ (at + length bytes ≤ k)) (sym (joined i)) where_),
        ),
      ));
  others = λ c per runs fresh at bytes touched b apart. elsewhere c per runs fresh at bytes (first_sector at) touched (sector_count at (length bytes)) b apart;
  order = λ c per runs fresh at bytes touched sized up whole. (draft_after c per runs fresh at bytes (first_sector at) touched (sector_count at (length bytes)) sized (record { up = up; whole = whole })).up;
  sizes = λ c per runs fresh at bytes touched sized up whole. (draft_after c per runs fresh at bytes (first_sector at) touched (sector_count at (length bytes)) sized (record { up = up; whole = whole })).whole;
}
