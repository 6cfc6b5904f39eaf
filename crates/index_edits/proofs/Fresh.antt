-- Blocks of an index that are put are such an edit.
use Rattle.std.proofs.Common.{◌≡◌, ◌⊎◌, ℕ, zero, suc, ◌+◌, ◌<◌, ◌≤◌, Bool, true, false, cond, List, [], length, Option, Some, None, refl, sym, ap, ◌∙◌, inl, inr, arith}
use Rattle.std.proofs.lemmas.Bool.{cases_lt, cases_eq, false_from_ne_true}
use Rattle.disk_model.specs.declared.block.Block.{Block}
use Rattle.disk_model.specs.declared.block.BlockKind.TheVariants.{Index}
use Rattle.disk_model.specs.Bodies.{BodyOf}
use Rattle.disk_model.specs.Content.{Content, HasSizes}
use Rattle.disk_model.specs.Sectors.{overlap, same_block}
use Rattle.disk_model.proofs.Frames.{same_block-is}
use Rattle.state_model.specs.declared.stream.Extents.{Extents}
use Rattle.state_model.specs.Streams.{block_at}
use Rattle.stream_map.proofs.Reading.{kind-block_at}
use Rattle.plan_draft.specs.declared.touched.Touched.{Touched}
use Rattle.plan_draft.specs.Touching.{bodies_of, touch}
use Rattle.plan_draft.specs.Drafts.{drafted}
use Rattle.plan_draft.proofs.Puts.{bodies_touch}
use Rattle.plan_draft.proofs.Same.{one_in_order}
use Rattle.plan_draft.proofs.Touching.{are_bodies}
use Rattle.plan_bodies.specs.Bodies.{NewBody, body_in, body_or}
use Rattle.plan_bodies.proofs.Putting.{block_itself, body_put}
use Rattle.stream_laws.specs.Places.{AreOnce}
use Rattle.stream_laws.proofs.Changing.{itself}
use Rattle.stream_laws.proofs.Placing.{one_place}
use Rattle.draft_bits.specs.Effects.{IsKept}
use Rattle.draft_records.specs.Records.{touch_if}
use Rattle.draft_indexes.specs.Growing.{with_block, with_blocks}
use Rattle.draft_indexes.proofs.Empty.{kind_of_size}
use Rattle.plan_blocks.specs.plan_edits.Puts.{PutsBlocks}
use Rattle.plan_blocks.proofs.plan_edits.Putting.{Goes, goes_behind, touches, each_turned, same_some}

-- one of so many blocks from this one on
abbrev pub IsBlockFrom : ℕ → Extents → ℕ → ℕ → Block → Type 0
IsBlockFrom per e first n b = (m : ℕ) × ((first ≤ m) × ((m < first + n) × (block_at per e.runs Index m ≡ Some b)))

-- the same edit, said of more blocks and of fewer
pub puts_turned : (among more puts fewer : Block → Type 0) (old new : List Touched) → ((b : Block) → among b → more b) → ((b : Block) → fewer b → puts b) → PutsBlocks among puts old new → PutsBlocks more fewer old new
puts_turned among more puts fewer old new turn less is = record {
  bodies = is.bodies;
  whole = is.whole;
  each = each_turned among more is.bodies turn is.each;
  put = λ b some. is.put b (less b some);
  same = is.same;
}

turned : (among more puts fewer : Block → Type 0) (old new : List Touched) → ((b : Block) → among b → more b) → ((b : Block) → fewer b → puts b) → Goes among puts old new → Goes more fewer old new
turned among more puts fewer old new turn less is = record { blocks = puts_turned among more puts fewer old new turn less is.blocks; kept = is.kept }

nothing_goes : (among puts : Block → Type 0) (old : List Touched) → ((b : Block) → puts b → ⊥) → IsKept old → Goes among puts old old
nothing_goes among puts old none kept = record {
  blocks = record { bodies = []; whole = record { whole = tt; own = tt }; each = tt; put = λ b some. absurd (none b some); same = λ b. refl };
  kept = kept;
}

block_goes : (c : Content) (among : Block → Type 0) (o : Option Block) (bytes : List ℕ) (old : List Touched) → HasSizes c → length bytes ≡ 4096 → ((b : Block) → o ≡ Some b → b.kind ≡ Index) → ((b : Block) → o ≡ Some b → among b) → IsKept old → Goes among (λ b. o ≡ Some b) old (touch_if c o true bytes old)
block_goes c among None bytes old sized long kind is kept = nothing_goes among (λ b. None ≡ Some b) old (λ b clash. absurd cc) kept
block_goes c among (Some a) bytes old sized long kind is kept =
    turned among among (λ b. a ≡ b) (λ b. Some a ≡ Some b) old (touch a true bytes (c a) old) (λ b x. x) (λ b same. same_some a b same)
    (touches among old a true bytes (c a) (is a refl) (kind_of_size (length bytes) a.kind (kind a refl) long) (sized a) kept)

pub blocks_go : (c : Content) (per : ℕ) (e : Extents) (body : List ℕ) (first n : ℕ) (old : List Touched) → HasSizes c → length body ≡ 4096 → IsKept old → Goes (IsBlockFrom per e first n) (IsBlockFrom per e first n) old (with_blocks c per e body first n old)
unfolding with_blocks
blocks_go c per e body first zero old sized long kept = nothing_goes (IsBlockFrom per e first 0) (IsBlockFrom per e first 0) old (λ b is. (let low = is.1.0 in let high = is.1.1.0 in omega (arith, low, high))) kept
blocks_go c per e body first (suc n) old sized long kept =
    let all : Block → Type 0 = IsBlockFrom per e first (suc n) in
    let before = blocks_go c per e body first n old sized long kept in
    let mid : List Touched = with_blocks c per e body first n old in
    goes_behind all (IsBlockFrom per e first n) (λ b. block_at per e.runs Index (first + n) ≡ Some b) all old mid (touch_if c (block_at per e.runs Index (first + n)) true body mid)
    (λ b is. elim (cases_lt is.0 (first + n)) [
      | inl less ↦ inl (is.0, (is.1.0, (less, is.1.1.1)))
      | inr ge ↦ (let top = is.1.1.0 in let same : is.0 ≡ first + n = omega (arith, ge, top) in inr (sym (ap (block_at per e.runs Index) same) ∙ is.1.1.1))
    ])
    (turned (IsBlockFrom per e first n) all (IsBlockFrom per e first n) (IsBlockFrom per e first n) old mid (λ b is. (is.0, (is.1.0, (let top = is.1.1.0 in omega (arith, top), is.1.1.1)))) (λ b is. is) before)
    (block_goes c all (block_at per e.runs Index (first + n)) body mid sized long (λ b lies. kind-block_at per e.runs Index (first + n) b (sym lies)) (λ b lies. (first + n, (omega arith, (omega arith, lies)))) before.kept)

-- one block with a body of its own, and others behind it
pub level_goes : (c : Content) (per : ℕ) (e : Extents) (node body : List ℕ) (first n : ℕ) (old : List Touched) → HasSizes c → length node ≡ 4096 → length body ≡ 4096 → IsKept old
    → Goes (IsBlockFrom per e first (suc n)) (IsBlockFrom per e first (suc n)) old (with_blocks c per e body (first + 1) n (with_block c per e node first old))
level_goes c per e node body first n old sized long others_long kept =
    let all : Block → Type 0 = IsBlockFrom per e first (suc n) in
    let mid : List Touched = with_block c per e node first old in
    let one = block_goes c all (block_at per e.runs Index first) node old sized long (λ b lies. kind-block_at per e.runs Index first b (sym lies)) (λ b lies. (first, (omega arith, (omega arith, lies)))) kept in
    let rest = blocks_go c per e body (first + 1) n mid sized others_long one.kept in
    goes_behind all (λ b. block_at per e.runs Index first ≡ Some b) (IsBlockFrom per e (first + 1) n) all old mid (with_blocks c per e body (first + 1) n mid)
    (λ b is. elim (cases_eq is.0 first) [
      | inl here ↦ inl (sym (ap (block_at per e.runs Index) here) ∙ is.1.1.1)
      | inr past ↦ (let low = is.1.0 in let top = is.1.1.0 in inr (is.0, (omega (arith, low, past), (omega (arith, top), is.1.1.1))))
    ])
    one
    (turned (IsBlockFrom per e (first + 1) n) all (IsBlockFrom per e (first + 1) n) (IsBlockFrom per e (first + 1) n) mid (with_blocks c per e body (first + 1) n mid) (λ b is. (let low = is.1.0 in let top = is.1.1.0 in (is.0, (omega (arith, low), (omega (arith, top), is.1.1.1))))) (λ b is. is) rest)

-- ---- which body a block has then

after_touch : (touched : List Touched) (a b : Block) (fresh : Bool) (bytes : List ℕ) (old : BodyOf) → body_in (bodies_of (touch a fresh bytes old touched)) b ≡ cond (same_block b a) (Some bytes) (body_in (bodies_of touched) b)
after_touch touched a b fresh bytes old = ap (λ (l : List NewBody). body_in l b) (bodies_touch touched a fresh bytes old) ∙ one_in_order (record { block = a; bytes = bytes }) (bodies_of touched) b

put_there : (c : Content) (o : Option Block) (body : List ℕ) (old : List Touched) (b : Block) → (o ≡ Some b) ⊎ (body_in (bodies_of old) b ≡ Some body) → body_in (bodies_of (touch_if c o true body old)) b ≡ Some body
put_there c None body old b (inl is) = absurd cc
put_there c None body old b (inr here) = here
put_there c (Some a) body old b (inl is) = after_touch old a b true body (c a) ∙ ap (λ (t : Bool). cond t (Some body) (body_in (bodies_of old) b)) (ap (same_block b) (let same : a ≡ b = cc in same) ∙ block_itself b)
put_there c (Some a) body old b (inr here) = after_touch old a b true body (c a) ∙ either (same_block b a)
  where
    either : (t : Bool) → cond t (Some body) (body_in (bodies_of old) b) ≡ Some body
    either true = refl
    either false = here

-- each of so many blocks has the body that is put into all
pub all_put : (c : Content) (per : ℕ) (e : Extents) (body : List ℕ) (first n : ℕ) (old : List Touched) (m : ℕ) (b : Block) → block_at per e.runs Index m ≡ Some b → first ≤ m → m < first + n → body_in (bodies_of (with_blocks c per e body first n old)) b ≡ Some body
unfolding with_blocks
all_put c per e body first zero old m b lies low high = absurd (omega (arith, low, high))
all_put c per e body first (suc n) old m b lies low high =
    let before : List Touched = with_blocks c per e body first n old in
    put_there c (block_at per e.runs Index (first + n)) body before b
    (elim (cases_eq m (first + n)) [
      | inl is ↦ inl (sym (ap (block_at per e.runs Index) is) ∙ lies)
      | inr other ↦ inr (all_put c per e body first n old m b lies low (omega (arith, low, high, other)))
    ])

left_there : (c : Content) (o : Option Block) (body : List ℕ) (old : List Touched) (b : Block) → ((x : Block) → o ≡ Some x → same_block b x ≡ false) → body_in (bodies_of (touch_if c o true body old)) b ≡ body_in (bodies_of old) b
left_there c None body old b apart = refl
left_there c (Some a) body old b apart = after_touch old a b true body (c a) ∙ ap (λ (t : Bool). cond t (Some body) (body_in (bodies_of old) b)) (apart a refl)

-- a block before them has the body that it had
all_left : (c : Content) (per : ℕ) (e : Extents) (body : List ℕ) (first n : ℕ) (old : List Touched) (b : Block) → ((m : ℕ) (x : Block) → first ≤ m → block_at per e.runs Index m ≡ Some x → same_block b x ≡ false) → body_in (bodies_of (with_blocks c per e body first n old)) b ≡ body_in (bodies_of old) b
unfolding with_blocks
all_left c per e body first zero old b apart = refl
all_left c per e body first (suc n) old b apart =
    left_there c (block_at per e.runs Index (first + n)) body (with_blocks c per e body first n old) b (λ x lies. apart (first + n) x (omega arith) lies) ∙ all_left c per e body first n old b apart

pub one_put : (c : Content) (per : ℕ) (e : Extents) (node body : List ℕ) (first n : ℕ) (old : List Touched) (b : Block) → 0 < per → AreOnce e.runs → block_at per e.runs Index first ≡ Some b → body_in (bodies_of (with_blocks c per e body (first + 1) n (with_block c per e node first old))) b ≡ Some node
one_put c per e node body first n old b some once lies =
    all_left c per e body (first + 1) n (with_block c per e node first old) b apart ∙ put_there c (block_at per e.runs Index first) node old b (inl lies)
  where
    apart : (m : ℕ) (x : Block) → first + 1 ≤ m → block_at per e.runs Index m ≡ Some x → same_block b x ≡ false
    apart m x past there = false_from_ne_true (same_block b x) (λ same.
        let both : overlap b x ≡ true = ap (overlap b) (sym (same_block-is b x same)) ∙ itself b in
        let number : first ≡ m = one_place per e.runs Index first m b x some once lies there both in
        omega (arith, past, number))

-- a body that was put is there, whole
pub body_there : (c : Content) (touched : List Touched) (b : Block) (bytes : List ℕ) → HasSizes c → IsKept touched → body_in (bodies_of touched) b ≡ Some bytes → drafted touched c b ≡ record { bytes = bytes; torn = false }
body_there c touched b bytes sized kept put = body_put c (bodies_of touched) b sized (are_bodies touched kept.rises kept.whole) ∙ ap (body_or (c b)) put
