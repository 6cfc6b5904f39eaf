-- The bytes of a stream in clusters, sector by sector.
use Rattle.std.proofs.Common.{◌≡◌, ℕ, zero, suc, ◌+◌, ◌*◌, ◌-◌, ◌/◌, ◌%◌, ◌<◌, ◌≤◌, min, Bool, cond, List, ◌∷◌, ◌++◌, length, get_or, take, drop, map, Option, Some, None, Result, Ok, Err, refl, sym, ap, subst, ◌∙◌, inl, inr, arith}
use Rattle.std.specs.Prelude.{IfSome, OnOk, option_map}
use Rattle.std.specs.List.{range_with_len}
use Rattle.std.proofs.Math.Seq.{drop-cons}
use Rattle.std.proofs.lemmas.Bool.{cases_lt, lt-ltb, le-ltb}
use Rattle.std.proofs.lemmas.List.{get_or-replicate, get_or_past, length-drop, drop_all}
use Rattle.std.proofs.lemmas.List.FromFn.{length-map-range_with_len, take-map-range_with_len}
use Rattle.std.proofs.lemmas.Slice.{take-put_mid}
use borrow.Rule.Slice.PartMut.{put_mid}
use Rattle.disk_model.specs.declared.block.Block.{Block}
use Rattle.disk_model.specs.declared.block.BlockKind.{BlockKind}
use Rattle.disk_model.specs.declared.block.BlockKind.TheVariants.{Plain}
use Rattle.disk_model.specs.Bytes.{zeros}
use Rattle.disk_model.specs.Sectors.{sectors, zero_sector}
use Rattle.disk_model.specs.Content.{Content, HasSizes}
use Rattle.record_model.specs.declared.runs.Run.{Run}
use Rattle.state_model.specs.declared.stream.Extents.{Extents}
use Rattle.state_model.specs.Streams.{block_at, sector_bytes, sector_in, byte_at, extent_bytes}
use Rattle.stream_map.specs.Reads.{placed_byte, placed_bytes}
use Rattle.stream_map.proofs.Ranges.{range-split, same_map, zero_map, drop-map-range}
use Rattle.stream_map.proofs.Padding.{padded, take-padded}

-- ---- one sector

-- bytes of a sector, by their places in the stream
sector_part : (at : ℕ → List ℕ) (s h n place : ℕ) → length (at s) ≡ 512 → place ≡ 512 * s + h → h + n ≤ 512 → take n (drop h (at s)) ≡ map (λ i. get_or (at (i / 512)) (i % 512) 0) (range_with_len place n)
sector_part at s h zero place size is le = refl
sector_part at s h (suc n) place size is le =
    let sector : s ≡ place / 512 = omega arith in
    let byte : h ≡ place % 512 = omega arith in
    let first : get_or (at s) h 0 ≡ get_or (at (place / 512)) (place % 512) 0 = ap (λ (k : ℕ). get_or (at k) h 0) sector ∙ ap (λ (k : ℕ). get_or (at (place / 512)) k 0) byte in
    ap (take (suc n)) (drop-cons (at s) h 0 (omega arith))
    ∙ ap (λ (x : ℕ). x ∷ take n (drop (suc h) (at s))) first
    ∙ ap (λ (l : List ℕ). get_or (at (place / 512)) (place % 512) 0 ∷ l) (sector_part at s (suc h) n (place + 1) size (omega arith) (omega arith))

mapped_kind : (kind : BlockKind) (first : ℕ → ℕ) (lcn : Option ℕ) (b : Block) → Some b ≡ option_map (λ n. record { first = first n; kind = kind }) lcn → b.kind ≡ kind
mapped_kind kind first None b is = cc
mapped_kind kind first (Some n) b is =
    let block : Block = record { first = first n; kind = kind } in
    let same : b ≡ block = cc in
    ap (λ (x : Block). x.kind) same

-- a block has the kind that was asked for
pub kind-block_at : (per : ℕ) (runs : List Run) (kind : BlockKind) (n : ℕ) (b : Block) → Some b ≡ block_at per runs kind n → b.kind ≡ kind
unfolding block_at
kind-block_at per runs kind n b is = mapped_kind kind _ _ b is

-- bytes of a block's sector
block_part : (c : Content) (per : ℕ) (runs : List Run) (at n : ℕ) (b : Block) → HasSizes c → Some b ≡ block_at per runs Plain (at / 512) → at % 512 + n ≤ 512 → take n (drop (at % 512) (c b).bytes) ≡ placed_bytes c per runs at n
block_part c per runs at n b sizes is le =
    let bytes : (c b).bytes ≡ sector_in c per runs (at / 512) = ap (sector_bytes c) is in
    let size : length (c b).bytes ≡ 512 = sizes b ∙ ap (λ (k : BlockKind). 512 * sectors k) (kind-block_at per runs Plain (at / 512) b is) in
    ap (λ (l : List ℕ). take n (drop (at % 512) l)) bytes
    ∙ sector_part (sector_in c per runs) (at / 512) (at % 512) n at (sym (ap length bytes) ∙ size) (omega arith) le

-- a byte of a sector of zeros
zero_at : (k : ℕ) → get_or zero_sector k 0 ≡ 0
unfolding zero_sector
zero_at k = elim (cases_lt k 512) [ inl within ↦ get_or-replicate 512 k 0 0 within | inr past ↦ get_or_past zero_sector k 0 past ]

-- bytes of a sector that lies nowhere
no_part : (c : Content) (per : ℕ) (runs : List Run) (at n : ℕ) → None ≡ block_at per runs Plain (at / 512) → at % 512 + n ≤ 512 → placed_bytes c per runs at n ≡ zeros n
no_part c per runs at n is le =
    zero_map (placed_byte c per runs) at n (λ i low high.
    let sector : i / 512 ≡ at / 512 = omega arith in
    ap (λ (s : ℕ). get_or (sector_in c per runs s) (i % 512) 0) sector
    ∙ ap (λ (o : Option Block). get_or (sector_bytes c o) (i % 512) 0) (sym is)
    ∙ zero_at (i % 512))

pub block_filled : {A E : Type 0} (known : Option Content) (answer : Result A E) (per : ℕ) (runs : List Run) (at n : ℕ) (b : Block) (out : List ℕ) → IfSome known HasSizes → Some b ≡ block_at per runs Plain (at / 512) → at % 512 + n ≤ 512 → IfSome known (λ c. OnOk answer (out ≡ take n (drop (at % 512) (c b).bytes))) → IfSome known (λ c. OnOk answer (out ≡ placed_bytes c per runs at n))
block_filled None answer per runs at n b out sizes is le read = tt
block_filled (Some c) (Err e) per runs at n b out sizes is le read = tt
block_filled (Some c) (Ok x) per runs at n b out sizes is le read = read ∙ block_part c per runs at n b sizes is le

pub nothing_filled : (known : Option Content) (per : ℕ) (runs : List Run) (at n : ℕ) (out : List ℕ) → None ≡ block_at per runs Plain (at / 512) → at % 512 + n ≤ 512 → out ≡ zeros n → IfSome known (λ c. out ≡ placed_bytes c per runs at n)
nothing_filled None per runs at n out is le clear = tt
nothing_filled (Some c) per runs at n out is le clear = clear ∙ sym (no_part c per runs at n is le)

-- ---- one sector behind the other

next_part : (c : Content) (per : ℕ) (runs : List Run) (at done k count m : ℕ) (out ys : List ℕ) → take done out ≡ placed_bytes c per runs at done → ys ≡ placed_bytes c per runs (at + done) m → done ≤ length out → length ys ≡ k → take (done + k) (put_mid done count out ys) ≡ placed_bytes c per runs at (done + k)
next_part c per runs at done k count m out ys so_far part le size =
    let same : m ≡ k = sym (length-map-range_with_len (placed_byte c per runs) (at + done) m) ∙ sym (ap length part) ∙ size in
    take-put_mid done count out ys (done + k) (omega arith) le
    ∙ ap (λ (l : List ℕ). l ++ ys) so_far
    ∙ ap (λ (l : List ℕ). placed_bytes c per runs at done ++ l) (part ∙ ap (placed_bytes c per runs (at + done)) same)
    ∙ sym (range-split (placed_byte c per runs) at done k (done + k) refl)

pub next_filled : (known now : Option Content) (per : ℕ) (runs : List Run) (at done k count m : ℕ) (out ys : List ℕ) → now ≡ known → IfSome known (λ c. take done out ≡ placed_bytes c per runs at done) → IfSome now (λ c. ys ≡ placed_bytes c per runs (at + done) m) → done ≤ length out → length ys ≡ k → IfSome known (λ c. take (done + k) (put_mid done count out ys) ≡ placed_bytes c per runs at (done + k))
next_filled None now per runs at done k count m out ys same so_far part le size = tt
next_filled (Some c) now per runs at done k count m out ys same so_far part le size =
    next_part c per runs at done k count m out ys so_far (subst (λ (o : Option Content). IfSome o (λ d. ys ≡ placed_bytes d per runs (at + done) m)) same part) le size

-- ---- up to the initialised size

byte_below : (c : Content) (per : ℕ) (e : Extents) (i : ℕ) → i < e.initialised → byte_at c per e i ≡ placed_byte c per e.runs i
unfolding byte_at
byte_below c per e i below = ap (λ (t : Bool). cond t (placed_byte c per e.runs i) 0) (lt-ltb i e.initialised below)

byte_past : (c : Content) (per : ℕ) (e : Extents) (i : ℕ) → e.initialised ≤ i → byte_at c per e i ≡ 0
unfolding byte_at
byte_past c per e i past = ap (λ (t : Bool). cond t (placed_byte c per e.runs i) 0) (le-ltb i e.initialised past)

cut_bytes : (c : Content) (per : ℕ) (e : Extents) (at n b : ℕ) → b ≡ min (e.initialised - at) n → placed_bytes c per e.runs at b ++ zeros (n - b) ≡ map (byte_at c per e) (range_with_len at n)
cut_bytes c per e at n b is =
    let f = byte_at c per e in
    ap (λ (l : List ℕ). l ++ zeros (n - b)) (same_map (placed_byte c per e.runs) f at b (λ i low high. sym (byte_below c per e i (omega arith))))
    ∙ ap (λ (l : List ℕ). map f (range_with_len at b) ++ l) (sym (zero_map f (at + b) (n - b) (λ i low high. byte_past c per e i (omega arith))))
    ∙ sym (range-split f at b (n - b) n (omega arith))

cut_filled : (c : Content) (per : ℕ) (e : Extents) (at n b m : ℕ) (ys new : List ℕ) → ys ≡ placed_bytes c per e.runs at m → b ≡ min (e.initialised - at) n → length ys ≡ b → new ≡ ys ++ zeros (n - b) → new ≡ map (byte_at c per e) (range_with_len at n)
cut_filled c per e at n b m ys new part is size all =
    let same : m ≡ b = sym (length-map-range_with_len (placed_byte c per e.runs) at m) ∙ sym (ap length part) ∙ size in
    all ∙ ap (λ (l : List ℕ). l ++ zeros (n - b)) (part ∙ ap (placed_bytes c per e.runs at) same) ∙ cut_bytes c per e at n b is

pub all_filled : (known : Option Content) (per : ℕ) (e : Extents) (runs : List Run) (at n b m : ℕ) (out ys new : List ℕ) → runs ≡ e.runs → IfSome known (λ c. ys ≡ placed_bytes c per runs at m) → b ≡ min (e.initialised - at) n → length ys ≡ b → length out ≡ n → new ≡ take b (ys ++ drop b out) ++ zeros (length (ys ++ drop b out) - b) → IfSome known (λ c. new ≡ map (byte_at c per e) (range_with_len at n))
all_filled None per e runs at n b m out ys new same part is size count all = tt
all_filled (Some c) per e runs at n b m out ys new same part is size count all =
    cut_filled c per e at n b m ys new (part ∙ ap (λ (r : List Run). placed_bytes c per r at m) same) is size (padded b n ys out new size count (omega arith) all)

-- ---- the front of a stream

front_bytes : (c : Content) (per : ℕ) (e : Extents) (at n b m : ℕ) (ys new : List ℕ) → ys ≡ map (byte_at c per e) (range_with_len at m) → b ≡ min (e.real - at) n → length ys ≡ b → new ≡ ys ++ zeros (n - b) → new ≡ take n (drop at (extent_bytes c per e) ++ zeros n)
unfolding extent_bytes
front_bytes c per e at n b m ys new part is size all =
    let f = byte_at c per e in
    let same : m ≡ b = sym (length-map-range_with_len f at m) ∙ sym (ap length part) ∙ size in
    let rest = map f (range_with_len at (e.real - at)) in
    let whole : length rest ≡ e.real - at = length-map-range_with_len f at (e.real - at) in
    all
    ∙ ap (λ (l : List ℕ). l ++ zeros (n - b)) (part ∙ ap (λ (k : ℕ). map f (range_with_len at k)) same ∙ sym (take-map-range_with_len f at (e.real - at) b (omega arith)))
    ∙ sym (take-padded rest n b (omega (arith, whole)))
    ∙ ap (λ (l : List ℕ). take n (l ++ zeros n)) (sym (drop-map-range f at e.real))

pub front_filled : (known : Option Content) (per : ℕ) (e : Extents) (at n b m : ℕ) (out ys new : List ℕ) → IfSome known (λ c. ys ≡ map (byte_at c per e) (range_with_len at m)) → b ≡ min (e.real - at) n → length ys ≡ b → length out ≡ n → new ≡ take b (ys ++ drop b out) ++ zeros (length (ys ++ drop b out) - b) → IfSome known (λ c. new ≡ take n (drop at (extent_bytes c per e) ++ zeros n))
front_filled None per e at n b m out ys new part is size count all = tt
front_filled (Some c) per e at n b m out ys new part is size count all =
    front_bytes c per e at n b m ys new part is size (padded b n ys out new size count (omega arith) all)

pub front_copied : (value : List ℕ) (at n b from m : ℕ) (out ys new : List ℕ) → ys ≡ take m (drop from value) → b ≡ min (length value - at) n → from ≡ min at (length value) → m ≡ b → length ys ≡ b → length out ≡ n → new ≡ take b (ys ++ drop b out) ++ zeros (length (ys ++ drop b out) - b) → new ≡ take n (drop at value ++ zeros n)
front_copied value at n b from m out ys new part is from_is same size count all =
    let dropped : drop from value ≡ drop at value = elim (cases_lt at (length value)) [
      | inl within ↦ let e : from ≡ at = omega arith in ap (λ (k : ℕ). drop k value) e
      | inr past ↦ drop_all from value (omega arith) ∙ sym (drop_all at value past)
    ] in
    padded b n ys out new size count (omega arith) all
    ∙ ap (λ (l : List ℕ). l ++ zeros (n - b)) (part ∙ ap (λ (k : ℕ). take k (drop from value)) same ∙ ap (take b) dropped)
    ∙ sym (take-padded (drop at value) n b (omega (arith, length-drop at value)))
