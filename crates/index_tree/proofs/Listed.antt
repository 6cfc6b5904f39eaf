-- The list that the blocks of an allocation are, with those behind them.
use Rattle.std.proofs.Common.{◌≡◌, ℕ, zero, suc, ◌+◌, ◌-◌, ◌*◌, ◌<◌, ◌≤◌, true, List, [], ◌∷◌, ◌++◌, map, length, Some, refl, sym, ap, ◌∙◌, arith}
use Rattle.std.specs.Prelude.{slice_get}
use Rattle.std.specs.List.{range_with_len}
use Rattle.std.proofs.Common.{length-append}
use Rattle.std.proofs.lemmas.Bool.Decides.{nat_tests}
use Rattle.std.proofs.lemmas.Option.{slice_get-get_or}
use Rattle.std.proofs.lemmas.List.FromFn.{length-map-range_with_len, get_or-map-range_with_len}
use Rattle.stream_map.specs.disk_model.declared.block.Block.{Block}
use Rattle.stream_map.specs.state_model.declared.stream.Extents.{Extents}
use Rattle.stream_map.specs.state_model.Loads.{no_extents}
use Rattle.stream_map.specs.state_model.Streams.{block_at}
use Rattle.stream_map.specs.disk_model.declared.block.BlockKind.TheVariants.{Index}
use Rattle.volume_model.specs.Indexes.{void_block, or_void, index_block, block_count, blocks_of}
use Rattle.index_tree.specs.Allocations.{IsCounted}

-- an element of two lists, one behind the other
in_front : {A : Type 0} (xs ys : List A) (n : ℕ) → n < length xs → slice_get (xs ++ ys) n ≡ slice_get xs n
in_front [] ys n lt = absurd (omega arith)
in_front (x ∷ xs) ys zero lt = refl
in_front (x ∷ xs) ys (suc n) lt = in_front xs ys n (omega arith)

behind_front : {A : Type 0} (xs ys : List A) (n : ℕ) → length xs ≤ n → slice_get (xs ++ ys) n ≡ slice_get ys (n - length xs)
behind_front [] ys n le = let e : n ≡ n - 0 = omega arith in ap (slice_get ys) e
behind_front (x ∷ xs) ys zero le = absurd (omega arith)
behind_front (x ∷ xs) ys (suc n) le = let e : n - length xs ≡ suc n - suc (length xs) = omega arith in behind_front xs ys n (omega arith) ∙ ap (slice_get ys) e

-- an allocation without bytes has no blocks
pub none_counted : (per : ℕ) (e : Extents) → e.real ≡ 0 → 0 ≡ block_count per e
unfolding block_count
none_counted per e none = omega (arith, none)

pub nothing_counted : (per : ℕ) → IsCounted per no_extents true 0
nothing_counted per = record {
  order = refl;
  counted = none_counted per no_extents refl;
  most = omega arith;
}

pub none_listed : (per : ℕ) (e : Extents) (more : List Block) → e.real ≡ 0 → blocks_of per e ++ more ≡ more
unfolding blocks_of
none_listed per e more none = ap (λ (n : ℕ). map (index_block per e) (range_with_len 0 n) ++ more) (sym (none_counted per e none))

length_listed : (per : ℕ) (e : Extents) → length (blocks_of per e) ≡ block_count per e
unfolding blocks_of
length_listed per e = length-map-range_with_len (index_block per e) 0 (block_count per e)

pub length_of_all : (per : ℕ) (e : Extents) (more : List Block) (count : ℕ) → count ≡ block_count per e → count + length more ≡ length (blocks_of per e ++ more)
length_of_all per e more count is = omega (arith, is, length-append (blocks_of per e) more, length_listed per e)

listed_at : (per : ℕ) (e : Extents) (n : ℕ) → n < block_count per e → slice_get (blocks_of per e) n ≡ Some (index_block per e n)
unfolding blocks_of
listed_at per e n lt =
    let size : length (blocks_of per e) ≡ block_count per e = length_listed per e in
    slice_get-get_or (blocks_of per e) n void_block (omega (arith, size, lt))
    ∙ ap (λ (b : Block). Some b) (get_or-map-range_with_len (index_block per e) 0 (block_count per e) n n void_block lt (omega arith))

-- a block of the allocation, and one behind them
pub block_listed : (per : ℕ) (e : Extents) (more : List Block) (count n : ℕ) → count ≡ block_count per e → n < count → Some (index_block per e n) ≡ slice_get (blocks_of per e ++ more) n
block_listed per e more count n is lt =
    let size : length (blocks_of per e) ≡ block_count per e = length_listed per e in
    sym (in_front (blocks_of per e) more n (omega (arith, size, is, lt)) ∙ listed_at per e n (omega (arith, is, lt)))

pub block_added : (per : ℕ) (e : Extents) (more : List Block) (count n : ℕ) → count ≡ block_count per e → count ≤ n → slice_get more (n - count) ≡ slice_get (blocks_of per e ++ more) n
block_added per e more count n is le =
    let size : length (blocks_of per e) ≡ count = length_listed per e ∙ sym is in
    sym (behind_front (blocks_of per e) more n (omega (arith, size, le)) ∙ ap (λ (k : ℕ). slice_get more (n - k)) size)

-- a block below the initialised size
pub initialised_block : (per : ℕ) (e : Extents) (n : ℕ) → 4096 * n < e.initialised → or_void (block_at per e.runs Index n) ≡ index_block per e n
unfolding index_block
initialised_block per e n lt = grind (arith, nat_tests)
