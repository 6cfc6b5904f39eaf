-- The bodies of the blocks of a new volume.
use Rattle.std.proofs.Common.{◌≡◌, ℕ, zero, suc, ◌+◌, ◌-◌, ◌*◌, ◌/◌, ◌%◌, ◌^◌, ◌<◌, ◌≤◌, Bool, true, false, eqb, List, [], ◌∷◌, ◌++◌, length, take, drop, get_or, slice_index, Ok, inl, inr, refl, sym, ap, ◌∙◌, arith}
use Rattle.std.proofs.lemmas.Bool.{lt-ltb, and_parts, leb-true, ltb-true}
use Rattle.std.proofs.lemmas.List.{append-nil, get_or-take, get_or-drop, get_or-replicate, take_all, take_at}
use Rattle.std.proofs.lemmas.List.FromFn.{get_or-map-range_with_len}
use Rattle.std.specs.Cmp.Lexicographic.{pointwise}
use Rattle.disk_model.specs.declared.block.BlockKind.TheVariants.{Plain, FileRec, Index}
use Rattle.disk_model.specs.Bytes.{zeros, part}
use Rattle.disk_model.specs.Sectors.{sector_of, raw_from}
use Rattle.disk_model.specs.Fixups.{array_at, sector_count, is_in_shape, is_in_array, fixup_of, body_bytes}
use Rattle.disk_model.specs.Content.{content_of, body_of, is_signed, signed_body, whole_or_torn}
use Rattle.disk_model.proofs.Protection.{shape_from, not_in_array}
use Rattle.fixup_record.specs.Protecting.{protected_byte, protected_bytes}
use Rattle.fixup_record.proofs.Protected.{length-protected, undone}
use Rattle.sector_device.specs.Sectors.{sector_in, sectors_of}
use Rattle.sector_device.specs.WholeSectors.{get_or-sectors_of}
use Rattle.sector_device.proofs.SectorParts.{raw_from_is_part}
use Rattle.record_model.specs.Records.{record_spelling}
use Rattle.record_model.specs.Nodes.{node_spelling}
use Rattle.record_model.proofs.RecordSpelling.{spelling_signed, spelling_place}
use Rattle.record_model.proofs.NodeSpelling.{node_signed, node_place, node_count, node_array, length-node_spelling}
use Rattle.volume_format.proofs.record_writer.Again.{read_again}
use Rattle.boot_sector.specs.BootSectors.{boot_spelling}
use Rattle.boot_sector.proofs.Spelling.{length-boot_spelling}
use Rattle.volume_format.specs.declared.layout.Layout.{Layout}
use Rattle.volume_format.specs.Layouts.{IsLayout, layout_of, block_first}
use Rattle.volume_format.specs.Files.{record_of, record_bytes, table_bytes}
use Rattle.volume_format.specs.Indexes.{root_node, block_bytes}
use Rattle.volume_format.specs.Images.{boot_of, boot_bytes, formatted}
use Rattle.format_blocks.specs.Regions.{StandsAt}
use Rattle.format_blocks.specs.Blocks.{block, whole, HasSectors, NewBlocksAreRead}
use Rattle.format_blocks.proofs.Recording.{record_fits}
use Rattle.format_blocks.proofs.Sizing.{node_fits, length-block, length-table, length-boot, record_part}
use Rattle.format_blocks.proofs.Standing.{layout_fits, regions_stand}

-- ---- raw bytes

shifted : (at at' : ℕ → List ℕ) (s k n : ℕ) → ((j : ℕ) → k ≤ j → j < k + n → at (s + j) ≡ at' j) → raw_from at (s + k) n ≡ raw_from at' k n
unfolding raw_from
shifted at at' s k zero same = refl
shifted at at' s k (suc n) same =
    let next : s + k + 1 ≡ s + (k + 1) = omega arith in
    ap (λ (x : List ℕ). x ++ raw_from at (s + k + 1) n) (same k (omega arith) (omega arith))
    ∙ ap (λ (i : ℕ). at' k ++ raw_from at i n) next
    ∙ ap (λ (x : List ℕ). at' k ++ x) (shifted at at' s (k + 1) n (λ j low high. same j (omega arith) (omega arith)))

-- sectors of a region are a part of its bytes
raw_part : (disk : List (List ℕ)) (cluster k n : ℕ) (bytes : List ℕ) → StandsAt disk cluster bytes → 512 * (k + n) ≤ length bytes → raw_from (sector_of disk) (8 * cluster + k) n ≡ part (512 * k) (512 * n) bytes
raw_part disk cluster k n bytes stands inside =
    shifted (sector_of disk) (sector_of (sectors_of bytes)) (8 * cluster) k n (λ j low high.
    stands j (omega arith) ∙ sym (get_or-sectors_of bytes j _ (omega arith)))
    ∙ raw_from_is_part bytes k n inside

-- ---- what was protected

-- the first four bytes say whether bytes are signed
front_four : (xs : List ℕ) → 4 ≤ length xs → take 4 xs ≡ get_or xs 0 0 ∷ get_or xs 1 0 ∷ get_or xs 2 0 ∷ get_or xs 3 0 ∷ []
front_four [] le = absurd (omega arith)
front_four (a ∷ []) le = absurd (omega arith)
front_four (a ∷ b ∷ []) le = absurd (omega arith)
front_four (a ∷ b ∷ c ∷ []) le = absurd (omega arith)
front_four (a ∷ b ∷ c ∷ d ∷ xs) le = refl

same_front : (xs ys : List ℕ) → 4 ≤ length xs → 4 ≤ length ys → ((i : ℕ) → i < 4 → get_or xs i 0 ≡ get_or ys i 0) → take 4 xs ≡ take 4 ys
same_front xs ys long long' same =
    front_four xs long
    ∙ ap (λ (a : ℕ). a ∷ get_or xs 1 0 ∷ get_or xs 2 0 ∷ get_or xs 3 0 ∷ []) (same 0 (omega arith))
    ∙ ap (λ (a : ℕ). get_or ys 0 0 ∷ a ∷ get_or xs 2 0 ∷ get_or xs 3 0 ∷ []) (same 1 (omega arith))
    ∙ ap (λ (a : ℕ). get_or ys 0 0 ∷ get_or ys 1 0 ∷ a ∷ get_or xs 3 0 ∷ []) (same 2 (omega arith))
    ∙ ap (λ (a : ℕ). get_or ys 0 0 ∷ get_or ys 1 0 ∷ get_or ys 2 0 ∷ a ∷ []) (same 3 (omega arith))
    ∙ sym (front_four ys long')

-- the first bytes of a structure whose array lies behind them stay
stays : (bytes : List ℕ) (check i : ℕ) → 4 ≤ length bytes → 4 ≤ array_at bytes → i < 4 → get_or (protected_bytes bytes check) i 0 ≡ get_or bytes i 0
unfolding protected_bytes
stays bytes check i long behind lt =
    let within : i % 512 < 510 = omega arith in
    let away : is_in_array bytes i ≡ false = not_in_array bytes i (inl (omega arith)) in
    get_or-map-range_with_len (protected_byte bytes check) 0 (length bytes) i i 0 (omega arith) (omega arith) ∙ rw (lt-ltb (i % 512) 510 within, away) refl

front_stays : (bytes : List ℕ) (check : ℕ) → 4 ≤ length bytes → 4 ≤ array_at bytes → take 4 (protected_bytes bytes check) ≡ take 4 bytes
front_stays bytes check long behind = same_front (protected_bytes bytes check) bytes (omega (arith, length-protected bytes check)) long (λ i lt. stays bytes check i long behind lt)

record_signed : (bytes : List ℕ) (check : ℕ) → 4 ≤ length bytes → 4 ≤ array_at bytes → is_signed FileRec (protected_bytes bytes check) ≡ is_signed FileRec bytes
record_signed bytes check long behind = ap (λ (front : List ℕ). pointwise eqb (0x46 ∷ 0x49 ∷ 0x4c ∷ 0x45 ∷ []) front) (front_stays bytes check long behind)

node_signed_again : (bytes : List ℕ) (check : ℕ) → 4 ≤ length bytes → 4 ≤ array_at bytes → is_signed Index (protected_bytes bytes check) ≡ is_signed Index bytes
node_signed_again bytes check long behind = ap (λ (front : List ℕ). pointwise eqb (0x49 ∷ 0x4e ∷ 0x44 ∷ 0x58 ∷ []) front) (front_stays bytes check long behind)

signed_whole : (raw bytes : List ℕ) (signed : Bool) (check : ℕ) → signed ≡ true → fixup_of raw ≡ Ok check → body_bytes raw ≡ bytes → signed_body raw signed ≡ whole bytes
signed_whole raw bytes signed check is fixed body = ap (signed_body raw) is ∙ ap (whole_or_torn raw) fixed ∙ ap whole body

-- ---- file records

module _ (v : Layout) (layout : IsLayout v) (time : ℕ) (small : time < 2 ^ 64) where
  record_body : (n : ℕ) → n < 64 → body_of FileRec (record_bytes v time n) ≡ whole (record_spelling (record_of v time n))
  unfolding body_of record_bytes
  record_body n lt =
      let r = record_of v time n in
      let again = read_again r (record_fits v layout time small n lt) in
      let long : 4 ≤ length (record_spelling r) = omega (arith, again.size) in
      let behind : 4 ≤ array_at (record_spelling r) = omega (arith, spelling_place r) in
      signed_whole (protected_bytes (record_spelling r) 1) (record_spelling r) _ 1 (record_signed (record_spelling r) 1 long behind ∙ spelling_signed r) (again.answer 1 (omega arith)) (again.body 1 (omega arith))

  record_here : (disk : List (List ℕ)) (cluster m n : ℕ) → n < m → m ≤ 64 → StandsAt disk cluster (table_bytes v time m) → content_of (sector_of disk) (block (8 * cluster + 2 * n) FileRec) ≡ whole (record_spelling (record_of v time n))
  record_here disk cluster m n lt le stands =
      let size = length-table v layout time small m le in
      let place : 512 * (2 * n) ≡ 1024 * n = omega arith in
      ap (body_of FileRec) (raw_part disk cluster (2 * n) 2 (table_bytes v time m) stands (omega arith) ∙ ap (λ (at : ℕ). part at 1024 (table_bytes v time m)) place ∙ record_part v layout time small m n lt le)
      ∙ record_body n (omega arith)

  -- ---- the root's block

  abbrev node : List ℕ
  node = node_spelling (root_node v time)

  node_size : length node ≡ 4096
  node_size = length-node_spelling (root_node v time) (node_fits v layout time small)

  node_sectors : sector_count node ≡ 8
  node_sectors = ap (λ (n : ℕ). n / 512) node_size

  node_shape : is_in_shape node ≡ true
  node_shape =
      let n = root_node v time in
      shape_from node (node_count n ∙ sym (ap (λ (n : ℕ). n + 1) node_sectors)) (ap (λ (n : ℕ). n % 2) (node_place n)) (omega (arith, node_place n, node_count n))

  -- the array is zeros
  node_empty : (i : ℕ) → is_in_array node i ≡ true → slice_index node i ≡ 0
  unfolding zeros
  node_empty i here =
      let parts = and_parts _ _ here in
      let from : array_at node ≤ i = leb-true _ _ parts.0 in
      let to : i < array_at node + 2 * (sector_count node + 1) = ltb-true _ _ parts.1 in
      let place = node_place (root_node v time) in
      let count = node_sectors in
      let inside : i - 0x28 < 18 = omega arith in
      let spot : 0x28 + (i - 0x28) ≡ i = omega arith in
      ap (slice_index node) (sym spot) ∙ sym (get_or-drop 0x28 node (i - 0x28) 0) ∙ sym (get_or-take 18 (drop 0x28 node) (i - 0x28) 0 inside) ∙ ap (λ (l : List ℕ). slice_index l (i - 0x28)) (node_array (root_node v time))
      ∙ get_or-replicate 18 (i - 0x28) 0 0 inside

  node_body : body_of Index (block_bytes v time) ≡ whole node
  unfolding body_of block_bytes
  node_body =
      let n = root_node v time in
      let place = node_place n in
      let size = node_size in
      let again = undone node 1 (omega arith) (omega arith) node_shape (inr (omega arith)) (omega arith) in
      signed_whole (protected_bytes node 1) node _ 1 (node_signed_again node 1 (omega arith) (omega arith) ∙ node_signed n) again.answer (again.again node_empty)

  node_here : (disk : List (List ℕ)) → StandsAt disk (block_first v) (block_bytes v time) → content_of (sector_of disk) (block (8 * block_first v) Index) ≡ whole node
  node_here disk stands =
      let size = length-block v layout time small in
      let front : 8 * block_first v ≡ 8 * block_first v + 0 = omega arith in
      ap (body_of Index) (ap (λ (s : ℕ). raw_from (sector_of disk) s 8) front ∙ raw_part disk (block_first v) 0 8 (block_bytes v time) stands (omega arith) ∙ take_all 4096 (block_bytes v time) (omega arith))
      ∙ node_body

-- ---- sectors

sectors_here : (disk : List (List ℕ)) (cluster : ℕ) (bytes : List ℕ) → StandsAt disk cluster bytes → HasSectors (content_of (sector_of disk)) cluster bytes
unfolding body_of raw_from
sectors_here disk cluster bytes stands k inside = ap whole (append-nil (sector_of disk (8 * cluster + k)) ∙ stands k inside)

boot_here : (v : Layout) (seed : ℕ) (disk : List (List ℕ)) → StandsAt disk 0 (boot_bytes v seed) → content_of (sector_of disk) (block 0 Plain) ≡ whole (boot_spelling (boot_of v seed))
unfolding boot_bytes sector_in
boot_here v seed disk stands =
    let size = length-boot v seed in
    sectors_here disk 0 (boot_bytes v seed) stands 0 (omega arith) ∙ ap whole (take_at (boot_spelling (boot_of v seed)) (zeros 7680) 512 (length-boot_spelling (boot_of v seed)))

pub blocks_read : NewBlocksAreRead
blocks_read = λ old seed time can.
    let v = layout_of (length old) in
    let layout = layout_fits (length old) can.small can.least in
    let disk = formatted old seed time in
    let stand = (regions_stand old seed time can).regions in
    record {
      boot = boot_here v seed disk stand.boot;
      table = λ n lt. record_here v layout time can.time_fits disk 4 64 n lt (omega arith) stand.table;
      mirror = λ n lt. record_here v layout time can.time_fits disk 2 4 n lt (omega arith) stand.mirror;
      root = node_here v layout time can.time_fits disk stand.block;
      record_bits_read = sectors_here disk 3 _ stand.record_bits_stand;
      upper_case = sectors_here disk 20 _ stand.upper_case;
      log = sectors_here disk 52 _ stand.log;
      cluster_bits_read = sectors_here disk _ _ stand.cluster_bits_stand;
    }
