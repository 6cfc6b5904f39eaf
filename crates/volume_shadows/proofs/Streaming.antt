-- What is said of a stream's blocks is found by trying each shadow against the runs.
use Rattle.std.proofs.Common.{◌≡◌, ℕ, ◌+◌, ◌-◌, ◌*◌, ◌/◌, ◌%◌, ◌<◌, ◌≤◌, Bool, true, false, cond, nat_le, nat_lt, ◌&&◌, ◌==◌, List, [], ◌∷◌, length, find, Option, Some, None, refl, sym, ap, ◌∙◌, inl, inr, subst, arith}
use Rattle.std.proofs.Common.{leb-true, ltb-true, eqb-true, div-lt_iff_lt-mul, div-mul-le_self}
use Rattle.std.specs.List.{filter_map, flat_map, range_with_len}
use Rattle.std.specs.List.Sorted.{IsPermutation}
use Rattle.std.specs.Option.{option_map}
use Rattle.std.proofs.lemmas.Bool.{and_parts, cases_lt, lt-ltb}
use Rattle.std.proofs.lemmas.Bool.Decides.{nat_tests}
use Rattle.disk_model.specs.declared.block.Block.{Block}
use Rattle.disk_model.specs.declared.block.BlockKind.{BlockKind}
use Rattle.disk_model.specs.declared.block.BlockKind.TheVariants.{Plain, FileRec, Index}
use Rattle.disk_model.specs.Sectors.{sectors, same_kind, same_block}
use Rattle.disk_model.proofs.Frames.{same_block-is}
use Rattle.state_model.specs.record_model.declared.runs.Run.{Run}
use Rattle.state_model.specs.record_model.Records.{Record}
use Rattle.state_model.specs.Files.{file_at}
use Rattle.state_model.specs.Loads.{table_in}
use Rattle.state_model.specs.Streams.{holds, lcn_in, block_at}
use Rattle.log_recovery.specs.declared.found.Shadow.{Shadow}
use Rattle.volume_shadows.specs.Least.{least_of}
use Rattle.volume_shadows.specs.Live.{file_blocks, live_in, shadow_at, least_lsn}
use Rattle.volume_shadows.specs.Tries.{number_of, stand_apart, near_of, is_this, tried_at, tried, least_tried}
use Rattle.volume_shadows.proofs.Leasts.{lesser_none, AtMost, at_most_through, at_most_both, Has, least_at_most, at_most_least, said_of, least_filtered, least_flat, least_alike, least_none, least_moved, found_has, found_passes, range_has, range_below}
use Rattle.volume_shadows.proofs.Placing.{numbered}

-- ---- the VCNs of a place

abbrev pub first_vcn : ℕ → BlockKind → ℕ → ℕ
first_vcn per kind n = sectors kind * n / per

abbrev pub last_vcn : ℕ → BlockKind → ℕ → ℕ
last_vcn per kind n = (sectors kind * n + sectors kind - 1) / per

div_rises : (per m n : ℕ) → 0 < per → m ≤ n → m / per ≤ n / per
div_rises per m n some le = elim (cases_lt (n / per) (m / per)) [
  | inl lt ↦ (let less : n < m / per * per = (div-lt_iff_lt-mul {k = per} {x = n} {y = m / per} some).0 lt in absurd (omega (arith, le, less, div-mul-le_self m per)))
  | inr more ↦ more
]

some_sectors : (kind : BlockKind) → 0 < sectors kind
some_sectors Plain = omega arith
some_sectors FileRec = omega arith
some_sectors Index = omega arith

in_turn : (per : ℕ) (kind : BlockKind) (n : ℕ) → 0 < per → first_vcn per kind n ≤ last_vcn per kind n
in_turn per kind n some = div_rises per (sectors kind * n) (sectors kind * n + sectors kind - 1) some (omega (arith, some_sectors kind))

-- ---- the run of a block

-- the run that holds the block of a place, and its place by this run
record IsLocated (per : ℕ) (kind : BlockKind) (runs : List Run) (n : ℕ) (b : Block) : Type 0 where
  run : Run
  found : find (holds (first_vcn per kind n) (last_vcn per kind n)) runs ≡ Some run
  number : number_of per kind run b.first ≡ Some n

module _ (per : ℕ) (kind : BlockKind) (some : 0 < per) (runs : List Run) (n : ℕ) (b : Block) where
  abbrev pub begins : ℕ → Block
  begins lcn = record { first = lcn * per + sectors kind * n % per; kind = kind }

  abbrev pub above : Run → ℕ → ℕ
  above r lcn = lcn + (first_vcn per kind n - r.vcn)

  located_at : (r : Run) (lcn : ℕ) → r.lcn ≡ Some lcn → find (holds (first_vcn per kind n) (last_vcn per kind n)) runs ≡ Some r → begins (above r lcn) ≡ b → IsLocated per kind runs n b
  located_at r lcn is found here =
      let parts = and_parts (nat_le r.vcn (first_vcn per kind n)) (nat_lt (last_vcn per kind n) (r.vcn + r.len)) (found_passes (holds (first_vcn per kind n) (last_vcn per kind n)) r runs found) in
      let begun : r.vcn ≤ first_vcn per kind n = leb-true r.vcn (first_vcn per kind n) parts.0 in
      let ended : last_vcn per kind n < r.vcn + r.len = ltb-true (last_vcn per kind n) (r.vcn + r.len) parts.1 in
      let within : first_vcn per kind n < r.vcn + r.len = omega (arith, in_turn per kind n some, ended) in
      record {
        run = r;
        found = found;
        number = ap (λ (x : Block). number_of per kind r x.first) (sym here) ∙ numbered per kind r lcn n some is begun within;
      }

  located_in : (r : Run) (o : Option ℕ) → r.lcn ≡ o → find (holds (first_vcn per kind n) (last_vcn per kind n)) runs ≡ Some r → option_map begins (option_map (above r) o) ≡ Some b → IsLocated per kind runs n b
  located_in r None is found here = absurd cc
  located_in r (Some lcn) is found here = let same : begins (above r lcn) ≡ b = cc in located_at r lcn is found same

  located_by : (o : Option Run) → find (holds (first_vcn per kind n) (last_vcn per kind n)) runs ≡ o → option_map begins (lcn_in (first_vcn per kind n) o) ≡ Some b → IsLocated per kind runs n b
  located_by None found here = absurd cc
  located_by (Some r) found here = located_in r r.lcn refl found here

  located : block_at per runs kind n ≡ Some b → IsLocated per kind runs n b
  unfolding block_at
  located is = located_by (find (holds (first_vcn per kind n) (last_vcn per kind n)) runs) refl is

-- ---- one run alone

found_alike : (per : ℕ) (kind : BlockKind) (n : ℕ) (runs others : List Run) → find (holds (first_vcn per kind n) (last_vcn per kind n)) runs ≡ find (holds (first_vcn per kind n) (last_vcn per kind n)) others
    → block_at per runs kind n ≡ block_at per others kind n
unfolding block_at
found_alike per kind n runs others same =
    ap (λ (found : Option Run). option_map (λ lcn. record { first = lcn * per + sectors kind * n % per; kind = kind }) (lcn_in (first_vcn per kind n) found)) same

alone : (p : Run → Bool) (r : Run) → p r ≡ true → find p (r ∷ []) ≡ Some r
alone p r passes = ap (λ (b : Bool). cond b (Some r) None) passes

near_is : (per : ℕ) (kind : BlockKind) (n : ℕ) (apart : Bool) (runs : List Run) (r : Run) → find (holds (first_vcn per kind n) (last_vcn per kind n)) runs ≡ Some r → block_at per (near_of apart runs r) kind n ≡ block_at per runs kind n
near_is per kind n false runs r found = refl
near_is per kind n true runs r found =
    found_alike per kind n (r ∷ []) runs (alone (holds (first_vcn per kind n) (last_vcn per kind n)) r (found_passes (holds (first_vcn per kind n) (last_vcn per kind n)) r runs found) ∙ sym found)

-- it begins behind the end
begins_behind : (end : ℕ) (r : Run) (runs : List Run) → stand_apart end runs ≡ true → Has r runs → end ≤ r.vcn
begins_behind end r [] apart has = absurd has
begins_behind end r (s ∷ runs) apart (inl same) =
    let here : end ≤ s.vcn = leb-true end s.vcn (and_parts (nat_le end s.vcn) (stand_apart (s.vcn + s.len) runs) apart).0 in
    subst (λ (x : Run). end ≤ x.vcn) (sym same) here
begins_behind end r (s ∷ runs) apart (inr has) =
    let parts = and_parts (nat_le end s.vcn) (stand_apart (s.vcn + s.len) runs) apart in
    let here : end ≤ s.vcn = leb-true end s.vcn parts.0 in
    let later : s.vcn + s.len ≤ r.vcn = begins_behind (s.vcn + s.len) r runs parts.1 has in
    omega (arith, here, later)

ends_before : (v w : ℕ) (r : Run) → r.vcn + r.len ≤ v → v ≤ w → holds v w r ≡ false
ends_before v w r le order = grind (arith, nat_tests)

-- of runs that stand in order only one holds them
one_holds : (v w end : ℕ) (r : Run) (runs : List Run) → v ≤ w → stand_apart end runs ≡ true → Has r runs → holds v w r ≡ true → find (holds v w) runs ≡ Some r
one_holds v w end r [] order apart has passes = absurd has
one_holds v w end r (s ∷ runs) order apart (inl same) passes =
    subst (λ (x : Run). find (holds v w) (x ∷ runs) ≡ Some r) same (ap (λ (b : Bool). cond b (Some r) (find (holds v w) runs)) passes)
one_holds v w end r (s ∷ runs) order apart (inr has) passes =
    let parts = and_parts (nat_le end s.vcn) (stand_apart (s.vcn + s.len) runs) apart in
    let later : s.vcn + s.len ≤ r.vcn = begins_behind (s.vcn + s.len) r runs parts.1 has in
    let begun : r.vcn ≤ v = leb-true r.vcn v (and_parts (nat_le r.vcn v) (nat_lt w (r.vcn + r.len)) passes).0 in
    ap (λ (b : Bool). cond b (Some s) (find (holds v w) runs)) (ends_before v w s (omega (arith, later, begun)) order)
    ∙ one_holds v w (s.vcn + s.len) r runs order parts.1 has passes

-- a block that lies in one run alone is held by it
module _ (per : ℕ) (kind : BlockKind) (n : ℕ) (r : Run) (b : Block) where
  held_by : (t : Bool) → holds (first_vcn per kind n) (last_vcn per kind n) r ≡ t
      → option_map (λ lcn. record { first = lcn * per + sectors kind * n % per; kind = kind }) (lcn_in (first_vcn per kind n) (cond t (Some r) None)) ≡ Some b → holds (first_vcn per kind n) (last_vcn per kind n) r ≡ true
  held_by true holding is = holding
  held_by false holding is = absurd cc

  held : block_at per (r ∷ []) kind n ≡ Some b → holds (first_vcn per kind n) (last_vcn per kind n) r ≡ true
  unfolding block_at
  held is = held_by (holds (first_vcn per kind n) (last_vcn per kind n) r) refl is

near_block : (per : ℕ) (kind : BlockKind) (n : ℕ) (apart : Bool) (runs : List Run) (r : Run) (b : Block) → 0 < per → apart ≡ stand_apart 0 runs → Has r runs → block_at per (near_of apart runs r) kind n ≡ Some b
    → block_at per runs kind n ≡ Some b
near_block per kind n false runs r b some is has near = near
near_block per kind n true runs r b some is has near =
    let passes = held per kind n r b near in
    let found = one_holds (first_vcn per kind n) (last_vcn per kind n) 0 r runs (in_turn per kind n some) (sym is) has passes in
    sym (near_is per kind n true runs r found) ∙ near

-- ---- a shadow that is tried

same_block-refl : (b : Block) → same_block b b ≡ true
same_block-refl b = by_kind b.kind
  where
    by_kind : (k : BlockKind) → ((b.first == b.first) && same_kind k k) ≡ true
    by_kind Plain = grind (arith, nat_tests)
    by_kind FileRec = grind (arith, nat_tests)
    by_kind Index = grind (arith, nat_tests)

this_is : (b : Block) (o : Option Block) → is_this b o ≡ true → o ≡ Some b
this_is b None is = absurd cc
this_is b (Some a) is = ap (λ (x : Block). Some x) (sym (same_block-is b a is))

tried_is : (per : ℕ) (kind : BlockKind) (count : ℕ) (near : List Run) (r : Run) (s : Shadow) (n : ℕ) (b : Block) → b ≡ s.block → n < count → number_of per kind r b.first ≡ Some n → block_at per near kind n ≡ Some b
    → tried per kind count near r s ≡ Some s.lsn
unfolding tried
tried_is per kind count near r s n b same lt number block =
    ap (λ (x : Block). tried_at per kind count near s (number_of per kind r x.first)) (sym same)
    ∙ ap (λ (o : Option ℕ). tried_at per kind count near s o) number
    ∙ ap (λ (t : Bool). cond (t && is_this s.block (block_at per near kind n)) (Some s.lsn) None) (lt-ltb n count lt)
    ∙ ap (λ (o : Option Block). cond (is_this s.block o) (Some s.lsn) None) block
    ∙ ap (λ (x : Block). cond (same_block s.block x) (Some s.lsn) None) same
    ∙ ap (λ (t : Bool). cond t (Some s.lsn) None) (same_block-refl s.block)

-- ---- both lists

module _ (per : ℕ) (kind : BlockKind) (count : ℕ) (apart : Bool) (runs : List Run) (shadows : List Shadow) (some : 0 < per) (is : apart ≡ stand_apart 0 runs) where
  abbrev pub tries : Run → Option ℕ
  tries r = least_tried per kind count apart runs shadows r

  abbrev pub says : ℕ → Option ℕ
  says n = said_of (least_lsn shadows) (block_at per runs kind n)

  abbrev pub all : Option ℕ
  all = least_of says (range_with_len 0 count)

  -- what is said of a block is tried
  module _ (n : ℕ) (lt : n < count) (b : Block) (lies : IsLocated per kind runs n b) (block : block_at per runs kind n ≡ Some b) where
    meets : (s : Shadow) → Has s shadows → (t : Bool) → same_block b s.block ≡ t → AtMost (tries lies.run) (cond t (Some s.lsn) None)
    meets s has false differs = lesser_none (tries lies.run)
    meets s has true same =
        let near = near_is per kind n apart runs lies.run lies.found ∙ block in
        subst (λ (o : Option ℕ). AtMost (tries lies.run) o) (tried_is per kind count (near_of apart runs lies.run) lies.run s n b (same_block-is b s.block same) lt lies.number near)
        (least_at_most (tried per kind count (near_of apart runs lies.run) lies.run) s shadows has)

    is_tried : AtMost (least_of tries runs) (least_lsn shadows b)
    is_tried =
        at_most_through (least_of tries runs) (tries lies.run) (least_lsn shadows b) (least_at_most tries lies.run runs (found_has (holds (first_vcn per kind n) (last_vcn per kind n)) lies.run runs lies.found))
        (at_most_least (tries lies.run) (shadow_at b) shadows (λ s has. meets s has (same_block b s.block) refl))

  said_by : (n : ℕ) → n < count → (o : Option Block) → block_at per runs kind n ≡ o → AtMost (least_of tries runs) (said_of (least_lsn shadows) o)
  said_by n lt None block = lesser_none (least_of tries runs)
  said_by n lt (Some b) block = is_tried n lt b (located per kind some runs n b block) block

  -- and what is tried is said of a block
  module _ (r : Run) (held_there : Has r runs) (s : Shadow) (has : Has s shadows) where
    abbrev pub near : List Run
    near = near_of apart runs r

    is_said : (n : ℕ) → n < count → block_at per runs kind n ≡ Some s.block → AtMost all (Some s.lsn)
    is_said n lt block =
        at_most_through all (least_lsn shadows s.block) (Some s.lsn)
        (subst (λ (o : Option Block). AtMost all (said_of (least_lsn shadows) o)) block (least_at_most says n (range_with_len 0 count) (range_has n 0 count (omega arith) (omega (arith, lt)))))
        (subst (λ (t : Bool). AtMost (least_lsn shadows s.block) (cond t (Some s.lsn) None)) (same_block-refl s.block) (least_at_most (shadow_at s.block) s shadows has))

    said_where : (n : ℕ) (t : Bool) → (nat_lt n count && is_this s.block (block_at per near kind n)) ≡ t → AtMost all (cond t (Some s.lsn) None)
    said_where n false passes = lesser_none all
    said_where n true passes =
        let parts = and_parts (nat_lt n count) (is_this s.block (block_at per near kind n)) passes in
        is_said n (ltb-true n count parts.0) (near_block per kind n apart runs r s.block some is held_there (this_is s.block (block_at per near kind n) parts.1))

    said_at : (o : Option ℕ) → AtMost all (tried_at per kind count near s o)
    said_at None = lesser_none all
    said_at (Some n) = said_where n (nat_lt n count && is_this s.block (block_at per near kind n)) refl

    said_here : AtMost all (tried per kind count near r s)
    unfolding tried
    said_here = said_at (number_of per kind r s.block.first)

  pub least_by_runs : least_of tries runs ≡ least_of (least_lsn shadows) (filter_map (block_at per runs kind) (range_with_len 0 count))
  least_by_runs =
      at_most_both (least_of tries runs) all
      (at_most_least (least_of tries runs) says (range_with_len 0 count) (λ n has. said_by n (omega (arith, range_below n 0 count has)) (block_at per runs kind n) refl))
      (at_most_least all tries runs (λ r there. at_most_least all (tried per kind count (near_of apart runs r) r) shadows (λ s has. said_here r there s has)))
      ∙ sym (least_filtered (least_lsn shadows) (block_at per runs kind) (range_with_len 0 count))

-- ---- the files

-- shadows in another order say the same of each file
pub live_said : (per : ℕ) (files : List (Option Record)) (shadows sorted : List Shadow) → IsPermutation shadows sorted
    → least_of (λ n. least_of (least_lsn sorted) (file_blocks per n (file_at (table_in files) n))) (range_with_len 0 (length files)) ≡ least_of (least_lsn shadows) (live_in per files)
unfolding live_in
live_said per files shadows sorted moved =
    sym (least_flat (least_lsn sorted) (λ n. file_blocks per n (file_at (table_in files) n)) (range_with_len 0 (length files)))
    ∙ least_alike (least_lsn sorted) (least_lsn shadows) (flat_map (λ n. file_blocks per n (file_at (table_in files) n)) (range_with_len 0 (length files))) (λ b. least_moved (shadow_at b) shadows sorted moved)

-- and no shadow says nothing
pub none_said : (per : ℕ) (files : List (Option Record)) (shadows : List Shadow) → (length shadows == 0) ≡ true → None ≡ least_of (least_lsn shadows) (live_in per files)
none_said per files [] empty = sym (least_none (least_lsn []) (live_in per files) (λ b. refl))
none_said per files (s ∷ shadows) some = absurd (omega (arith, eqb-true (length (s ∷ shadows)) 0 some))
