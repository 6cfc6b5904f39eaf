-- The clusters of a new volume that streams own, and the bits of those and of its records.
use Rattle.std.specs.Prelude.{◌==◌, if◌then◌else◌}
use Rattle.std.proofs.Common.{◌≡◌, ℕ, zero, suc, ◌+◌, ◌*◌, ◌^◌, ◌<◌, ◌≤◌, inl, inr, Bool, true, false, cond, leb, ltb, ◌&&◌, List, [], ◌∷◌, ◌++◌, map, Option, Some, None, refl, sym, ap, ◌∙◌, arith}
use Rattle.std.specs.List.{flat_map, range_with_len}
use Rattle.std.proofs.lemmas.Bool.{cases_lt, lt-ltb, le-ltb, lt-leb, le-leb, leb-true, false≢true}
use Rattle.std.proofs.lemmas.List.Sums.{sum_by-cons, sum_by-append}
use Rattle.disk_model.specs.declared.block.Body.{Body}
use Rattle.disk_model.specs.declared.block.BlockKind.TheVariants.{FileRec}
use Rattle.disk_model.specs.Content.{Content}
use Rattle.bit_set.specs.Bits.{bit}
use Rattle.record_model.specs.declared.runs.Run.{Run}
use Rattle.record_model.specs.Records.{Record, record_spelling}
use Rattle.record_model.specs.Constants.{data_type}
use Rattle.state_model.specs.Rules.{implies}
use Rattle.state_model.specs.Streams.{attribute_runs, block_at}
use Rattle.state_model.specs.Loads.{is_used}
use Rattle.volume_model.specs.Owners.{file_runs, volume_runs, covers, uses, keeps_owner, keeps_cluster_bit, keeps_record_bit}
use Rattle.volume_model.specs.Volumes.{block_bytes, record_block, record_bytes, is_in_use, cluster_bits, record_bits, count_of}
use Rattle.volume_state.specs.Rules.{broken_5, broken_6, broken_7}
use Rattle.format_blocks.specs.volume_format.declared.layout.Layout.{Layout}
use Rattle.format_blocks.specs.volume_format.Layouts.{IsLayout, used_clusters, block_first, cluster_bits_bytes}
use Rattle.format_blocks.specs.volume_format.Files.{in_clusters, one_run, bad_name, standard, name_attribute, system_attrs, system_data, other_streams, volume_streams, root_streams, extend_streams, system_record, reserved_record, record_of}
use Rattle.format_blocks.specs.Blocks.{HasBlocks}
use Rattle.format_files.specs.Volumes.{new_file, new_files}
use Rattle.format_files.specs.Rules.{NewVolumeKeepsBits}
use Rattle.format_blocks.proofs.Naming.{of_twelve}
use Rattle.format_blocks.proofs.Fitting.{IsSmallRun}
use Rattle.format_files.proofs.Streams.{mapped_runs, fixed_run, log_run, bits_run, block_run, bad_run, block_in_run}
use Rattle.format_files.proofs.Loading.{flags_clear, record_system, record_reserved}
use Rattle.format_files.proofs.Tabling.{file_used, file_none, used_by}
use Rattle.format_files.proofs.Linking.{vol, count_is, none_failing}
use Rattle.format_files.proofs.Bits.{cluster_bit_is, record_bit_is}

-- ---- the runs of each file

abbrev pub run : ℕ → ℕ → List Run
run first clusters = one_run (Some first) clusters

-- the runs of the system files
abbrev pub runs_of_file : Layout → ℕ → List Run
runs_of_file v n =
    if n == 0 then run 4 16 ++ run 3 1
    else if n == 1 then run 2 1
    else if n == 2 then run 52 v.log_pages
    else if n == 5 then run (block_first v) 1
    else if n == 6 then run (52 + v.log_pages) v.bitmap_clusters
    else if n == 7 then run 0 2
    else if n == 8 then one_run None v.clusters
    else if n == 10 then run 20 32
    else []

module _ (v : Layout) (layout : IsLayout v) (time : ℕ) where
  only : List Run → List Run
  only runs = runs ++ []

  data_runs : (first clusters bytes : ℕ) → IsSmallRun (Some first) clusters → only (attribute_runs (in_clusters 2 data_type [] first clusters bytes)) ≡ run first clusters
  unfolding only
  data_runs first clusters bytes small = ap only (mapped_runs 2 data_type [] (Some first) clusters bytes bytes small)

  table_runs : attribute_runs (in_clusters 2 data_type [] 4 16 65536) ++ (attribute_runs (in_clusters 3 0xB0 [] 3 1 8) ++ []) ≡ run 4 16 ++ run 3 1
  table_runs =
      ap (λ (runs : List Run). runs ++ (attribute_runs (in_clusters 3 0xB0 [] 3 1 8) ++ [])) (mapped_runs 2 data_type [] (Some 4) 16 65536 65536 (fixed_run 4 16 (omega arith) (omega arith) (omega arith)))
      ∙ ap (λ (runs : List Run). run 4 16 ++ (runs ++ [])) (mapped_runs 3 0xB0 [] (Some 3) 1 8 8 (fixed_run 3 1 (omega arith) (omega arith) (omega arith)))

  pub runs_are : (n : ℕ) → n < 12 → file_runs (Some (system_record v time n)) ≡ runs_of_file v n
  unfolding system_record system_attrs system_data other_streams standard name_attribute volume_streams root_streams extend_streams only attribute_runs
  runs_are n lt = of_twelve (λ k. file_runs (Some (system_record v time k)) ≡ runs_of_file v k)
      table_runs
      (data_runs 2 1 4096 (fixed_run 2 1 (omega arith) (omega arith) (omega arith)))
      (data_runs 52 v.log_pages (4096 * v.log_pages) (log_run v layout))
      refl
      refl
      (ap only (mapped_runs 3 0xA0 (0x24 ∷ 0x49 ∷ 0x33 ∷ 0x30 ∷ []) (Some (block_first v)) 1 4096 4096 (block_run v layout)))
      (data_runs (52 + v.log_pages) v.bitmap_clusters (cluster_bits_bytes v) (bits_run v layout))
      (data_runs 0 2 8192 (fixed_run 0 2 (omega arith) (omega arith) (omega arith)))
      (ap only (mapped_runs 2 data_type bad_name None v.clusters (4096 * v.clusters) 0 (bad_run v layout)))
      refl
      (data_runs 20 32 131072 (fixed_run 20 32 (omega arith) (omega arith) (omega arith)))
      refl
      n lt

  no_runs : (n : ℕ) → file_runs (Some (reserved_record time n)) ≡ []
  unfolding reserved_record standard attribute_runs
  no_runs n = refl

-- ---- how often a cluster is owned

uses-cons : (r : Run) (runs : List Run) (x : ℕ) → uses (r ∷ runs) x ≡ cond (covers x r) 1 0 + uses runs x
unfolding uses
uses-cons r runs x = sum_by-cons (λ (q : Run). cond (covers x q) 1 0) r runs

uses-append : (runs others : List Run) (x : ℕ) → uses (runs ++ others) x ≡ uses runs x + uses others x
unfolding uses
uses-append runs others x = sum_by-append (λ (q : Run). cond (covers x q) 1 0) runs others

uses-nil : (x : ℕ) → uses [] x ≡ 0
unfolding uses
uses-nil x = refl

abbrev count_if : Bool → ℕ
count_if t = cond t 1 0

-- 1 where a cluster is from one on and below another, else 0
pub within : ℕ → ℕ → ℕ → ℕ
within a b x = cond (leb a x && ltb x b) 1 0

in_it : (a b x : ℕ) → a ≤ x → x < b → within a b x ≡ 1
unfolding within
in_it a b x le lt = ap (λ (t : Bool). cond (t && ltb x b) 1 0) (le-leb a x le) ∙ ap (λ (t : Bool). cond t 1 0) (lt-ltb x b lt)

before_it : (a b x : ℕ) → x < a → within a b x ≡ 0
unfolding within
before_it a b x lt = ap (λ (t : Bool). cond (t && ltb x b) 1 0) (lt-leb a x lt)

behind_it : (a b x : ℕ) → b ≤ x → within a b x ≡ 0
unfolding within
behind_it a b x le = ap (λ (t : Bool). cond (leb a x && t) 1 0) (le-ltb x b le) ∙ nothing_else (leb a x)
  where
    nothing_else : (t : Bool) → count_if (t && false) ≡ 0
    nothing_else true = refl
    nothing_else false = refl

-- a range in two parts
two_parts : (a b c x : ℕ) → a ≤ b → b ≤ c → within a b x + within b c x ≡ within a c x
two_parts a b c x low high = elim (cases_lt x a) [
  | inl first ↦ omega (arith, before_it a b x first, before_it b c x (omega arith), before_it a c x first)
  | inr from ↦ elim (cases_lt x b) [
    | inl second ↦ omega (arith, in_it a b x from second, before_it b c x second, in_it a c x from (omega arith))
    | inr more ↦ elim (cases_lt x c) [
      | inl third ↦ omega (arith, behind_it a b x more, in_it b c x more third, in_it a c x from third)
      | inr past ↦ omega (arith, behind_it a b x more, behind_it b c x past, behind_it a c x past)
    ]
  ]
]

one_use : (first clusters x : ℕ) → uses (run first clusters) x ≡ within first (first + clusters) x
unfolding within
one_use first clusters x = let none = uses-nil x in let here = uses-cons (record { vcn = 0; lcn = Some first; len = clusters }) [] x in omega (arith, here, none)

hole_use : (clusters x : ℕ) → uses (one_run None clusters) x ≡ 0
hole_use clusters x = let none = uses-nil x in let here = uses-cons (record { vcn = 0; lcn = None; len = clusters }) [] x in omega (arith, here, none)

module _ (v : Layout) (layout : IsLayout v) (time : ℕ) (x : ℕ) where
  -- of the numbers from one on
  total : ℕ → ℕ → ℕ
  total a n = uses (flat_map file_runs (map (new_file v time) (range_with_len a n))) x

  step : (a n : ℕ) → total a (suc n) ≡ uses (file_runs (new_file v time a)) x + total (a + 1) n
  unfolding total
  step a n = uses-append (file_runs (new_file v time a)) (flat_map file_runs (map (new_file v time) (range_with_len (a + 1) n))) x

  of_file : (n : ℕ) → n < 12 → uses (file_runs (new_file v time n)) x ≡ uses (runs_of_file v n) x
  of_file n lt =
      ap (λ (o : Option Record). uses (file_runs o) x) (file_used v time n (omega arith) ∙ ap (λ (r : Record). Some r) (record_system v time n lt))
      ∙ ap (λ (runs : List Run). uses runs x) (runs_are v layout time n lt)

  of_none : (n : ℕ) → 12 ≤ n → uses (file_runs (new_file v time n)) x ≡ 0
  of_none n le = elim (cases_lt n 16) [
    | inl lt ↦
        ap (λ (o : Option Record). uses (file_runs o) x) (file_used v time n lt ∙ ap (λ (r : Record). Some r) (record_reserved v time n le lt))
        ∙ ap (λ (runs : List Run). uses runs x) (no_runs v layout time n) ∙ uses-nil x
    | inr high ↦ ap (λ (o : Option Record). uses (file_runs o) x) (file_none v time n high) ∙ uses-nil x
  ]

  rest : (a n : ℕ) → 12 ≤ a → total a n ≡ 0
  unfolding total
  rest a zero le = uses-nil x
  rest a (suc n) le = omega (arith, step a n, of_none a le, rest (a + 1) n (omega arith))

  twelve : total 0 64 ≡ uses (runs_of_file v 0) x + (uses (runs_of_file v 1) x + (uses (runs_of_file v 2) x + (uses (runs_of_file v 3) x + (uses (runs_of_file v 4) x + (uses (runs_of_file v 5) x + (uses (runs_of_file v 6) x + (uses (runs_of_file v 7) x + (uses (runs_of_file v 8) x + (uses (runs_of_file v 9) x + (uses (runs_of_file v 10) x + uses (runs_of_file v 11) x))))))))))
  twelve =
      let last : total 12 52 ≡ 0 = rest 12 52 (omega arith) in
      let b = λ (n : ℕ) (lt : n < 12). of_file n lt in
      omega (
        arith,
        last,
        step 0 63,
        step 1 62,
        step 2 61,
        step 3 60,
        step 4 59,
        step 5 58,
        step 6 57,
        step 7 56,
        step 8 55,
        step 9 54,
        step 10 53,
        step 11 52,
        b 0 (omega arith),
        b 1 (omega arith),
        b 2 (omega arith),
        b 3 (omega arith),
        b 4 (omega arith),
        b 5 (omega arith),
        b 6 (omega arith),
        b 7 (omega arith),
        b 8 (omega arith),
        b 9 (omega arith),
        b 10 (omega arith),
        b 11 (omega arith),
      )

  -- the regions follow one another from cluster 0 to the last one that is used
  pub all_uses : uses (volume_runs (new_files v time)) x ≡ within 0 (used_clusters v) x
  unfolding volume_runs new_files total
  all_uses =
      let l = v.log_pages in
      let b = v.bitmap_clusters in
      let none = uses-nil x in
      let first = uses-append (run 4 16) (run 3 1) x in
      omega (
        arith,
        twelve,
        first,
        none,
        one_use 4 16 x,
        one_use 3 1 x,
        one_use 2 1 x,
        one_use 52 l x,
        one_use (block_first v) 1 x,
        one_use (52 + l) b x,
        one_use 0 2 x,
        one_use 20 32 x,
        hole_use v.clusters x,
        two_parts 0 2 3 x (omega arith) (omega arith),
        two_parts 0 3 4 x (omega arith) (omega arith),
        two_parts 0 4 20 x (omega arith) (omega arith),
        two_parts 0 20 52 x (omega arith) (omega arith),
        two_parts 0 52 (52 + l) x (omega arith) (omega arith),
        two_parts 0 (52 + l) (52 + l + b) x (omega arith) (omega arith),
        two_parts 0 (52 + l + b) (52 + l + b + 1) x (omega arith) (omega arith),
        same_end,
      )
    where
      same_end : within 0 (52 + v.log_pages + v.bitmap_clusters + 1) x ≡ within 0 (used_clusters v) x
      same_end = let e : 52 + v.log_pages + v.bitmap_clusters + 1 ≡ used_clusters v = omega arith in ap (λ (end : ℕ). within 0 end x) e

pub implied : (a b : Bool) → (a ≡ true → b ≡ true) → implies a b ≡ true
implied true b holds = holds refl
implied false b holds = refl

module _ (v : Layout) (layout : IsLayout v) (time : ℕ) where
  most_once : (x : ℕ) → within 0 (used_clusters v) x ≤ 1
  most_once x = elim (cases_lt x (used_clusters v)) [
    | inl lt ↦ omega (arith, in_it 0 (used_clusters v) x (omega arith) lt)
    | inr le ↦ omega (arith, behind_it 0 (used_clusters v) x le)
  ]

  owned_once : (x : ℕ) → keeps_owner (volume_runs (new_files v time)) x ≡ true
  owned_once x = le-leb (uses (volume_runs (new_files v time)) x) 1 (omega (arith, all_uses v layout time x, most_once x))

  -- a cluster that is owned is used
  owned_used : (x : ℕ) → leb 1 (uses (volume_runs (new_files v time)) x) ≡ true → ltb x (used_clusters v) ≡ true
  owned_used x owned = elim (cases_lt x (used_clusters v)) [
    | inl lt ↦ lt-ltb x (used_clusters v) lt
    | inr le ↦ (let none = behind_it 0 (used_clusters v) x le in let some = leb-true 1 (uses (volume_runs (new_files v time)) x) owned in absurd (omega (arith, all_uses v layout time x, none, some)))
  ]

  module _ (small : time < 2 ^ 64) (seed : ℕ) (c : Content) (has : HasBlocks v seed time c) where
    owned_marked : (x : ℕ) → x < v.clusters → keeps_cluster_bit (cluster_bits c (vol v time)) (volume_runs (new_files v time)) x ≡ true
    owned_marked x lt = implied (leb 1 (uses (volume_runs (new_files v time)) x)) (bit (cluster_bits c (vol v time)) x) (λ owned. cluster_bit_is v layout seed time c has x lt ∙ owned_used x owned)

    -- ---- records

    pub bytes_of_record : (n : ℕ) → n < 64 → record_bytes c (vol v time) n ≡ record_spelling (record_of v time n)
    unfolding record_bytes record_block
    bytes_of_record n lt =
        ap (λ (b : Bool). block_bytes c (cond b None (block_at 8 (run 4 16) FileRec n))) (lt-leb 65536 (1024 * n) (omega arith))
        ∙ ap (block_bytes c) (block_in_run 4 16 FileRec n (omega arith) (omega arith))
        ∙ ap (λ (b : Body). b.bytes) (has.table n lt)

    used_below : (n : ℕ) → n < 64 → is_in_use c (vol v time) n ≡ true → n < 16
    unfolding is_in_use
    used_below n lt used = elim (cases_lt n 16) [
      | inl low ↦ low
      | inr high ↦ absurd (false≢true (sym (ap is_used (bytes_of_record n lt) ∙ used_by v layout time small n lt ∙ flags_clear v time n high) ∙ used))
    ]

    record_marked : (n : ℕ) → n < 64 → keeps_record_bit c (vol v time) n ≡ true
    unfolding keeps_record_bit
    record_marked n lt = implied (is_in_use c (vol v time) n) (bit (record_bits c (vol v time)) n) (λ used.
        let low = used_below n lt used in
        record_bit_is v layout seed time c has n lt ∙ lt-ltb n 24 (omega arith))

pub keeps_bits_law : NewVolumeKeepsBits
unfolding broken_5 broken_6 broken_7
keeps_bits_law = λ v seed time c layout small has. record {
  owners = none_failing (keeps_owner (volume_runs (new_files v time))) v.clusters (λ x lt. owned_once v layout time x);
  clusters = none_failing (keeps_cluster_bit (cluster_bits c (vol v time)) (volume_runs (new_files v time))) v.clusters (λ x lt. owned_marked v layout time small seed c has x lt);
  records = none_failing (keeps_record_bit c (vol v time)) (count_of (vol v time)) (λ n lt. record_marked v layout time small seed c has n (omega (arith, count_is v time)));
}
