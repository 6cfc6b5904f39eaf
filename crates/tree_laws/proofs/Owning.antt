-- Rules 5 and 6 where files take clusters and give them back.
use Rattle.std.proofs.Common.{◌≡◌, ◌≢◌, ℕ, ◌<◌, ◌≤◌, Bool, true, false, leb, List, Option, None, refl, sym, ap, ◌∙◌, inl, inr, arith}
use mathlib.Core.Path.{fun_ext}
use Rattle.std.proofs.lemmas.Bool.{cases_Bool, leb-true, leb-false, le-leb, lt-leb}
use Rattle.volume_state.specs.disk_model.Content.{Content}
use Rattle.volume_state.specs.record_model.Records.{Record}
use Rattle.volume_state.specs.bit_set.Bits.{bit}
use Rattle.volume_state.specs.state_model.Loads.{table_in}
use Rattle.volume_state.specs.state_model.Rules.{implies, first_failing}
use Rattle.volume_state.specs.volume_model.Volumes.{Volume, bitmap_file, cluster_bits}
use Rattle.volume_state.specs.volume_model.Owners.{file_runs, volume_runs, uses, keeps_owner, keeps_cluster_bit}
use Rattle.volume_state.specs.Rules.{broken_5, broken_6}
use Rattle.stream_laws.specs.Replacing.{OneFileDiffers}
use Rattle.stream_laws.specs.Rewrites.{with_files}
use Rattle.stream_laws.proofs.Replacing.{clusters_replaced}
use Rattle.tree_laws.specs.Owners.{TakesClusters}
use Rattle.tree_laws.proofs.Parting.{cluster_bits_stay}
use Rattle.tree_laws.proofs.Keeping.{passes_below, fails_nowhere}

-- a cluster that isn't marked is used by none
unused : (u : ℕ) (marked : Bool) → marked ≡ false → implies (leb 1 u) marked ≡ true → u ≡ 0
unused u true clear kept = absurd cc
unused u false clear kept = elim (cases_Bool (leb 1 u)) [
  | inl some ↦ (let none : false ≡ true = sym (ap (λ (t : Bool). implies t false) some) ∙ kept in absurd cc)
  | inr none ↦ (let less = leb-false 1 u none in omega arith)
]

marked_or_unused : (u : ℕ) (marked : Bool) → (marked ≡ false → u ≡ 0) → implies (leb 1 u) marked ≡ true
marked_or_unused u true none = elim (cases_Bool (leb 1 u)) [ inl some ↦ rw some refl | inr other ↦ rw other refl ]
marked_or_unused u false none = let less : u < 1 = let zero_is = none refl in omega arith in ap (λ (t : Bool). implies t false) (lt-leb 1 u less)

pub in_no_stream : (c : Content) (v : Volume) (x : ℕ) → broken_6 c v ≡ None → x < v.clusters → bit (cluster_bits c v) x ≡ false → uses (volume_runs v.files) x ≡ 0
unfolding broken_6
in_no_stream c v x kept below clear = unused (uses (volume_runs v.files) x) (bit (cluster_bits c v) x) clear (passes_below (keeps_cluster_bit (cluster_bits c v) (volume_runs v.files)) v.clusters kept x below)

module _ (taken given : ℕ → ℕ) (c d : Content) (v : Volume) (files : List (Option Record)) (kept_5 : broken_5 v ≡ None) (kept_6 : broken_6 c v ≡ None) (k : TakesClusters taken given v.clusters (cluster_bits c v) (cluster_bits d (with_files v files)) v.files files) where
  at_most_one : (x : ℕ) → x < v.clusters → uses (volume_runs v.files) x ≤ 1
  unfolding broken_5
  at_most_one x below = leb-true _ _ (passes_below (keeps_owner (volume_runs v.files)) v.clusters kept_5 x below)

  none_clear : (x : ℕ) → x < v.clusters → bit (cluster_bits c v) x ≡ false → uses (volume_runs v.files) x ≡ 0
  none_clear x below clear = in_no_stream c v x kept_6 below clear

  still_one : (x : ℕ) → x < v.clusters → uses (volume_runs files) x ≤ 1
  still_one x below =
      let sums = k.balance x below in
      elim (cases_Bool (bit (cluster_bits c v) x)) [
        | inl marked ↦ (let less = k.marked x below marked in let one = at_most_one x below in omega (arith, sums, less, one))
        | inr clear ↦ (let one = k.clear x below clear in let none = none_clear x below clear in omega (arith, sums, one, none))
      ]

  none_left : (x : ℕ) → x < v.clusters → bit (cluster_bits d (with_files v files)) x ≡ false → uses (volume_runs files) x ≡ 0
  none_left x below now =
      let sums = k.balance x below in
      let nothing = k.not_taken x below now in
      elim (cases_Bool (bit (cluster_bits c v) x)) [
        | inl marked ↦ (let back = k.freed x below marked now in let one = at_most_one x below in omega (arith, sums, nothing, back, one))
        | inr clear ↦ (let none = none_clear x below clear in omega (arith, sums, nothing, none))
      ]

  owned_once : broken_5 (with_files v files) ≡ None
  unfolding broken_5
  owned_once = fails_nowhere (keeps_owner (volume_runs files)) v.clusters (λ x below. le-leb (uses (volume_runs files) x) 1 (still_one x below))

  owned_marked : broken_6 d (with_files v files) ≡ None
  unfolding broken_6
  owned_marked =
      fails_nowhere (keeps_cluster_bit (cluster_bits d (with_files v files)) (volume_runs files)) v.clusters
      (λ x below. marked_or_unused (uses (volume_runs files) x) (bit (cluster_bits d (with_files v files)) x) (λ clear. none_left x below clear))

pub takes_5 : (taken given : ℕ → ℕ) (c d : Content) (v : Volume) (files : List (Option Record)) → broken_5 v ≡ None → broken_6 c v ≡ None → TakesClusters taken given v.clusters (cluster_bits c v) (cluster_bits d (with_files v files)) v.files files → broken_5 (with_files v files) ≡ None
takes_5 taken given c d v files kept_5 kept_6 k = owned_once taken given c d v files kept_5 kept_6 k

pub takes_6 : (taken given : ℕ → ℕ) (c d : Content) (v : Volume) (files : List (Option Record)) → broken_5 v ≡ None → broken_6 c v ≡ None → TakesClusters taken given v.clusters (cluster_bits c v) (cluster_bits d (with_files v files)) v.files files → broken_6 d (with_files v files) ≡ None
takes_6 taken given c d v files kept_5 kept_6 k = owned_marked taken given c d v files kept_5 kept_6 k

-- ---- the same clusters

abbrev SameClusters : List (Option Record) → List (Option Record) → ℕ → Type 0
SameClusters old new n = (x : ℕ) → uses (file_runs (table_in new n)) x ≡ uses (file_runs (table_in old n)) x

same_uses : (old new : List (Option Record)) (n : ℕ) → OneFileDiffers n old new → SameClusters old new n → (x : ℕ) → uses (volume_runs new) x ≡ uses (volume_runs old) x
same_uses old new n differs same x =
    let sums = clusters_replaced old new n x differs in
    let equal = same x in
    omega (arith, sums, equal)

pub same_5 : (v : Volume) (files : List (Option Record)) (n : ℕ) → OneFileDiffers n v.files files → SameClusters v.files files n → broken_5 (with_files v files) ≡ broken_5 v
unfolding broken_5
same_5 v files n differs same = ap (λ (u : ℕ → ℕ). first_failing (λ x. leb (u x) 1) v.clusters) (fun_ext (same_uses v.files files n differs same))

pub same_6 : (c : Content) (v : Volume) (files : List (Option Record)) (n : ℕ) → OneFileDiffers n v.files files → SameClusters v.files files n → n ≢ bitmap_file → broken_6 c (with_files v files) ≡ broken_6 c v
unfolding broken_6
same_6 c v files n differs same other =
    ap (λ (u : ℕ → ℕ). first_failing (λ x. implies (leb 1 (u x)) (bit (cluster_bits c (with_files v files)) x)) v.clusters) (fun_ext (same_uses v.files files n differs same))
    ∙ ap (λ (bits : List Bool). first_failing (keeps_cluster_bit bits (volume_runs v.files)) v.clusters) (cluster_bits_stay c v files n differs other)
