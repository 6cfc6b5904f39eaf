-- What a step says of a directory's index that gets more blocks, by what stands in its record.
use Rattle.std.proofs.Common.{◌≡◌, ◌≢◌, ℕ, ◌+◌, ◌-◌, ◌*◌, ◌≤◌, max, Bool, true, false, cond, List, [], ◌∷◌, ◌++◌, Option, Some, refl, sym, ap, ◌∙◌, inl, arith}
use Rattle.std.specs.Prelude.{◌==◌}
use Rattle.std.specs.List.{AllByRecursion}
use Rattle.std.proofs.lemmas.List.{append_assoc}
use Rattle.disk_model.specs.Bytes.{zeros}
use Rattle.record_model.specs.declared.attribute.Attr.{Attr}
use Rattle.record_model.specs.Constants.{standard_information, index_root, index_allocation, bitmap_type, names_index}
use Rattle.record_model.specs.Records.{Record}
use Rattle.record_model.proofs.UnitBytes.{length-zeros}
use Rattle.index_model.specs.Trees.{Tree}
use Rattle.state_model.specs.declared.stream.Extents.{Extents}
use Rattle.state_model.specs.declared.stream.Stream.{Stream}
use Rattle.state_model.specs.declared.stream.Stream.TheVariants.{Placed}
use Rattle.state_model.specs.Files.{has_type}
use Rattle.state_model.specs.Loads.{total_clusters}
use Rattle.state_model.specs.Streams.{attributes_of, joined, stream_of}
use Rattle.volume_model.specs.Volumes.{size_or}
use Rattle.tree_model.specs.Needs.{clusters_for}
use Rattle.space_model.specs.Choosing.{chosen}
use Rattle.stream_laws.specs.Sharing.{runs_in}
use Rattle.stream_runs.specs.Runs.{last_cluster}
use Rattle.data_plan.specs.record_streams.Placing.{placed_record}
use Rattle.data_plan.proofs.record_streams.Streams.{attribute_kind, first_passes, placed_others}
use Rattle.data_plan.specs.record_values.Values.{valued_record}
use Rattle.data_plan.proofs.record_values.Valued.{values_put}
use Rattle.data_plan.specs.step_model.Placing.{runs_after}
use Rattle.data_plan.specs.step_model.Used.{used_after, new_attr, first_or, own_attr, value_attr, placed_attr}
use Rattle.data_plan.specs.step_model.Streams.{Wanted, Comes, placed_among, placed_by, in_clusters, comes, root_comes, own_comes, blocks_key, used_key, wanted_size, wanted_blocks, wanted_used}
use Rattle.data_plan.specs.used_laws.Laws.{IsOther}
use Rattle.data_plan.proofs.used_laws.Beside.{together}
use Rattle.data_plan.specs.Changes.{BeginsAtZero}
use Rattle.data_plan.proofs.Taking.{there_is}
use Rattle.directory_growth.specs.Clusters.{longer_extents, counted_record}
use Rattle.directory_growth.specs.Growing.{blocks_in, bits_in, root_bytes, bits_size, HasIndex, GrowsLittle}
use Rattle.directory_growth.proofs.Placing.{wanted_in, counted_used}

-- ---- attributes of other streams

pub other_bits : bitmap_type ≢ index_allocation
other_bits same = absurd (let e : 0xb0 ≡ 0xa0 = same in omega (arith, e))

pub bits_root : bitmap_type ≢ index_root
bits_root same = absurd (let e : 0xb0 ≡ 0x90 = same in omega (arith, e))

pub blocks_root : index_allocation ≢ index_root
blocks_root same = absurd (let e : 0xa0 ≡ 0x90 = same in omega (arith, e))

pub counted_others : (per kind other wanted : ℕ) (f : Extents) (c : Record) → other ≢ kind → attributes_of other names_index (counted_record per kind wanted f c).attrs ≡ attributes_of other names_index c.attrs
unfolding counted_record
counted_others per kind other wanted f c differ = by (wanted == 0)
  where
    by : (t : Bool) → attributes_of other names_index (cond t c (placed_record per kind names_index f c)).attrs ≡ attributes_of other names_index c.attrs
    by true = refl
    by false = placed_others per kind other names_index names_index f c (inl differ)

pub same_stream : (kind : ℕ) (r s : Record) → attributes_of kind names_index s.attrs ≡ attributes_of kind names_index r.attrs → stream_of kind names_index s.attrs ≡ stream_of kind names_index r.attrs
unfolding stream_of
same_stream kind r s same = ap joined same

pub same_own : (kind : ℕ) (r s : Record) → attributes_of kind names_index s.attrs ≡ attributes_of kind names_index r.attrs → own_attr kind names_index s ≡ own_attr kind names_index r
unfolding own_attr
same_own kind r s same = ap (first_or (new_attr kind names_index)) same

-- the attribute of a stream that is there is of its type
pub own_kind : (kind : ℕ) (r : Record) → BeginsAtZero (attributes_of kind names_index r.attrs) → (own_attr kind names_index r).head.kind ≡ kind
unfolding own_attr
own_kind kind r begins =
    let t = there_is (attributes_of kind names_index r.attrs) begins in
    ap (λ (l : List Attr). (first_or (new_attr kind names_index) l).head.kind) t.is ∙ (attribute_kind kind names_index t.first (first_passes kind names_index r.attrs t.first t.others t.is)).0

all_append : (P : Attr → Type 0) (xs ys : List Attr) → AllByRecursion P xs → AllByRecursion P ys → AllByRecursion P (xs ++ ys)
all_append P [] ys first second = second
all_append P (x ∷ xs) ys first second = (first.0, all_append P xs ys first.1 second)

-- ---- the blocks

-- how many clusters they are to have
abbrev pub clusters_then : Extents → ℕ → ℕ
clusters_then e size = max (total_clusters e.runs) (clusters_for size)

abbrev pub want : ℕ → Extents → ℕ → Wanted
want n e size = wanted_in n index_allocation size (clusters_then e size)

abbrev pub blocks_come : List Bool → ℕ → Record → Extents → ℕ → Comes
blocks_come bits n r e size = placed_by r (want n e size) (placed_among bits e.runs (want n e size))

-- what is given: a directory whose index gets more blocks
pub record Gets (r : Record) (t : Tree) (more root : ℕ) (e : Extents) (s : Stream) (size wanted : ℕ) : Type 0 where
  pub clusters : ℕ
  pub has : HasIndex clusters r
  pub little : GrowsLittle r root more
  pub blocks : blocks_in r ≡ Some (Placed e)
  pub bitmap : bits_in r ≡ Some s
  pub root_is : root ≡ root_bytes t
  pub size_is : size ≡ e.real + 4096 * more
  pub wanted_is : wanted ≡ clusters_for size - total_clusters e.runs

pub blocks_want : (n more : ℕ) (r : Record) (e : Extents) (size : ℕ) → blocks_in r ≡ Some (Placed e) → size ≡ e.real + 4096 * more → wanted_blocks n r more ≡ want n e size
blocks_want n more r e size is size_is =
    let w : Option Stream → Wanted = λ o. wanted_size (blocks_key n) o (size_or o + 4096 * more) in
    let most : max e.real (e.real + 4096 * more) ≡ e.real + 4096 * more = omega arith in
    let back : Some (Placed e) ≡ Some (Placed e) = refl in
    ap w is
    ∙ ap (λ (m : ℕ). wanted_in n index_allocation m (max (total_clusters e.runs) (clusters_for (e.real + 4096 * more)))) most
    ∙ ap (want n e) (sym size_is)

pub blocks_are : (bits : List Bool) (n more : ℕ) (r : Record) (e : Extents) (size : ℕ) → blocks_in r ≡ Some (Placed e) → size ≡ e.real + 4096 * more → in_clusters bits r (wanted_blocks n r more) ≡ blocks_come bits n r e size
unfolding in_clusters
blocks_are bits n more r e size is size_is =
    ap (in_clusters bits r) (blocks_want n more r e size is size_is)
    ∙ ap (λ (o : Option Stream). placed_by r (want n e size) (placed_among bits (runs_in o) (want n e size))) is

pub bits_want : (n more : ℕ) (r : Record) (e : Extents) (s : Stream) (size : ℕ) → blocks_in r ≡ Some (Placed e) → bits_in r ≡ Some s → size ≡ e.real + 4096 * more → wanted_used n r more ≡ wanted_size (used_key n) (Some s) (bits_size size)
bits_want n more r e s size is used size_is =
    ap (λ (o : Option Stream). wanted_size (used_key n) o (bits_size (size_or (blocks_in r) + 4096 * more))) used
    ∙ ap (λ (o : Option Stream). wanted_size (used_key n) (Some s) (bits_size (size_or o + 4096 * more))) is
    ∙ ap (λ (m : ℕ). wanted_size (used_key n) (Some s) (bits_size m)) (sym size_is)

-- ---- both streams

-- the record that is counted
abbrev pub counted_for : List Bool → ℕ → Record → Extents → ℕ → ℕ → Record
counted_for bits root r e size wanted = counted_record 8 index_allocation wanted (longer_extents 8 size wanted (chosen bits (last_cluster e.runs) wanted) e) (valued_record index_root names_index (zeros root) r)

-- what comes of the bitmap, by the record that is counted
abbrev pub bits_come : List Bool → List Bool → ℕ → ℕ → Record → Extents → Stream → ℕ → ℕ → Comes
bits_come bits now n root r e s size wanted = comes now (counted_for bits root r e size wanted) [] (wanted_size (used_key n) (Some s) (bits_size size))

blocks_apart : (kind : ℕ) (bits : List Bool) (n : ℕ) (r : Record) (e : Extents) (size : ℕ) → BeginsAtZero (attributes_of index_allocation names_index r.attrs) → index_allocation ≢ kind → AllByRecursion (IsOther kind names_index) (blocks_come bits n r e size).attrs
blocks_apart kind bits n r e size begins differ = by (clusters_then e size == total_clusters e.runs)
  where
    by : (t : Bool) → AllByRecursion (IsOther kind names_index) (cond t [] (placed_attr size size (runs_after (placed_among bits e.runs (want n e size))) (own_attr index_allocation names_index r) ∷ []))
    by true = tt
    by false = (inl (λ same. differ (sym (own_kind index_allocation r begins) ∙ same)), tt)

pub root_stays : (other : ℕ) (root : ℕ) (r : Record) → other ≢ index_root → attributes_of other names_index (valued_record index_root names_index (zeros root) r).attrs ≡ attributes_of other names_index r.attrs
root_stays other root r differ = values_put.others index_root other names_index names_index (zeros root) r (inl differ)

pub own_info : (r : Record) (t : Tree) → has_type standard_information r ≡ true → own_comes r t ≡ root_comes r t ∷ []
own_info r t has = ap (λ (b : Bool). root_comes r t ∷ cond b [] (value_attr 72 (new_attr standard_information []) ∷ [])) has

-- what comes beside the blocks counts in that record as the step counts it
pub counts : (bits : List Bool) (n : ℕ) (r : Record) (t : Tree) (more root : ℕ) (e : Extents) (s : Stream) (size wanted : ℕ) → Gets r t more root e s size wanted → (come : List Attr) → AllByRecursion (IsOther index_allocation names_index) come → AllByRecursion (IsOther index_root names_index) come
    → used_after come (counted_for bits root r e size wanted) ≡ used_after (come ++ ((blocks_come bits n r e size).attrs ++ own_comes r t)) r
counts bits n r t more root e s size wanted gets come apart_blocks apart_root =
    let r0 = valued_record index_root names_index (zeros root) r in
    let stays = root_stays index_allocation root r blocks_root in
    let b = there_is (attributes_of index_allocation names_index r.attrs) gets.has.blocks in
    let i = there_is (attributes_of index_root names_index r.attrs) gets.has.root in
    let few : total_clusters e.runs ≤ clusters_then e size = omega arith in
    let same : wanted ≡ clusters_then e size - total_clusters e.runs = omega (arith, gets.wanted_is) in
    let attrs : Attr → List Attr = λ own. cond (clusters_then e size == total_clusters e.runs) [] (placed_attr size size (runs_after (placed_among bits e.runs (want n e size))) own ∷ []) in
    let own = same_own index_allocation r r0 stays in
    let xs = (blocks_come bits n r e size).attrs in
    let all = all_append (IsOther index_root names_index) come xs apart_root (blocks_apart index_root bits n r e size gets.has.blocks blocks_root) in
    counted_used n index_allocation size (clusters_then e size) wanted bits e r0 b.first b.others come (stays ∙ b.is) apart_blocks few same
    ∙ ap (λ (a : Attr). used_after (come ++ attrs a) r0) own
    ∙ together.valued index_root names_index (zeros root) r i.first i.others (come ++ xs) i.is all
    ∙ ap (λ (m : ℕ). used_after ((come ++ xs) ++ value_attr m (own_attr index_root names_index r) ∷ []) r) (length-zeros root ∙ gets.root_is)
    ∙ ap (λ (l : List Attr). used_after l r) (append_assoc come xs (root_comes r t ∷ []))
    ∙ sym (ap (λ (l : List Attr). used_after (come ++ (xs ++ l)) r) (own_info r t gets.has.info))
