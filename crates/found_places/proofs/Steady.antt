-- What comes of a directory's index that gets no block, in the words of a step.
use Rattle.std.proofs.Common.{◌-◌, ◌≡◌, ◌≢◌, ◌⊎◌, ℕ, ◌≤◌, max, Bool, true, false, cond, eqb, leb, List, [], ◌∷◌, ◌++◌, length, Option, Some, None, refl, sym, ap, ap₂, subst, ◌∙◌, append-nil, inl, inr, arith}
use Rattle.std.specs.Prelude.{filter, not}
use Rattle.std.specs.List.{AllByRecursion}
use Rattle.std.proofs.lemmas.Bool.{cases_Bool, eq-eqb, le-leb, le-ltb, or_right, both_ways}
use Rattle.std.proofs.lemmas.List.Sorted.{IsPermutation-to_front}
use Rattle.std.proofs.lemmas.List.Sums.{sum_by-cons}
use Rattle.record_model.specs.declared.runs.Run.{Run}
use Rattle.record_model.specs.declared.attribute.Attr.{Attr}
use Rattle.record_model.specs.declared.attribute.OwnForm.TheVariants.{Resident}
use Rattle.record_model.specs.Attributes.{spelling}
use Rattle.record_model.specs.Constants.{standard_information, index_allocation, index_root, bitmap_type, names_index}
use Rattle.record_model.specs.Records.{Record}
use Rattle.record_model.proofs.UnitBytes.{length-zeros}
use Rattle.record_writer.specs.Edits.{whole_length, form_length}
use Rattle.record_writer.proofs.Measures.{length-spelling}
use Rattle.record_streams.specs.Placing.{without_stream, with_stream}
use Rattle.record_streams.proofs.Kept.{with_none, with_one}
use Rattle.record_streams.proofs.Streams.{first_passes}
use Rattle.index_model.specs.Trees.{Tree}
use Rattle.state_model.specs.declared.stream.Extents.{Extents}
use Rattle.state_model.specs.declared.stream.Stream.{Stream}
use Rattle.state_model.specs.declared.stream.Stream.TheVariants.{Held, Placed}
use Rattle.state_model.specs.Files.{has_type}
use Rattle.state_model.specs.Loads.{total_clusters}
use Rattle.state_model.specs.Streams.{is_attribute_of, attributes_of, stream_of}
use Rattle.space_model.specs.Choosing.{chosen, with_runs}
use Rattle.volume_model.specs.Volumes.{size_or}
use Rattle.volume_model.specs.Nodes.{clusters_or}
use Rattle.stream_laws.specs.Sharing.{StreamKey, runs_in}
use Rattle.stream_runs.specs.Runs.{last_cluster, merged, grown, front}
use Rattle.tree_model.specs.Needs.{clusters_for}
use Rattle.made_trees.proofs.written_values.change_steps.data_plan.Cases.{chosen_none}
use Rattle.step_model.specs.Placing.{Growth, more_of, runs_after, AllPlaced, wanted_by}
use Rattle.step_model.specs.Used.{most_used, used_after, new_attr, first_or, own_attr, value_attr, placed_attr, is_in_record, stays_in}
use Rattle.step_model.specs.Streams.{info_comes, Wanted, Comes, Changed, stream_in, attr_in, as_value, placed_among, in_clusters, comes, and_then, with_own, no_change, root_comes, own_comes, blocks_key, used_key, wanted_size, blocks_size, wanted_blocks, wanted_used, used_behind, index_comes}
use Rattle.used_laws.specs.Laws.{IsOther}
use Rattle.used_laws.proofs.Beside.{alike, beside, together}
use Rattle.found_places.specs.Steady.{bits_size, HasBits, HasBlocks, IsSteady}

-- ---- a value as it is

-- a stream of one attribute, which is this value
pub record IsOneValue (kind : ℕ) (name : List ℕ) (r : Record) (value : List ℕ) : Type 0 where
  pub attr : Attr
  pub indexed : ℕ
  pub listed : attributes_of kind name r.attrs ≡ attr ∷ []
  pub filtered : filter (is_attribute_of kind name) r.attrs ≡ attr ∷ []
  pub form : attr.form ≡ Resident value indexed

filter_yes : (p : Attr → Bool) (a : Attr) (attrs : List Attr) → p a ≡ true → filter p (a ∷ attrs) ≡ a ∷ filter p attrs
filter_yes p a attrs is = ap (λ (t : Bool). cond t (a ∷ filter p attrs) (filter p attrs)) is

filter_no : (p : Attr → Bool) (a : Attr) (attrs : List Attr) → p a ≡ false → filter p (a ∷ attrs) ≡ filter p attrs
filter_no p a attrs is = ap (λ (t : Bool). cond t (a ∷ filter p attrs) (filter p attrs)) is

none_out : (kind : ℕ) (name : List ℕ) (attrs : List Attr) → filter (is_attribute_of kind name) attrs ≡ [] → without_stream kind name attrs ≡ attrs
none_out kind name [] none = refl
none_out kind name (a ∷ attrs) none = elim (cases_Bool (is_attribute_of kind name a)) [
  | inl is ↦ absurd (let some = sym (filter_yes (is_attribute_of kind name) a attrs is) ∙ none in cc)
  | inr other ↦
      ap (λ (t : Bool). cond (not t) (a ∷ without_stream kind name attrs) (without_stream kind name attrs)) other
      ∙ ap (λ (l : List Attr). a ∷ l) (none_out kind name attrs (sym (filter_no (is_attribute_of kind name) a attrs other) ∙ none))
]

-- the attribute in its own place
itself : (kind : ℕ) (name : List ℕ) (a : Attr) (attrs : List Attr) → filter (is_attribute_of kind name) attrs ≡ a ∷ [] → with_stream kind name a attrs ≡ attrs
itself kind name a [] is = absurd cc
itself kind name a (b ∷ attrs) is = elim (cases_Bool (is_attribute_of kind name b)) [
  | inl own ↦
      (let both : b ∷ filter (is_attribute_of kind name) attrs ≡ a ∷ [] = sym (filter_yes (is_attribute_of kind name) b attrs own) ∙ is in
      let first : a ≡ b = cc in
      let rest : filter (is_attribute_of kind name) attrs ≡ [] = cc in
      with_one kind name a b attrs own ∙ ap₂ (λ (x : Attr) (l : List Attr). x ∷ l) first (none_out kind name attrs rest))
  | inr other ↦ with_none kind name a b attrs other ∙ ap (λ (l : List Attr). b ∷ l) (itself kind name a attrs (sym (filter_no (is_attribute_of kind name) b attrs other) ∙ is))
]

-- a value of as many bytes takes as many of the record
pub as_before : (kind : ℕ) (name : List ℕ) (r : Record) (value : List ℕ) (more : List Attr) → IsOneValue kind name r value → AllByRecursion (IsOther kind name) more → used_after (more ++ value_attr (length value) (own_attr kind name r) ∷ []) r ≡ used_after more r
unfolding own_attr
as_before kind name r value more k apart =
    let a : Attr = k.attr in
    let own = first_passes kind name r.attrs a [] k.listed in
    let same : used_after more r ≡ used_after (more ++ a ∷ []) r =
    ap (λ (l : List Attr). used_after more (record { head = r.head; attrs = l })) (sym (itself kind name a r.attrs k.filtered)) ∙ beside kind name a r a [] more k.listed own apart
    in
    let sizes : length (spelling (value_attr (length value) a)) ≡ length (spelling a) =
    length-spelling (value_attr (length value) a) ∙ ap (whole_length 0x18 (length a.name)) (length-zeros (length value)) ∙ sym (length-spelling a ∙ ap (form_length (length a.name)) k.form)
    in
    ap (λ (l : List Attr). used_after (more ++ value_attr (length value) (first_or (new_attr kind name) l) ∷ []) r) k.listed
    ∙ alike more (value_attr (length value) a) a r refl refl sizes
    ∙ sym same

-- ---- streams that keep their clusters

same_clusters : (g : Growth) → g.clusters ≡ total_clusters g.old → runs_after g ≡ g.old
unfolding runs_after
same_clusters g is =
    ap (λ (t : Bool). cond t (merged (front g.clusters g.old)) (cond (eqb g.clusters (total_clusters g.old)) g.old (grown g.old g.runs))) (le-ltb g.clusters (total_clusters g.old) (omega (arith, is)))
    ∙ ap (λ (t : Bool). cond t g.old (grown g.old g.runs)) (eq-eqb g.clusters (total_clusters g.old) is)

none_left : (a b : ℕ) → a ≡ b → a - b ≡ 0
none_left a b is = omega (arith, is)

none_chosen : (bits : List Bool) (last : Option ℕ) → chosen bits last 0 ≡ []
none_chosen bits last = chosen_none bits last 0 refl

-- a stream in clusters that wants no more of them
abbrev pub KeepsRuns : Record → StreamKey → Comes → Type 0
KeepsRuns r s a = (a.attrs ≡ []) × (a.growth.stream ≡ s) × (a.growth.stands ≡ false) × (a.growth.old ≡ runs_in (stream_in r s)) × (runs_after a.growth ≡ a.growth.old) × (a.growth.runs ≡ []) × (more_of a.growth ≡ 0)

pub keeps_runs : (bits : List Bool) (r : Record) (w : Wanted) → w.clusters ≡ total_clusters (runs_in (stream_in r w.stream)) → KeepsRuns r w.stream (in_clusters bits r w)
unfolding in_clusters
keeps_runs bits r w is = (
  ap (λ (t : Bool). cond t [] (placed_attr w.real w.initialised (runs_after (placed_among bits (runs_in (stream_in r w.stream)) w)) (attr_in r w.stream) ∷ [])) (eq-eqb w.clusters (total_clusters (runs_in (stream_in r w.stream))) is),
  refl,
  refl,
  refl,
  same_clusters (placed_among bits (runs_in (stream_in r w.stream)) w) is,
  ap (chosen bits (last_cluster (runs_in (stream_in r w.stream)))) (none_left w.clusters (total_clusters (runs_in (stream_in r w.stream))) is) ∙ none_chosen bits (last_cluster (runs_in (stream_in r w.stream))),
  none_left w.clusters (total_clusters (runs_in (stream_in r w.stream))) is,
)

max_is : (a b : ℕ) → b ≤ a → max a b ≡ a
max_is a b low = omega (arith, low)

-- ---- the index

-- the growths of a directory's index, each with the runs that its stream has
abbrev pub Stays : Record → ℕ → Growth → Type 0
Stays r n g = ((g.stream ≡ blocks_key n) ⊎ (g.stream ≡ used_key n)) × (is_in_record (stream_in r g.stream) ≡ g.stands) × (g.old ≡ runs_in (stream_in r g.stream)) × (runs_after g ≡ g.old) × (g.runs ≡ []) × (more_of g ≡ 0)

-- what comes keeps the clusters of all streams, and the root alone counts
pub record IsKept (r : Record) (t : Tree) (n : ℕ) (c : Changed) : Type 0 where
  pub stays : AllByRecursion (Stays r n) c.growths
  pub used : used_after c.attrs r ≡ used_after (root_comes r t ∷ []) r

kept_as : (r : Record) (t : Tree) (n : ℕ) (c d : Changed) → d ≡ c → IsKept r t n c → IsKept r t n d
kept_as r t n c d same k = subst (IsKept r t n) (sym same) k

other_bits : bitmap_type ≢ index_root
other_bits same = absurd (let e : 0xb0 ≡ 0x90 = same in omega (arith, e))

module _ (bits : List Bool) (n : ℕ) (r : Record) (t : Tree) (info : has_type standard_information r ≡ true) (root_kind : (own_attr index_root names_index r).head.kind ≡ index_root) (low : used_after (root_comes r t ∷ []) r ≤ most_used) where
  own_is : own_comes r t ≡ root_comes r t ∷ []
  own_is = ap (λ (b : Bool). root_comes r t ∷ cond b [] (value_attr 72 (new_attr standard_information []) ∷ [])) info

  root_apart : AllByRecursion (IsOther bitmap_type names_index) (root_comes r t ∷ [])
  root_apart = (inl (λ same. other_bits (sym same ∙ root_kind)), tt)

  with_bits : (value : List ℕ) → IsOneValue bitmap_type names_index r value → used_after (value_attr (length value) (own_attr bitmap_type names_index r) ∷ root_comes r t ∷ []) r ≡ used_after (root_comes r t ∷ []) r
  with_bits value one =
      let new : Attr = value_attr (length value) (own_attr bitmap_type names_index r) in
      together.order (root_comes r t ∷ new ∷ []) (new ∷ root_comes r t ∷ []) r (IsPermutation-to_front (root_comes r t ∷ []) new)
      ∙ as_before bitmap_type names_index r value (root_comes r t ∷ []) one root_apart

  -- ---- the bitmap

  pub bits_held : (now : List Bool) (value : List ℕ) (w : Wanted) → stream_in r w.stream ≡ Some (Held value) → attr_in r w.stream ≡ own_attr bitmap_type names_index r → w.real ≡ length value → IsOneValue bitmap_type names_index r value → comes now r (root_comes r t ∷ []) w ≡ as_value r w
  unfolding comes
  bits_held now value w is own size one =
      let used : used_after (value_attr w.real (attr_in r w.stream) ∷ root_comes r t ∷ []) r ≡ used_after (root_comes r t ∷ []) r =
      ap₂ (λ (i : ℕ) (a : Attr). used_after (value_attr i a ∷ root_comes r t ∷ []) r) size own ∙ with_bits value one
      in
      ap₂ (λ (o : Option Stream) (i : ℕ). cond (stays_in o w.real i) (as_value r w) (in_clusters now r w)) is used
      ∙ ap (λ (t : Bool). cond t (as_value r w) (in_clusters now r w)) (or_right (eqb w.real 0) (leb (used_after (root_comes r t ∷ []) r) most_used) (le-leb _ most_used low))

  pub bits_placed : (now : List Bool) (e : Extents) (w : Wanted) (others : List Attr) → stream_in r w.stream ≡ Some (Placed e) → comes now r others w ≡ in_clusters now r w
  unfolding comes
  bits_placed now e w others is = ap (λ (o : Option Stream). cond (stays_in o w.real (used_after (value_attr w.real (attr_in r w.stream) ∷ others) r)) (as_value r w) (in_clusters now r w)) is

  -- ---- both

  abbrev blocks : Option Stream
  blocks = stream_in r (blocks_key n)

  abbrev used_bits : Option Stream
  used_bits = stream_in r (used_key n)

  abbrev a : Comes
  a = in_clusters bits r (wanted_blocks n r 0)

  abbrev now : List Bool
  now = with_runs (in_clusters bits r (wanted_blocks n r 0)).growth.runs bits

  pub both_kept : (b : Comes) → KeepsRuns r (blocks_key n) a → is_in_record blocks ≡ false → comes now r (root_comes r t ∷ []) (wanted_used n r 0) ≡ b → Stays r n b.growth → used_after (b.attrs ++ root_comes r t ∷ []) r ≡ used_after (root_comes r t ∷ []) r
      → IsKept r t n (with_own r t (used_behind bits n r t 0 a))
  both_kept b k outside is stays used =
      let others : (a.attrs ++ own_comes r t) ≡ root_comes r t ∷ [] = ap₂ (λ (x y : List Attr). x ++ y) k.0 own_is in
      let is_b : comes now r (a.attrs ++ own_comes r t) (wanted_used n r 0) ≡ b = ap (λ (l : List Attr). comes now r l (wanted_used n r 0)) others ∙ is in
      let come : with_own r t (used_behind bits n r t 0 a) ≡ record { attrs = (b.attrs ++ a.attrs) ++ own_comes r t; growths = a.growth ∷ b.growth ∷ [] } = ap (λ (x : Comes). with_own r t (and_then a x)) is_b in
      kept_as r t n _ _ come (record {
        stays = ((inl k.1, ap (λ (s : StreamKey). is_in_record (stream_in r s)) k.1 ∙ outside ∙ sym k.2, k.3 ∙ ap (λ (s : StreamKey). runs_in (stream_in r s)) (sym k.1), k.4, k.5, k.6), (stays, tt));
        used =
            ap₂ (λ (x y : List Attr). used_after ((b.attrs ++ x) ++ y) r) k.0 own_is
            ∙ ap (λ (l : List Attr). used_after (l ++ root_comes r t ∷ []) r) (append-nil b.attrs)
            ∙ used;
      })

  size_now : (o : Option Stream) → blocks ≡ o → blocks_size n r 0 ≡ size_or o
  size_now o is = (let e = ap size_or is in omega (arith, e))

  bits_now : (size : ℕ) → blocks_size n r 0 ≡ size → wanted_used n r 0 ≡ wanted_size (used_key n) used_bits (bits_size size)
  bits_now size is = ap (λ (i : ℕ). wanted_size (used_key n) used_bits (bits_size i)) is

  by_bits : (e : Extents) (o : Option Stream) → blocks ≡ Some (Placed e) → KeepsRuns r (blocks_key n) a → used_bits ≡ o → HasBits e.real o → ((value : List ℕ) → used_bits ≡ Some (Held value) → IsOneValue bitmap_type names_index r value) → IsKept r t n (with_own r t (used_behind bits n r t 0 a))
  by_bits e None placed k is has one = absurd has
  by_bits e (Some (Held value)) placed k is has one =
      let w : Wanted = wanted_used n r 0 in
      let real : w.real ≡ length value =
      ap (λ (x : Wanted). x.real) (bits_now e.real (size_now (Some (Placed e)) placed)) ∙ ap (λ (x : Option Stream). max (size_or x) (bits_size e.real)) is ∙ max_is (length value) (bits_size e.real) has
      in
      both_kept (as_value r w) k (ap is_in_record placed) (bits_held now value w is refl real (one value is)) (inr refl, ap is_in_record is, sym (ap runs_in is), same_clusters (as_value r w).growth refl, refl, refl)
      (ap (λ (i : ℕ). used_after (value_attr i (own_attr bitmap_type names_index r) ∷ root_comes r t ∷ []) r) real ∙ with_bits value (one value is))
  by_bits e (Some (Placed f)) placed k is has one =
      let w : Wanted = wanted_used n r 0 in
      let clusters : w.clusters ≡ total_clusters (runs_in used_bits) =
      ap (λ (x : Wanted). x.clusters) (bits_now e.real (size_now (Some (Placed e)) placed)) ∙ ap (λ (x : Option Stream). max (clusters_or x) (clusters_for (bits_size e.real))) is ∙ max_is (total_clusters f.runs) (clusters_for (bits_size e.real)) has ∙ sym (ap (λ (x : Option Stream). total_clusters (runs_in x)) is)
      in
      let b = keeps_runs now r w clusters in
      both_kept (in_clusters now r w) k (ap is_in_record placed) (bits_placed now f w (root_comes r t ∷ []) is)
      (inr b.1, ap (λ (s : StreamKey). is_in_record (stream_in r s)) b.1 ∙ ap is_in_record is ∙ sym b.2, b.3 ∙ ap (λ (s : StreamKey). runs_in (stream_in r s)) (sym b.1), b.4, b.5, b.6)
      (ap (λ (l : List Attr). used_after (l ++ root_comes r t ∷ []) r) b.0)

  alone : IsKept r t n (with_own r t no_change)
  alone = record { stays = tt; used = ap (λ (l : List Attr). used_after l r) own_is }

  by_size : (x : Bool) → eqb (blocks_size n r 0) 0 ≡ x → (o : Option Stream) → blocks ≡ o → HasBlocks o used_bits → ((e : Extents) → o ≡ Some (Placed e) → clusters_for e.real ≤ total_clusters e.runs) → ((value : List ℕ) → used_bits ≡ Some (Held value) → IsOneValue bitmap_type names_index r value)
      → IsKept r t n (cond x (with_own r t no_change) (with_own r t (used_behind bits n r t 0 a)))
  by_size true none o is has room one = alone
  by_size false some None is has room one = absurd (let e = size_now None is in both_ways (eqb (blocks_size n r 0) 0) some (eq-eqb (blocks_size n r 0) 0 e))
  by_size false some (Some (Held value)) is has room one = absurd (let e = size_now (Some (Held value)) is in both_ways (eqb (blocks_size n r 0) 0) some (eq-eqb (blocks_size n r 0) 0 (e ∙ has)))
  by_size false some (Some (Placed e)) is has room one =
      let size = size_now (Some (Placed e)) is in
      let fits = room e refl in
      let clusters : (wanted_blocks n r 0).clusters ≡ total_clusters (runs_in blocks) =
      ap₂ (λ (x : Option Stream) (i : ℕ). max (clusters_or x) (clusters_for i)) is size ∙ max_is (total_clusters e.runs) (clusters_for e.real) fits ∙ sym (ap (λ (x : Option Stream). total_clusters (runs_in x)) is)
      in
      by_bits e used_bits is (keeps_runs bits r (wanted_blocks n r 0) clusters) refl has one

  pub index_kept : IsSteady r → ((e : Extents) → stream_of index_allocation names_index r.attrs ≡ Some (Placed e) → clusters_for e.real ≤ total_clusters e.runs) → ((value : List ℕ) → stream_of bitmap_type names_index r.attrs ≡ Some (Held value) → IsOneValue bitmap_type names_index r value) → IsKept r t n (index_comes bits n r t 0)
  unfolding index_comes
  index_kept has room one = by_size (eqb (blocks_size n r 0) 0) refl (stream_of index_allocation names_index r.attrs) refl has room one

-- ---- what such growths take

nothing_chosen : (bits : List Bool) (last : Option ℕ) (more : ℕ) (runs : List Run) → runs ≡ [] → more ≡ 0 → runs ≡ chosen bits last more
nothing_chosen bits last more runs none zero = none ∙ sym (ap (chosen bits last) zero ∙ none_chosen bits last)

pub all_placed : (r : Record) (n : ℕ) (bits : List Bool) (l : List Growth) → AllByRecursion (Stays r n) l → AllPlaced bits l
all_placed r n bits [] all = tt
all_placed r n bits (g ∷ l) all = (nothing_chosen bits (last_cluster g.old) (more_of g) g.runs all.0.4 all.0.5, all_placed r n (with_runs g.runs bits) l all.1)

pub none_wanted : (r : Record) (n : ℕ) (l : List Growth) → AllByRecursion (Stays r n) l → wanted_by l ≡ 0
none_wanted r n [] all = refl
none_wanted r n (g ∷ l) all = (let rest = none_wanted r n l all.1 in let zero = all.0.5 in let sum = sum_by-cons more_of g l in omega (arith, rest, zero, sum))

-- by roots of the same length streams take the same
pub same_growths : (bits : List Bool) (n : ℕ) (r : Record) (t u : Tree) → root_comes r t ≡ root_comes r u → (index_comes bits n r t 0).growths ≡ (index_comes bits n r u 0).growths
unfolding index_comes
same_growths bits n r t u same = by (eqb (blocks_size n r 0) 0)
  where
    a : Comes
    a = in_clusters bits r (wanted_blocks n r 0)

    by : (x : Bool) → (cond x (with_own r t no_change) (with_own r t (used_behind bits n r t 0 (in_clusters bits r (wanted_blocks n r 0))))).growths ≡ (cond x (with_own r u no_change) (with_own r u (used_behind bits n r u 0 (in_clusters bits r (wanted_blocks n r 0))))).growths
    by true = refl
    by false = ap (λ (x : Attr). (and_then a (comes (with_runs a.growth.runs bits) r (a.attrs ++ x ∷ info_comes r) (wanted_used n r 0))).growths) same
