-- The record that is made has, with the root that the index comes to have, no more used bytes than the step says.
use Rattle.std.proofs.Common.{◌≡◌, ◌≢◌, ℕ, ◌+◌, ◌-◌, ◌*◌, ◌<◌, ◌≤◌, max, Bool, true, false, cond, List, [], ◌∷◌, ◌++◌, length, Option, Some, refl, sym, ap, ◌∙◌, subst, inl, inr, arith}
use Rattle.std.specs.Prelude.{not, filter, ◌&&◌, ◌==◌, ◌||◌}
use Rattle.std.specs.List.{AllByRecursion, flat_map}
use Rattle.std.specs.List.Sorted.{IsPermutation}
use Rattle.std.proofs.lemmas.Bool.{cases_lt, cases_Bool}
use Rattle.std.proofs.lemmas.List.{append_assoc, append-nil, length-append}
use Rattle.std.proofs.lemmas.List.Elements.{filter_agree}
use Rattle.std.proofs.lemmas.List.Sorted.{IsPermutation-to_front}
use Rattle.record_model.specs.declared.attribute.Attr.{Attr}
use Rattle.record_model.specs.Constants.{index_root, index_allocation, bitmap_type, names_index}
use Rattle.record_model.specs.Records.{Record, spelled_bytes, used_of}
use Rattle.state_model.specs.declared.stream.Extents.{Extents}
use Rattle.state_model.specs.declared.stream.Stream.{Stream}
use Rattle.state_model.specs.declared.stream.Stream.TheVariants.{Held, Placed}
use Rattle.state_model.specs.Loads.{total_clusters}
use Rattle.state_model.specs.Streams.{first_vcn, is_attribute_of, attributes_of, attribute_runs, form_stream, joined, stream_of}
use Rattle.volume_model.specs.Volumes.{size_or}
use Rattle.tree_model.specs.Needs.{clusters_for}
use Rattle.space_model.specs.Choosing.{chosen, with_runs}
use Rattle.stream_runs.specs.Runs.{last_cluster}
use Rattle.record_model.proofs.UnitBytes.{length-zeros}
use Rattle.disk_model.specs.Bytes.{zeros}
use Rattle.data_plan.specs.record_streams.Placing.{placed_record}
use Rattle.data_plan.proofs.record_streams.Streams.{attribute_kind, first_passes, placed_others}
use Rattle.data_plan.specs.record_values.Values.{valued_record}
use Rattle.data_plan.proofs.record_values.Valued.{values_put}
use Rattle.data_plan.specs.resized_streams.Resizing.{unplaced}
use Rattle.data_plan.specs.draft_records.Records.{written_bytes}
use Rattle.data_plan.specs.step_model.Placing.{Growth, runs_after}
use Rattle.data_plan.specs.step_model.Used.{is_replaced, attrs_with, used_after, own_attr, value_attr, placed_attr, first_or, new_attr}
use Rattle.data_plan.specs.step_model.Streams.{Wanted, Comes, placed_among, placed_by, comes, own_comes, used_key, wanted_size, wanted_blocks, wanted_used}
use Rattle.data_plan.specs.used_laws.Laws.{IsOther, IsReadAttr}
use Rattle.data_plan.proofs.used_laws.Lengths.{bytes-append, filter_yes, filter_no}
use Rattle.data_plan.proofs.used_laws.Beside.{one_more, together, used}
use Rattle.data_plan.proofs.used_laws.Staying.{sizes}
use Rattle.data_plan.specs.Changes.{BeginsAtZero}
use Rattle.data_plan.proofs.Cases.{above, equal, runs_same}
use Rattle.data_plan.proofs.Taking.{there_is}
use Rattle.directory_growth.specs.declared.change.BitsChange.{BitsChange}
use Rattle.directory_growth.specs.declared.change.BitsChange.TheVariants as change
use Rattle.directory_growth.specs.Growing.{blocks_in, bits_in, root_bytes, bits_size, extents_after, BitsCome}
use Rattle.directory_growth.specs.Laws.{file_of, IndexHasRoom}
use Rattle.directory_growth.proofs.Placing.{wanted_in}
use Rattle.directory_growth.proofs.Coming.{come_is, all_come, comes_placed, comes_by_value, comes_by_growth}
use Rattle.directory_growth.proofs.Step.{other_bits, bits_root, blocks_root, counted_others, root_stays, same_stream, same_own, own_kind, own_info, clusters_then, blocks_come, Gets, counted_for, counts, blocks_want, bits_want}
use Rattle.directory_growth.proofs.Answering.{says}

-- ---- bytes beside other attributes

-- an attribute of one stream isn't replaced by those of others
own_stays : (more : List Attr) (kind : ℕ) (name : List ℕ) (a : Attr) → is_attribute_of kind name a ≡ true → AllByRecursion (IsOther kind name) more → is_replaced more a ≡ false
own_stays [] kind name a is others = refl
own_stays (b ∷ more) kind name a is others = by (is_attribute_of b.head.kind b.name a) refl (own_stays more kind name a is others.1)
  where
    by : (t : Bool) → is_attribute_of b.head.kind b.name a ≡ t → is_replaced more a ≡ false → is_replaced (b ∷ more) a ≡ false
    by true here rest =
        let first = attribute_kind kind name a is in
        let second = attribute_kind b.head.kind b.name a here in
        elim others.0 [
          | inl kinds ↦ absurd (kinds (sym second.0 ∙ first.0))
          | inr names ↦ absurd (names (sym second.1 ∙ first.1))
        ]
    by false here rest = ap (λ (t : Bool). t || is_replaced more a) here ∙ rest

abbrev Own : ℕ → List ℕ → Attr → Bool
Own kind name a = is_attribute_of kind name a

-- what a stream's own attributes take is the same beside others
shares : (kind : ℕ) (name : List ℕ) (more attrs : List Attr) → AllByRecursion (IsOther kind name) more
    → spelled_bytes (filter (λ (a : Attr). not (is_replaced more a)) attrs) + spelled_bytes (filter (λ (a : Attr). not (is_attribute_of kind name a)) attrs)
    ≡ spelled_bytes (filter (λ (a : Attr). not (is_attribute_of kind name a) && not (is_replaced more a)) attrs) + spelled_bytes attrs
shares kind name more [] apart = refl
shares kind name more (a ∷ attrs) apart =
    let left : Attr → Bool = λ x. not (is_replaced more x) in
    let out : Attr → Bool = λ x. not (is_attribute_of kind name x) in
    let both : Attr → Bool = λ x. not (is_attribute_of kind name x) && not (is_replaced more x) in
    let rest = shares kind name more attrs apart in
    elim (cases_Bool (is_attribute_of kind name a)) [
      | inl is ↦
          let first = ap spelled_bytes (filter_yes left a attrs (ap not (own_stays more kind name a is apart))) in
          let second = ap spelled_bytes (filter_no out a attrs (ap not is)) in
          let third = ap spelled_bytes (filter_no both a attrs (ap (λ (t : Bool). not t && not (is_replaced more a)) is)) in
          omega (arith, rest, first, second, third)
      | inr is ↦
          let second = ap spelled_bytes (filter_yes out a attrs (ap not is)) in
          elim (cases_Bool (is_replaced more a)) [
            | inl gone ↦
                let first = ap spelled_bytes (filter_no left a attrs (ap not gone)) in
                let third = ap spelled_bytes (filter_no both a attrs (ap (λ (t : Bool). not t && not (is_replaced more a)) is ∙ ap not gone)) in
                omega (arith, rest, first, second, third)
            | inr stays ↦
                let first = ap spelled_bytes (filter_yes left a attrs (ap not stays)) in
                let third = ap spelled_bytes (filter_yes both a attrs (ap (λ (t : Bool). not t && not (is_replaced more a)) is ∙ ap not stays)) in
                omega (arith, rest, first, second, third)
          ]
    ]

after_is : (more : List Attr) (r : Record) → used_after more r ≡ 0x38 + (spelled_bytes more + spelled_bytes (filter (λ (a : Attr). not (is_replaced more a)) r.attrs)) + 8
unfolding used_after attrs_with
after_is more r = ap (λ (n : ℕ). 0x38 + n + 8) (bytes-append more (filter (λ (a : Attr). not (is_replaced more a)) r.attrs))

-- an attribute that takes no more than its stream took takes no more beside others
no_more : (more : List Attr) (new : Attr) (r : Record) → AllByRecursion (IsOther new.head.kind new.name) more → used_after (new ∷ []) r ≤ used_of r.attrs → used_after (more ++ new ∷ []) r ≤ used_after more r
no_more more new r apart alone =
    let out : Attr → Bool = λ x. not (is_attribute_of new.head.kind new.name x) in
    let one = one_more [] new r in
    let plain = ap spelled_bytes (filter_agree (λ (x : Attr). not (is_attribute_of new.head.kind new.name x) && not (is_replaced [] x)) out (λ x. and_true (out x)) r.attrs) in
    let beside = one_more more new r in
    let before = after_is more r in
    let share = shares new.head.kind new.name more r.attrs apart in
    omega (arith, alone, one, plain, beside, before, share)
  where
    and_true : (b : Bool) → (b && true) ≡ b
    and_true true = refl
    and_true false = refl

-- ---- a stream in clusters

-- a stream that stands so in a record of a table
pub record StandsIn (r : Record) (kind : ℕ) (e : Extents) : Type 0 where
  pub first : Attr
  pub others : List Attr
  pub is : attributes_of kind names_index r.attrs ≡ first ∷ others
  pub read : AllByRecursion IsReadAttr (first ∷ others)
  pub begins : first_vcn first ≡ 0
  pub stream : stream_of kind names_index r.attrs ≡ Some (Placed e)

own_is : (r : Record) (kind : ℕ) (a : Attr) (others : List Attr) → attributes_of kind names_index r.attrs ≡ a ∷ others → own_attr kind names_index r ≡ a
unfolding own_attr
own_is r kind a others is = ap (first_or (new_attr kind names_index)) is

-- The attribute that comes is of the stream.
of_stream : (r : Record) (kind : ℕ) (a : Attr) (others more : List Attr) → attributes_of kind names_index r.attrs ≡ a ∷ others → AllByRecursion (IsOther kind names_index) more → AllByRecursion (IsOther (own_attr kind names_index r).head.kind (own_attr kind names_index r).name) more
of_stream r kind a others more is apart =
    let both = attribute_kind kind names_index a (first_passes kind names_index r.attrs a others is) in
    let own = own_is r kind a others is in
    subst (λ (k : ℕ). AllByRecursion (IsOther k (own_attr kind names_index r).name) more) (sym both.0 ∙ sym (ap (λ (x : Attr). x.head.kind) own))
    (subst (λ (l : List ℕ). AllByRecursion (IsOther kind l) more) (sym both.1 ∙ sym (ap (λ (x : Attr). x.name) own)) apart)

same_clusters : (r : Record) (kind : ℕ) (e f : Extents) (more : List Attr) → StandsIn r kind e → AllByRecursion (IsOther kind names_index) more → f.runs ≡ e.runs → used_after more (placed_record 8 kind names_index f r) ≤ used_after more r
same_clusters r kind e f more stands apart runs =
    let come = together.placed 8 kind names_index f r stands.first stands.others more stands.is apart in
    let alone = used.placed 8 kind names_index f r stands.first stands.others stands.is in
    let short = sizes.stays 8 kind names_index e f r stands.first stands.others stands.is stands.read stands.begins stands.stream runs in
    let new = placed_attr f.real f.initialised f.runs (own_attr kind names_index r) in
    let fits = no_more more new r (of_stream r kind stands.first stands.others more stands.is apart) (omega (arith, alone, short)) in
    omega (arith, come, fits)

-- in its clusters then it has no more bytes than the step counts
pub comes_fit : (n size clusters : ℕ) (bits : List Bool) (r : Record) (kind : ℕ) (e : Extents) (more : List Attr) → StandsIn r kind e → AllByRecursion (IsOther kind names_index) more → total_clusters e.runs ≤ clusters
    → used_after more (placed_record 8 kind names_index (extents_after (placed_among bits e.runs (wanted_in n kind size clusters)) e size) r) ≤ used_after (more ++ (placed_by r (wanted_in n kind size clusters) (placed_among bits e.runs (wanted_in n kind size clusters))).attrs) r
comes_fit n size clusters bits r kind e more stands apart few = elim (cases_lt (total_clusters e.runs) clusters) [
  | inl less ↦
      let w = wanted_in n kind size clusters in
      let g = placed_among bits e.runs w in
      let own = own_attr kind names_index r in
      let come = together.placed 8 kind names_index (extents_after g e size) r stands.first stands.others more stands.is apart in
      let test = ap (λ (b : Bool). used_after (more ++ cond b [] (placed_attr size size (runs_after g) own ∷ [])) r) (above clusters (total_clusters e.runs) less) in
      omega (arith, come, test)
  | inr le ↦
      let w = wanted_in n kind size clusters in
      let g = placed_among bits e.runs w in
      let own = own_attr kind names_index r in
      let same : clusters ≡ total_clusters e.runs = omega (arith, le, few) in
      let short = same_clusters r kind e (extents_after g e size) more stands apart (runs_same g same) in
      let test = ap (λ (b : Bool). used_after (more ++ cond b [] (placed_attr size size (runs_after g) own ∷ [])) r) (equal clusters (total_clusters e.runs) same) in
      let none = ap (λ (l : List Attr). used_after l r) (append-nil more) in
      omega (arith, short, test, none)
]

-- ---- the record with the root

-- where clusters come, a stream has as many bytes as the step counts
comes_more : (n size clusters : ℕ) (bits : List Bool) (r : Record) (kind : ℕ) (e : Extents) (a : Attr) (others more : List Attr) → attributes_of kind names_index r.attrs ≡ a ∷ others → AllByRecursion (IsOther kind names_index) more → total_clusters e.runs < clusters
    → used_after more (placed_record 8 kind names_index (extents_after (placed_among bits e.runs (wanted_in n kind size clusters)) e size) r) ≡ used_after (more ++ (placed_by r (wanted_in n kind size clusters) (placed_among bits e.runs (wanted_in n kind size clusters))).attrs) r
comes_more n size clusters bits r kind e a others more is apart less =
    let w = wanted_in n kind size clusters in
    let g = placed_among bits e.runs w in
    let own = own_attr kind names_index r in
    together.placed 8 kind names_index (extents_after g e size) r a others more is apart
    ∙ sym (ap (λ (b : Bool). used_after (more ++ cond b [] (placed_attr size size (runs_after g) own ∷ [])) r) (above clusters (total_clusters e.runs) less))

abbrev RootAttr : Record → ℕ → Attr
RootAttr r m = value_attr m (own_attr index_root names_index r)

turned : (root : Attr) (come blocks : List Attr) (r : Record) → used_after ((root ∷ come) ++ blocks) r ≡ used_after (come ++ (blocks ++ root ∷ [])) r
turned root come blocks r =
    together.order (come ++ (blocks ++ root ∷ [])) ((root ∷ come) ++ blocks) r
    (subst (λ (l : List Attr). IsPermutation l (root ∷ (come ++ blocks))) (append_assoc come blocks (root ∷ [])) (IsPermutation-to_front (come ++ blocks) root))

-- with a root, in the record F in which streams come to count so many bytes beside it
rooted : (F r : Record) (value : List ℕ) (a : Attr) (others : List Attr) → attributes_of index_root names_index F.attrs ≡ a ∷ others → own_attr index_root names_index F ≡ own_attr index_root names_index r → written_bytes (valued_record index_root names_index value F) ≡ used_after (RootAttr r (length value) ∷ []) F
rooted F r value a others is own =
    sym (together.none (valued_record index_root names_index value F))
    ∙ together.valued index_root names_index value F a others [] is tt
    ∙ ap (λ (x : Attr). used_after (value_attr (length value) x ∷ []) F) own

-- the bitmap that comes into the record with the blocks
record BitsKnown (now : List Bool) (n least : ℕ) (r c s1 : Record) (s : Stream) : Type 0 where
  begins : BeginsAtZero (attributes_of bitmap_type names_index r.attrs)
  read : AllByRecursion IsReadAttr (attributes_of bitmap_type names_index r.attrs)
  some : 0 < least
  same : attributes_of bitmap_type names_index s1.attrs ≡ attributes_of bitmap_type names_index r.attrs
  counted : attributes_of bitmap_type names_index c.attrs ≡ attributes_of bitmap_type names_index r.attrs
  stream : bits_in r ≡ Some s

abbrev Come : List Bool → ℕ → ℕ → Record → Stream → Comes
Come now n least c s = comes now c [] (wanted_size (used_key n) (Some s) least)

-- a bitmap in clusters
placed_fits : (now : List Bool) (n least : ℕ) (r c s1 : Record) (e2 : Extents) (root : Attr) (F : Record) → BitsKnown now n least r c s1 (Placed e2) → root.head.kind ≡ index_root → F ≡ placed_record 8 bitmap_type names_index (extents_after (Come now n least c (Placed e2)).growth e2 (max e2.real least)) s1
    → used_after (root ∷ []) F ≤ used_after (root ∷ (Come now n least c (Placed e2)).attrs) s1
placed_fits now n least r c s1 e2 root F known kind is =
    let size = max e2.real least in
    let clusters = max (total_clusters e2.runs) (clusters_for least) in
    let w = wanted_in n bitmap_type size clusters in
    let g = placed_among now e2.runs w in
    let t = there_is (attributes_of bitmap_type names_index r.attrs) known.begins in
    let come = comes_placed now c n size clusters e2 (same_stream bitmap_type r c known.counted ∙ known.stream) in
    let own : own_attr bitmap_type names_index c ≡ own_attr bitmap_type names_index s1 = same_own bitmap_type r c known.counted ∙ sym (same_own bitmap_type r s1 known.same) in
    let attrs : Attr → List Attr = λ x. cond (clusters == total_clusters e2.runs) [] (placed_attr size size (runs_after g) x ∷ []) in
    let stands : StandsIn s1 bitmap_type e2 = record {
      first = t.first;
      others = t.others;
      is = known.same ∙ t.is;
      read = subst (AllByRecursion IsReadAttr) t.is known.read;
      begins = t.begins;
      stream = same_stream bitmap_type r s1 known.same ∙ known.stream;
    } in
    let apart : AllByRecursion (IsOther bitmap_type names_index) (root ∷ []) = (inl (λ same. bits_root (sym same ∙ kind)), tt) in
    let fits = comes_fit n size clusters now s1 bitmap_type e2 (root ∷ []) stands apart (omega arith) in
    let file = ap (used_after (root ∷ [])) (is ∙ ap (λ (h : Growth). placed_record 8 bitmap_type names_index (extents_after h e2 size) s1) (ap (λ (x : Comes). x.growth) come)) in
    let whole = ap (λ (x : Comes). used_after (root ∷ x.attrs) s1) come ∙ ap (λ (x : Attr). used_after (root ∷ attrs x) s1) own in
    omega (arith, fits, file, whole)

-- a value that leaves
left_fits : (now : List Bool) (n least : ℕ) (r c s1 : Record) (value : List ℕ) (root : Attr) (F : Record) → BitsKnown now n least r c s1 (Held value) → root.head.kind ≡ index_root → (Come now n least c (Held value)).growth.stands ≡ false → F ≡ placed_record 8 bitmap_type names_index (extents_after (Come now n least c (Held value)).growth (unplaced (max (length value) least)) (max (length value) least)) s1
    → used_after (root ∷ []) F ≤ used_after (root ∷ (Come now n least c (Held value)).attrs) s1
left_fits now n least r c s1 value root F known kind out is =
    let size = max (length value) least in
    let clusters = max 0 (clusters_for least) in
    let w = wanted_in n bitmap_type size clusters in
    let some = known.some in
    let t = there_is (attributes_of bitmap_type names_index r.attrs) known.begins in
    let own : own_attr bitmap_type names_index c ≡ own_attr bitmap_type names_index s1 = same_own bitmap_type r c known.counted ∙ sym (same_own bitmap_type r s1 known.same) in
    let come = comes_by_growth now c n size clusters value (omega (arith, some)) (same_stream bitmap_type r c known.counted ∙ known.stream) out in
    let attrs : Attr → List Attr = λ x. cond (clusters == 0) [] (placed_attr size size (runs_after (placed_among now [] w)) x ∷ []) in
    let apart : AllByRecursion (IsOther bitmap_type names_index) (root ∷ []) = (inl (λ same. bits_root (sym same ∙ kind)), tt) in
    let fits = comes_more n size clusters now s1 bitmap_type (unplaced size) t.first t.others (root ∷ []) (known.same ∙ t.is) apart (omega (arith, some)) in
    let file = ap (used_after (root ∷ [])) (is ∙ ap (λ (h : Growth). placed_record 8 bitmap_type names_index (extents_after h (unplaced size) size) s1) (ap (λ (x : Comes). x.growth) come)) in
    let whole = ap (λ (x : Comes). used_after (root ∷ x.attrs) s1) come ∙ ap (λ (x : Attr). used_after (root ∷ attrs x) s1) own in
    omega (arith, fits, file, whole)

-- a value that stays
kept_fits : (now : List Bool) (n least : ℕ) (r c s1 : Record) (value : List ℕ) (root : Attr) (F : Record) → BitsKnown now n least r c s1 (Held value) → root.head.kind ≡ index_root → (Come now n least c (Held value)).growth.stands ≡ true → F ≡ valued_record bitmap_type names_index (value ++ zeros (max (length value) least - length value)) s1
    → used_after (root ∷ []) F ≤ used_after (root ∷ (Come now n least c (Held value)).attrs) s1
kept_fits now n least r c s1 value root F known kind stays is =
    let size = max (length value) least in
    let clusters = max 0 (clusters_for least) in
    let w = wanted_in n bitmap_type size clusters in
    let some = known.some in
    let t = there_is (attributes_of bitmap_type names_index r.attrs) known.begins in
    let bytes = value ++ zeros (size - length value) in
    let long : length bytes ≡ size = omega (arith, length-append value (zeros (size - length value)), length-zeros (size - length value)) in
    let own : own_attr bitmap_type names_index c ≡ own_attr bitmap_type names_index s1 = same_own bitmap_type r c known.counted ∙ sym (same_own bitmap_type r s1 known.same) in
    let come = comes_by_value now c n size clusters value (omega (arith, some)) (same_stream bitmap_type r c known.counted ∙ known.stream) stays in
    let apart : AllByRecursion (IsOther bitmap_type names_index) (root ∷ []) = (inl (λ same. bits_root (sym same ∙ kind)), tt) in
    let fits = together.valued bitmap_type names_index bytes s1 t.first t.others (root ∷ []) (known.same ∙ t.is) apart ∙ ap (λ (m : ℕ). used_after (root ∷ value_attr m (own_attr bitmap_type names_index s1) ∷ []) s1) long in
    let file = ap (used_after (root ∷ [])) is in
    let whole = ap (λ (x : Comes). used_after (root ∷ x.attrs) s1) come ∙ ap (λ (x : Attr). used_after (root ∷ value_attr size x ∷ []) s1) own in
    omega (arith, fits, file, whole)

-- the directory's record before, as the law has it
pub some_bits : (r : Record) → BeginsAtZero (attributes_of bitmap_type names_index r.attrs) → (s : Stream) × (bits_in r ≡ Some s)
unfolding stream_of
some_bits r begins = (let t = there_is (attributes_of bitmap_type names_index r.attrs) begins in (form_stream t.first.form (flat_map attribute_runs (t.first ∷ t.others)), ap joined t.is))

heads : {g h x y : Growth} → ◌≡◌ {A = List Growth} (g ∷ h ∷ []) (x ∷ y ∷ []) → (g ≡ x) × (h ≡ y)
heads same = (cc, cc)

same_old : {s x : Stream} (o : Option Stream) → o ≡ Some s → o ≡ Some x → s ≡ x
same_old o one two = (let both = sym one ∙ two in cc)

-- by what comes of the bitmap
bits_fit : (now : List Bool) (n least size : ℕ) (r c s1 f : Record) (s : Stream) (root : Attr) (h : Growth) (change : BitsChange) → BitsKnown now n least r c s1 s → root.head.kind ≡ index_root → h ≡ (Come now n least c s).growth → f ≡ s1 → size ≡ (wanted_size (used_key n) (Some s) least).real → BitsCome h (bits_in r) f size change
    → used_after (root ∷ []) (file_of change) ≤ used_after (root ∷ (Come now n least c s).attrs) s1
bits_fit now n least size r c s1 f s root h (change.Stays file) known kind is same long come =
    let old = same_old (bits_in r) known.stream come.held in
    let go : (s : Stream) → s ≡ Held come.value → BitsKnown now n least r c s1 s → h ≡ (Come now n least c s).growth → size ≡ (wanted_size (used_key n) (Some s) least).real → used_after (root ∷ []) file ≤ used_after (root ∷ (Come now n least c s).attrs) s1 = λ s old.
    subst (λ (x : Stream). BitsKnown now n least r c s1 x → h ≡ (Come now n least c x).growth → size ≡ (wanted_size (used_key n) (Some x) least).real → used_after (root ∷ []) file ≤ used_after (root ∷ (Come now n least c x).attrs) s1) (sym old)
    (λ known is long. kept_fits now n least r c s1 come.value root file known kind (sym (ap (λ (g : Growth). g.stands) is) ∙ come.stands)
    (come.file_is ∙ ap (λ (m : ℕ). valued_record bitmap_type names_index (come.value ++ zeros (m - length come.value)) f) long ∙ ap (λ (x : Record). valued_record bitmap_type names_index (come.value ++ zeros (max (length come.value) least - length come.value)) x) same)) in
    go s old known is long
bits_fit now n least size r c s1 f s root h (change.Leaves z) known kind is same long come =
    let old = same_old (bits_in r) known.stream come.held in
    let go : (s : Stream) → s ≡ Held come.value → BitsKnown now n least r c s1 s → h ≡ (Come now n least c s).growth → size ≡ (wanted_size (used_key n) (Some s) least).real → used_after (root ∷ []) z.file ≤ used_after (root ∷ (Come now n least c s).attrs) s1 = λ s old.
    subst (λ (x : Stream). BitsKnown now n least r c s1 x → h ≡ (Come now n least c x).growth → size ≡ (wanted_size (used_key n) (Some x) least).real → used_after (root ∷ []) z.file ≤ used_after (root ∷ (Come now n least c x).attrs) s1) (sym old)
    (λ known is long. left_fits now n least r c s1 come.value root z.file known kind (sym (ap (λ (g : Growth). g.stands) is) ∙ come.come.clusters)
    (come.come.file ∙ ap (λ (g : Growth). placed_record 8 bitmap_type names_index (extents_after g (unplaced size) size) f) is ∙ ap (λ (m : ℕ). placed_record 8 bitmap_type names_index (extents_after (Come now n least c (Held come.value)).growth (unplaced m) m) f) long ∙ ap (λ (x : Record). placed_record 8 bitmap_type names_index (extents_after (Come now n least c (Held come.value)).growth (unplaced (max (length come.value) least)) (max (length come.value) least)) x) same)) in
    go s old known is long
bits_fit now n least size r c s1 f s root h (change.Placed z) known kind is same long come =
    let old = same_old (bits_in r) known.stream come.placed in
    let go : (s : Stream) → s ≡ Placed come.e → BitsKnown now n least r c s1 s → h ≡ (Come now n least c s).growth → size ≡ (wanted_size (used_key n) (Some s) least).real → used_after (root ∷ []) z.file ≤ used_after (root ∷ (Come now n least c s).attrs) s1 = λ s old.
    subst (λ (x : Stream). BitsKnown now n least r c s1 x → h ≡ (Come now n least c x).growth → size ≡ (wanted_size (used_key n) (Some x) least).real → used_after (root ∷ []) z.file ≤ used_after (root ∷ (Come now n least c x).attrs) s1) (sym old)
    (λ known is long. placed_fits now n least r c s1 come.e root z.file known kind
    (come.come.file ∙ ap (λ (g : Growth). placed_record 8 bitmap_type names_index (extents_after g come.e size) f) is ∙ ap (λ (m : ℕ). placed_record 8 bitmap_type names_index (extents_after (Come now n least c (Placed come.e)).growth come.e m) f) long ∙ ap (λ (x : Record). placed_record 8 bitmap_type names_index (extents_after (Come now n least c (Placed come.e)).growth come.e (max come.e.real least)) x) same)) in
    go s old known is long

-- the root stays beside the bitmap
root_beside : (h : Growth) (old : Option Stream) (f : Record) (size : ℕ) (change : BitsChange) → BitsCome h old f size change → attributes_of index_root names_index (file_of change).attrs ≡ attributes_of index_root names_index f.attrs
root_beside h old f size (change.Stays file) come =
    ap (λ (x : Record). attributes_of index_root names_index x.attrs) come.file_is ∙ values_put.others bitmap_type index_root names_index names_index (come.value ++ zeros (size - length come.value)) f (inl (λ same. bits_root (sym same)))
root_beside h old f size (change.Leaves z) come =
    ap (λ (x : Record). attributes_of index_root names_index x.attrs) come.come.file ∙ placed_others 8 bitmap_type index_root names_index names_index (extents_after h (unplaced size) size) f (inl (λ same. bits_root (sym same)))
root_beside h old f size (change.Placed z) come =
    ap (λ (x : Record). attributes_of index_root names_index x.attrs) come.come.file ∙ placed_others 8 bitmap_type index_root names_index names_index (extents_after h come.e size) f (inl (λ same. bits_root (sym same)))

come_apart : (now : List Bool) (n least kind : ℕ) (c : Record) (s : Stream) → (own_attr bitmap_type names_index c).head.kind ≡ bitmap_type → bitmap_type ≢ kind → AllByRecursion (IsOther kind names_index) (Come now n least c s).attrs
come_apart now n least kind c s is differ =
    let w = wanted_size (used_key n) (Some s) least in
    subst (λ (y : Comes). AllByRecursion (IsOther kind names_index) y.attrs) (sym (come_is now c [] w))
    (all_come (IsOther kind names_index) now w (stream_of bitmap_type names_index c.attrs) (own_attr bitmap_type names_index c) _ (inl (λ same. differ (sym is ∙ same))) (λ runs. inl (λ same. differ (sym is ∙ same))))

pub has_room : IndexHasRoom
has_room clusters bits n r t more a value has little bytes is long =
    let e = is.blocks.e in
    let size = e.real + 4096 * more in
    let wanted = clusters_for size - total_clusters e.runs in
    let root = root_bytes t in
    let sb = some_bits r has.bits in
    let s = sb.0 in
    let gets : Gets r t more root e s size wanted = record {
      clusters = clusters;
      has = has;
      little = little;
      blocks = is.blocks.placed;
      bitmap = sb.1;
      root_is = refl;
      size_is = refl;
      wanted_is = refl;
    } in
    let now = with_runs (chosen bits (last_cluster e.runs) wanted) bits in
    let said = says bits now n r t more root e s size wanted gets refl in
    let c = counted_for bits root r e size wanted in
    let x = blocks_come bits n r e size in
    let least = bits_size size in
    let both = heads (sym is.growths ∙ said.growths) in
    let p = placed_record 8 index_allocation names_index (extents_after x.growth e size) r in
    let same : a.blocks.file ≡ p = is.blocks.come.file
    ∙ ap (λ (h : Growth). placed_record 8 index_allocation names_index (extents_after h e (wanted_blocks n r more).real) r) both.0
    ∙ ap (λ (w : Wanted). placed_record 8 index_allocation names_index (extents_after x.growth e w.real) r) (blocks_want n more r e size is.blocks.placed refl) in
    let low : 4096 ≤ size_or (blocks_in r) + 4096 * more = little.some in
    let real = ap size_or is.blocks.placed in
    let counted = counted_others 8 index_allocation bitmap_type wanted _ _ other_bits ∙ root_stays bitmap_type root r bits_root in
    let known : BitsKnown now n least r c p s = record {
      begins = has.bits;
      read = sizes.checked bitmap_type names_index r has.fits has.pairs bytes;
      some = omega (arith, low, real);
      same = placed_others 8 index_allocation bitmap_type names_index names_index (extents_after x.growth e size) r (inl other_bits);
      counted = counted;
      stream = sb.1;
    } in
    let kind = own_kind index_root r has.root in
    let new = RootAttr r (length value) in
    let come = Come now n least c s in
    let own_bits : (own_attr bitmap_type names_index c).head.kind ≡ bitmap_type = ap (λ (y : Attr). y.head.kind) (same_own bitmap_type r c counted) ∙ own_kind bitmap_type r has.bits in
    let first = bits_fit now n least (wanted_used n r more).real r c p a.blocks.file s new is.bits_grow a.bits known kind both.1 same (ap (λ (w : Wanted). w.real) (bits_want n more r e s size is.blocks.placed sb.1 refl)) is.bitmap in
    let b = there_is (attributes_of index_allocation names_index r.attrs) has.blocks in
    let stands : StandsIn r index_allocation e = record {
      first = b.first;
      others = b.others;
      is = b.is;
      read = subst (AllByRecursion IsReadAttr) b.is (sizes.checked index_allocation names_index r has.fits has.pairs bytes);
      begins = b.begins;
      stream = is.blocks.placed;
    } in
    let apart : AllByRecursion (IsOther index_allocation names_index) (new ∷ come.attrs) = (inl (λ same. blocks_root (sym same ∙ kind)), come_apart now n least index_allocation c s own_bits other_bits) in
    let second = comes_fit n size (clusters_then e size) bits r index_allocation e (new ∷ come.attrs) stands apart (omega arith) in
    let third = turned new come.attrs x.attrs r in
    let own : x.attrs ++ own_comes r t ≡ x.attrs ++ new ∷ [] = ap (λ (l : List Attr). x.attrs ++ l) (own_info r t has.info ∙ sym (ap (λ (m : ℕ). value_attr m (own_attr index_root names_index r) ∷ []) long)) in
    let whole = counts bits n r t more root e s size wanted gets come.attrs (come_apart now n least index_allocation c s own_bits other_bits) (come_apart now n least index_root c s own_bits bits_root) ∙ ap (λ (l : List Attr). used_after (come.attrs ++ l) r) own in
    let used_is = is.used ∙ said.used in
    let i = there_is (attributes_of index_root names_index r.attrs) has.root in
    let roots : attributes_of index_root names_index (file_of a.bits).attrs ≡ attributes_of index_root names_index r.attrs = root_beside is.bits_grow (bits_in r) a.blocks.file (wanted_used n r more).real a.bits is.bitmap
    ∙ ap (λ (y : Record). attributes_of index_root names_index y.attrs) same ∙ placed_others 8 index_allocation index_root names_index names_index (extents_after x.growth e size) r (inl (λ same. blocks_root (sym same))) in
    let write = rooted (file_of a.bits) r value i.first i.others (roots ∙ i.is) (same_own index_root r (file_of a.bits) roots) in
    omega (arith, write, first, second, third, whole, used_is)
