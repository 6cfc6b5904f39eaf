-- A file gets unnamed data, as a value in its record.
use Rattle.std.proofs.Common.{◌≡◌, ◌≢◌, ◌⊎◌, ℕ, ◌/◌, ◌%◌, Bool, true, false, ◌&&◌, cond, eqb, nat_eq, ltb, List, [], ◌∷◌, ◌++◌, Option, Some, None, refl, sym, ap, ap₂, subst, ◌∙◌, inl, inr, arith}
use Rattle.std.specs.Prelude.{filter, find}
use Rattle.std.specs.List.{list_all, flat_map, cons_option, AllByRecursion}
use Rattle.std.specs.Cmp.Lexicographic.{pointwise}
use Rattle.std.proofs.lemmas.Bool.{and_from, and_parts, both_ways, cases_Bool, false_from_ne_true, ne_eqb, or_right}
use Rattle.std.proofs.lemmas.List.Folds.{list_all-append}
use Rattle.host_base.specs.declared.file_ref.FileRef.{FileRef}
use Rattle.disk_model.specs.Content.{Content, HasSizes}
use Rattle.plan_growth.specs.record_model.declared.attribute.Attr.{Attr}
use Rattle.plan_growth.specs.record_model.declared.attribute.OwnForm.{OwnForm}
use Rattle.plan_growth.specs.record_model.declared.attribute.OwnForm.TheVariants.{Resident, Mapped}
use Rattle.plan_growth.specs.record_model.declared.runs.Run.{Run}
use Rattle.plan_growth.specs.record_model.Records.{Record}
use Rattle.plan_growth.specs.record_model.Constants.{attribute_list, data_type, file_name, index_allocation, index_root, names_index, object_id, reparse_point, standard_information}
use Rattle.plan_growth.specs.file_tree.declared.link.Link.{Link}
use Rattle.plan_growth.specs.state_model.declared.geometry.Geometry.{Geometry}
use Rattle.plan_growth.specs.state_model.declared.stream.Stream.{Stream}
use Rattle.plan_growth.specs.state_model.Files.{attr_link, form_link, record_links, reference}
use Rattle.plan_growth.specs.state_model.Indexes.{is_names_root}
use Rattle.plan_growth.specs.state_model.Loads.{has_fitting_pairs}
use Rattle.plan_growth.specs.state_model.Streams.{is_attribute_of, with_attribute, sorted_into, attributes_of, attribute_runs, joined, form_stream, form_runs, form_first, stream_of}
use Rattle.plan_growth.specs.volume_model.Volumes.{Volume}
use Rattle.plan_growth.specs.volume_model.Indexes.{attr_value, root_value}
use Rattle.plan_growth.specs.volume_model.Nodes.{first_flags, data_flags}
use Rattle.plan_growth.specs.volume_model.Owners.{uses, file_runs}
use Rattle.plan_growth.specs.volume_model.Sizes.{are_joined, fits_volume, keeps_stream}
use Rattle.plan_growth.specs.volume_state.Journals.{entries_name, limits_name}
use Rattle.plan_growth.specs.stream_laws.Owners.{initialised_in}
use Rattle.plan_growth.specs.stream_laws.Sharing.{runs_in}
use Rattle.plan_growth.proofs.stream_laws.Sharing.{attribute_kind}
use Rattle.plan_growth.specs.plan_owners.States.{Stands}
use Rattle.plan_growth.specs.plan_bodies.Bodies.{NewBody, content_with}
use Rattle.plan_growth.specs.plan_model.Attributes.{IsValue}
use Rattle.plan_growth.specs.plan_model.Parts.{NonePass, IsOfAnother, ReplacesAttrs}
use Rattle.plan_growth.proofs.plan_model.Parting.{links_replaced, uses_replaced, types_same, info_same, attributes_same, stream_same, names_same, sizes_replaced}
use Rattle.plan_growth.specs.Trees.{TreeFollows}
use Rattle.plan_growth.proofs.Placed.{same_or_other}
use Rattle.plan_growth.proofs.Written.{all_read}
use Rattle.plan_values.specs.Values.{is_data}
use Rattle.plan_values.specs.Made.{MakesData, DataMade}
use Rattle.plan_values.proofs.Staying.{Stays, stays_leads, stays_goes_on, stays_tree, info_now, data_only}
use Rattle.plan_values.proofs.Valued.{value_fits, old_pairs, limits_named, entries_named}

-- ---- a record without a stream has no attribute of it

pub some_sorted : (x : Attr) (attributes attrs : List Attr) → sorted_into (x ∷ attributes) attrs ≡ [] → ⊥
some_sorted x attributes [] none = absurd cc
some_sorted x attributes (a ∷ attrs) none = elim (cases_Bool (ltb (form_first a.form) (form_first x.form))) [
  | inl before ↦ some_sorted a (x ∷ attributes) attrs (sym (ap (λ (t : Bool). sorted_into (cond t (a ∷ x ∷ attributes) (x ∷ with_attribute a attributes)) attrs) before) ∙ none)
  | inr behind ↦ some_sorted x (with_attribute a attributes) attrs (sym (ap (λ (t : Bool). sorted_into (cond t (a ∷ x ∷ attributes) (x ∷ with_attribute a attributes)) attrs) behind) ∙ none)
]

none_sorted : (attrs : List Attr) → sorted_into [] attrs ≡ [] → attrs ≡ []
none_sorted [] none = refl
none_sorted (a ∷ attrs) none = absurd (some_sorted a [] attrs none)

none_joined : (attributes : List Attr) → joined attributes ≡ None → attributes ≡ []
none_joined [] none = refl
none_joined (a ∷ attributes) none = absurd cc

pub none_pass : (test : Attr → Bool) (attrs : List Attr) → filter test attrs ≡ [] → AllByRecursion (λ a. test a ≡ false) attrs
none_pass test [] none = tt
none_pass test (a ∷ attrs) none = elim (cases_Bool (test a)) [
  | inl passes ↦ (let some : a ∷ filter test attrs ≡ [] = sym (ap (λ (t : Bool). cond t (a ∷ filter test attrs) (filter test attrs)) passes) ∙ none in absurd cc)
  | inr fails ↦ (fails, none_pass test attrs (sym (ap (λ (t : Bool). cond t (a ∷ filter test attrs) (filter test attrs)) fails) ∙ none))
]

no_attribute : (kind : ℕ) (name : List ℕ) (attrs : List Attr) → stream_of kind name attrs ≡ None → AllByRecursion (λ a. is_attribute_of kind name a ≡ false) attrs
unfolding stream_of attributes_of
no_attribute kind name attrs none = none_pass (is_attribute_of kind name) attrs (none_sorted (filter (is_attribute_of kind name) attrs) (none_joined (sorted_into [] (filter (is_attribute_of kind name) attrs)) none))

-- ---- one attribute of the unnamed data

data_by : (a : Attr) → a.head.kind ≡ data_type → a.name ≡ [] → is_data a ≡ true
unfolding is_attribute_of
data_by a kind name = ap₂ (λ (k : ℕ) (l : List ℕ). eqb k data_type && pointwise nat_eq l []) kind name

module _ (one : Attr) (of_data : is_data one ≡ true) where
  other_type : (kind : ℕ) → kind ≢ data_type → eqb one.head.kind kind ≡ false
  other_type kind other = ne_eqb one.head.kind kind (λ same. other (sym same ∙ (attribute_kind data_type [] one of_data).0))

  other_stream : (kind : ℕ) (name : List ℕ) → (kind ≢ data_type) ⊎ (name ≢ []) → is_attribute_of kind name one ≡ false
  other_stream kind name other = false_from_ne_true (is_attribute_of kind name one) (clash other)
    where
      clash : (kind ≢ data_type) ⊎ (name ≢ []) → is_attribute_of kind name one ≡ true → ⊥
      clash (inl kinds) is = kinds (sym (attribute_kind kind name one is).0 ∙ (attribute_kind data_type [] one of_data).0)
      clash (inr names) is = names (sym (attribute_kind kind name one is).1 ∙ (attribute_kind data_type [] one of_data).1)

  none_of_type : (kind : ℕ) → kind ≢ data_type → NonePass (λ a. eqb a.head.kind kind) [] (one ∷ [])
  none_of_type kind other = record { gone = tt; come = (other_type kind other, tt) }

  none_of_stream : (kind : ℕ) (name : List ℕ) → (kind ≢ data_type) ⊎ (name ≢ []) → NonePass (is_attribute_of kind name) [] (one ∷ [])
  none_of_stream kind name other = record { gone = tt; come = (other_stream kind name other, tt) }

  another : (a : Attr) → is_data a ≡ false → IsOfAnother [] (one ∷ []) a
  another a none = inr (record { gone = tt; come = (false_from_ne_true (is_attribute_of a.head.kind a.name one) clash, tt) })
    where
      clash : is_attribute_of a.head.kind a.name one ≡ true → ⊥
      clash is =
          let here = attribute_kind a.head.kind a.name one is in
          let own = attribute_kind data_type [] one of_data in both_ways (is_data a) none (data_by a (sym here.0 ∙ own.0) (sym here.1 ∙ own.1))

  all_other : (attrs : List Attr) → AllByRecursion (λ a. is_data a ≡ false) attrs → AllByRecursion (λ a. IsOfAnother [] (one ∷ []) a) attrs
  all_other [] none = tt
  all_other (a ∷ attrs) none = (another a none.0, all_other attrs none.1)

  no_link : (child : FileRef) → attr_link child one ≡ None
  unfolding attr_link
  no_link child = ap (λ (t : Bool). cond t (form_link child one.form) None) (other_type file_name (λ e. omega (arith, e)))

-- ---- lists with one attribute more

find_skips : (test : Attr → Bool) (front behind : List Attr) (one : Attr) → test one ≡ false → find test (front ++ (one ∷ behind)) ≡ find test (front ++ behind)
find_skips test [] behind one fails = ap (λ (t : Bool). cond t (Some one) (find test behind)) fails
find_skips test (a ∷ front) behind one fails = ap (λ (o : Option Attr). cond (test a) (Some a) o) (find_skips test front behind one fails)

none_kept : (test : Attr → Bool) (attrs : List Attr) → AllByRecursion (λ a. test a ≡ false) attrs → filter test attrs ≡ []
none_kept test [] none = refl
none_kept test (a ∷ attrs) none = ap (λ (t : Bool). cond t (a ∷ filter test attrs) (filter test attrs)) none.0 ∙ none_kept test attrs none.1

one_kept : (test : Attr → Bool) (front behind : List Attr) (one : Attr) → AllByRecursion (λ a. test a ≡ false) (front ++ behind) → test one ≡ true → filter test (front ++ (one ∷ behind)) ≡ one ∷ []
one_kept test [] behind one none passes = ap (λ (t : Bool). cond t (one ∷ filter test behind) (filter test behind)) passes ∙ ap (λ (l : List Attr). one ∷ l) (none_kept test behind none)
one_kept test (a ∷ front) behind one none passes =
    ap (λ (t : Bool). cond t (a ∷ filter test (front ++ (one ∷ behind))) (filter test (front ++ (one ∷ behind)))) none.0 ∙ one_kept test front behind one none.1 passes

-- ---- a value

value_rule : (per clusters : ℕ) (form : OwnForm) (runs : List Run) → IsValue form → (eqb (form_first form) 0 && fits_volume per clusters (Some (form_stream form runs))) ≡ true
value_rule per clusters (Resident value indexed) runs is = refl
value_rule per clusters (Mapped sizes pairs) runs is = absurd is

pub value_runs : (form : OwnForm) → IsValue form → form_runs form ≡ []
value_runs (Resident value indexed) is = refl
value_runs (Mapped sizes pairs) is = absurd is

value_stream : (form : OwnForm) (runs : List Run) → IsValue form → (runs_in (Some (form_stream form runs)) ≡ []) × (initialised_in (Some (form_stream form runs)) ≡ 0)
value_stream (Resident value indexed) runs is = (refl, refl)
value_stream (Mapped sizes pairs) runs is = absurd is

-- pairs that fit still do beside a value
pub made_fits : (r p : Record) (one : Attr) → ReplacesAttrs [] (one ∷ []) r p → IsValue one.form → list_all has_fitting_pairs r.attrs ≡ true → list_all has_fitting_pairs p.attrs ≡ true
made_fits r p one comes value old =
    let all : List Attr → Bool = list_all has_fitting_pairs in
    let front : List Attr = comes.attrs.front in
    let behind : List Attr = comes.attrs.behind in
    let was : (all front && all behind) ≡ true = sym (list_all-append has_fitting_pairs front behind) ∙ sym (ap all comes.attrs.was) ∙ old in
    let parts = and_parts (all front) (all behind) was in
    ap all comes.attrs.is
    ∙ list_all-append has_fitting_pairs front (one ∷ behind)
    ∙ and_from (all front) (all (one ∷ behind)) parts.0 (and_from (has_fitting_pairs one) (all behind) (value_fits one.form value) parts.1)

-- ---- what stays

module _ (c : Content) (g : Geometry) (clusters : ℕ) (v : Volume) (n : ℕ) (r p s : Record) (one : Attr) (bodies : List NewBody) (sized : HasSizes c) (state : Stands c g clusters v) (k : MakesData c v n r p s one bodies) where
  abbrev front : List Attr
  front = k.comes.attrs.front

  abbrev behind : List Attr
  behind = k.comes.attrs.behind

  of_type : (kind : ℕ) → kind ≢ data_type → NonePass (λ a. eqb a.head.kind kind) [] (one ∷ [])
  of_type = none_of_type one k.of_data

  of_stream : (kind : ℕ) (name : List ℕ) → (kind ≢ data_type) ⊎ (name ≢ []) → NonePass (is_attribute_of kind name) [] (one ∷ [])
  of_stream = none_of_stream one k.of_data

  no_data : AllByRecursion (λ a. is_data a ≡ false) (front ++ behind)
  no_data = subst (AllByRecursion (λ a. is_data a ≡ false)) k.comes.attrs.was (no_attribute data_type [] r.attrs k.none)

  none_were : attributes_of data_type [] r.attrs ≡ []
  unfolding stream_of
  none_were = none_joined (attributes_of data_type [] r.attrs) k.none

  pieces : attributes_of data_type [] p.attrs ≡ one ∷ []
  unfolding attributes_of
  pieces = ap (λ (l : List Attr). sorted_into [] (filter (is_attribute_of data_type []) l)) k.comes.attrs.is ∙ ap (sorted_into []) (one_kept is_data front behind one no_data k.of_data)

  abbrev made : Option Stream
  made = Some (form_stream one.form (flat_map attribute_runs (one ∷ [])))

  stream_is : stream_of data_type [] p.attrs ≡ made
  unfolding stream_of
  stream_is = ap joined pieces

  like : (A : Type 0) (f : Option Stream → A) → f made ≡ f None → (kind : ℕ) (name : List ℕ) → f (stream_of kind name p.attrs) ≡ f (stream_of kind name r.attrs)
  like A f same kind name = elim (same_or_other data_type kind [] name) [
    | inl here ↦
        ap₂ (λ (x : ℕ) (l : List ℕ). f (stream_of x l p.attrs)) here.0 here.1
        ∙ ap f stream_is
        ∙ same
        ∙ sym (ap₂ (λ (x : ℕ) (l : List ℕ). f (stream_of x l r.attrs)) here.0 here.1 ∙ ap f k.none)
    | inr differ ↦ ap f (stream_same [] (one ∷ []) r p k.comes kind name (of_stream kind name differ))
  ]

  links_same : record_links n p ≡ record_links n r
  links_same =
      let names = links_replaced [] (one ∷ []) r p k.comes n in
      names.is ∙ ap (λ (o : Option Link). names.front ++ (cons_option o [] ++ names.behind)) (no_link one k.of_data (reference n r)) ∙ sym names.was

  no_root : is_names_root one ≡ false
  unfolding is_names_root
  no_root = ap (λ (t : Bool). t && pointwise nat_eq one.name names_index) (other_type one k.of_data index_root (λ e. omega (arith, e)))

  root_same : root_value p ≡ root_value r
  unfolding root_value
  root_same =
      ap (λ (l : List Attr). attr_value (find is_names_root l)) k.comes.attrs.is
      ∙ ap attr_value (find_skips is_names_root front behind one no_root)
      ∙ sym (ap (λ (l : List Attr). attr_value (find is_names_root l)) k.comes.attrs.was)

  clusters_same : (x : ℕ) → uses (file_runs (Some p)) x ≡ uses (file_runs (Some r)) x
  unfolding attribute_runs
  clusters_same x =
      let sum = uses_replaced [] (one ∷ []) r p k.comes x in
      let none : uses (form_runs one.form ++ []) x ≡ uses [] x = ap (λ (l : List Run). uses (l ++ []) x) (value_runs one.form k.value) in
      omega (arith, sum, none)

  own_rule : list_all (keeps_stream v.per v.clusters p.attrs) (one ∷ []) ≡ true
  unfolding keeps_stream stream_of
  own_rule =
      let own = attribute_kind data_type [] one k.of_data in
      and_from _ _
      (or_right (eqb one.head.kind file_name) _
      (ap₂ (λ (x : ℕ) (l : List ℕ). are_joined (attributes_of x l p.attrs) && fits_volume v.per v.clusters (joined (attributes_of x l p.attrs))) own.0 own.1
      ∙ ap (λ (l : List Attr). are_joined l && fits_volume v.per v.clusters (joined l)) pieces
      ∙ value_rule v.per v.clusters one.form (flat_map attribute_runs (one ∷ [])) k.value))
      refl

  fits : list_all has_fitting_pairs p.attrs ≡ true
  fits = made_fits r p one k.comes k.value (old_pairs c g clusters v n r state k.own)

  flags_same : data_flags p ≡ data_flags r
  unfolding data_flags
  flags_same = ap first_flags pieces ∙ k.plain ∙ sym (ap first_flags none_were)

  pub made_stays : Stays v n r p
  made_stays = record {
    seq = k.comes.seq;
    base = k.base;
    directory = ap (λ (f : ℕ). eqb (f / 2 % 2) 1) k.comes.flags;
    reads = all_read p.attrs fits;
    list = types_same [] (one ∷ []) r p k.comes attribute_list (of_type attribute_list (λ e. omega (arith, e)));
    reparse = types_same [] (one ∷ []) r p k.comes reparse_point (of_type reparse_point (λ e. omega (arith, e)));
    object = types_same [] (one ∷ []) r p k.comes object_id (of_type object_id (λ e. omega (arith, e)));
    links = links_same;
    names = names_same [] (one ∷ []) r p k.comes n (record_links n r) (of_type standard_information (λ e. omega (arith, e)));
    root = root_same;
    blocks = stream_same [] (one ∷ []) r p k.comes index_allocation names_index (of_stream index_allocation names_index (inl (λ e. omega (arith, e))));
    limits = stream_same [] (one ∷ []) r p k.comes data_type limits_name (of_stream data_type limits_name (inr limits_named));
    entries = stream_same [] (one ∷ []) r p k.comes data_type entries_name (of_stream data_type entries_name (inr entries_named));
    entry_flags = ap first_flags (attributes_same [] (one ∷ []) r p k.comes data_type entries_name (of_stream data_type entries_name (inr entries_named)));
    flags = flags_same;
    clusters = clusters_same;
    rule = λ was. sizes_replaced [] (one ∷ []) r p k.comes v.per v.clusters was own_rule (all_other one k.of_data (front ++ behind) no_data);
    runs = like (List Run) runs_in (value_stream one.form (flat_map attribute_runs (one ∷ [])) k.value).0;
    sizes = like ℕ initialised_in (value_stream one.form (flat_map attribute_runs (one ∷ [])) k.value).1;
  }

  data_tree : TreeFollows c (content_with c bodies) v n r s
  data_tree =
      data_only c (content_with c bodies) v n r s k.own.file
      (info_now c g clusters v n r p s bodies sized state k.own made_stays k.put ∙ info_same [] (one ∷ []) r p k.comes (of_type standard_information (λ e. omega (arith, e))))
      (stays_tree c g clusters v n r p s bodies sized state k.own made_stays k.put)

pub data_is_made : DataMade
data_is_made = record {
  leads = λ c g clusters v n r p s one bodies sized state k. stays_leads c g clusters v n r p s bodies sized state k.own (made_stays c g clusters v n r p s one bodies sized state k) k.put;
  goes_on = λ first start c g clusters v n r p s one bodies gave sized state k clear. stays_goes_on c g clusters v n r p s bodies sized state k.own (made_stays c g clusters v n r p s one bodies sized state k) k.put first start gave clear;
  tree = λ c g clusters v n r p s one bodies sized state k. stays_tree c g clusters v n r p s bodies sized state k.own (made_stays c g clusters v n r p s one bodies sized state k) k.put;
  data_alone = λ c g clusters v n r p s one bodies sized state k. data_tree c g clusters v n r p s one bodies sized state k;
}
