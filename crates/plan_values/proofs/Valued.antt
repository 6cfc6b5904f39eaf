-- Values of a file's record are written anew.
use Rattle.std.proofs.Common.{◌≡◌, ◌≢◌, ◌⊎◌, ℕ, ◌*◌, Bool, true, eqb, List, [], ◌∷◌, refl, sym, ap, subst, ◌∙◌, inl, inr, arith}
use Rattle.std.specs.List.{list_all}
use Rattle.std.proofs.lemmas.Bool.{or_cases, and_from, and_parts, eqb-true, false_from_ne_true}
use Rattle.disk_model.specs.Content.{Content, HasSizes}
use Rattle.disk_model.specs.declared.block.BlockKind.TheVariants.{FileRec}
use Rattle.plan_growth.specs.record_model.declared.attribute.Attr.{Attr}
use Rattle.plan_growth.specs.record_model.declared.attribute.OwnForm.{OwnForm}
use Rattle.plan_growth.specs.record_model.declared.attribute.OwnForm.TheVariants.{Resident, Mapped}
use Rattle.plan_growth.specs.record_model.declared.runs.Run.{Run}
use Rattle.plan_growth.specs.record_model.declared.values.StdInfo.{StdInfo}
use Rattle.plan_growth.specs.record_model.Records.{Record}
use Rattle.plan_growth.specs.record_model.Constants.{attribute_list, data_type, file_name, index_allocation, index_root, names_index, object_id, reparse_point, standard_information}
use Rattle.plan_growth.specs.state_model.declared.geometry.Geometry.{Geometry}
use Rattle.plan_growth.specs.state_model.Files.{info_of}
use Rattle.plan_growth.specs.state_model.Indexes.{is_names_root}
use Rattle.plan_growth.specs.state_model.Loads.{form_fits, has_fitting_pairs}
use Rattle.plan_growth.specs.state_model.Streams.{is_attribute_of, block_at}
use Rattle.plan_growth.specs.volume_model.Volumes.{Volume}
use Rattle.plan_growth.specs.volume_model.Nodes.{first_flags}
use Rattle.plan_growth.specs.volume_model.Owners.{uses}
use Rattle.plan_growth.specs.volume_state.Journals.{entries_name, limits_name}
use Rattle.plan_growth.specs.volume_state.Trees.{tree_of}
use Rattle.plan_growth.proofs.stream_laws.Sharing.{attribute_kind}
use Rattle.plan_growth.specs.plan_owners.States.{Stands}
use Rattle.plan_growth.specs.plan_bodies.Bodies.{NewBody, content_with}
use Rattle.plan_growth.specs.plan_model.Attributes.{IsValue, IsRewritten, AreRewritten, RewritesValues, SparesAll}
use Rattle.plan_growth.specs.plan_model.Informed.{is_info, InfoDiffers, with_record}
use Rattle.plan_growth.proofs.plan_model.OneRecord.{own_record}
use Rattle.plan_growth.proofs.plan_model.Rewriting.{same_runs, same_uses, same_types, same_directory, same_sizes, same_attributes, same_stream, same_links, same_names, same_info, same_root, same_initialised}
use Rattle.plan_growth.specs.Trees.{TreeFollows}
use Rattle.plan_growth.proofs.Resizing.{slot_open, used_pairs}
use Rattle.plan_growth.proofs.Written.{all_read}
use Rattle.plan_values.specs.Values.{is_data, is_info_or_data, IsOwnFile, WritesValues, ValueWritten}
use Rattle.plan_values.proofs.Staying.{Stays, stays_leads, stays_goes_on, stays_tree, shown_stays, info_now, times_only, data_only}

-- ---- what is spared

which : (a : Attr) → is_info_or_data a ≡ true → (a.head.kind ≡ standard_information) ⊎ ((a.head.kind ≡ data_type) × (a.name ≡ []))
which a anew = elim (or_cases (is_info a) (is_data a) anew) [
  | inl info ↦ inl (eqb-true a.head.kind standard_information info)
  | inr data_is ↦ inr (attribute_kind data_type [] a data_is)
]

spared_stream : (kind : ℕ) (name : List ℕ) → kind ≢ standard_information → (kind ≢ data_type) ⊎ (name ≢ []) → SparesAll is_info_or_data (is_attribute_of kind name)
spared_stream kind name not_info other a is =
    let at = attribute_kind kind name a is in
    false_from_ne_true (is_info_or_data a) (λ anew. elim (which a anew) [
      | inl info ↦ not_info (sym at.0 ∙ info)
      | inr data_is ↦ elim other [
        | inl kinds ↦ kinds (sym at.0 ∙ data_is.0)
        | inr names ↦ names (sym at.1 ∙ data_is.1)
      ]
    ])

spared_type : (kind : ℕ) → kind ≢ standard_information → kind ≢ data_type → SparesAll is_info_or_data (λ a. eqb a.head.kind kind)
spared_type kind not_info not_data a is =
    let at = eqb-true a.head.kind kind is in
    false_from_ne_true (is_info_or_data a) (λ anew. elim (which a anew) [
      | inl info ↦ not_info (sym at ∙ info)
      | inr data_is ↦ not_data (sym at ∙ data_is.0)
    ])

root_kind : (a : Attr) → is_names_root a ≡ true → a.head.kind ≡ index_root
unfolding is_names_root
root_kind a is = eqb-true a.head.kind index_root (and_parts (eqb a.head.kind index_root) _ is).0

spared_root : SparesAll is_info_or_data is_names_root
spared_root a is =
    let at = root_kind a is in
    false_from_ne_true (is_info_or_data a) (λ anew. elim (which a anew) [
      | inl info ↦ absurd (omega (arith, at, info))
      | inr data_is ↦ (let kind = data_is.0 in absurd (omega (arith, at, kind)))
    ])

pub limits_named : limits_name ≢ []
unfolding limits_name
limits_named same = absurd cc

pub entries_named : entries_name ≢ []
unfolding entries_name
entries_named same = absurd cc

-- data is no standard information, and the other way round
info_spared : SparesAll is_data is_info
info_spared a is =
    let at = eqb-true a.head.kind standard_information is in
    false_from_ne_true (is_data a) (λ data_is. (let kind = (attribute_kind data_type [] a data_is).0 in absurd (omega (arith, at, kind))))

pub data_spared : SparesAll is_info is_data
data_spared a is =
    let kind = (attribute_kind data_type [] a is).0 in
    false_from_ne_true (is_info a) (λ info. (let at = eqb-true a.head.kind standard_information info in absurd (omega (arith, at, kind))))

-- ---- pairs

pub value_fits : (form : OwnForm) → IsValue form → form_fits form ≡ true
value_fits (Resident value indexed) is = refl
value_fits (Mapped sizes pairs) is = absurd is

pub pairs_fit : (may : Attr → Bool) (attrs others : List Attr) → AreRewritten may attrs others → list_all has_fitting_pairs attrs ≡ true → list_all has_fitting_pairs others ≡ true
pairs_fit may [] [] all fits = refl
pairs_fit may [] (b ∷ others) all fits = absurd all
pairs_fit may (a ∷ attrs) [] all fits = absurd all
pairs_fit may (a ∷ attrs) (b ∷ others) all fits =
    let parts = and_parts (has_fitting_pairs a) (list_all has_fitting_pairs attrs) fits in and_from (has_fitting_pairs b) (list_all has_fitting_pairs others) (by all.0 parts.0) (pairs_fit may attrs others all.1 parts.1)
  where
    by : (b ≡ a) ⊎ ((may a ≡ true) × IsRewritten a b) → has_fitting_pairs a ≡ true → has_fitting_pairs b ≡ true
    by (inl same) fit = ap has_fitting_pairs same ∙ fit
    by (inr anew) fit = value_fits b.form anew.1.new

-- ---- what stays

pub old_pairs : (c : Content) (g : Geometry) (clusters : ℕ) (v : Volume) (n : ℕ) (r : Record) → Stands c g clusters v → IsOwnFile v n r → list_all has_fitting_pairs r.attrs ≡ true
old_pairs c g clusters v n r state own = used_pairs v.table.initialised (1024 * n) c (block_at v.per v.table.runs FileRec n) r (slot_open c v n r (own_record c g clusters v n r state own.file own.no_list).slot)

module _ (c : Content) (g : Geometry) (clusters : ℕ) (v : Volume) (n : ℕ) (r p s : Record) (bodies : List NewBody) (sized : HasSizes c) (state : Stands c g clusters v) (k : WritesValues c v n r p s bodies) where
  abbrev may : Attr → Bool
  may = is_info_or_data

  pub value_stays : Stays v n r p
  value_stays = record {
    seq = k.values.seq;
    base = k.values.base;
    directory = same_directory may r p k.values;
    reads = all_read p.attrs (pairs_fit may r.attrs p.attrs k.values.attrs (old_pairs c g clusters v n r state k.own));
    list = same_types may r p attribute_list k.values;
    reparse = same_types may r p reparse_point k.values;
    object = same_types may r p object_id k.values;
    links = same_links may n r p k.values (spared_type file_name (λ e. omega (arith, e)) (λ e. omega (arith, e)));
    names = same_names may n r p _ k.values;
    root = same_root may r p k.values spared_root;
    blocks = same_stream may r p index_allocation names_index k.values (spared_stream index_allocation names_index (λ e. omega (arith, e)) (inl (λ e. omega (arith, e))));
    limits = same_stream may r p data_type limits_name k.values (spared_stream data_type limits_name (λ e. omega (arith, e)) (inr limits_named));
    entries = same_stream may r p data_type entries_name k.values (spared_stream data_type entries_name (λ e. omega (arith, e)) (inr entries_named));
    entry_flags = ap first_flags (same_attributes may r p data_type entries_name k.values (spared_stream data_type entries_name (λ e. omega (arith, e)) (inr entries_named)));
    flags = k.flags;
    clusters = λ x. ap (λ (l : List Run). uses l x) (same_uses may r p k.values);
    rule = λ was. same_sizes may r p v.per v.clusters k.values ∙ was;
    runs = λ kind name. same_runs may r p kind name k.values;
    sizes = λ kind name. same_initialised may r p kind name k.values;
  }

  data_tree : RewritesValues is_data r p → TreeFollows c (content_with c bodies) v n r s
  data_tree only =
      data_only c (content_with c bodies) v n r s k.own.file (info_now c g clusters v n r p s bodies sized state k.own value_stays k.put ∙ same_info is_data r p only info_spared) (stays_tree c g clusters v n r p s bodies sized state k.own value_stays k.put)

  times_tree : RewritesValues is_info r p → InfoDiffers n (info_of p) (tree_of c v) (tree_of (content_with c bodies) (with_record v n s))
  times_tree only =
      let same = shown_stays c g clusters v n r p s bodies sized state k.own value_stays k.put (same_stream is_info r p data_type [] only data_spared) in
      subst (λ (i : StdInfo). InfoDiffers n i (tree_of c v) (tree_of (content_with c bodies) (with_record v n s))) (info_now c g clusters v n r p s bodies sized state k.own value_stays k.put)
      (times_only c (content_with c bodies) v n r s k.own.file same.0 same.1 (stays_tree c g clusters v n r p s bodies sized state k.own value_stays k.put))

pub values_written : ValueWritten
values_written = record {
  leads = λ c g clusters v n r p s bodies sized state k. stays_leads c g clusters v n r p s bodies sized state k.own (value_stays c g clusters v n r p s bodies sized state k) k.put;
  goes_on = λ first start c g clusters v n r p s bodies gave sized state k clear. stays_goes_on c g clusters v n r p s bodies sized state k.own (value_stays c g clusters v n r p s bodies sized state k) k.put first start gave clear;
  tree = λ c g clusters v n r p s bodies sized state k. stays_tree c g clusters v n r p s bodies sized state k.own (value_stays c g clusters v n r p s bodies sized state k) k.put;
  data_alone = λ c g clusters v n r p s bodies sized state k only. data_tree c g clusters v n r p s bodies sized state k only;
  times_alone = λ c g clusters v n r p s bodies sized state k only. times_tree c g clusters v n r p s bodies sized state k only;
}
