-- Records in which values are written anew.
use Rattle.std.proofs.Common.{◌≡◌, ◌⊎◌, ℕ, ◌+◌, ◌/◌, ◌%◌, Bool, true, false, not, ◌&&◌, ◌||◌, cond, eqb, ltb, leb, nat_eq, List, [], ◌∷◌, ◌++◌, find, Option, Some, None, refl, sym, ap, ap₂, ◌∙◌, inl, inr}
use Rattle.std.specs.List.{filter, flat_map, filter_map, cons_option, list_all, list_any}
use Rattle.std.specs.Cmp.Lexicographic.{pointwise}
use Rattle.std.proofs.lemmas.Bool.{cases_Bool, both_ways}
use Rattle.index_change.specs.host_base.declared.file_ref.FileRef.{FileRef}
use Rattle.index_change.specs.record_model.declared.attribute.OwnForm.{OwnForm}
use Rattle.index_change.specs.record_model.declared.attribute.OwnForm.TheVariants.{Resident, Mapped}
use Rattle.index_change.specs.record_model.declared.attribute.Attr.{Attr}
use Rattle.index_change.specs.record_model.declared.runs.Run.{Run}
use Rattle.index_change.specs.record_model.Records.{Record}
use Rattle.index_change.specs.record_model.Constants.{file_name, standard_information, index_root, names_index}
use Rattle.index_change.specs.file_tree.declared.link.Link.{Link}
use Rattle.index_change.specs.state_model.Files.{attr_link, reference, record_links, is_directory_record, has_type, attr_info, info_of}
use Rattle.index_change.specs.state_model.Indexes.{is_names_root}
use Rattle.index_change.specs.state_model.Rules.{keeps_names, implies, long_count, has_partner, is_only_short}
use Rattle.index_change.specs.file_tree.Walks.{first_user_record}
use Rattle.index_change.specs.state_model.Loads.{total_clusters}
use Rattle.index_change.specs.state_model.Streams.{form_first, first_vcn, is_attribute_of, with_attribute, sorted_into, attributes_of, form_runs, attribute_runs, form_stream, joined, stream_of}
use Rattle.index_change.specs.volume_model.Indexes.{attr_value, root_value}
use Rattle.index_change.specs.volume_model.Owners.{file_runs}
use Rattle.index_change.specs.volume_model.Sizes.{follow, are_joined, fits_volume, keeps_stream}
use Rattle.plan_owners.specs.stream_laws.Owners.{initialised_in}
use Rattle.plan_owners.specs.stream_laws.Sharing.{runs_in}
use Rattle.plan_model.specs.Attributes.{IsValue, IsRewritten, AreRewritten, RewritesValues, SparesAll}

-- ---- one attribute

IsAlike : (Attr → Bool) → Attr → Attr → Type 0
IsAlike may a b = (b ≡ a) ⊎ ((may a ≡ true) × IsRewritten a b)

value_first : (form : OwnForm) → IsValue form → form_first form ≡ 0
value_first (Resident value indexed) is = refl
value_first (Mapped sizes pairs) is = absurd is

value_runs : (form : OwnForm) → IsValue form → form_runs form ≡ []
value_runs (Resident value indexed) is = refl
value_runs (Mapped sizes pairs) is = absurd is

value_in : (form : OwnForm) (runs : List Run) → IsValue form → runs_in (Some (form_stream form runs)) ≡ []
value_in (Resident value indexed) runs is = refl
value_in (Mapped sizes pairs) runs is = absurd is

value_fits : (per clusters : ℕ) (form : OwnForm) (runs : List Run) → IsValue form → fits_volume per clusters (Some (form_stream form runs)) ≡ true
value_fits per clusters (Resident value indexed) runs is = refl
value_fits per clusters (Mapped sizes pairs) runs is = absurd is

-- what is asked of a type and a name
abbrev ReadsKey : (Attr → Bool) → Type 0
ReadsKey test = (a b : Attr) → b.head.kind ≡ a.head.kind → b.name ≡ a.name → test b ≡ test a

module _ (may : Attr → Bool) where
  first_alike : (a b : Attr) → IsAlike may a b → first_vcn b ≡ first_vcn a
  unfolding IsAlike
  first_alike a b (inl same) = ap first_vcn same
  first_alike a b (inr anew) = value_first b.form anew.1.new ∙ sym (value_first a.form anew.1.old)

  runs_alike : (a b : Attr) → IsAlike may a b → attribute_runs b ≡ attribute_runs a
  unfolding IsAlike attribute_runs
  runs_alike a b (inl same) = ap attribute_runs same
  runs_alike a b (inr anew) = value_runs b.form anew.1.new ∙ sym (value_runs a.form anew.1.old)

  test_alike : (test : Attr → Bool) → ReadsKey test → (a b : Attr) → IsAlike may a b → test b ≡ test a
  unfolding IsAlike
  test_alike test reads a b (inl same) = ap test same
  test_alike test reads a b (inr anew) = reads a b anew.1.kind anew.1.name

  -- ---- lists of attributes

  pub all_same : (attrs : List Attr) → AreRewritten may attrs attrs
  all_same [] = tt
  all_same (a ∷ attrs) = (inl refl, all_same attrs)

  with_alike : (a b : Attr) (attrs others : List Attr) → IsAlike may a b → AreRewritten may attrs others → AreRewritten may (with_attribute a attrs) (with_attribute b others)
  unfolding IsAlike
  with_alike a b [] [] alike all = (alike, tt)
  with_alike a b [] (y ∷ others) alike all = absurd all
  with_alike a b (x ∷ attrs) [] alike all = absurd all
  with_alike a b (x ∷ attrs) (y ∷ others) alike all =
      let same : ltb (first_vcn b) (first_vcn y) ≡ ltb (first_vcn a) (first_vcn x) = ap₂ ltb (first_alike a b alike) (first_alike x y all.0) in
      elim (cases_Bool (ltb (first_vcn a) (first_vcn x))) [
        | inl before ↦ (let also = same ∙ before in rw (before, also) ((alike, all)))
        | inr behind ↦ (let also = same ∙ behind in rw (behind, also) ((all.0, with_alike a b attrs others alike all.1)))
      ]

  sorted_alike : (firsts seconds attrs others : List Attr) → AreRewritten may firsts seconds → AreRewritten may attrs others → AreRewritten may (sorted_into firsts attrs) (sorted_into seconds others)
  unfolding IsAlike
  sorted_alike firsts seconds [] [] into all = into
  sorted_alike firsts seconds [] (y ∷ others) into all = absurd all
  sorted_alike firsts seconds (x ∷ attrs) [] into all = absurd all
  sorted_alike firsts seconds (x ∷ attrs) (y ∷ others) into all = sorted_alike (with_attribute x firsts) (with_attribute y seconds) attrs others (with_alike x y firsts seconds all.0 into) all.1

  filter_alike : (test : Attr → Bool) → ReadsKey test → (attrs others : List Attr) → AreRewritten may attrs others → AreRewritten may (filter test attrs) (filter test others)
  unfolding IsAlike
  filter_alike test reads [] [] all = tt
  filter_alike test reads [] (y ∷ others) all = absurd all
  filter_alike test reads (x ∷ attrs) [] all = absurd all
  filter_alike test reads (x ∷ attrs) (y ∷ others) all =
      let same = test_alike test reads x y all.0 in
      elim (cases_Bool (test x)) [
        | inl passes ↦ (let also = same ∙ passes in rw (passes, also) ((all.0, filter_alike test reads attrs others all.1)))
        | inr fails ↦ (let also = same ∙ fails in rw (fails, also) (filter_alike test reads attrs others all.1))
      ]

  flat_alike : (attrs others : List Attr) → AreRewritten may attrs others → flat_map attribute_runs others ≡ flat_map attribute_runs attrs
  unfolding IsAlike
  flat_alike [] [] all = refl
  flat_alike [] (y ∷ others) all = absurd all
  flat_alike (x ∷ attrs) [] all = absurd all
  flat_alike (x ∷ attrs) (y ∷ others) all =
      ap (λ (l : List Run). l ++ flat_map attribute_runs others) (runs_alike x y all.0) ∙ ap (λ (l : List Run). attribute_runs x ++ l) (flat_alike attrs others all.1)

  any_alike : (test : Attr → Bool) → ReadsKey test → (attrs others : List Attr) → AreRewritten may attrs others → list_any test others ≡ list_any test attrs
  unfolding IsAlike
  any_alike test reads [] [] all = refl
  any_alike test reads [] (y ∷ others) all = absurd all
  any_alike test reads (x ∷ attrs) [] all = absurd all
  any_alike test reads (x ∷ attrs) (y ∷ others) all = ap₂ (λ (s t : Bool). s || t) (test_alike test reads x y all.0) (any_alike test reads attrs others all.1)

  -- ---- streams

  joined_runs : (attrs others : List Attr) → AreRewritten may attrs others → runs_in (joined others) ≡ runs_in (joined attrs)
  joined_runs [] [] all = refl
  joined_runs [] (y ∷ others) all = absurd all
  joined_runs (x ∷ attrs) [] all = absurd all
  joined_runs (x ∷ attrs) (y ∷ others) all = by all.0
    where
      by : (y ≡ x) ⊎ ((may x ≡ true) × IsRewritten x y) → runs_in (joined (y ∷ others)) ≡ runs_in (joined (x ∷ attrs))
      by (inl same) =
          ap (λ (f : OwnForm). runs_in (Some (form_stream f (flat_map attribute_runs (y ∷ others))))) (ap (λ (a : Attr). a.form) same)
          ∙ ap (λ (l : List Run). runs_in (Some (form_stream x.form l))) (flat_alike (x ∷ attrs) (y ∷ others) all)
      by (inr anew) = value_in y.form (flat_map attribute_runs (y ∷ others)) anew.1.new ∙ sym (value_in x.form (flat_map attribute_runs (x ∷ attrs)) anew.1.old)

  joined_fits : (per clusters : ℕ) (attrs others : List Attr) → AreRewritten may attrs others → fits_volume per clusters (joined others) ≡ fits_volume per clusters (joined attrs)
  joined_fits per clusters [] [] all = refl
  joined_fits per clusters [] (y ∷ others) all = absurd all
  joined_fits per clusters (x ∷ attrs) [] all = absurd all
  joined_fits per clusters (x ∷ attrs) (y ∷ others) all = by all.0
    where
      by : (y ≡ x) ⊎ ((may x ≡ true) × IsRewritten x y) → fits_volume per clusters (joined (y ∷ others)) ≡ fits_volume per clusters (joined (x ∷ attrs))
      by (inl same) =
          ap (λ (f : OwnForm). fits_volume per clusters (Some (form_stream f (flat_map attribute_runs (y ∷ others))))) (ap (λ (a : Attr). a.form) same)
          ∙ ap (λ (l : List Run). fits_volume per clusters (Some (form_stream x.form l))) (flat_alike (x ∷ attrs) (y ∷ others) all)
      by (inr anew) = value_fits per clusters y.form (flat_map attribute_runs (y ∷ others)) anew.1.new ∙ sym (value_fits per clusters x.form (flat_map attribute_runs (x ∷ attrs)) anew.1.old)

  follow_alike : (vcn : ℕ) (attrs others : List Attr) → AreRewritten may attrs others → follow vcn others ≡ follow vcn attrs
  unfolding IsAlike
  follow_alike vcn [] [] all = refl
  follow_alike vcn [] (y ∷ others) all = absurd all
  follow_alike vcn (x ∷ attrs) [] all = absurd all
  follow_alike vcn (x ∷ attrs) (y ∷ others) all =
      ap₂ (λ (f : ℕ) (l : List Run). eqb f vcn && ltb 0 (total_clusters l) && follow (vcn + total_clusters l) others) (first_alike x y all.0) (runs_alike x y all.0)
      ∙ ap (λ (t : Bool). eqb (first_vcn x) vcn && ltb 0 (total_clusters (attribute_runs x)) && t) (follow_alike (vcn + total_clusters (attribute_runs x)) attrs others all.1)

  joined_alike : (attrs others : List Attr) → AreRewritten may attrs others → are_joined others ≡ are_joined attrs
  unfolding IsAlike
  joined_alike [] [] all = refl
  joined_alike [] (y ∷ others) all = absurd all
  joined_alike (x ∷ attrs) [] all = absurd all
  joined_alike (x ∷ []) (y ∷ []) all = ap (λ (n : ℕ). eqb n 0) (first_alike x y all.0)
  joined_alike (x ∷ []) (y ∷ z ∷ others) all = absurd all.1
  joined_alike (x ∷ a ∷ attrs) (y ∷ []) all = absurd all.1
  joined_alike (x ∷ a ∷ attrs) (y ∷ z ∷ others) all = follow_alike 0 (x ∷ a ∷ attrs) (y ∷ z ∷ others) all

reads_key : (kind : ℕ) (name : List ℕ) → ReadsKey (is_attribute_of kind name)
unfolding is_attribute_of
reads_key kind name a b same_kind same_name = ap₂ (λ (k : ℕ) (l : List ℕ). eqb k kind && pointwise nat_eq l name) same_kind same_name

pub attributes_alike : (may : Attr → Bool) (kind : ℕ) (name : List ℕ) (attrs others : List Attr) → AreRewritten may attrs others → AreRewritten may (attributes_of kind name attrs) (attributes_of kind name others)
unfolding attributes_of
attributes_alike may kind name attrs others all =
    sorted_alike may [] [] (filter (is_attribute_of kind name) attrs) (filter (is_attribute_of kind name) others) tt (filter_alike may (is_attribute_of kind name) (reads_key kind name) attrs others all)

pub itself : (may : Attr → Bool) (r : Record) → RewritesValues may r r
itself may r = record { seq = refl; flags = refl; base = refl; attrs = all_same may r.attrs }

pub same_runs : (may : Attr → Bool) (r s : Record) (kind : ℕ) (name : List ℕ) → RewritesValues may r s → runs_in (stream_of kind name s.attrs) ≡ runs_in (stream_of kind name r.attrs)
unfolding stream_of
same_runs may r s kind name k = joined_runs may (attributes_of kind name r.attrs) (attributes_of kind name s.attrs) (attributes_alike may kind name r.attrs s.attrs k.attrs)

pub same_uses : (may : Attr → Bool) (r s : Record) → RewritesValues may r s → file_runs (Some s) ≡ file_runs (Some r)
same_uses may r s k = flat_alike may r.attrs s.attrs k.attrs

reads_kind : (kind : ℕ) → ReadsKey (λ a. eqb a.head.kind kind)
reads_kind kind a b same_kind same_name = ap (λ (k : ℕ). eqb k kind) same_kind

pub same_types : (may : Attr → Bool) (r s : Record) (kind : ℕ) → RewritesValues may r s → has_type kind s ≡ has_type kind r
unfolding has_type
same_types may r s kind k = any_alike may (λ a. eqb a.head.kind kind) (reads_kind kind) r.attrs s.attrs k.attrs

pub same_directory : (may : Attr → Bool) (r s : Record) → RewritesValues may r s → is_directory_record s ≡ is_directory_record r
same_directory may r s k = ap (λ (f : ℕ). eqb (f / 2 % 2) 1) k.flags

-- ---- rule 4

keeps_same : (may : Attr → Bool) (per clusters : ℕ) (attrs others : List Attr) (a : Attr) → AreRewritten may attrs others → keeps_stream per clusters others a ≡ keeps_stream per clusters attrs a
unfolding keeps_stream stream_of
keeps_same may per clusters attrs others a all =
    let alike = attributes_alike may a.head.kind a.name attrs others all in
    ap₂ (λ (s t : Bool). eqb a.head.kind file_name || (s && t)) (joined_alike may (attributes_of a.head.kind a.name attrs) (attributes_of a.head.kind a.name others) alike)
    (joined_fits may per clusters (attributes_of a.head.kind a.name attrs) (attributes_of a.head.kind a.name others) alike)

reads_rule : (per clusters : ℕ) (all : List Attr) → ReadsKey (keeps_stream per clusters all)
unfolding keeps_stream
reads_rule per clusters all a b same_kind same_name =
    ap₂ (λ (k : ℕ) (l : List ℕ). eqb k file_name || (are_joined (attributes_of k l all) && fits_volume per clusters (stream_of k l all))) same_kind same_name

each_keeps : (may : Attr → Bool) (per clusters : ℕ) (all more attrs others : List Attr) → AreRewritten may all more → AreRewritten may attrs others → list_all (keeps_stream per clusters more) others ≡ list_all (keeps_stream per clusters all) attrs
each_keeps may per clusters all more [] [] whole each = refl
each_keeps may per clusters all more [] (y ∷ others) whole each = absurd each
each_keeps may per clusters all more (x ∷ attrs) [] whole each = absurd each
each_keeps may per clusters all more (x ∷ attrs) (y ∷ others) whole each =
    ap₂ (λ (s t : Bool). s && t) (keeps_same may per clusters all more y whole ∙ as_alike each.0) (each_keeps may per clusters all more attrs others whole each.1)
  where
    as_alike : (y ≡ x) ⊎ ((may x ≡ true) × IsRewritten x y) → keeps_stream per clusters all y ≡ keeps_stream per clusters all x
    as_alike (inl same) = ap (keeps_stream per clusters all) same
    as_alike (inr anew) = reads_rule per clusters all x y anew.1.kind anew.1.name

pub same_sizes : (may : Attr → Bool) (r s : Record) (per clusters : ℕ) → RewritesValues may r s → list_all (keeps_stream per clusters s.attrs) s.attrs ≡ list_all (keeps_stream per clusters r.attrs) r.attrs
same_sizes may r s per clusters k = each_keeps may per clusters r.attrs s.attrs r.attrs s.attrs k.attrs k.attrs

-- ---- what isn't written anew

module _ (may test : Attr → Bool) (spares : SparesAll may test) (reads : ReadsKey test) where
  fails_both : (a b : Attr) → (may a ≡ true) × IsRewritten a b → (test a ≡ false) × (test b ≡ false)
  fails_both a b anew = elim (cases_Bool (test a)) [
    | inl passes ↦ absurd (both_ways (may a) (spares a passes) anew.0)
    | inr fails ↦ (fails, reads a b anew.1.kind anew.1.name ∙ fails)
  ]

  -- a list's head stays, or passes the test in neither list
  head_same : (x y : Attr) (attrs others : List Attr) → (y ≡ x) ⊎ ((may x ≡ true) × IsRewritten x y) → filter test others ≡ filter test attrs → filter test (y ∷ others) ≡ filter test (x ∷ attrs)
  head_same x y attrs others (inl same) rest = ap (λ (a : Attr). cond (test a) (a ∷ filter test others) (filter test others)) same ∙ ap (λ (l : List Attr). cond (test x) (x ∷ l) l) rest
  head_same x y attrs others (inr anew) rest =
      let fail = fails_both x y anew in
      ap (λ (t : Bool). cond t (y ∷ filter test others) (filter test others)) fail.1 ∙ rest ∙ sym (ap (λ (t : Bool). cond t (x ∷ filter test attrs) (filter test attrs)) fail.0)

  filter_spared : (attrs others : List Attr) → AreRewritten may attrs others → filter test others ≡ filter test attrs
  filter_spared [] [] all = refl
  filter_spared [] (y ∷ others) all = absurd all
  filter_spared (x ∷ attrs) [] all = absurd all
  filter_spared (x ∷ attrs) (y ∷ others) all = head_same x y attrs others all.0 (filter_spared attrs others all.1)

  found_same : (x y : Attr) (attrs others : List Attr) → (y ≡ x) ⊎ ((may x ≡ true) × IsRewritten x y) → find test others ≡ find test attrs → find test (y ∷ others) ≡ find test (x ∷ attrs)
  found_same x y attrs others (inl same) rest = ap (λ (a : Attr). cond (test a) (Some a) (find test others)) same ∙ ap (λ (o : Option Attr). cond (test x) (Some x) o) rest
  found_same x y attrs others (inr anew) rest =
      let fail = fails_both x y anew in
      ap (λ (t : Bool). cond t (Some y) (find test others)) fail.1 ∙ rest ∙ sym (ap (λ (t : Bool). cond t (Some x) (find test attrs)) fail.0)

  find_spared : (attrs others : List Attr) → AreRewritten may attrs others → find test others ≡ find test attrs
  find_spared [] [] all = refl
  find_spared [] (y ∷ others) all = absurd all
  find_spared (x ∷ attrs) [] all = absurd all
  find_spared (x ∷ attrs) (y ∷ others) all = found_same x y attrs others all.0 (find_spared attrs others all.1)

pub same_attributes : (may : Attr → Bool) (r s : Record) (kind : ℕ) (name : List ℕ) → RewritesValues may r s → SparesAll may (is_attribute_of kind name) → attributes_of kind name s.attrs ≡ attributes_of kind name r.attrs
unfolding attributes_of
same_attributes may r s kind name k spares = ap (sorted_into []) (filter_spared may (is_attribute_of kind name) spares (reads_key kind name) r.attrs s.attrs k.attrs)

pub same_stream : (may : Attr → Bool) (r s : Record) (kind : ℕ) (name : List ℕ) → RewritesValues may r s → SparesAll may (is_attribute_of kind name) → stream_of kind name s.attrs ≡ stream_of kind name r.attrs
unfolding stream_of
same_stream may r s kind name k spares = ap joined (same_attributes may r s kind name k spares)

link_none : (child : FileRef) (a : Attr) → eqb a.head.kind file_name ≡ false → attr_link child a ≡ None
unfolding attr_link
link_none child a other = rw other refl

links_spared : (may : Attr → Bool) (child : FileRef) → SparesAll may (λ a. eqb a.head.kind file_name) → (attrs others : List Attr) → AreRewritten may attrs others → filter_map (attr_link child) others ≡ filter_map (attr_link child) attrs
links_spared may child spares [] [] all = refl
links_spared may child spares [] (y ∷ others) all = absurd all
links_spared may child spares (x ∷ attrs) [] all = absurd all
links_spared may child spares (x ∷ attrs) (y ∷ others) all =
    ap₂ (λ (o : Option Link) (l : List Link). cons_option o l) (by all.0) (links_spared may child spares attrs others all.1)
  where
    by : (y ≡ x) ⊎ ((may x ≡ true) × IsRewritten x y) → attr_link child y ≡ attr_link child x
    by (inl same) = ap (attr_link child) same
    by (inr anew) = let fail = fails_both may (λ a. eqb a.head.kind file_name) spares (reads_kind file_name) x y anew in link_none child y fail.1 ∙ sym (link_none child x fail.0)

pub same_links : (may : Attr → Bool) (n : ℕ) (r s : Record) → RewritesValues may r s → SparesAll may (λ a. eqb a.head.kind file_name) → record_links n s ≡ record_links n r
unfolding record_links
same_links may n r s k spares =
    ap (λ (seq : ℕ). filter_map (attr_link (record { number = n; seq = seq })) s.attrs) k.seq ∙ links_spared may (reference n r) spares r.attrs s.attrs k.attrs

abbrev pub names_with : ℕ → List Link → Bool → Bool → Bool
names_with n links directory informed =
    implies (leb first_user_record n) (leb 1 (long_count links))
    && implies directory (eqb (long_count links) 1)
    && implies (leb first_user_record n && not directory) informed
    && list_all (has_partner links) links
    && list_all (is_only_short links) links

pub same_names : (may : Attr → Bool) (n : ℕ) (r s : Record) (links : List Link) → RewritesValues may r s → keeps_names n s links ≡ keeps_names n r links
unfolding keeps_names
same_names may n r s links k = ap₂ (names_with n links) (same_directory may r s k) (same_types may r s standard_information k)

pub same_info : (may : Attr → Bool) (r s : Record) → RewritesValues may r s → SparesAll may (λ a. eqb a.head.kind standard_information) → info_of s ≡ info_of r
unfolding info_of
same_info may r s k spares = ap attr_info (find_spared may (λ a. eqb a.head.kind standard_information) spares (reads_kind standard_information) r.attrs s.attrs k.attrs)

reads_root : ReadsKey is_names_root
unfolding is_names_root
reads_root a b same_kind same_name = ap₂ (λ (k : ℕ) (l : List ℕ). eqb k index_root && pointwise nat_eq l names_index) same_kind same_name

pub same_root : (may : Attr → Bool) (r s : Record) → RewritesValues may r s → SparesAll may is_names_root → root_value s ≡ root_value r
unfolding root_value
same_root may r s k spares = ap attr_value (find_spared may is_names_root spares reads_root r.attrs s.attrs k.attrs)

-- ---- initialised sizes

value_size : (form : OwnForm) (runs : List Run) → IsValue form → initialised_in (Some (form_stream form runs)) ≡ 0
value_size (Resident value indexed) runs is = refl
value_size (Mapped sizes pairs) runs is = absurd is

form_size : (form : OwnForm) (runs others : List Run) → initialised_in (Some (form_stream form runs)) ≡ initialised_in (Some (form_stream form others))
form_size (Resident value indexed) runs others = refl
form_size (Mapped sizes pairs) runs others = refl

joined_size : (may : Attr → Bool) (attrs others : List Attr) → AreRewritten may attrs others → initialised_in (joined others) ≡ initialised_in (joined attrs)
joined_size may [] [] all = refl
joined_size may [] (y ∷ others) all = absurd all
joined_size may (x ∷ attrs) [] all = absurd all
joined_size may (x ∷ attrs) (y ∷ others) all = by all.0
  where
    by : (y ≡ x) ⊎ ((may x ≡ true) × IsRewritten x y) → initialised_in (joined (y ∷ others)) ≡ initialised_in (joined (x ∷ attrs))
    by (inl same) =
        ap (λ (a : Attr). initialised_in (Some (form_stream a.form (flat_map attribute_runs (y ∷ others))))) same
        ∙ form_size x.form (flat_map attribute_runs (y ∷ others)) (flat_map attribute_runs (x ∷ attrs))
    by (inr anew) = value_size y.form (flat_map attribute_runs (y ∷ others)) anew.1.new ∙ sym (value_size x.form (flat_map attribute_runs (x ∷ attrs)) anew.1.old)

pub same_initialised : (may : Attr → Bool) (r s : Record) (kind : ℕ) (name : List ℕ) → RewritesValues may r s → initialised_in (stream_of kind name s.attrs) ≡ initialised_in (stream_of kind name r.attrs)
unfolding stream_of
same_initialised may r s kind name k = joined_size may (attributes_of kind name r.attrs) (attributes_of kind name s.attrs) (attributes_alike may kind name r.attrs s.attrs k.attrs)
