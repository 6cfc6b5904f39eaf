-- Standard information of a record that is written, and of a directory's record with another root.
use Rattle.std.proofs.Common.{◌≡◌, ℕ, Bool, true, false, cond, eqb, List, [], ◌∷◌, map, Option, Some, None, refl, sym, ap, ap₂, ◌∙◌, inl, inr}
use Rattle.std.specs.Prelude.{find}
use Rattle.std.proofs.lemmas.Bool.{cases_Bool, eqb-true}
use Rattle.record_model.specs.declared.attribute.Attr.{Attr}
use Rattle.record_model.specs.declared.attribute.OwnForm.{OwnForm}
use Rattle.record_model.specs.declared.attribute.OwnForm.TheVariants.{Resident, Mapped}
use Rattle.record_model.specs.Constants.{standard_information, file_name, index_root, names_index}
use Rattle.record_model.specs.Records.{Record}
use Rattle.record_writer.specs.Normal.{normal_form, normal}
use Rattle.state_model.specs.Files.{form_info, attr_info, info_of, reference, form_link, attr_link, record_links}
use Rattle.written_values.specs.plan_model.Informed.{is_info}
use Rattle.file_tree.specs.declared.link.Link.{Link}
use Rattle.host_base.specs.declared.file_ref.FileRef.{FileRef}
use Rattle.std.specs.List.{cons_option}
use Rattle.std.specs.List.{filter_map}
use Rattle.state_model.specs.Streams.{is_attribute_of, attributes_of}
use Rattle.written_values.specs.record_streams.Placing.{with_stream}
use Rattle.written_values.proofs.record_streams.Streams.{attribute_kind, first_passes, others_with}
use Rattle.written_values.specs.record_values.Values.{valued_attr, valued_first}
use Rattle.written_values.specs.draft_records.Records.{written_record}
use Rattle.made_files.proofs.plan_growth.Placed.{head_of, find_by_filter}
use Rattle.made_files.specs.file_makes.Making.{rooted_record}

abbrev info : Attr → Bool
info a = eqb a.head.kind standard_information

form_same : (form : OwnForm) → form_info (normal_form form) ≡ form_info form
form_same (Resident value indexed) = refl
form_same (Mapped sizes pairs) = refl

info_normal : (attrs : List Attr) → attr_info (find info (map normal attrs)) ≡ attr_info (find info attrs)
info_normal [] = refl
info_normal (a ∷ attrs) = elim (cases_Bool (info a)) [
  | inl is ↦ ap (λ (t : Bool). attr_info (cond t (Some (normal a)) (find info (map normal attrs)))) is ∙ form_same a.form ∙ sym (ap (λ (t : Bool). attr_info (cond t (Some a) (find info attrs))) is)
  | inr other ↦ ap (λ (t : Bool). attr_info (cond t (Some (normal a)) (find info (map normal attrs)))) other ∙ info_normal attrs ∙ sym (ap (λ (t : Bool). attr_info (cond t (Some a) (find info attrs))) other)
]

pub info_written : (p : Record) → info_of (written_record p) ≡ info_of p
unfolding info_of
info_written p = info_normal p.attrs

-- the root isn't of that type
root_kind : (a : Attr) → is_attribute_of index_root names_index a ≡ true → info a ≡ false
root_kind a is = ap (λ (kind : ℕ). eqb kind standard_information) (attribute_kind index_root names_index a is).0

rooted_by : (value : List ℕ) (r : Record) (attributes : List Attr) → attributes_of index_root names_index r.attrs ≡ attributes → info_of (valued_first index_root names_index value r attributes) ≡ info_of r
unfolding info_of
rooted_by value r [] is = refl
rooted_by value r (a ∷ others) is =
    let new : Attr = valued_attr value a in
    let same = others_with info index_root names_index new r.attrs root_kind (root_kind a (first_passes index_root names_index r.attrs a others is)) in
    ap attr_info (find_by_filter info (with_stream index_root names_index new r.attrs) ∙ ap head_of same ∙ sym (find_by_filter info r.attrs))

pub info_rooted : (value : List ℕ) (r : Record) → info_of (rooted_record value r) ≡ info_of r
info_rooted value r = rooted_by value r (attributes_of index_root names_index r.attrs) refl

-- ---- the names

form_link_same : (child : FileRef) (form : OwnForm) → form_link child (normal_form form) ≡ form_link child form
form_link_same child (Resident value indexed) = refl
form_link_same child (Mapped sizes pairs) = refl

link_stays : (child : FileRef) (a : Attr) → attr_link child (normal a) ≡ attr_link child a
unfolding attr_link
link_stays child a = ap (λ (o : Option Link). cond (eqb a.head.kind file_name) o None) (form_link_same child a.form)

links_stay : (child : FileRef) (attrs : List Attr) → filter_map (attr_link child) (map normal attrs) ≡ filter_map (attr_link child) attrs
links_stay child [] = refl
links_stay child (a ∷ attrs) = ap₂ cons_option (link_stays child a) (links_stay child attrs)

pub links_written : (n : ℕ) (p : Record) → record_links n (written_record p) ≡ record_links n p
unfolding record_links
links_written n p = links_stay (reference n p) p.attrs

pub names_spared : (a : Attr) → eqb a.head.kind file_name ≡ true → is_info a ≡ false
names_spared a is = ap (λ (kind : ℕ). eqb kind standard_information) (eqb-true a.head.kind file_name is)
