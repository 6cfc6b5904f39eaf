-- What becomes of a record whose file changed at a time.
use Rattle.std.proofs.Common.{◌≡◌, ◌⊎◌, ℕ, zero, suc, ◌^◌, ◌<◌, ◌≤◌, Bool, true, false, cond, ◌||◌, List, [], ◌∷◌, length, take, drop, Option, Some, None, Ok, refl, sym, ap, ◌∙◌, subst, inl, inr, arith}
use Rattle.std.specs.Prelude.{All, insert, find}
use Rattle.std.specs.List.{list_any}
use Rattle.std.proofs.lemmas.Bool.{or_parts, leb-true}
use Rattle.std.proofs.lemmas.List.{take-append-drop}
use Rattle.std.proofs.lemmas.List.Elements.{All-head, All-tail}
use Rattle.disk_model.specs.Numbers.{spell}
use Rattle.disk_model.specs.Bytes.{written, zeros}
use Rattle.disk_model.proofs.Fields.{length-spell, field-written, field-written_apart}
use Rattle.disk_model.proofs.Frames.{length-written}
use Rattle.record_model.specs.declared.attribute.Attr.{Attr}
use Rattle.record_model.specs.declared.attribute.Head.{Head}
use Rattle.record_model.specs.declared.attribute.OwnForm.{OwnForm}
use Rattle.record_model.specs.declared.attribute.OwnForm.TheVariants.{Resident, Mapped}
use Rattle.record_model.specs.declared.values.StdInfo.{StdInfo}
use Rattle.record_model.specs.Constants.{standard_information}
use Rattle.record_model.specs.Records.{Record}
use Rattle.record_model.specs.StdValues.{std_info_fields, std_info_of, IsStdInfo, FitsStdInfo}
use Rattle.record_model.specs.Values.{is_standard_information, is_resident_and, has_lawful_value}
use Rattle.record_model.proofs.FixedValues.{std_info_read, std_info_spelled}
use Rattle.record_model.proofs.UnitBytes.{length-zeros}
use Rattle.plan_changes.proofs.record_writer.NormalRoom.{lawful_stays}
use Rattle.plan_changes.specs.record_streams.Fitting.{IsShort, FitsButRoom}
use Rattle.state_model.specs.declared.stream.Stream.{Stream}
use Rattle.state_model.specs.Files.{has_type, info_of, attr_info, form_info, info_or, no_info}
use Rattle.plan_changes.specs.volume_model.Volumes.{Volume}
use Rattle.plan_changes.specs.volume_model.Nodes.{node_with, node_by}
use Rattle.plan_changes.specs.tree_model.Effects.{changed_node, renewed}
use Rattle.plan_changes.specs.tree_laws.Keeping.{PartReplaced}
use Rattle.plan_changes.specs.plan_model.Attributes.{IsRewritten, AreRewritten, RewritesValues}
use Rattle.plan_changes.specs.plan_model.Parts.{ReplacesAttrs}
use Rattle.plan_changes.specs.plan_model.Informed.{is_info, with_info}
use Rattle.record_times.specs.Times.{timed_info, timed_value, timed_form, timed_attr, timed_attrs, place_of_type, new_id, with_next_id, new_value, new_info, timed_record}

-- ---- which of the two it is

abbrev pub with_own : ℕ → Record → Record
with_own stamp r = record { head = r.head; attrs = timed_attrs stamp r.attrs }

abbrev pub with_new : ℕ → Record → Record
with_new stamp r = record { head = with_next_id r.head; attrs = insert r.attrs (place_of_type standard_information r.attrs) (new_info (new_id r) stamp) }

pub had : (stamp : ℕ) (r : Record) → has_type standard_information r ≡ true → timed_record stamp r ≡ with_own stamp r
had stamp r is = ap (λ (t : Bool). cond t (with_own stamp r) (with_new stamp r)) is

pub had_none : (stamp : ℕ) (r : Record) → has_type standard_information r ≡ false → timed_record stamp r ≡ with_new stamp r
had_none stamp r is = ap (λ (t : Bool). cond t (with_own stamp r) (with_new stamp r)) is

-- ---- attributes

all_same : (attrs : List Attr) → AreRewritten is_info attrs attrs
all_same [] = tt
all_same (a ∷ attrs) = (inl refl, all_same attrs)

abbrev MayTime : ℕ → Attr → Type 0
MayTime stamp a = (timed_attr stamp a ≡ a) ⊎ ((is_info a ≡ true) × IsRewritten a (timed_attr stamp a))

one_timed : (stamp : ℕ) (head : Head) (name : List ℕ) (form : OwnForm) → is_info (record { head = head; name = name; form = form }) ≡ true → MayTime stamp (record { head = head; name = name; form = form })
one_timed stamp head name (Resident value indexed) is = inr (is, record { kind = refl; name = refl; old = tt; new = tt })
one_timed stamp head name (Mapped sizes pairs) is = inl refl

attrs_step : (stamp : ℕ) (a : Attr) (attrs : List Attr) (t : Bool) → is_info a ≡ t → AreRewritten is_info attrs (timed_attrs stamp attrs) → AreRewritten is_info (a ∷ attrs) (cond t (timed_attr stamp a ∷ attrs) (a ∷ timed_attrs stamp attrs))
attrs_step stamp a attrs true is rest = (one_timed stamp a.head a.name a.form is, all_same attrs)
attrs_step stamp a attrs false is rest = (inl refl, rest)

attrs_timed : (stamp : ℕ) (attrs : List Attr) → AreRewritten is_info attrs (timed_attrs stamp attrs)
attrs_timed stamp [] = tt
attrs_timed stamp (a ∷ attrs) = attrs_step stamp a attrs (is_info a) refl (attrs_timed stamp attrs)

pub rewritten : (stamp : ℕ) (r : Record) → has_type standard_information r ≡ true → RewritesValues is_info r (timed_record stamp r)
rewritten stamp r is = subst (RewritesValues is_info r) (sym (had stamp r is)) (record { seq = refl; flags = refl; base = refl; attrs = attrs_timed stamp r.attrs })

parted : (p : ℕ) (attrs : List Attr) (new : Attr) → PartReplaced [] (new ∷ []) attrs (insert attrs p new)
parted p attrs new = record { front = take p attrs; behind = drop p attrs; was = sym (take-append-drop p attrs); is = refl }

pub comes : (stamp : ℕ) (r : Record) → has_type standard_information r ≡ false → ReplacesAttrs [] (new_info (new_id r) stamp ∷ []) r (timed_record stamp r)
comes stamp r is =
    subst (ReplacesAttrs [] (new_info (new_id r) stamp ∷ []) r) (sym (had_none stamp r is))
    (record { seq = refl; flags = refl; attrs = parted (place_of_type standard_information r.attrs) r.attrs (new_info (new_id r) stamp) })

-- ---- values

abbrev put : ℕ → List ℕ → List ℕ
put stamp value = written 0x10 (spell 8 stamp) (written 0x08 (spell 8 stamp) value)

put_table : (stamp : ℕ) (value : List ℕ) → stamp < 2 ^ 64 → 0x30 ≤ length value → IsStdInfo (put stamp value) (timed_info stamp (std_info_fields value))
unfolding std_info_fields
put_table stamp value small long =
    let first : List ℕ = written 0x08 (spell 8 stamp) value in
    let size = length-spell 8 stamp in
    let same = length-written 0x08 (spell 8 stamp) value in
    record {
      size = omega (arith, same, length-written 0x10 (spell 8 stamp) first);
      created = field-written_apart 0x00 8 0x10 (spell 8 stamp) first (inl (omega arith)) ∙ field-written_apart 0x00 8 0x08 (spell 8 stamp) value (inl (omega arith));
      modified = field-written_apart 0x08 8 0x10 (spell 8 stamp) first (inl (omega arith)) ∙ field-written 0x08 8 stamp value (omega arith) small;
      changed = field-written 0x10 8 stamp first (omega (arith, same)) small;
      read_at = field-written_apart 0x18 8 0x10 (spell 8 stamp) first (inr (omega (arith, size))) ∙ field-written_apart 0x18 8 0x08 (spell 8 stamp) value (inr (omega (arith, size)));
      flags = field-written_apart 0x20 4 0x10 (spell 8 stamp) first (inr (omega (arith, size))) ∙ field-written_apart 0x20 4 0x08 (spell 8 stamp) value (inr (omega (arith, size)));
    }

value_read : (value : List ℕ) → is_standard_information value ≡ true → std_info_of value ≡ Ok (std_info_fields value)
unfolding std_info_of
value_read value is = rw is refl

value_timed : (stamp : ℕ) (value : List ℕ) → stamp < 2 ^ 64 → is_standard_information value ≡ true → info_or (std_info_of (timed_value stamp value)) ≡ timed_info stamp (info_or (std_info_of value))
unfolding timed_value is_standard_information
value_timed stamp value small is =
    let table = put_table stamp value small (leb-true 0x30 (length value) is) in
    ap (λ (t : Bool). info_or (std_info_of (cond t (put stamp value) value))) is
    ∙ ap info_or (std_info_read (put stamp value) (timed_info stamp (std_info_fields value)) table)
    ∙ sym (ap (λ o. timed_info stamp (info_or o)) (value_read value is))

new_read : (stamp : ℕ) → stamp < 2 ^ 64 → info_or (std_info_of (new_value stamp)) ≡ timed_info stamp no_info
unfolding new_value
new_read stamp small =
    let fits : FitsStdInfo (timed_info stamp no_info) = record { created = omega arith; modified = small; changed = small; read_at = omega arith; flags = omega arith } in
    ap info_or (std_info_read (new_value stamp) (timed_info stamp no_info) (std_info_spelled (timed_info stamp no_info) (zeros 0x48) fits (omega (arith, length-zeros 0x48))))

-- ---- the information of a record

form_lawful : (form : OwnForm) → (stamp : ℕ) → stamp < 2 ^ 64 → is_resident_and is_standard_information form ≡ true → form_info (timed_form stamp form) ≡ timed_info stamp (form_info form)
form_lawful (Resident value indexed) stamp small is = value_timed stamp value small is
form_lawful (Mapped sizes pairs) stamp small is = absurd cc

lawful_by : Bool → Bool → Bool → Bool
lawful_by info first second = cond info first (cond second true true)

pub info_lawful : (a : Attr) → is_info a ≡ true → has_lawful_value a ≡ true → is_resident_and is_standard_information a.form ≡ true
unfolding has_lawful_value
info_lawful a is lawful = sym (rw is refl) ∙ lawful

abbrev found : List Attr → StdInfo
found attrs = attr_info (find is_info attrs)

found_step : (stamp : ℕ) (a : Attr) (attrs : List Attr) (t : Bool) → is_info a ≡ t → stamp < 2 ^ 64 → IsShort a → (list_any is_info attrs ≡ true → found (timed_attrs stamp attrs) ≡ timed_info stamp (found attrs))
    → (t || list_any is_info attrs) ≡ true → found (cond t (timed_attr stamp a ∷ attrs) (a ∷ timed_attrs stamp attrs)) ≡ timed_info stamp (attr_info (cond t (Some a) (find is_info attrs)))
found_step stamp a attrs true is small short rest some =
    ap (λ (t : Bool). attr_info (cond t (Some (timed_attr stamp a)) (find is_info attrs))) is
    ∙ form_lawful a.form stamp small (info_lawful a is (sym (lawful_stays a) ∙ short.lawful))
found_step stamp a attrs false is small short rest some =
    ap (λ (t : Bool). attr_info (cond t (Some a) (find is_info (timed_attrs stamp attrs)))) is ∙ rest some

found_timed : (stamp : ℕ) (attrs : List Attr) → stamp < 2 ^ 64 → All IsShort attrs → list_any is_info attrs ≡ true → found (timed_attrs stamp attrs) ≡ timed_info stamp (found attrs)
found_timed stamp [] small short some = absurd cc
found_timed stamp (a ∷ attrs) small short some = found_step stamp a attrs (is_info a) refl small (All-head IsShort a attrs short) (found_timed stamp attrs small (All-tail IsShort a attrs short)) some

none_found : (attrs : List Attr) → list_any is_info attrs ≡ false → find is_info attrs ≡ None
none_found [] none = refl
none_found (a ∷ attrs) none = (let parts = or_parts (is_info a) (list_any is_info attrs) none in ap (λ (t : Bool). cond t (Some a) (find is_info attrs)) parts.0 ∙ none_found attrs parts.1)

new_found : (p : ℕ) (new : Attr) (attrs : List Attr) → is_info new ≡ true → list_any is_info attrs ≡ false → find is_info (insert attrs p new) ≡ Some new
new_found zero new attrs is none = ap (λ (t : Bool). cond t (Some new) (find is_info attrs)) is
new_found (suc p) new [] is none = ap (λ (t : Bool). cond t (Some new) None) is
new_found (suc p) new (a ∷ attrs) is none =
    let parts = or_parts (is_info a) (list_any is_info attrs) none in
    ap (λ (t : Bool). cond t (Some a) (find is_info (insert attrs p new))) parts.0 ∙ new_found p new attrs is parts.1

info_by : (stamp : ℕ) (r : Record) (t : Bool) → has_type standard_information r ≡ t → stamp < 2 ^ 64 → FitsButRoom r → info_of (timed_record stamp r) ≡ timed_info stamp (info_of r)
unfolding info_of has_type
info_by stamp r true is small fits = ap info_of (had stamp r is) ∙ found_timed stamp r.attrs small fits.attrs is
info_by stamp r false is small fits =
    ap info_of (had_none stamp r is)
    ∙ ap attr_info (new_found (place_of_type standard_information r.attrs) (new_info (new_id r) stamp) r.attrs refl is)
    ∙ new_read stamp small
    ∙ sym (ap (λ o. timed_info stamp (attr_info o)) (none_found r.attrs is))

pub info : (stamp : ℕ) (r : Record) → stamp < 2 ^ 64 → FitsButRoom r → info_of (timed_record stamp r) ≡ timed_info stamp (info_of r)
info stamp r small fits = info_by stamp r (has_type standard_information r) refl small fits

pub node : (stamp n : ℕ) (r : Record) (v : Volume) (bytes : Option Stream → List ℕ) → stamp < 2 ^ 64 → FitsButRoom r → with_info (info_of (timed_record stamp r)) (node_by bytes v n r) ≡ renewed (node_by bytes v n r) stamp
unfolding node_by node_with changed_node
node stamp n r v bytes small fits = ap (λ (i : StdInfo). with_info i (node_by bytes v n r)) (info stamp r small fits)
