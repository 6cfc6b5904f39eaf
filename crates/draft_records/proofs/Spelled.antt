-- Records that have a spelling are normal.
use Rattle.std.proofs.Common.{◌≡◌, ℕ, ◌+◌, ◌-◌, ◌%◌, ◌≤◌, List, [], ◌∷◌, ◌++◌, length, replicate, refl, sym, ap, subst, ◌∙◌, arith}
use Rattle.std.specs.Prelude.{map, All}
use Rattle.std.proofs.lemmas.List.{append-nil}
use Rattle.std.proofs.lemmas.List.Elements.{All-head, All-tail, recursion_from_All}
use Rattle.record_model.specs.disk_model.Bytes.{up8, zeros}
use Rattle.record_model.specs.declared.attribute.Attr.{Attr}
use Rattle.record_model.specs.declared.attribute.OwnForm.{OwnForm}
use Rattle.record_model.specs.declared.attribute.OwnForm.TheVariants.{Resident, Mapped}
use Rattle.record_model.specs.Attributes.{filled, FitsAttr, FitsForm}
use Rattle.record_model.specs.Records.{used_of, FitsRecord}
use Rattle.resized_streams.specs.record_writer.Normal.{normal, normal_form}
use Rattle.resized_streams.proofs.record_writer.Measures.{spelled_count}
use Rattle.resized_streams.proofs.record_streams.Read.{shorts}
use Rattle.draft_records.specs.Records.{SpelledFitsByRoom, SpelledFitsButRoom}

pairs_same : (pairs : List ℕ) → length pairs % 8 ≡ 0 → filled 0 pairs ≡ pairs
unfolding filled zeros
pairs_same pairs eights =
    let none : up8 (0 + length pairs) - (0 + length pairs) ≡ 0 = omega (arith, eights) in
    ap (λ (n : ℕ). pairs ++ replicate n 0) none ∙ append-nil pairs

form_same : (flags : ℕ) (form : OwnForm) → FitsForm flags form → normal_form form ≡ form
form_same flags (Resident value indexed) fits = refl
form_same flags (Mapped sizes pairs) fits = ap (λ (l : List ℕ). Mapped sizes l) (pairs_same pairs fits.pairs_eights)

attr_same : (a : Attr) → FitsAttr a → normal a ≡ a
attr_same a fits = ap (λ (f : OwnForm). record { head = a.head; name = a.name; form = f }) (form_same a.head.flags a.form fits.form)

attrs_same : (attrs : List Attr) → All FitsAttr attrs → map normal attrs ≡ attrs
attrs_same [] fits = refl
attrs_same (a ∷ attrs) fits = ap (λ (x : Attr). x ∷ map normal attrs) (attr_same a (All-head FitsAttr a attrs fits)) ∙ ap (λ (l : List Attr). a ∷ l) (attrs_same attrs (All-tail FitsAttr a attrs fits))

pub spelled_fits : SpelledFitsByRoom
spelled_fits r fits =
    let same = attrs_same r.attrs fits.attrs in
    let short : used_of (map normal r.attrs) ≤ 1024 = subst (λ (l : List Attr). used_of l ≤ 1024) (sym same) fits.used in
    record {
      attrs = subst (λ (l : List Attr). All FitsAttr l) (sym same) fits.attrs;
      countable = omega (arith, short);
      fits = (λ room. short, λ room. subst (λ (l : List Attr). FitsRecord (record { head = r.head; attrs = l })) (sym same) fits);
    }

pub spelled_but_room : SpelledFitsButRoom
spelled_but_room r fits =
    let same = attrs_same r.attrs fits.attrs in
    let each = subst (λ (l : List Attr). All FitsAttr l) (sym same) fits.attrs in
    let short : used_of (map normal r.attrs) ≤ 1024 = subst (λ (l : List Attr). used_of l ≤ 1024) (sym same) fits.used in
    record {
      head = fits.head;
      attrs = shorts r.attrs (recursion_from_All FitsAttr (map normal r.attrs) each) fits.kinds fits.lawful (omega (arith, short));
      rise = fits.rise;
      few = omega (arith, spelled_count r.attrs, fits.used);
    }
