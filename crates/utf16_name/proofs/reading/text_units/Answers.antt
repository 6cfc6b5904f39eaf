use Rattle.std.proofs.Common.{append-nil, ◌≡◌, ◌-◌, length, [], List, ℕ, ap, sym, ◌∙◌, arith, Ok, Err}
use Rattle.std.specs.Str.{chars}
use Rattle.std.proofs.lemmas.Str.{encodes-chars, chars-nil}
use Rattle.std.proofs.lemmas.List.{nil_from_length}
use Rattle.utf16_name.specs.declared.name.NameFault.TheVariants.{Text}
use Rattle.utf16_name.specs.Reading.{with_front, units_in, placed}
use Rattle.utf16_name.specs.Spelled.{units_spelled}
use Rattle.utf16_name.proofs.Walks.{with_front-append, units_in-element, units_in-nil, units_in-fault, some_character}
use Rattle.utf16_name.proofs.reading.text_units.Goals as goal

pub returns-in_default : goal.returns-in_default
returns-in_default c =
    let rest = c.loop-rest.rest.now in
    let utf8 = c.loop-rest.invariant.utf8 in
    let some = some_character rest utf8 (grind arith) in
    let fault = units_in-fault (chars rest) some c.in_default.ensures.value in
    let read = sym c.loop-rest.invariant.read ∙ ap (with_front c.loop-rest.units.items) fault in
    record { value = ap (placed (length c.args.text.now)) read ∙ ap (λ (bytes : List ℕ). Err (Text (length c.args.text.now - length bytes))) (encodes-chars rest utf8) }

pub loop-rest-preserved : goal.loop-rest-preserved
loop-rest-preserved c = record {
  read =
      let behind = chars c.in-Some.behind.now in
      ap (λ (us : List ℕ). with_front us (units_in (length behind) behind)) c.in_ok-push_spelled.ensures
      ∙ with_front-append c.loop-rest.units.items (units_spelled c.in-Some.spelled) (units_in (length behind) behind)
      ∙ ap (with_front c.loop-rest.units.items) (sym (units_in-element (chars c.loop-rest.rest.now) (units_spelled c.in-Some.spelled, behind) c.in-Some.ensures.value))
      ∙ c.loop-rest.invariant.read;
  utf8 = c.in-Some.ensures.utf8;
  within = omega (arith, c.in-Some.ensures.shorter);
}

pub returns : goal.returns
returns c =
    let rest = c.loop-rest.rest.now in
    let units = c.loop-rest.units.items in
    let empty : rest ≡ [] = nil_from_length rest (grind arith) in
    let end = ap chars empty ∙ chars-nil in
    let read = sym c.loop-rest.invariant.read ∙ ap (λ (cs : List ℕ). with_front units (units_in (length cs) cs)) end ∙ ap (with_front units) (units_in-nil 0) in
    record { value = ap (placed (length c.args.text.now)) read ∙ ap (λ (us : List ℕ). Ok us) (append-nil units ∙ sym c.from.ensures) }
