use Rattle.std.proofs.Common.{◌≡◌, ◌++◌, length, sym, ap, ◌∙◌, arith, length-append}
use Rattle.std.proofs.lemmas.Str.{chars_past_char, chars-nil, length-encode, len_utf8_bounds, IsUtf8-past_char}
use Rattle.std.proofs.lemmas.List.{nil_from_length}
use Rattle.std.specs.Str.{chars}
use Rattle.std.specs.Prelude.{encode_utf8}
use Rattle.utf16_name.specs.Elements.{first_at}
use Rattle.utf16_name.proofs.elements.split_first.Goals as goal

pub returns-in-Some : goal.returns-in-Some
returns-in-Some c =
    let first = c.in-Some.first in
    let rest = c.as_str.result.now in
    let e : c.args.text.now ≡ encode_utf8 first ++ rest =
    sym c.chars-rest.ensures.rest ∙ c.in-Some.ensures.steps.0 ∙ ap (λ t. encode_utf8 first ++ t) (sym c.as_str.ensures) in
    record {
      value = ap first_at (chars_past_char _ rest first c.utf8.text e);
      utf8 = IsUtf8-past_char _ rest first c.utf8.text e;
      shorter = omega (arith, ap length e, length-append (encode_utf8 first) rest, length-encode first, len_utf8_bounds first);
    }

pub returns-in-None-clause-value : goal.returns-in-None-clause-value
returns-in-None-clause-value c = ap first_at (ap chars (sym c.chars-rest.ensures.rest ∙ nil_from_length _ c.in-None.ensures.steps.0.0) ∙ chars-nil)
