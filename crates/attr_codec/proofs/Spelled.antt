-- What is spelled is read, and what is read is spelled.
use Rattle.std.proofs.Common.{◌≡◌, ℕ, true, List, ◌++◌, Ok, refl, ap, ◌∙◌, subst}
use Rattle.disk_model.specs.host_base.Answers.{◌>>=◌, needs}
use Rattle.record_model.specs.declared.attribute.Attr.{Attr}
use Rattle.record_model.specs.Attributes.{has_length, is_inside, attr_of, spelling, SpellsAttr, FitsAttr}
use Rattle.record_model.proofs.Answering.{needs_from_ok}
use Rattle.record_model.proofs.Attributes.{own_from_length, table_from_read, own_from_table, attr_from_table, inside_from_table, length_from_own, own_bytes as own_again}
use Rattle.record_model.proofs.Spellings.{spelling_spells}
use Rattle.attr_codec.specs.Reading.{own_bytes, attr_at}

read_on : (bytes : List ℕ) → has_length bytes ≡ true → is_inside (own_bytes bytes) ≡ true → attr_at bytes ≡ Ok (attr_of (own_bytes bytes))
unfolding attr_at
read_on bytes h i = rw (h, i) refl

pub spelled_read : (s rest : List ℕ) (a : Attr) → SpellsAttr s a → attr_at (s ++ rest) ≡ Ok a
spelled_read s rest a t =
    let own = own_from_table s a t in
    let again : own_bytes (s ++ rest) ≡ s = own_again s rest own in
    let inside : is_inside (own_bytes (s ++ rest)) ≡ true = ap is_inside again ∙ inside_from_table s a t in
    read_on (s ++ rest) (length_from_own s rest own) inside ∙ ap (λ (x : List ℕ). Ok (attr_of x)) again ∙ ap Ok (attr_from_table s a t)

pub written_read : (a : Attr) (rest : List ℕ) → FitsAttr a → attr_at (spelling a ++ rest) ≡ Ok a
written_read a rest fits = spelled_read (spelling a) rest a (spelling_spells a fits)

pub read_spelled : (bytes : List ℕ) (a : Attr) → attr_at bytes ≡ Ok a → SpellsAttr (own_bytes bytes) a
unfolding attr_at
read_spelled bytes a e =
    let long = needs_from_ok (has_length bytes) 3 (λ _. needs (is_inside (own_bytes bytes)) 6 >>= λ _. Ok (attr_of (own_bytes bytes))) a e in
    let inside = needs_from_ok (is_inside (own_bytes bytes)) 6 (λ _. Ok (attr_of (own_bytes bytes))) a long.1 in
    let same : attr_of (own_bytes bytes) ≡ a = cc (inside.1) in
    subst (SpellsAttr (own_bytes bytes)) same (table_from_read (own_bytes bytes) (own_from_length bytes long.0).1 inside.0)
