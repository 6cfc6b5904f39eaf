-- A record's attributes as pieces of its bytes: what is cut, and what was joined.
use Rattle.std.proofs.Common.{◌≡◌, ◌≢◌, ℕ, zero, suc, ◌*◌, ◌^◌, ◌<◌, ◌≤◌, Bool, true, false, ltb, List, [], ◌∷◌, ◌++◌, length, take, drop, Result, Ok, refl, sym, ap, ◌∙◌, subst, inl, inr, arith}
use Rattle.std.specs.List.{concat, AllByRecursion}
use Rattle.std.proofs.lemmas.Bool.{cases_lt, false≢true, le-ltb, ltb-false, eq-eqb, eqb-true, eqb-false, ne_eqb}
use Rattle.std.proofs.lemmas.List.{length-append, append_assoc, take-append-drop, get_or-take, get_or_past, length-take, length-take-le}
use Rattle.disk_model.specs.host_base.Answers.{◌>>=◌, needs}
use Rattle.disk_model.specs.Numbers.{field, spell}
use Rattle.disk_model.specs.Bytes.{AreBytes}
use Rattle.disk_model.proofs.Fields.{field-append, field-take, field-lt, field-spell, length-spell, spell-field, AreBytes-drop}
use Rattle.record_model.specs.Attributes.{header_length, has_length}
use Rattle.record_model.specs.Records.{Pieces, with_piece, cut, is_end_mark}
use Rattle.record_model.proofs.Answering.{steps_from_ok, needs_from_ok}
use Rattle.record_model.proofs.Attributes.{HasOwnLength, own_from_length, length_from_own, own_bytes, bytes_behind, header_low}

-- the own bytes of an attribute whose type isn't that of the end mark
pub record IsPiece (s : List ℕ) : Type 0 where
  pub own : HasOwnLength s
  pub kind : field 0x00 4 s < 0xFFFFFFFF

abbrev pub cut_into : List (List ℕ) → Bool → Pieces
cut_into pieces ended = record { pieces = pieces; ended = ended }

-- ---- what is cut

abbrev pub cut_at_mark : ℕ → List ℕ → Bool → Result Pieces ℕ
cut_at_mark most bytes true = Ok (cut_into [] true)
cut_at_mark most bytes false = needs (has_length bytes) 3 >>= λ _. with_piece (take (field 0x04 4 bytes) bytes) (cut most (drop (field 0x04 4 bytes) bytes))

abbrev pub cut_at_end : ℕ → List ℕ → Bool → Result Pieces ℕ
cut_at_end most bytes true = Ok (cut_into [] false)
cut_at_end most bytes false = cut_at_mark most bytes (is_end_mark bytes)

pub cut_next : (most : ℕ) (bytes : List ℕ) → cut (suc most) bytes ≡ cut_at_end most bytes (ltb (length bytes) 4)
unfolding cut
cut_next most bytes = refl

-- the end mark stands in front, as bytes
mark_from_number : (bytes : List ℕ) → 4 ≤ length bytes → AreBytes bytes → is_end_mark bytes ≡ true → bytes ≡ spell 4 0xFFFFFFFF ++ drop 4 bytes
unfolding is_end_mark
mark_from_number bytes long each e =
    let number : field 0 4 bytes ≡ 0xFFFFFFFF = eqb-true _ _ e in
    let front : spell 4 0xFFFFFFFF ≡ take 4 bytes = ap (λ (x : ℕ). spell 4 x) (sym number) ∙ spell-field 0 4 bytes long each in
    sym (take-append-drop 4 bytes) ∙ ap (λ (x : List ℕ). x ++ drop 4 bytes) (sym front)

pub AreBytes-take : (n : ℕ) (bytes : List ℕ) → AreBytes bytes → AreBytes (take n bytes)
AreBytes-take n bytes each i =
    elim (cases_lt i n) [
      | inl within ↦ subst (λ (x : ℕ). x < 256) (sym (get_or-take n bytes i 0 within)) (each i)
      | inr behind ↦ subst (λ (x : ℕ). x < 256) (sym (get_or_past (take n bytes) i 0 (omega (arith, length-take n bytes)))) (omega arith)
    ]

-- bytes that were cut up to an end mark
pub record IsCut (bytes : List ℕ) (pieces : List (List ℕ)) : Type 0 where
  pub behind : List ℕ
  pub placed : bytes ≡ concat pieces ++ (spell 4 0xFFFFFFFF ++ behind)
  pub each : AllByRecursion IsPiece pieces

abbrev CutsInto : Result Pieces ℕ → List (List ℕ) → Type 0
CutsInto read pieces = read ≡ Ok (cut_into pieces true)

none_ended : (pieces : List (List ℕ)) → CutsInto (Ok (cut_into [] false)) pieces → ⊥
none_ended pieces e = let same : cut_into [] false ≡ cut_into pieces true = cc in false≢true (ap (λ (p : Pieces). p.ended) same)

no_pieces : (pieces : List (List ℕ)) → CutsInto (Ok (cut_into [] true)) pieces → [] ≡ pieces
no_pieces pieces e = let same : cut_into [] true ≡ cut_into pieces true = cc in ap (λ (p : Pieces). p.pieces) same

same_pieces : (piece : List ℕ) (rest : Pieces) (pieces : List (List ℕ)) → CutsInto (Ok (cut_into (piece ∷ rest.pieces) rest.ended)) pieces → (piece ∷ rest.pieces ≡ pieces) × (rest.ended ≡ true)
same_pieces piece rest pieces e = let same : cut_into (piece ∷ rest.pieces) rest.ended ≡ cut_into pieces true = cc in (ap (λ (p : Pieces). p.pieces) same, ap (λ (p : Pieces). p.ended) same)

-- what is known of what is cut behind the first piece
abbrev CutsRest : ℕ → Type 0
CutsRest most = (bytes : List ℕ) (pieces : List (List ℕ)) → AreBytes bytes → CutsInto (cut most bytes) pieces → IsCut bytes pieces

cut_piece : (most : ℕ) (bytes : List ℕ) (pieces : List (List ℕ)) → CutsRest most → AreBytes bytes → 4 ≤ length bytes → is_end_mark bytes ≡ false → CutsInto (cut_at_mark most bytes false) pieces → IsCut bytes pieces
unfolding is_end_mark
cut_piece most bytes pieces more each long m e =
    let n = field 0x04 4 bytes in
    let fits = needs_from_ok (has_length bytes) 3 (λ _. with_piece (take n bytes) (cut most (drop n bytes))) (cut_into pieces true) e in
    let own = own_from_length bytes fits.0 in
    let read = steps_from_ok (cut most (drop n bytes)) (λ (p : Pieces). Ok (cut_into (take n bytes ∷ p.pieces) p.ended)) (cut_into pieces true) fits.1 in
    let same = same_pieces (take n bytes) read.0 pieces read.2 in
    let ended : CutsInto (cut most (drop n bytes)) read.0.pieces = read.1 ∙ ap (λ (b : Bool). Ok (cut_into read.0.pieces b)) same.1 in
    let rest = more (drop n bytes) read.0.pieces (AreBytes-drop n bytes each) ended in
    let low : 0x18 ≤ header_length (take n bytes) = header_low (take n bytes) in
    let size : length (take n bytes) ≡ n = length-take-le n bytes own.0 in
    let kind : field 0 4 (take n bytes) ≡ field 0 4 bytes = field-take 0 4 n bytes (omega (arith, own.1.header)) in
    let differs : field 0 4 bytes ≢ 0xFFFFFFFF = eqb-false _ _ m in
    let below : field 0 4 bytes < 256 ^ 4 = field-lt 0 4 bytes each in
    let piece : IsPiece (take n bytes) = record { own = own.1; kind = omega arith } in
    let whole : bytes ≡ (take n bytes ++ concat read.0.pieces) ++ (spell 4 0xFFFFFFFF ++ rest.behind) =
    sym (take-append-drop n bytes) ∙ ap (λ (x : List ℕ). take n bytes ++ x) rest.placed ∙ sym (append_assoc (take n bytes) (concat read.0.pieces) (spell 4 0xFFFFFFFF ++ rest.behind)) in
    subst (IsCut bytes) same.0 (record { behind = rest.behind; placed = whole; each = (piece, rest.each) })

cut_marked : (most : ℕ) (bytes : List ℕ) (pieces : List (List ℕ)) (marked : Bool) → CutsRest most → AreBytes bytes → 4 ≤ length bytes → is_end_mark bytes ≡ marked → CutsInto (cut_at_mark most bytes marked) pieces → IsCut bytes pieces
cut_marked most bytes pieces true more each long m e = subst (IsCut bytes) (no_pieces pieces e) (record { behind = drop 4 bytes; placed = mark_from_number bytes long each m; each = tt })
cut_marked most bytes pieces false more each long m e = cut_piece most bytes pieces more each long m e

cut_long : (most : ℕ) (bytes : List ℕ) (pieces : List (List ℕ)) (short : Bool) → CutsRest most → AreBytes bytes → ltb (length bytes) 4 ≡ short → CutsInto (cut_at_end most bytes short) pieces → IsCut bytes pieces
cut_long most bytes pieces true more each s e = absurd (none_ended pieces e)
cut_long most bytes pieces false more each s e = cut_marked most bytes pieces (is_end_mark bytes) more each (ltb-false _ _ s) refl e

-- what is cut up to an end mark was attributes' own bytes and then the end mark
pub cut_from_ok : (most : ℕ) (bytes : List ℕ) (pieces : List (List ℕ)) → AreBytes bytes → cut most bytes ≡ Ok (cut_into pieces true) → IsCut bytes pieces
unfolding cut
cut_from_ok zero bytes pieces each e = absurd (none_ended pieces e)
cut_from_ok (suc most) bytes pieces each e = cut_long most bytes pieces (ltb (length bytes) 4) (cut_from_ok most) each refl e

-- ---- what was joined

marked_end : (behind : List ℕ) → (ltb (length (spell 4 0xFFFFFFFF ++ behind)) 4 ≡ false) × (is_end_mark (spell 4 0xFFFFFFFF ++ behind) ≡ true)
unfolding is_end_mark
marked_end behind =
    let size = length-spell 4 0xFFFFFFFF in
    (le-ltb _ _ (omega (arith, length-append (spell 4 0xFFFFFFFF) behind)), eq-eqb _ _ (field-spell 0 4 0xFFFFFFFF [] behind refl (omega arith)))

-- an attribute's own bytes in front are cut off
pub cut_front : (most : ℕ) (s rest : List ℕ) → HasOwnLength s → field 0 4 s ≢ 0xFFFFFFFF → cut (suc most) (s ++ rest) ≡ with_piece s (cut most rest)
unfolding is_end_mark
cut_front most s rest own other =
    let bytes = s ++ rest in
    let low : 0x18 ≤ header_length s = header_low s in
    let long : ltb (length bytes) 4 ≡ false = le-ltb _ _ (omega (arith, length-append s rest, own.header)) in
    let kind : field 0 4 bytes ≡ field 0 4 s = field-append 0 4 s rest (omega (arith, own.header)) in
    let marked : is_end_mark bytes ≡ false = ne_eqb _ _ (λ e. other (sym kind ∙ e)) in
    cut_next most bytes
    ∙ ap (λ (b : Bool). cut_at_end most bytes b) long
    ∙ ap (λ (b : Bool). cut_at_mark most bytes b) marked
    ∙ ap (λ (b : Bool). needs b 3 >>= λ _. with_piece (take (field 0x04 4 bytes) bytes) (cut most (drop (field 0x04 4 bytes) bytes))) (length_from_own s rest own)
    ∙ ap (λ (x : List ℕ). with_piece x (cut most (drop (field 0x04 4 bytes) bytes))) (own_bytes s rest own)
    ∙ ap (λ (x : List ℕ). with_piece s (cut most x)) (bytes_behind s rest own)

-- attributes' own bytes and then the end mark are cut into those
pub cut_joined : (most : ℕ) (pieces : List (List ℕ)) (behind : List ℕ) → AllByRecursion IsPiece pieces → length pieces < most → cut most (concat pieces ++ (spell 4 0xFFFFFFFF ++ behind)) ≡ Ok (cut_into pieces true)
cut_joined zero pieces behind each lt = absurd (omega arith)
cut_joined (suc most) [] behind each lt =
    let bytes = spell 4 0xFFFFFFFF ++ behind in
    cut_next most bytes ∙ ap (λ (b : Bool). cut_at_end most bytes b) (marked_end behind).0 ∙ ap (λ (b : Bool). cut_at_mark most bytes b) (marked_end behind).1
cut_joined (suc most) (s ∷ pieces) behind each lt =
    let tail = spell 4 0xFFFFFFFF ++ behind in
    ap (cut (suc most)) (append_assoc s (concat pieces) tail) ∙ cut_front most s (concat pieces ++ tail) each.0.own (λ e. omega (arith, each.0.kind)) ∙ ap (λ (r : Result Pieces ℕ). with_piece s r) (cut_joined most pieces behind each.1 (omega arith))

-- each attribute has at least 0x18 bytes
pub pieces_long : (pieces : List (List ℕ)) → AllByRecursion IsPiece pieces → 0x18 * length pieces ≤ length (concat pieces)
pieces_long [] each = omega arith
pieces_long (s ∷ pieces) each =
    let low : 0x18 ≤ header_length s = header_low s in
    let more = pieces_long pieces each.1 in
    omega (arith, length-append s (concat pieces), each.0.own.header)
