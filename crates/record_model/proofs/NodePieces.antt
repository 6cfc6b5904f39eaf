-- A node's entries as pieces of its bytes: what is cut, and what was joined.
use Rattle.std.proofs.Common.{◌≡◌, ℕ, zero, suc, ◌+◌, ◌*◌, ◌/◌, ◌%◌, ◌≤◌, Bool, true, false, leb, ltb, eqb, List, [], ◌∷◌, ◌++◌, length, take, drop, Result, Ok, refl, sym, ap, ◌∙◌, subst, arith}
use Rattle.std.specs.Prelude.{◌&&◌, ◌||◌, ◌==◌}
use Rattle.std.specs.List.{concat}
use Rattle.std.proofs.lemmas.Bool.{le-ltb, le-leb, leb-true, eq-eqb, eqb-true, and_from, and_parts, false≢true}
use Rattle.std.proofs.lemmas.List.{length-append, append_assoc, append-nil, take-append-drop, length-take-le, length-drop, take_at, drop_at, drop-append-le, take-append-le}
use Rattle.disk_model.specs.host_base.Answers.{◌>>=◌, needs}
use Rattle.disk_model.specs.Numbers.{field}
use Rattle.disk_model.specs.Bytes.{part}
use Rattle.disk_model.proofs.Fields.{field-append, field-take}
use Rattle.record_model.specs.Values.{is_file_name}
use Rattle.record_model.specs.Records.{Pieces, with_piece}
use Rattle.record_model.specs.Nodes.{child_flag, is_last, has_entry_length, has_key, has_entry, cut_entries}
use Rattle.record_model.proofs.Answering.{steps_from_ok, needs_from_ok}
use Rattle.record_model.proofs.Pieces.{cut_into}

-- ---- an entry's own bytes

-- as many as its length says, with lawful length and key
pub record IsEntryBytes (s : List ℕ) : Type 0 where
  pub long : 0x10 + 8 * child_flag s ≤ length s
  pub own_length : field 0x08 2 s ≡ length s
  pub eights : length s % 8 ≡ 0
  pub key : has_key s ≡ true

-- the length of an entry at the front of bytes
pub record HasFrontLength (bytes : List ℕ) : Type 0 where
  pub long : 0x10 + 8 * child_flag bytes ≤ field 0x08 2 bytes
  pub eights : field 0x08 2 bytes % 8 ≡ 0
  pub inside : field 0x08 2 bytes ≤ length bytes

pub front_length : (bytes : List ℕ) → has_entry_length bytes ≡ true → HasFrontLength bytes
unfolding has_entry_length
front_length bytes h =
    let parts = and_parts (leb (0x10 + 8 * child_flag bytes) (field 0x08 2 bytes) && eqb (field 0x08 2 bytes % 8) 0) (leb (field 0x08 2 bytes) (length bytes)) h in
    let more = and_parts (leb (0x10 + 8 * child_flag bytes) (field 0x08 2 bytes)) (eqb (field 0x08 2 bytes % 8) 0) parts.0 in
    record { long = leb-true _ _ more.0; eights = eqb-true _ _ more.1; inside = leb-true _ _ parts.1 }

length_from_front : (bytes : List ℕ) → HasFrontLength bytes → has_entry_length bytes ≡ true
unfolding has_entry_length
length_from_front bytes f = and_from _ _ (and_from _ _ (le-leb _ _ f.long) (eq-eqb _ _ f.eights)) (le-leb _ _ f.inside)

-- the key of an entry before the last
pub record HasFrontKey (bytes : List ℕ) : Type 0 where
  pub inside : 0x10 + field 0x0A 2 bytes + 8 * child_flag bytes ≤ field 0x08 2 bytes
  pub lawful : is_file_name (part 0x10 (field 0x0A 2 bytes) bytes) ≡ true

without_last : (last both : Bool) → last ≡ false → (last || both) ≡ true → both ≡ true
without_last true both e h = absurd cc
without_last false both e h = h

or_last : (last both : Bool) → last ≡ true → (last || both) ≡ true
or_last true both e = refl
or_last false both e = absurd cc

or_both : (last both : Bool) → both ≡ true → (last || both) ≡ true
or_both true both e = refl
or_both false both e = e

pub front_key : (bytes : List ℕ) → is_last bytes ≡ false → has_key bytes ≡ true → HasFrontKey bytes
unfolding has_key
front_key bytes last h =
    let parts = and_parts (leb (0x10 + field 0x0A 2 bytes + 8 * child_flag bytes) (field 0x08 2 bytes)) (is_file_name (part 0x10 (field 0x0A 2 bytes) bytes)) (without_last (is_last bytes) _ last h) in
    record { inside = leb-true _ _ parts.0; lawful = parts.1 }

pub key_from_last : (bytes : List ℕ) → is_last bytes ≡ true → has_key bytes ≡ true
unfolding has_key
key_from_last bytes last = or_last (is_last bytes) _ last

pub key_from_front : (bytes : List ℕ) → HasFrontKey bytes → has_key bytes ≡ true
unfolding has_key
key_from_front bytes f = or_both (is_last bytes) _ (and_from _ _ (le-leb _ _ f.inside) f.lawful)

-- ---- an entry's own bytes and those behind it

module _ (s rest : List ℕ) (long : 0x10 ≤ length s) where
  own_length_is : field 0x08 2 (s ++ rest) ≡ field 0x08 2 s
  own_length_is = field-append 0x08 2 s rest (omega arith)

  key_length_is : field 0x0A 2 (s ++ rest) ≡ field 0x0A 2 s
  key_length_is = field-append 0x0A 2 s rest (omega arith)

  flags_is : field 0x0C 2 (s ++ rest) ≡ field 0x0C 2 s
  flags_is = field-append 0x0C 2 s rest (omega arith)

  pub last_is : is_last (s ++ rest) ≡ is_last s
  last_is = ap (λ (n : ℕ). n / 2 % 2 == 1) flags_is

  child_is : child_flag (s ++ rest) ≡ child_flag s
  child_is = ap (λ (n : ℕ). n % 2) flags_is

  key_is : (k : ℕ) → 0x10 + k ≤ length s → part 0x10 k (s ++ rest) ≡ part 0x10 k s
  key_is k inside = ap (take k) (drop-append-le 0x10 s rest long) ∙ take-append-le k (drop 0x10 s) rest (omega (arith, length-drop 0x10 s))

  front_to_own : HasFrontKey (s ++ rest) → field 0x08 2 s ≡ length s → HasFrontKey s
  front_to_own f own = record {
    inside = omega (arith, f.inside, own_length_is, key_length_is, child_is);
    lawful = ap is_file_name (sym (key_is (field 0x0A 2 s) (omega (arith, f.inside, own_length_is, key_length_is, child_is))) ∙ ap (λ (k : ℕ). part 0x10 k (s ++ rest)) (sym key_length_is)) ∙ f.lawful;
  }

  own_to_front : HasFrontKey s → field 0x08 2 s ≡ length s → HasFrontKey (s ++ rest)
  own_to_front f own = record {
    inside = omega (arith, f.inside, own_length_is, key_length_is, child_is);
    lawful = ap is_file_name (ap (λ (k : ℕ). part 0x10 k (s ++ rest)) key_length_is ∙ key_is (field 0x0A 2 s) (omega (arith, f.inside))) ∙ f.lawful;
  }

  key_to_own : (last : Bool) → is_last s ≡ last → has_key (s ++ rest) ≡ true → field 0x08 2 s ≡ length s → has_key s ≡ true
  key_to_own true e h own = key_from_last s e
  key_to_own false e h own = key_from_front s (front_to_own (front_key (s ++ rest) (last_is ∙ e) h) own)

  key_to_front : (last : Bool) → is_last s ≡ last → has_key s ≡ true → field 0x08 2 s ≡ length s → has_key (s ++ rest) ≡ true
  key_to_front true e h own = key_from_last (s ++ rest) (last_is ∙ e)
  key_to_front false e h own = key_from_front (s ++ rest) (own_to_front (front_key s e h) own)

-- an entry at the front of bytes has its own bytes there
pub own_from_entry : (bytes : List ℕ) → has_entry bytes ≡ true → (field 0x08 2 bytes ≤ length bytes) × IsEntryBytes (take (field 0x08 2 bytes) bytes) × (is_last (take (field 0x08 2 bytes) bytes) ≡ is_last bytes)
own_from_entry bytes h =
    let n = field 0x08 2 bytes in
    let parts = and_parts (has_entry_length bytes) (has_key bytes) h in
    let f = front_length bytes parts.0 in
    let s = take n bytes in
    let rest = drop n bytes in
    let size : length s ≡ n = length-take-le n bytes f.inside in
    let low : 0x10 ≤ length s = omega (arith, size, f.long) in
    let whole : s ++ rest ≡ bytes = take-append-drop n bytes in
    let own : field 0x08 2 s ≡ length s = field-take 0x08 2 n bytes (omega (arith, f.long)) ∙ sym size in
    let flags : field 0x0C 2 s ≡ field 0x0C 2 bytes = field-take 0x0C 2 n bytes (omega (arith, f.long)) in
    let child : child_flag s ≡ child_flag bytes = ap (λ (k : ℕ). k % 2) flags in (
      f.inside,
      record {
        long = omega (arith, f.long, child, size);
        own_length = own;
        eights = ap (λ (k : ℕ). k % 8) size ∙ f.eights;
        key = key_to_own s rest low (is_last s) refl (ap has_key whole ∙ parts.1) own;
      },
      ap (λ (k : ℕ). k / 2 % 2 == 1) flags,
    )

-- an entry's own bytes in front are an entry there
pub entry_from_own : (s rest : List ℕ) → IsEntryBytes s → has_entry (s ++ rest) ≡ true
entry_from_own s rest own =
    let low : 0x10 ≤ length s = omega (arith, own.long) in
    let length_here = own_length_is s rest low in
    let child_here = child_is s rest low in
    let front : HasFrontLength (s ++ rest) = record {
      long = omega (arith, own.long, length_here, child_here, own.own_length);
      eights = ap (λ (k : ℕ). k % 8) (length_here ∙ own.own_length) ∙ own.eights;
      inside = omega (arith, length_here, own.own_length, length-append s rest);
    } in
    and_from _ _ (length_from_front (s ++ rest) front) (key_to_front s rest low (is_last s) refl own.key own.own_length)

pub own_bytes_front : (s rest : List ℕ) → IsEntryBytes s → take (field 0x08 2 (s ++ rest)) (s ++ rest) ≡ s
own_bytes_front s rest own = take_at s rest (field 0x08 2 (s ++ rest)) (sym (own_length_is s rest (omega (arith, own.long)) ∙ own.own_length))

pub bytes_behind_front : (s rest : List ℕ) → IsEntryBytes s → drop (field 0x08 2 (s ++ rest)) (s ++ rest) ≡ rest
bytes_behind_front s rest own = drop_at s rest (field 0x08 2 (s ++ rest)) (sym (own_length_is s rest (omega (arith, own.long)) ∙ own.own_length))

-- ---- what is cut

-- the own bytes of entries of which the final one, and no other, is the last
abbrev pub AreEntries : List (List ℕ) → Type 0
AreEntries [] = ⊥
AreEntries (s ∷ []) = IsEntryBytes s × (is_last s ≡ true)
AreEntries (s ∷ t ∷ pieces) = IsEntryBytes s × (is_last s ≡ false) × AreEntries (t ∷ pieces)

are_more : (s : List ℕ) (pieces : List (List ℕ)) → IsEntryBytes s → is_last s ≡ false → AreEntries pieces → AreEntries (s ∷ pieces)
are_more s [] own before each = absurd each
are_more s (t ∷ pieces) own before each = (own, before, each)

abbrev pub cut_last : ℕ → List ℕ → Bool → Result Pieces ℕ
cut_last most bytes true = Ok (cut_into (take (field 0x08 2 bytes) bytes ∷ []) true)
cut_last most bytes false = with_piece (take (field 0x08 2 bytes) bytes) (cut_entries most (drop (field 0x08 2 bytes) bytes))

abbrev pub cut_short : ℕ → List ℕ → Bool → Result Pieces ℕ
cut_short most bytes true = Ok (cut_into [] false)
cut_short most bytes false = needs (has_entry bytes) 4 >>= λ _. cut_last most bytes (is_last bytes)

pub cut_entries_next : (most : ℕ) (bytes : List ℕ) → cut_entries (suc most) bytes ≡ cut_short most bytes (ltb (length bytes) 0x10)
unfolding cut_entries
cut_entries_next most bytes = refl

-- bytes that were cut up to a last entry
pub record IsCutInto (bytes : List ℕ) (pieces : List (List ℕ)) : Type 0 where
  pub behind : List ℕ
  pub placed : bytes ≡ concat pieces ++ behind
  pub each : AreEntries pieces

abbrev CutsInto : Result Pieces ℕ → List (List ℕ) → Type 0
CutsInto read pieces = read ≡ Ok (cut_into pieces true)

none_ended : (pieces : List (List ℕ)) → CutsInto (Ok (cut_into [] false)) pieces → ⊥
none_ended pieces e = let same : cut_into [] false ≡ cut_into pieces true = cc in false≢true (ap (λ (p : Pieces). p.ended) same)

same_pieces : (piece : List ℕ) (rest : Pieces) (pieces : List (List ℕ)) → CutsInto (Ok (cut_into (piece ∷ rest.pieces) rest.ended)) pieces → (piece ∷ rest.pieces ≡ pieces) × (rest.ended ≡ true)
same_pieces piece rest pieces e = let same : cut_into (piece ∷ rest.pieces) rest.ended ≡ cut_into pieces true = cc in (ap (λ (p : Pieces). p.pieces) same, ap (λ (p : Pieces). p.ended) same)

-- what is known of what is cut behind the first piece
abbrev CutsRest : ℕ → Type 0
CutsRest most = (bytes : List ℕ) (pieces : List (List ℕ)) → CutsInto (cut_entries most bytes) pieces → IsCutInto bytes pieces

cut_one : (most : ℕ) (bytes : List ℕ) (pieces : List (List ℕ)) (last : Bool) → CutsRest most → has_entry bytes ≡ true → is_last bytes ≡ last → CutsInto (cut_last most bytes last) pieces → IsCutInto bytes pieces
cut_one most bytes pieces true more lawful last e =
    let n = field 0x08 2 bytes in
    let own = own_from_entry bytes lawful in
    let same = same_pieces (take n bytes) (cut_into [] true) pieces e in
    subst (IsCutInto bytes) same.0 (record {
      behind = drop n bytes;
      placed = sym (take-append-drop n bytes) ∙ ap (λ (x : List ℕ). x ++ drop n bytes) (sym (append-nil (take n bytes)));
      each = (own.1, own.2 ∙ last);
    })
cut_one most bytes pieces false more lawful last e =
    let n = field 0x08 2 bytes in
    let own = own_from_entry bytes lawful in
    let read = steps_from_ok (cut_entries most (drop n bytes)) (λ (p : Pieces). Ok (cut_into (take n bytes ∷ p.pieces) p.ended)) (cut_into pieces true) e in
    let same = same_pieces (take n bytes) read.0 pieces read.2 in
    let ended : CutsInto (cut_entries most (drop n bytes)) read.0.pieces = read.1 ∙ ap (λ (b : Bool). Ok (cut_into read.0.pieces b)) same.1 in
    let rest = more (drop n bytes) read.0.pieces ended in
    let whole : bytes ≡ (take n bytes ++ concat read.0.pieces) ++ rest.behind =
    sym (take-append-drop n bytes) ∙ ap (λ (x : List ℕ). take n bytes ++ x) rest.placed ∙ sym (append_assoc (take n bytes) (concat read.0.pieces) rest.behind) in
    subst (IsCutInto bytes) same.0 (record { behind = rest.behind; placed = whole; each = are_more (take n bytes) read.0.pieces own.1 (own.2 ∙ last) rest.each })

cut_long : (most : ℕ) (bytes : List ℕ) (pieces : List (List ℕ)) (short : Bool) → CutsRest most → CutsInto (cut_short most bytes short) pieces → IsCutInto bytes pieces
cut_long most bytes pieces true more e = absurd (none_ended pieces e)
cut_long most bytes pieces false more e =
    let lawful = needs_from_ok (has_entry bytes) 4 (λ _. cut_last most bytes (is_last bytes)) (cut_into pieces true) e in
    cut_one most bytes pieces (is_last bytes) more lawful.0 refl lawful.1

-- what is cut up to a last entry was entries' own bytes
pub entries_from_ok : (most : ℕ) (bytes : List ℕ) (pieces : List (List ℕ)) → cut_entries most bytes ≡ Ok (cut_into pieces true) → IsCutInto bytes pieces
unfolding cut_entries
entries_from_ok zero bytes pieces e = absurd (none_ended pieces e)
entries_from_ok (suc most) bytes pieces e = cut_long most bytes pieces (ltb (length bytes) 0x10) (entries_from_ok most) e

-- ---- what was joined

-- an entry's own bytes in front are cut off
pub cut_entry_front : (most : ℕ) (s rest : List ℕ) (last : Bool) → IsEntryBytes s → is_last s ≡ last → cut_entries (suc most) (s ++ rest) ≡ cut_last most (s ++ rest) last
cut_entry_front most s rest last own e =
    let low : 0x10 ≤ length s = omega (arith, own.long) in
    let long : ltb (length (s ++ rest)) 0x10 ≡ false = le-ltb _ _ (omega (arith, length-append s rest)) in
    cut_entries_next most (s ++ rest)
    ∙ ap (cut_short most (s ++ rest)) long
    ∙ ap (λ (b : Bool). needs b 4 >>= λ _. cut_last most (s ++ rest) (is_last (s ++ rest))) (entry_from_own s rest own)
    ∙ ap (cut_last most (s ++ rest)) (last_is s rest low ∙ e)

-- entries' own bytes up to a last entry are cut into those
pub entries_joined : (most : ℕ) (pieces : List (List ℕ)) (behind : List ℕ) → AreEntries pieces → length pieces ≤ most → cut_entries most (concat pieces ++ behind) ≡ Ok (cut_into pieces true)
entries_joined zero [] behind each le = absurd each
entries_joined zero (s ∷ pieces) behind each le = absurd (omega arith)
entries_joined (suc most) [] behind each le = absurd each
entries_joined (suc most) (s ∷ []) behind each le =
    ap (λ (x : List ℕ). cut_entries (suc most) (x ++ behind)) (append-nil s)
    ∙ cut_entry_front most s behind true each.0 each.1
    ∙ ap (λ (x : List ℕ). Ok (cut_into (x ∷ []) true)) (own_bytes_front s behind each.0)
entries_joined (suc most) (s ∷ t ∷ pieces) behind each le =
    let tail = concat (t ∷ pieces) ++ behind in
    ap (cut_entries (suc most)) (append_assoc s (concat (t ∷ pieces)) behind)
    ∙ cut_entry_front most s tail false each.0 each.1
    ∙ ap (λ (x : List ℕ). with_piece x (cut_entries most (drop (field 0x08 2 (s ++ tail)) (s ++ tail)))) (own_bytes_front s tail each.0)
    ∙ ap (λ (x : List ℕ). with_piece s (cut_entries most x)) (bytes_behind_front s tail each.0)
    ∙ ap (with_piece s) (entries_joined most (t ∷ pieces) behind each.2 (omega arith))

-- each entry has at least 0x10 bytes
pub entries_long : (pieces : List (List ℕ)) → AreEntries pieces → 0x10 * length pieces ≤ length (concat pieces)
entries_long [] each = absurd each
entries_long (s ∷ []) each = omega (arith, length-append s [], each.0.long)
entries_long (s ∷ t ∷ pieces) each = omega (arith, length-append s (concat (t ∷ pieces)), each.0.long, entries_long (t ∷ pieces) each.2)
