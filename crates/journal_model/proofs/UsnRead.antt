-- Records of the journal: the table against the reader, and what refuses a record.
use Rattle.std.proofs.Common.{◌≡◌, ◌≢◌, ◌⊎◌, ℕ, zero, suc, ◌-◌, ◌+◌, ◌*◌, ◌/◌, ◌%◌, ◌^◌, ◌<◌, ◌≤◌, Bool, true, false, List, [], ◌∷◌, length, take, drop, get_or, Option, Some, None, Result, Ok, Err, refl, sym, ap, ◌∙◌, subst, inl, inr, arith, ℤ}
use Rattle.std.specs.Prelude.{is_ok, nat_le, ◌==◌, if◌then◌else◌}
use Rattle.std.specs.Int.{w64, cast_signed}
use Rattle.std.specs.List.{list_all}
use Rattle.std.proofs.lemmas.Bool.{and_parts, and_from, cases_lt, eqb-true, eq-eqb, ne_eqb, eqb-false, le-leb, leb-true}
use Rattle.std.proofs.lemmas.List.{get_or_past, length-take-le, length-drop}
use Rattle.std.proofs.lemmas.List.FromFn.{get_or-map-range_with_len}
use Rattle.record_model.specs.host_base.declared.file_ref.FileRef.{FileRef}
use Rattle.record_model.specs.host_base.Answers.{◌>>=◌, needs}
use Rattle.record_model.specs.host_base.FileRefs.{unpacked}
use Rattle.record_model.specs.utf16_name.Names.{name_of}
use Rattle.record_model.proofs.utf16_name.Naming.{name_of-of_name}
use Rattle.record_model.specs.disk_model.Numbers.{field}
use Rattle.record_model.specs.disk_model.Bytes.{AreBytes, zeros, up8, all_zeros}
use Rattle.record_model.proofs.disk_model.Fields.{field-lt, field-take, AreBytes-drop}
use Rattle.record_model.specs.Attributes.{units_at}
use Rattle.record_model.proofs.Attributes.{length-units_at}
use Rattle.record_model.proofs.FileNames.{name-of_ok}
use Rattle.record_model.proofs.Pieces.{AreBytes-take}
use Rattle.file_tree.specs.declared.journal.Usn.{Usn}
use Rattle.journal_model.specs.declared.fault.UsnFault.{UsnFault}
use Rattle.journal_model.specs.declared.fault.UsnFault.TheVariants.{Cut, Shape, Memory}
use Rattle.journal_model.specs.UsnRecords.{known_version, page_size, page_rest, is_whole, is_length, own_bytes, name_units, padding, has_layout, is_usn, usn_of, entry_in, usn_in, usn_at, IsUsn, IsRecord, BeginsRecord}
use Rattle.journal_model.specs.UsnLaws.{BeginsNone}

-- ---- zeros

pub zeros_from_test : (xs : List ℕ) → all_zeros xs ≡ true → xs ≡ zeros (length xs)
unfolding all_zeros zeros
zeros_from_test [] h = refl
zeros_from_test (x ∷ xs) h =
    let p = and_parts (x == 0) (list_all (λ b. b == 0) xs) h in
    let here : x ≡ 0 = eqb-true _ _ p.0 in
    ap (λ (n : ℕ). n ∷ xs) here ∙ ap (λ (l : List ℕ). 0 ∷ l) (zeros_from_test xs p.1)

pub zeros_pass : (n : ℕ) → all_zeros (zeros n) ≡ true
unfolding all_zeros zeros
zeros_pass zero = refl
zeros_pass (suc n) = zeros_pass n

-- ---- units

-- units of bytes are below 2^16
pub small_unit : (at count : ℕ) (bytes : List ℕ) → AreBytes bytes → (k : ℕ) → get_or (units_at at count bytes) k 0 < 2 ^ 16
unfolding units_at
small_unit at count bytes each k =
    elim (cases_lt k count) [
      | inl lt ↦ (let e = get_or-map-range_with_len (λ i. field (at + 2 * i) 2 bytes) 0 count k k 0 lt (omega arith) in let small : field (at + 2 * k) 2 bytes < 256 ^ 2 = field-lt (at + 2 * k) 2 bytes each in omega (arith, e))
      | inr le ↦ (let e = get_or_past (units_at at count bytes) k 0 (omega (arith, length-units_at at count bytes)) in omega (arith, e))
    ]

pub length-name_units : (own : List ℕ) → length (name_units own) ≡ field 0x38 2 own / 2
unfolding name_units
length-name_units own = length-units_at 0x3C (field 0x38 2 own / 2) own

-- ---- what the layout says

pub record HasLayout (at : ℕ) (own : List ℕ) : Type 0 where
  pub minor : field 0x06 2 own ≡ 0
  pub usn : field 0x18 8 own ≡ at
  pub name_place : field 0x3A 2 own ≡ 0x3C
  pub whole_units : field 0x38 2 own % 2 ≡ 0
  pub size : length own ≡ up8 (0x3C + field 0x38 2 own)

pub layout_parts : (at : ℕ) (own : List ℕ) → has_layout at own ≡ true → HasLayout at own
unfolding has_layout
layout_parts at own h =
    let d = and_parts _ (length own == up8 (0x3C + field 0x38 2 own)) h in
    let c = and_parts _ (field 0x38 2 own % 2 == 0) d.0 in
    let b = and_parts _ (field 0x3A 2 own == 0x3C) c.0 in
    let a = and_parts (field 0x06 2 own == 0) (field 0x18 8 own == at) b.0 in
    record { minor = eqb-true _ _ a.0; usn = eqb-true _ _ a.1; name_place = eqb-true _ _ b.1; whole_units = eqb-true _ _ c.1; size = eqb-true _ _ d.1 }

pub layout_from : (at : ℕ) (own : List ℕ) → HasLayout at own → has_layout at own ≡ true
unfolding has_layout
layout_from at own l = and_from _ _ (and_from _ _ (and_from _ _ (and_from _ _ (eq-eqb _ _ l.minor) (eq-eqb _ _ l.usn)) (eq-eqb _ _ l.name_place)) (eq-eqb _ _ l.whole_units)) (eq-eqb _ _ l.size)

-- a sound record of version 2
pub record IsSound (at : ℕ) (own : List ℕ) : Type 0 where
  pub layout : HasLayout at own
  pub name : is_ok (name_of (name_units own)) ≡ true
  pub behind : all_zeros (padding own) ≡ true

pub sound_parts : (at : ℕ) (own : List ℕ) → is_usn at own ≡ true → IsSound at own
unfolding is_usn
sound_parts at own h =
    let b = and_parts _ (all_zeros (padding own)) h in
    let a = and_parts (has_layout at own) (is_ok (name_of (name_units own))) b.0 in
    record { layout = layout_parts at own a.0; name = a.1; behind = b.1 }

pub sound_from : (at : ℕ) (own : List ℕ) → IsSound at own → is_usn at own ≡ true
unfolding is_usn
sound_from at own s = and_from _ _ (and_from _ _ (layout_from at own s.layout) s.name) s.behind

-- ---- a record's own bytes, from the reader to the table

sound_table : (at : ℕ) (own : List ℕ) → AreBytes own → field 0x00 4 own ≡ length own → field 0x04 2 own ≡ known_version → IsSound at own → IsUsn own (usn_of own)
unfolding usn_of name_units padding
sound_table at own each own_length major s =
    let l = s.layout in
    let wide = field 0x38 2 own in
    let units = units_at 0x3C (wide / 2) own in
    let count : length units ≡ wide / 2 = length-units_at 0x3C (wide / 2) own in
    let doubled : wide ≡ 2 * length units = omega (arith, l.whole_units) in
    let left : drop (0x3C + wide) own ≡ zeros (length (drop (0x3C + wide) own)) = zeros_from_test (drop (0x3C + wide) own) s.behind in
    record {
      own_length = own_length;
      major = major;
      minor = l.minor;
      child = refl;
      parent = refl;
      usn = refl;
      time = refl;
      reason = refl;
      source = refl;
      security = refl;
      flags = refl;
      name_bytes = doubled;
      name_place = l.name_place;
      name = ap (λ (n : ℕ). units_at 0x3C n own) count;
      lawful = name-of_ok units (small_unit 0x3C (wide / 2) own each) s.name;
      size = l.size ∙ ap (λ (n : ℕ). up8 (0x3C + n)) doubled;
      behind = ap (λ (n : ℕ). drop (0x3C + n) own) (sym doubled) ∙ left ∙ ap zeros (length-drop (0x3C + wide) own) ∙ ap (λ (n : ℕ). zeros (length own - (0x3C + n))) doubled;
    }

-- ---- and back

count_of : (s : List ℕ) (entry : Usn) → IsUsn s entry → field 0x38 2 s / 2 ≡ length entry.name
count_of s entry t = let e = t.name_bytes in omega arith

units_of : (s : List ℕ) (entry : Usn) → IsUsn s entry → name_units s ≡ entry.name
unfolding name_units
units_of s entry t = ap (λ (n : ℕ). units_at 0x3C n s) (count_of s entry t) ∙ t.name

table_sound : (at : ℕ) (s : List ℕ) (entry : Usn) → IsUsn s entry → entry.usn ≡ at → IsSound at s
unfolding padding
table_sound at s entry t here =
    let e = t.name_bytes in
    record {
      layout = record { minor = t.minor; usn = t.usn ∙ here; name_place = t.name_place; whole_units = omega arith; size = t.size ∙ ap (λ (n : ℕ). up8 (0x3C + n)) (sym e) };
      name = ap (λ (units : List ℕ). is_ok (name_of units)) (units_of s entry t) ∙ ap is_ok (name_of-of_name entry.name t.lawful);
      behind = ap (λ (n : ℕ). all_zeros (drop (0x3C + n) s)) e ∙ ap all_zeros t.behind ∙ zeros_pass (length s - (0x3C + 2 * length entry.name));
    }

make : ℕ → FileRef → FileRef → ℕ → ℕ → ℤ → ℕ → ℕ → List ℕ → Usn
make usn child parent reason flags time source security name = record { usn = usn; child = child; parent = parent; reason = reason; flags = flags; time = time; source = source; security = security; name = name }

same9 : {X : Type 0} (f : ℕ → FileRef → FileRef → ℕ → ℕ → ℤ → ℕ → ℕ → List ℕ → X) (a a' : ℕ) (b b' c c' : FileRef) (d d' e e' : ℕ) (z z' : ℤ) (g g' h h' : ℕ) (n n' : List ℕ)
    → a ≡ a' → b ≡ b' → c ≡ c' → d ≡ d' → e ≡ e' → z ≡ z' → g ≡ g' → h ≡ h' → n ≡ n' → f a b c d e z g h n ≡ f a' b' c' d' e' z' g' h' n'
same9 f a a' b b' c c' d d' e e' z z' g g' h h' n n' p0 p1 p2 p3 p4 p5 p6 p7 p8 = cc

-- the entry, field by field
pub entry_same : (s : List ℕ) (entry : Usn)
    → field 0x18 8 s ≡ entry.usn → unpacked (field 0x08 8 s) ≡ entry.child → unpacked (field 0x10 8 s) ≡ entry.parent → field 0x28 4 s ≡ entry.reason → field 0x34 4 s ≡ entry.flags
    → cast_signed w64 (field 0x20 8 s) ≡ entry.time → field 0x2C 4 s ≡ entry.source → field 0x30 4 s ≡ entry.security → name_units s ≡ entry.name → usn_of s ≡ entry
unfolding usn_of make
entry_same s entry p0 p1 p2 p3 p4 p5 p6 p7 p8 = same9 make _ _ _ _ _ _ _ _ _ _ _ _ _ _ _ _ _ _ p0 p1 p2 p3 p4 p5 p6 p7 p8

table_entry : (s : List ℕ) (entry : Usn) → IsUsn s entry → usn_of s ≡ entry
table_entry s entry t = entry_same s entry t.usn t.child t.parent t.reason t.flags t.time t.source t.security (units_of s entry t)

-- ---- the chain of tests

abbrev by_version : Bool → Bool → Usn → ℕ → Result (Option Usn) UsnFault
by_version v s entry at = if v then (needs s (Shape at) >>= λ _. Ok (Some entry)) else Ok None

abbrev chain : Bool → Bool → Bool → Bool → Usn → ℕ → ℕ → Result (Option Usn × ℕ) UsnFault
chain w l v s entry n at = needs w (Cut at) >>= λ _. needs l (Shape at) >>= λ _. by_version v s entry at >>= λ found. Ok (found, n)

in_chain : (bytes : List ℕ) (at : ℕ) → usn_in bytes at ≡ chain (is_whole bytes) (is_length (field 0x00 4 bytes)) (field 0x04 2 (own_bytes bytes) == known_version) (is_usn at (own_bytes bytes)) (usn_of (own_bytes bytes)) (field 0x00 4 bytes) at
unfolding usn_in entry_in
in_chain bytes at = refl

abbrev answer : Option Usn → ℕ → Result (Option Usn × ℕ) UsnFault
answer found n = Ok (found, n)

abbrev first_of : Result (Option Usn × ℕ) UsnFault → Option Usn
first_of (Ok p) = p.0
first_of (Err fault) = None

abbrev second_of : Result (Option Usn × ℕ) UsnFault → ℕ
second_of (Ok p) = p.1
second_of (Err fault) = 0

pair_is : (a c : Option Usn) (b d : ℕ) → answer a b ≡ answer c d → (a ≡ c) × (b ≡ d)
pair_is a c b d e = (ap first_of e, ap second_of e)

-- which entry the chain gives
abbrev Chose : Bool → Bool → Usn → Option Usn → Type 0
Chose v s entry found = ((v ≡ true) × (s ≡ true) × (Some entry ≡ found)) ⊎ ((v ≡ false) × (None ≡ found))

chain_ok : (w l v s : Bool) (entry : Usn) (n at : ℕ) (found : Option Usn) (m : ℕ) → chain w l v s entry n at ≡ Ok (found, m) → (w ≡ true) × (l ≡ true) × Chose v s entry found × (n ≡ m)
chain_ok false l v s entry n at found m e = absurd cc
chain_ok true false v s entry n at found m e = absurd cc
chain_ok true true true false entry n at found m e = absurd cc
chain_ok true true true true entry n at found m e = let p = pair_is (Some entry) found n m e in (refl, refl, inl (refl, refl, p.0), p.1)
chain_ok true true false s entry n at found m e = let p = pair_is None found n m e in (refl, refl, inr (refl, p.0), p.1)

chain_cut : (w l v s : Bool) (entry : Usn) (n at k : ℕ) → chain w l v s entry n at ≡ Err (Cut k) → (k ≡ at) × (w ≡ false)
chain_cut false l v s entry n at k e = (cc, refl)
chain_cut true false v s entry n at k e = absurd cc
chain_cut true true true false entry n at k e = absurd cc
chain_cut true true true true entry n at k e = absurd cc
chain_cut true true false s entry n at k e = absurd cc

chain_shape : (w l v s : Bool) (entry : Usn) (n at k : ℕ) → chain w l v s entry n at ≡ Err (Shape k) → (k ≡ at) × (w ≡ true)
chain_shape false l v s entry n at k e = absurd cc
chain_shape true false v s entry n at k e = (cc, refl)
chain_shape true true true false entry n at k e = (cc, refl)
chain_shape true true true true entry n at k e = absurd cc
chain_shape true true false s entry n at k e = absurd cc

chain_memory : (w l v s : Bool) (entry : Usn) (n at : ℕ) → chain w l v s entry n at ≡ Err Memory → ⊥
chain_memory false l v s entry n at e = cc
chain_memory true false v s entry n at e = cc
chain_memory true true true false entry n at e = cc
chain_memory true true true true entry n at e = cc
chain_memory true true false s entry n at e = cc

-- ---- the lengths

pub whole_parts : (bytes : List ℕ) → is_whole bytes ≡ true → (4 ≤ length bytes) × (field 0x00 4 bytes ≤ length bytes)
unfolding is_whole
whole_parts bytes h = let p = and_parts (nat_le 4 (length bytes)) (nat_le (field 0x00 4 bytes) (length bytes)) h in (leb-true _ _ p.0, leb-true _ _ p.1)

whole_from : (bytes : List ℕ) → 4 ≤ length bytes → field 0x00 4 bytes ≤ length bytes → is_whole bytes ≡ true
unfolding is_whole
whole_from bytes four all = and_from _ _ (le-leb _ _ four) (le-leb _ _ all)

pub length_parts : (n : ℕ) → is_length n ≡ true → (8 ≤ n) × (n % 8 ≡ 0)
unfolding is_length
length_parts n h = let p = and_parts (nat_le 8 n) (n % 8 == 0) h in (leb-true _ _ p.0, eqb-true _ _ p.1)

length_from : (n : ℕ) → 8 ≤ n → n % 8 ≡ 0 → is_length n ≡ true
unfolding is_length
length_from n some eights = and_from _ _ (le-leb _ _ some) (eq-eqb _ _ eights)

-- ---- the table

chosen_table : (at : ℕ) (own : List ℕ) (found : Option Usn) → AreBytes own → field 0x00 4 own ≡ length own → 8 ≤ length own → length own % 8 ≡ 0
    → Chose (field 0x04 2 own == known_version) (is_usn at own) (usn_of own) found → IsRecord own at found
unfolding usn_of
chosen_table at own found each own_length some eights (inl (v, s, e)) =
    let sound = sound_parts at own s in
    subst (IsRecord own at) e (sound_table at own each own_length (eqb-true _ _ v) sound, sound.layout.usn)
chosen_table at own found each own_length some eights (inr (v, e)) =
    subst (IsRecord own at) e (record { own_length = own_length; some = some; eights = eights; major = eqb-false _ _ v })

pub read_table : (bytes : List ℕ) (at : ℕ) (found : Option Usn) (n : ℕ) → AreBytes bytes → usn_in bytes at ≡ Ok (found, n) → BeginsRecord bytes at found n
read_table bytes at found n each e =
    let f = field 0x00 4 bytes in
    let own = own_bytes bytes in
    let p = chain_ok (is_whole bytes) (is_length f) (field 0x04 2 own == known_version) (is_usn at own) (usn_of own) f at found n (sym (in_chain bytes at) ∙ e) in
    let whole = whole_parts bytes p.0 in
    let eights = length_parts f p.1 in
    let size : length own ≡ f = length-take-le f bytes whole.1 in
    let own_length : field 0x00 4 own ≡ length own = field-take 0x00 4 f bytes (omega arith) ∙ sym size in
    let is : IsRecord own at found = chosen_table at own found (AreBytes-take f bytes each) own_length (omega arith) (ap (λ (k : ℕ). k % 8) size ∙ eights.1) p.2 in
    let begins : BeginsRecord bytes at found f = record { inside = whole.1; own = is } in
    subst (BeginsRecord bytes at found) p.3 begins

-- a record that is read has at least 8 bytes, and lies inside these
pub found_length : (bytes : List ℕ) (at : ℕ) (found : Option Usn) (n : ℕ) → usn_in bytes at ≡ Ok (found, n) → (8 ≤ n) × (n ≤ length bytes) × (n ≡ field 0x00 4 bytes)
found_length bytes at found n e =
    let f = field 0x00 4 bytes in
    let own = own_bytes bytes in
    let p = chain_ok (is_whole bytes) (is_length f) (field 0x04 2 own == known_version) (is_usn at own) (usn_of own) f at found n (sym (in_chain bytes at) ∙ e) in
    let whole = whole_parts bytes p.0 in
    let eights = length_parts f p.1 in
    (omega (arith, eights.0, p.3), omega (arith, whole.1, p.3), sym p.3)

chain_to : (w l v s : Bool) (entry : Usn) (n at : ℕ) (found : Option Usn) (m : ℕ) → w ≡ true → l ≡ true → by_version v s entry at ≡ Ok found → n ≡ m → chain w l v s entry n at ≡ Ok (found, m)
chain_to false l v s entry n at found m p q r e = absurd cc
chain_to true false v s entry n at found m p q r e = absurd cc
chain_to true true true false entry n at found m p q r e = absurd cc
chain_to true true true true entry n at found m p q r e = cc
chain_to true true false s entry n at found m p q r e = cc

-- bytes whose front has this length and says this
sized_read : (bytes : List ℕ) (at n : ℕ) (found : Option Usn) → n ≤ length bytes → field 0x00 4 (take n bytes) ≡ length (take n bytes) → 8 ≤ length (take n bytes) → length (take n bytes) % 8 ≡ 0
    → entry_in at (take n bytes) ≡ Ok found → usn_in bytes at ≡ Ok (found, n)
unfolding entry_in
sized_read bytes at n found inside own_length some eights is =
    let size : length (take n bytes) ≡ n = length-take-le n bytes inside in
    let f : field 0x00 4 bytes ≡ n = sym (field-take 0x00 4 n bytes (omega arith)) ∙ own_length ∙ size in
    let own : own_bytes bytes ≡ take n bytes = ap (λ (k : ℕ). take k bytes) f in
    in_chain bytes at
    ∙ chain_to (is_whole bytes) (is_length (field 0x00 4 bytes)) (field 0x04 2 (own_bytes bytes) == known_version) (is_usn at (own_bytes bytes)) (usn_of (own_bytes bytes)) (field 0x00 4 bytes) at found n
    (whole_from bytes (omega arith) (omega arith)) (length_from (field 0x00 4 bytes) (omega arith) (ap (λ (k : ℕ). k % 8) (f ∙ sym size) ∙ eights)) (ap (entry_in at) own ∙ is) f

version_known : (v s : Bool) (entry : Usn) (at : ℕ) (found : Usn) → v ≡ true → s ≡ true → entry ≡ found → by_version v s entry at ≡ Ok (Some found)
version_known false s entry at found p q e = absurd cc
version_known true false entry at found p q e = absurd cc
version_known true true entry at found p q e = ap (λ (u : Usn). Ok (Some u)) e

version_other : (v s : Bool) (entry : Usn) (at : ℕ) → v ≡ false → by_version v s entry at ≡ Ok None
version_other true s entry at p = absurd cc
version_other false s entry at p = refl

pub table_read : (bytes : List ℕ) (at : ℕ) (found : Option Usn) (n : ℕ) → BeginsRecord bytes at found n → usn_in bytes at ≡ Ok (found, n)
unfolding entry_in
table_read bytes at (Some entry) n b =
    let own = take n bytes in
    let t = b.own.0 in
    let s = sound_from at own (table_sound at own entry t b.own.1) in
    sized_read bytes at n (Some entry) b.inside t.own_length (omega (arith, t.size)) (omega (arith, t.size))
    (version_known (field 0x04 2 own == known_version) (is_usn at own) (usn_of own) at entry (eq-eqb _ _ t.major) s (table_entry own entry t))
table_read bytes at None n b =
    let own = take n bytes in
    sized_read bytes at n None b.inside b.own.own_length b.own.some b.own.eights (version_other (field 0x04 2 own == known_version) (is_usn at own) (usn_of own) at (ne_eqb _ _ b.own.major))

-- ---- what refuses a record

pub cut_from : (bytes : List ℕ) (at k : ℕ) → usn_in bytes at ≡ Err (Cut k) → (k ≡ at) × (is_whole bytes ≡ false)
cut_from bytes at k e = chain_cut (is_whole bytes) (is_length (field 0x00 4 bytes)) (field 0x04 2 (own_bytes bytes) == known_version) (is_usn at (own_bytes bytes)) (usn_of (own_bytes bytes)) (field 0x00 4 bytes) at k (sym (in_chain bytes at) ∙ e)

pub shape_from : (bytes : List ℕ) (at k : ℕ) → usn_in bytes at ≡ Err (Shape k) → (k ≡ at) × (is_whole bytes ≡ true)
shape_from bytes at k e = chain_shape (is_whole bytes) (is_length (field 0x00 4 bytes)) (field 0x04 2 (own_bytes bytes) == known_version) (is_usn at (own_bytes bytes)) (usn_of (own_bytes bytes)) (field 0x00 4 bytes) at k (sym (in_chain bytes at) ∙ e)

pub memory_from : (bytes : List ℕ) (at : ℕ) → usn_in bytes at ≡ Err Memory → ⊥
memory_from bytes at e = chain_memory (is_whole bytes) (is_length (field 0x00 4 bytes)) (field 0x04 2 (own_bytes bytes) == known_version) (is_usn at (own_bytes bytes)) (usn_of (own_bytes bytes)) (field 0x00 4 bytes) at (sym (in_chain bytes at) ∙ e)

needed : {X : Type 0} (w : Bool) (at : ℕ) (next : Unit {0} → Result X UsnFault) → w ≢ true → (needs w (Cut at) >>= next) ≡ Err (Cut at)
needed true at next ne = absurd (ne refl)
needed false at next ne = refl

pub cut_to : (bytes : List ℕ) (at k : ℕ) → (k ≡ at) × (is_whole bytes ≢ true) → usn_in bytes at ≡ Err (Cut k)
unfolding usn_in
cut_to bytes at k (e, ne) = needed (is_whole bytes) at _ ne ∙ ap (λ (n : ℕ). Err (Cut n)) (sym e)

not_true : (b : Bool) → b ≡ false → b ≢ true
not_true b e = λ t. cc

pub shape_to : (bytes : List ℕ) (at k : ℕ) → AreBytes bytes → (k ≡ at) × (is_whole bytes ≡ true) × BeginsNone bytes at → usn_in bytes at ≡ Err (Shape k)
shape_to bytes at k each (e, w, none) = cases (usn_in bytes at) refl
  where
    cases : (r : Result (Option Usn × ℕ) UsnFault) → usn_in bytes at ≡ r → r ≡ Err (Shape k)
    cases (Ok (found, n)) is = absurd (none found n (read_table bytes at found n each is))
    cases (Err (Cut j)) is = let c = cut_from bytes at j is in absurd cc
    cases (Err (Shape j)) is = let same : j ≡ k = (shape_from bytes at j is).0 ∙ sym e in ap (λ (n : ℕ). Err (Shape n)) same
    cases (Err Memory) is = absurd (memory_from bytes at is)

no_record : (bytes : List ℕ) (at k : ℕ) → usn_in bytes at ≡ Err (Shape k) → BeginsNone bytes at
no_record bytes at k e = λ found n b. let ok = table_read bytes at found n b in absurd cc

-- ---- of a page

pub page_read : (page : List ℕ) (at : ℕ) (found : Option Usn) (n : ℕ) → AreBytes page → usn_at page at ≡ Ok (found, n) → BeginsRecord (page_rest page at) at found n
unfolding usn_at
page_read page at found n each e = read_table (page_rest page at) at found n (AreBytes-drop (at % page_size) (take page_size page) (AreBytes-take page_size page each)) e

pub page_spelled : (page : List ℕ) (at : ℕ) (found : Option Usn) (n : ℕ) → BeginsRecord (page_rest page at) at found n → usn_at page at ≡ Ok (found, n)
unfolding usn_at
page_spelled page at found n b = table_read (page_rest page at) at found n b

pub page_cut : (page : List ℕ) (at k : ℕ) → usn_at page at ≡ Err (Cut k) → (k ≡ at) × (is_whole (page_rest page at) ≢ true)
unfolding usn_at
page_cut page at k e = let c = cut_from (page_rest page at) at k e in (c.0, not_true (is_whole (page_rest page at)) c.1)

pub page_cut_off : (page : List ℕ) (at k : ℕ) → (k ≡ at) × (is_whole (page_rest page at) ≢ true) → usn_at page at ≡ Err (Cut k)
unfolding usn_at
page_cut_off page at k h = cut_to (page_rest page at) at k h

pub page_shape : (page : List ℕ) (at k : ℕ) → usn_at page at ≡ Err (Shape k) → (k ≡ at) × (is_whole (page_rest page at) ≡ true) × BeginsNone (page_rest page at) at
unfolding usn_at
page_shape page at k e = let s = shape_from (page_rest page at) at k e in (s.0, s.1, no_record (page_rest page at) at k e)

pub page_misshapen : (page : List ℕ) (at k : ℕ) → AreBytes page → (k ≡ at) × (is_whole (page_rest page at) ≡ true) × BeginsNone (page_rest page at) at → usn_at page at ≡ Err (Shape k)
unfolding usn_at
page_misshapen page at k each h = shape_to (page_rest page at) at k (AreBytes-drop (at % page_size) (take page_size page) (AreBytes-take page_size page each)) h
