-- Pieces that are appended one after the other, as the spelling of the whole.
use Rattle.std.proofs.Common.{◌≡◌, ℕ, zero, suc, ◌<◌, ◌+◌, ◌-◌, ◌*◌, List, [], ◌∷◌, ◌++◌, length, take, slice_index, Option, Some, None, refl, sym, ap, ◌∙◌, arith}
use Rattle.std.specs.Prelude.{is_some, if◌then◌else◌}
use Rattle.std.proofs.lemmas.List.{append_assoc, append-nil, take_more}
use Rattle.std.proofs.lemmas.Grind.{flat_map-append}
use Rattle.disk_model.specs.Numbers.{spell}
use Rattle.disk_model.specs.Bytes.{zeros, up8}
use Rattle.record_model.specs.declared.attribute.Head.{Head}
use Rattle.record_model.specs.declared.attribute.Sizes.{Sizes}
use Rattle.record_model.specs.Attributes.{unit_bytes, filled, held_bytes, front_spelling, sizes_spelling, resident_spelling, mapped_spelling}
use Rattle.record_model.proofs.UnitBytes.{length-unit_bytes}
use Rattle.attr_codec.specs.Writing.{resident_attr, mapped_attr}

-- one zero more
pub zeros_more : (n : ℕ) → zeros (n + 1) ≡ zeros n ++ 0 ∷ []
unfolding zeros
zeros_more zero = refl
zeros_more (suc n) =
    let next : suc n + 1 ≡ suc (n + 1) = omega arith in
    ap zeros next ∙ ap (λ (x : List ℕ). 0 ∷ x) (zeros_more n)

pub zero_pushed : (old out more : List ℕ) (n : ℕ) → out ≡ old ++ zeros n → more ≡ out ++ 0 ∷ [] → more ≡ old ++ zeros (n + 1)
zero_pushed old out more n e f = f ∙ ap (λ (x : List ℕ). x ++ 0 ∷ []) e ∙ append_assoc old (zeros n) (0 ∷ []) ∙ ap (λ (x : List ℕ). old ++ x) (sym (zeros_more n))

pub no_zero : (old : List ℕ) → old ≡ old ++ zeros 0
unfolding zeros
no_zero old = sym (append-nil old)

-- one unit more
one_unit : (unit : ℕ) → unit_bytes (unit ∷ []) ≡ spell 2 unit
unfolding unit_bytes
one_unit unit = append-nil (spell 2 unit)

unit_bytes-append : (xs ys : List ℕ) → unit_bytes (xs ++ ys) ≡ unit_bytes xs ++ unit_bytes ys
unfolding unit_bytes
unit_bytes-append xs ys = flat_map-append (spell 2) xs ys

pub unit_pushed : (old out more units : List ℕ) (i : ℕ) → i < length units → out ≡ old ++ unit_bytes (take i units) → more ≡ out ++ spell 2 (slice_index units i) → more ≡ old ++ unit_bytes (take (i + 1) units)
unit_pushed old out more units i lt e f =
    let unit = slice_index units i in
    let next : unit_bytes (take (i + 1) units) ≡ unit_bytes (take i units) ++ spell 2 unit = ap unit_bytes (take_more units i 0 lt) ∙ unit_bytes-append (take i units) (unit ∷ []) ∙ ap (λ (l : List ℕ). unit_bytes (take i units) ++ l) (one_unit unit) in
    f ∙ ap (λ (x : List ℕ). x ++ spell 2 unit) e ∙ append_assoc old (unit_bytes (take i units)) (spell 2 unit) ∙ ap (λ (x : List ℕ). old ++ x) (sym next)

pub no_unit : (old units : List ℕ) → old ≡ old ++ unit_bytes (take 0 units)
unfolding unit_bytes
no_unit old units = sym (append-nil old)

-- a name and its zeros, a value and its zeros
pub bytes_pushed : (old a b bytes : List ℕ) (n : ℕ) → a ≡ old ++ bytes → b ≡ a ++ zeros n → n ≡ up8 (length bytes) - length bytes → b ≡ old ++ filled 0 bytes
unfolding filled
bytes_pushed old a b bytes n e f k =
    let same : n ≡ up8 (0 + length bytes) - (0 + length bytes) = omega arith in
    f ∙ ap (λ (x : List ℕ). x ++ zeros n) e ∙ append_assoc old bytes (zeros n) ∙ ap (λ (x : ℕ). old ++ (bytes ++ zeros x)) same

pub name_pushed : (old a b units : List ℕ) (header n : ℕ) → a ≡ old ++ unit_bytes units → b ≡ a ++ zeros n → n ≡ up8 (header + 2 * length units) - (header + 2 * length units) → b ≡ old ++ filled header (unit_bytes units)
unfolding filled
name_pushed old a b units header n e f k =
    let size = length-unit_bytes units in
    let same : n ≡ up8 (header + length (unit_bytes units)) - (header + length (unit_bytes units)) = omega (arith, size) in
    f ∙ ap (λ (x : List ℕ). x ++ zeros n) e ∙ append_assoc old (unit_bytes units) (zeros n) ∙ ap (λ (x : ℕ). old ++ (unit_bytes units ++ zeros x)) same

-- nothing where no size is held
pub none_held : (old : List ℕ) → old ≡ old ++ held_bytes None
none_held old = sym (append-nil old)

-- the numbers of a mapped attribute, one after the other
nine : (o a b c d e f g h i : List ℕ) → ((((((((o ++ a) ++ b) ++ c) ++ d) ++ e) ++ f) ++ g) ++ h) ++ i ≡ o ++ ((((((((a ++ b) ++ c) ++ d) ++ e) ++ f) ++ g) ++ h) ++ i)
nine o a b c d e f g h i = simp append_assoc

pub sizes_pushed : (o a b c d e f g h i : List ℕ) (sizes : Sizes) (at : ℕ)
    → a ≡ o ++ spell 8 sizes.first → b ≡ a ++ spell 8 sizes.last → c ≡ b ++ spell 2 at → d ≡ c ++ spell 2 sizes.unit → e ≡ d ++ zeros 4
    → f ≡ e ++ spell 8 sizes.allocated → g ≡ f ++ spell 8 sizes.real → h ≡ g ++ spell 8 sizes.initialised → i ≡ h ++ held_bytes sizes.held → i ≡ o ++ sizes_spelling sizes at
unfolding sizes_spelling
sizes_pushed o a b c d e f g h i sizes at p0 p1 p2 p3 p4 p5 p6 p7 p8 =
    let all = nine o (spell 8 sizes.first) (spell 8 sizes.last) (spell 2 at) (spell 2 sizes.unit) (zeros 4) (spell 8 sizes.allocated) (spell 8 sizes.real) (spell 8 sizes.initialised) (held_bytes sizes.held) in
    cc

-- a whole resident attribute
two_bytes : (x n : List ℕ) (i j : ℕ) → ((x ++ i ∷ []) ++ j ∷ []) ++ n ≡ x ++ (i ∷ j ∷ n)
two_bytes x n i j = append_assoc (x ++ i ∷ []) (j ∷ []) n ∙ append_assoc x (i ∷ []) (j ∷ n)

pub resident_pushed : (head : Head) (name value f a b c d e g : List ℕ) (indexed at own : ℕ)
    → at ≡ up8 (0x18 + 2 * length name) → own ≡ up8 (at + length value) → f ≡ front_spelling (resident_attr head name [] 0) own 0 0x18
    → a ≡ f ++ spell 4 (length value) → b ≡ a ++ spell 2 at → c ≡ b ++ indexed ∷ [] → d ≡ c ++ 0 ∷ [] → e ≡ d ++ filled 0x18 (unit_bytes name) → g ≡ e ++ filled 0 value
    → g ≡ resident_spelling (resident_attr head name value indexed) value indexed
unfolding resident_spelling front_spelling
resident_pushed head name value f a b c d e g indexed at own at_is own_is p0 p1 p2 p3 p4 p5 p6 =
    let F : ℕ → ℕ → List ℕ = λ at own. front_spelling (resident_attr head name value indexed) own 0 0x18 ++ spell 4 (length value) ++ spell 2 at ++ indexed ∷ 0 ∷ filled 0x18 (unit_bytes name) ++ filled 0 value in
    let front : f ≡ front_spelling (resident_attr head name value indexed) own 0 0x18 = p0 in
    let joined = two_bytes b (filled 0x18 (unit_bytes name)) indexed 0 in
    let here : g ≡ F at own = cc in
    here ∙ ap (F at) own_is ∙ ap (λ (x : ℕ). F x (up8 (x + length value))) at_is

-- a whole mapped attribute
pub mapped_pushed : (head : Head) (name : List ℕ) (sizes : Sizes) (pairs f a b c : List ℕ) (header at own : ℕ)
    → header ≡ 0x40 + length (held_bytes sizes.held) → at ≡ up8 (header + 2 * length name) → own ≡ up8 (at + length pairs) → f ≡ front_spelling (resident_attr head name [] 0) own 1 header
    → a ≡ f ++ sizes_spelling sizes at → b ≡ a ++ filled header (unit_bytes name) → c ≡ b ++ filled 0 pairs
    → c ≡ mapped_spelling (mapped_attr head name sizes pairs) sizes pairs
unfolding mapped_spelling front_spelling
mapped_pushed head name sizes pairs f a b c header at own header_is at_is own_is p0 p1 p2 p3 =
    let F : ℕ → ℕ → ℕ → List ℕ = λ header at own. front_spelling (mapped_attr head name sizes pairs) own 1 header ++ sizes_spelling sizes at ++ filled header (unit_bytes name) ++ filled 0 pairs in
    let front : f ≡ front_spelling (mapped_attr head name sizes pairs) own 1 header = p0 in
    let here : c ≡ F header at own = cc in
    here ∙ ap (F header at) own_is ∙ ap (λ (x : ℕ). F header x (up8 (x + length pairs))) at_is ∙ ap (λ (x : ℕ). F x (up8 (x + 2 * length name)) (up8 (up8 (x + 2 * length name) + length pairs))) header_is

-- where the header ends
pub held_length : (held : Option ℕ) → length (held_bytes held) ≡ (if is_some held then 8 else 0)
unfolding spell
held_length None = refl
held_length (Some held) = refl
