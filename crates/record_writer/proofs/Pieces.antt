-- Pieces that are put one behind the other, as the spelling of the whole.
use Rattle.std.proofs.Common.{◌≡◌, ℕ, suc, zero, ◌+◌, ◌-◌, ◌*◌, ◌<◌, ◌≤◌, List, [], ◌∷◌, ◌++◌, length, take, slice_index, refl, sym, ap, ◌∙◌, arith}
use borrow.Rule.Slice.PartMut.{put_mid}
use Rattle.std.proofs.lemmas.List.{append-nil, length-append, length-take, take_more}
use Rattle.std.proofs.lemmas.Grind.{flat_map-append}
use Rattle.disk_model.specs.Numbers.{spell}
use Rattle.disk_model.specs.Bytes.{written, zeros, up8}
use Rattle.disk_model.proofs.Fields.{length-spell}
use Rattle.disk_model.proofs.Puts.{written_parts, written_behind_written}
use Rattle.record_model.specs.declared.attribute.Head.{Head}
use Rattle.record_model.specs.declared.attribute.Sizes.{Sizes}
use Rattle.record_model.specs.Attributes.{unit_bytes, filled, held_bytes, front_spelling, sizes_spelling, resident_spelling, mapped_spelling}
use Rattle.record_model.proofs.UnitBytes.{length-unit_bytes, length-zeros, length-filled}
use Rattle.file_record.specs.attr_codec.Writing.{resident_attr, mapped_attr}

-- these n bytes were put from a place on
pub record IsPut (at n : ℕ) (x old new : List ℕ) : Type 0 where
  pub bytes : new ≡ written at x old
  pub size : length x ≡ n

pub first : (at n : ℕ) (x old new : List ℕ) → new ≡ written at x old → length x ≡ n → IsPut at n x old new
first at n x old new e size = record { bytes = e; size = size }

-- two pieces, the second behind the first
pub joined : (p q : ℕ) (y z a b c : List ℕ) → b ≡ written p y a → c ≡ written q z b → q ≡ p + length y → c ≡ written p (y ++ z) a
joined p q y z a b c e f place = f ∙ ap (λ (k : ℕ). written k z b) place ∙ ap (written (p + length y) z) e ∙ written_behind_written p y z a

-- one piece more
pub next : {at n : ℕ} {x old a : List ℕ} → IsPut at n x old a → (p m : ℕ) (y b : List ℕ) → b ≡ written p y a → p ≡ at + n → length y ≡ m → IsPut at (n + m) (x ++ y) old b
next {at} {n} {x} {old} {a} s p m y b e place size =
    let known = s.size in
    record {
      bytes = joined at p x y old a b s.bytes e (omega arith);
      size = omega (arith, length-append x y);
    }

-- a part that was written over
pub part_put : (at n : ℕ) (bytes copy new : List ℕ) → copy ≡ new → n ≡ length new → at + length new ≤ length bytes → put_mid at n bytes copy ≡ written at new bytes
part_put at n bytes copy new same e fits = ap (put_mid at n bytes) same ∙ ap (λ (k : ℕ). put_mid at k bytes new) e ∙ sym (written_parts at new bytes fits)

pub nothing_put : (at : ℕ) (bytes : List ℕ) → bytes ≡ written at [] bytes
nothing_put at [] = refl
nothing_put zero (b ∷ bytes) = refl
nothing_put (suc at) (b ∷ bytes) = ap (λ (l : List ℕ). b ∷ l) (nothing_put at bytes)

-- all bytes were written over
pub all_put : (x old : List ℕ) → length x ≡ length old → written 0 x old ≡ x
all_put [] [] e = refl
all_put [] (b ∷ old) e = absurd (omega arith)
all_put (n ∷ x) [] e = absurd (omega arith)
all_put (n ∷ x) (b ∷ old) e = ap (λ (l : List ℕ). n ∷ l) (all_put x old (omega arith))

-- ---- names and values

one_unit : (unit : ℕ) → unit_bytes (unit ∷ []) ≡ spell 2 unit
unfolding unit_bytes
one_unit unit = append-nil (spell 2 unit)

unit_bytes-append : (xs ys : List ℕ) → unit_bytes (xs ++ ys) ≡ unit_bytes xs ++ unit_bytes ys
unfolding unit_bytes
unit_bytes-append xs ys = flat_map-append (spell 2) xs ys

pub no_unit_put : (at : ℕ) (units old : List ℕ) → old ≡ written at (unit_bytes (take 0 units)) old
unfolding unit_bytes
no_unit_put at units old = nothing_put at old

pub unit_put : (at i : ℕ) (units old out new : List ℕ) → i < length units → out ≡ written at (unit_bytes (take i units)) old → new ≡ written (at + 2 * i) (spell 2 (slice_index units i)) out → new ≡ written at (unit_bytes (take (i + 1) units)) old
unit_put at i units old out new lt e f =
    let more : unit_bytes (take (i + 1) units) ≡ unit_bytes (take i units) ++ spell 2 (slice_index units i) = ap unit_bytes (take_more units i 0 lt) ∙ unit_bytes-append (take i units) (slice_index units i ∷ []) ∙ ap (λ (l : List ℕ). unit_bytes (take i units) ++ l) (one_unit (slice_index units i)) in
    let size = length-unit_bytes (take i units) in
    let front : length (take i units) ≡ i = omega (arith, length-take i units) in
    joined at (at + 2 * i) (unit_bytes (take i units)) (spell 2 (slice_index units i)) old out new e f (omega arith) ∙ ap (λ (l : List ℕ). written at l old) (sym more)

pub filled_put : (at header p k : ℕ) (bytes old a new : List ℕ) → a ≡ written at bytes old → new ≡ written p (zeros k) a → p ≡ at + length bytes → k ≡ up8 (header + length bytes) - (header + length bytes) → new ≡ written at (filled header bytes) old
unfolding filled
filled_put at header p k bytes old a new e f place count =
    joined at p bytes (zeros k) old a new e f place ∙ ap (λ (n : ℕ). written at (bytes ++ zeros n) old) count

pub name_put : (at header p k : ℕ) (units old a new : List ℕ) → a ≡ written at (unit_bytes units) old → new ≡ written p (zeros k) a → p ≡ at + 2 * length units → k ≡ up8 (header + 2 * length units) - (header + 2 * length units) → new ≡ written at (filled header (unit_bytes units)) old
name_put at header p k units old a new e f place count =
    let size = length-unit_bytes units in
    filled_put at header p k (unit_bytes units) old a new e f (omega arith) (omega arith)

-- ---- an attribute

pub front_put : (at : ℕ) (old a b c d e f : List ℕ) (head : Head) (name : List ℕ) (own mapped header : ℕ)
    → a ≡ written at (spell 4 head.kind) old → b ≡ written (at + 4) (spell 4 own) a → c ≡ written (at + 8) (mapped ∷ length name ∷ []) b → d ≡ written (at + 0x0A) (spell 2 header) c
    → e ≡ written (at + 0x0C) (spell 2 head.flags) d → f ≡ written (at + 0x0E) (spell 2 head.id) e → f ≡ written at (front_spelling (resident_attr head name [] 0) own mapped header) old
unfolding front_spelling
front_put at old a b c d e f head name own mapped header p0 p1 p2 p3 p4 p5 =
    let s0 = first at 4 (spell 4 head.kind) old a p0 (length-spell 4 head.kind) in
    let s1 = next s0 (at + 4) 4 (spell 4 own) b p1 refl (length-spell 4 own) in
    let two : d ≡ written (at + 8) (mapped ∷ length name ∷ spell 2 header) b = joined (at + 8) (at + 0x0A) (mapped ∷ length name ∷ []) (spell 2 header) b c d p2 p3 (omega arith) in
    let s2 = next s1 (at + 8) 4 (mapped ∷ length name ∷ spell 2 header) d two (omega arith) (omega (arith, length-spell 2 header)) in
    let s3 = next s2 (at + 0x0C) 2 (spell 2 head.flags) e p4 (omega arith) (length-spell 2 head.flags) in
    let s4 = next s3 (at + 0x0E) 2 (spell 2 head.id) f p5 (omega arith) (length-spell 2 head.id) in
    s4.bytes

length-front : (head : Head) (name value : List ℕ) (indexed own mapped header : ℕ) → length (front_spelling (resident_attr head name value indexed) own mapped header) ≡ 0x10
unfolding front_spelling spell
length-front head name value indexed own mapped header = refl

pub sizes_put : (at place : ℕ) (old a b c d e f g h i : List ℕ) (sizes : Sizes)
    → a ≡ written at (spell 8 sizes.first) old → b ≡ written (at + 8) (spell 8 sizes.last) a → c ≡ written (at + 0x10) (spell 2 place) b → d ≡ written (at + 0x12) (spell 2 sizes.unit) c
    → e ≡ written (at + 0x14) (zeros 4) d → f ≡ written (at + 0x18) (spell 8 sizes.allocated) e → g ≡ written (at + 0x20) (spell 8 sizes.real) f → h ≡ written (at + 0x28) (spell 8 sizes.initialised) g
    → i ≡ written (at + 0x30) (held_bytes sizes.held) h → i ≡ written at (sizes_spelling sizes place) old
unfolding sizes_spelling
sizes_put at place old a b c d e f g h i sizes p0 p1 p2 p3 p4 p5 p6 p7 p8 =
    let s0 = first at 8 (spell 8 sizes.first) old a p0 (length-spell 8 sizes.first) in
    let s1 = next s0 (at + 8) 8 (spell 8 sizes.last) b p1 refl (length-spell 8 sizes.last) in
    let s2 = next s1 (at + 0x10) 2 (spell 2 place) c p2 (omega arith) (length-spell 2 place) in
    let s3 = next s2 (at + 0x12) 2 (spell 2 sizes.unit) d p3 (omega arith) (length-spell 2 sizes.unit) in
    let s4 = next s3 (at + 0x14) 4 (zeros 4) e p4 (omega arith) (length-zeros 4) in
    let s5 = next s4 (at + 0x18) 8 (spell 8 sizes.allocated) f p5 (omega arith) (length-spell 8 sizes.allocated) in
    let s6 = next s5 (at + 0x20) 8 (spell 8 sizes.real) g p6 (omega arith) (length-spell 8 sizes.real) in
    let s7 = next s6 (at + 0x28) 8 (spell 8 sizes.initialised) h p7 (omega arith) (length-spell 8 sizes.initialised) in
    let s8 = next s7 (at + 0x30) (length (held_bytes sizes.held)) (held_bytes sizes.held) i p8 (omega arith) refl in
    s8.bytes

length-sizes : (sizes : Sizes) (place : ℕ) → length (sizes_spelling sizes place) ≡ 0x30 + length (held_bytes sizes.held)
unfolding sizes_spelling spell zeros
length-sizes sizes place = omega arith

resident_whole : (place : ℕ) (head : Head) (name value : List ℕ) (indexed own : ℕ) → place ≡ up8 (0x18 + 2 * length name) → own ≡ up8 (place + length value)
    → front_spelling (resident_attr head name [] 0) own 0 0x18 ++ spell 4 (length value) ++ spell 2 place ++ indexed ∷ 0 ∷ filled 0x18 (unit_bytes name) ++ filled 0 value
    ≡ resident_spelling (resident_attr head name value indexed) value indexed
unfolding resident_spelling front_spelling
resident_whole place head name value indexed own is long =
    ap (λ (n : ℕ). front_spelling (resident_attr head name [] 0) n 0 0x18 ++ spell 4 (length value) ++ spell 2 place ++ indexed ∷ 0 ∷ filled 0x18 (unit_bytes name) ++ filled 0 value) long
    ∙ ap (λ (n : ℕ). front_spelling (resident_attr head name [] 0) (up8 (n + length value)) 0 0x18 ++ spell 4 (length value) ++ spell 2 n ++ indexed ∷ 0 ∷ filled 0x18 (unit_bytes name) ++ filled 0 value) is

mapped_whole : (header place : ℕ) (head : Head) (name : List ℕ) (sizes : Sizes) (pairs : List ℕ) (own : ℕ) → header ≡ 0x40 + length (held_bytes sizes.held) → place ≡ up8 (header + 2 * length name) → own ≡ up8 (place + length pairs)
    → front_spelling (resident_attr head name [] 0) own 1 header ++ sizes_spelling sizes place ++ filled header (unit_bytes name) ++ filled 0 pairs ≡ mapped_spelling (mapped_attr head name sizes pairs) sizes pairs
unfolding mapped_spelling front_spelling
mapped_whole header place head name sizes pairs own high is long =
    ap (λ (n : ℕ). front_spelling (resident_attr head name [] 0) n 1 header ++ sizes_spelling sizes place ++ filled header (unit_bytes name) ++ filled 0 pairs) long
    ∙ ap (λ (n : ℕ). front_spelling (resident_attr head name [] 0) (up8 (n + length pairs)) 1 header ++ sizes_spelling sizes n ++ filled header (unit_bytes name) ++ filled 0 pairs) is
    ∙ ap (λ (n : ℕ). front_spelling (resident_attr head name [] 0) (up8 (up8 (n + 2 * length name) + length pairs)) 1 n ++ sizes_spelling sizes (up8 (n + 2 * length name)) ++ filled n (unit_bytes name) ++ filled 0 pairs) high

pub resident_put : (at place : ℕ) (old a b c d e f : List ℕ) (head : Head) (name value : List ℕ) (indexed own : ℕ)
    → place ≡ up8 (0x18 + 2 * length name) → own ≡ up8 (place + length value)
    → a ≡ written at (front_spelling (resident_attr head name [] 0) own 0 0x18) old → b ≡ written (at + 0x10) (spell 4 (length value)) a → c ≡ written (at + 0x14) (spell 2 place) b
    → d ≡ written (at + 0x16) (indexed ∷ 0 ∷ []) c → e ≡ written (at + 0x18) (filled 0x18 (unit_bytes name)) d → f ≡ written (at + place) (filled 0 value) e
    → f ≡ written at (resident_spelling (resident_attr head name value indexed) value indexed) old
resident_put at place old a b c d e f head name value indexed own is long p0 p1 p2 p3 p4 p5 =
    let name_size = length-filled 0x18 (unit_bytes name) in
    let units = length-unit_bytes name in
    let s0 = first at 0x10 (front_spelling (resident_attr head name [] 0) own 0 0x18) old a p0 (length-front head name [] 0 own 0 0x18) in
    let s1 = next s0 (at + 0x10) 4 (spell 4 (length value)) b p1 refl (length-spell 4 (length value)) in
    let s2 = next s1 (at + 0x14) 2 (spell 2 place) c p2 (omega arith) (length-spell 2 place) in
    let two : e ≡ written (at + 0x16) (indexed ∷ 0 ∷ filled 0x18 (unit_bytes name)) c = joined (at + 0x16) (at + 0x18) (indexed ∷ 0 ∷ []) (filled 0x18 (unit_bytes name)) c d e p3 p4 (omega arith) in
    let s3 = next s2 (at + 0x16) (place - 0x16) (indexed ∷ 0 ∷ filled 0x18 (unit_bytes name)) e two (omega arith) (omega arith) in
    let s4 = next s3 (at + place) (length (filled 0 value)) (filled 0 value) f p5 (omega arith) refl in
    s4.bytes ∙ ap (λ (x : List ℕ). written at x old) (resident_whole place head name value indexed own is long)

pub mapped_put : (at header place : ℕ) (old a b c d : List ℕ) (head : Head) (name : List ℕ) (sizes : Sizes) (pairs : List ℕ) (own : ℕ)
    → header ≡ 0x40 + length (held_bytes sizes.held) → place ≡ up8 (header + 2 * length name) → own ≡ up8 (place + length pairs)
    → a ≡ written at (front_spelling (resident_attr head name [] 0) own 1 header) old → b ≡ written (at + 0x10) (sizes_spelling sizes place) a
    → c ≡ written (at + header) (filled header (unit_bytes name)) b → d ≡ written (at + place) (filled 0 pairs) c
    → d ≡ written at (mapped_spelling (mapped_attr head name sizes pairs) sizes pairs) old
mapped_put at header place old a b c d head name sizes pairs own high is long p0 p1 p2 p3 =
    let name_size = length-filled header (unit_bytes name) in
    let units = length-unit_bytes name in
    let s0 = first at 0x10 (front_spelling (resident_attr head name [] 0) own 1 header) old a p0 (length-front head name [] 0 own 1 header) in
    let s1 = next s0 (at + 0x10) (0x30 + length (held_bytes sizes.held)) (sizes_spelling sizes place) b p1 refl (length-sizes sizes place) in
    let s2 = next s1 (at + header) (place - header) (filled header (unit_bytes name)) c p2 (omega arith) (omega arith) in
    let s3 = next s2 (at + place) (length (filled 0 pairs)) (filled 0 pairs) d p3 (omega arith) refl in
    s3.bytes ∙ ap (λ (x : List ℕ). written at x old) (mapped_whole header place head name sizes pairs own high is long)
