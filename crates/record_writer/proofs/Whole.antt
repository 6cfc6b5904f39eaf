-- Whole attributes and records as they are put.
use Rattle.std.proofs.Common.{◌≡◌, ℕ, ◌+◌, ◌-◌, ◌<◌, List, [], ◌∷◌, ◌++◌, length, take, get_or, refl, sym, ap, ◌∙◌, arith}
use Rattle.std.specs.List.{flat_map}
use Rattle.std.proofs.lemmas.List.{append-nil, length-append, take_more}
use Rattle.std.proofs.lemmas.Grind.{flat_map-append}
use Rattle.disk_model.specs.host_base.FileRefs.{packed}
use Rattle.disk_model.specs.Numbers.{spell}
use Rattle.disk_model.specs.Bytes.{written, zeros}
use Rattle.disk_model.proofs.Fields.{length-spell}
use Rattle.record_model.specs.declared.attribute.Sizes.{Sizes}
use Rattle.record_model.specs.declared.attribute.OwnForm.TheVariants.{Resident, Mapped}
use Rattle.record_model.specs.declared.attribute.Attr.{Attr}
use Rattle.record_model.specs.declared.record.RecHead.{RecHead}
use Rattle.record_model.specs.Attributes.{front_spelling, form_spelling, spelling, resident_spelling, mapped_spelling}
use Rattle.record_model.specs.Records.{Record, spelled_bytes, used_of, head_spelling, record_spelling, FitsRecord}
use Rattle.record_model.proofs.UnitBytes.{length-zeros}
use Rattle.record_model.proofs.RecordSpelling.{length-spellings, length-record_spelling}
use Rattle.file_record.specs.attr_codec.Writing.{resident_attr, mapped_attr}
use Rattle.record_writer.proofs.Pieces.{first, joined, next, all_put}

-- ---- attributes

-- a spelling asks of an attribute only its header, its name and its value
pub resident_spelled : (a : Attr) (value : List ℕ) (indexed : ℕ) → a.form ≡ Resident value indexed → spelling a ≡ resident_spelling (resident_attr a.head a.name value indexed) value indexed
unfolding resident_spelling front_spelling
resident_spelled a value indexed e = ap (form_spelling a) e

pub mapped_spelled : (a : Attr) (sizes : Sizes) (pairs : List ℕ) → a.form ≡ Mapped sizes pairs → spelling a ≡ mapped_spelling (mapped_attr a.head a.name sizes pairs) sizes pairs
unfolding mapped_spelling front_spelling
mapped_spelled a sizes pairs e = ap (form_spelling a) e

spellings_more : (attrs : List Attr) (i : ℕ) (d : Attr) → i < length attrs → flat_map spelling (take (i + 1) attrs) ≡ flat_map spelling (take i attrs) ++ spelling (get_or attrs i d)
spellings_more attrs i d lt =
    ap (flat_map spelling) (take_more attrs i d lt) ∙ flat_map-append spelling (take i attrs) (get_or attrs i d ∷ []) ∙ ap (λ (l : List ℕ). flat_map spelling (take i attrs) ++ l) (append-nil (spelling (get_or attrs i d)))

-- one attribute more
pub spelled_more : (attrs : List Attr) (i : ℕ) (d : Attr) → i < length attrs → spelled_bytes (take (i + 1) attrs) ≡ spelled_bytes (take i attrs) + length (spelling (get_or attrs i d))
spelled_more attrs i d lt =
    let more = ap length (spellings_more attrs i d lt) in
    let parts = length-append (flat_map spelling (take i attrs)) (spelling (get_or attrs i d)) in
    let before = length-spellings (take i attrs) in
    let after = length-spellings (take (i + 1) attrs) in
    omega arith

pub attr_put : (attrs : List Attr) (i : ℕ) (d a : Attr) (at place : ℕ) (old out new : List ℕ) → i < length attrs → a ≡ get_or attrs i d → place ≡ at + spelled_bytes (take i attrs)
    → out ≡ written at (flat_map spelling (take i attrs)) old → new ≡ written place (spelling a) out → new ≡ written at (flat_map spelling (take (i + 1) attrs)) old
attr_put attrs i d a at place old out new lt is e f g =
    let size = length-spellings (take i attrs) in
    joined at place (flat_map spelling (take i attrs)) (spelling (get_or attrs i d)) old out new f (g ∙ ap (λ (x : Attr). written place (spelling x) out) is) (omega arith)
    ∙ ap (λ (l : List ℕ). written at l old) (sym (spellings_more attrs i d lt))

-- ---- the record

pub head_put : (old a b c d e f g h i j k l m n o : List ℕ) (head : RecHead) (used : ℕ)
    → a ≡ written 0 (0x46 ∷ 0x49 ∷ 0x4C ∷ 0x45 ∷ []) old → b ≡ written 0x04 (spell 2 0x30) a → c ≡ written 0x06 (spell 2 3) b → d ≡ written 0x08 (spell 8 head.lsn) c
    → e ≡ written 0x10 (spell 2 head.seq) d → f ≡ written 0x12 (spell 2 head.links) e → g ≡ written 0x14 (spell 2 0x38) f → h ≡ written 0x16 (spell 2 head.flags) g
    → i ≡ written 0x18 (spell 4 used) h → j ≡ written 0x1C (spell 4 1024) i → k ≡ written 0x20 (spell 8 (packed head.base)) j → l ≡ written 0x28 (spell 2 head.next_id) k
    → m ≡ written 0x2A (zeros 2) l → n ≡ written 0x2C (spell 4 head.number) m → o ≡ written 0x30 (zeros 8) n → o ≡ written 0 (head_spelling head used) old
unfolding head_spelling
head_put old a b c d e f g h i j k l m n o head used p0 p1 p2 p3 p4 p5 p6 p7 p8 p9 p10 p11 p12 p13 p14 =
    let s0 = first 0 4 (0x46 ∷ 0x49 ∷ 0x4C ∷ 0x45 ∷ []) old a p0 refl in
    let s1 = next s0 0x04 2 (spell 2 0x30) b p1 refl (length-spell 2 0x30) in
    let s2 = next s1 0x06 2 (spell 2 3) c p2 refl (length-spell 2 3) in
    let s3 = next s2 0x08 8 (spell 8 head.lsn) d p3 refl (length-spell 8 head.lsn) in
    let s4 = next s3 0x10 2 (spell 2 head.seq) e p4 refl (length-spell 2 head.seq) in
    let s5 = next s4 0x12 2 (spell 2 head.links) f p5 refl (length-spell 2 head.links) in
    let s6 = next s5 0x14 2 (spell 2 0x38) g p6 refl (length-spell 2 0x38) in
    let s7 = next s6 0x16 2 (spell 2 head.flags) h p7 refl (length-spell 2 head.flags) in
    let s8 = next s7 0x18 4 (spell 4 used) i p8 refl (length-spell 4 used) in
    let s9 = next s8 0x1C 4 (spell 4 1024) j p9 refl (length-spell 4 1024) in
    let s10 = next s9 0x20 8 (spell 8 (packed head.base)) k p10 refl (length-spell 8 (packed head.base)) in
    let s11 = next s10 0x28 2 (spell 2 head.next_id) l p11 refl (length-spell 2 head.next_id) in
    let s12 = next s11 0x2A 2 (zeros 2) m p12 refl (length-zeros 2) in
    let s13 = next s12 0x2C 4 (spell 4 head.number) n p13 refl (length-spell 4 head.number) in
    let s14 = next s13 0x30 8 (zeros 8) o p14 refl (length-zeros 8) in
    s14.bytes

length-head : (head : RecHead) (used : ℕ) → length (head_spelling head used) ≡ 0x38
unfolding head_spelling spell zeros
length-head head used = refl

whole_put : (r : Record) (old : List ℕ) → FitsRecord r → length old ≡ 1024
    → written 0 (head_spelling r.head (used_of r.attrs) ++ flat_map spelling r.attrs ++ spell 4 0xFFFFFFFF ++ zeros 4 ++ zeros (1024 - used_of r.attrs)) old ≡ record_spelling r
unfolding record_spelling
whole_put r old fits whole = all_put (record_spelling r) old (length-record_spelling r fits ∙ sym whole)

pub record_put : (r : Record) (end : ℕ) (old a b c d e : List ℕ) → FitsRecord r → length old ≡ 1024 → end ≡ 0x38 + spelled_bytes r.attrs
    → a ≡ written 0 (head_spelling r.head (used_of r.attrs)) old → b ≡ written 0x38 (flat_map spelling r.attrs) a → c ≡ written end (spell 4 0xFFFFFFFF) b → d ≡ written (end + 4) (zeros 4) c
    → e ≡ written (end + 8) (zeros (1024 - used_of r.attrs)) d → e ≡ record_spelling r
record_put r end old a b c d e fits whole is p0 p1 p2 p3 p4 =
    let s0 = first 0 0x38 (head_spelling r.head (used_of r.attrs)) old a p0 (length-head r.head (used_of r.attrs)) in
    let s1 = next s0 0x38 (spelled_bytes r.attrs) (flat_map spelling r.attrs) b p1 refl (length-spellings r.attrs) in
    let s2 = next s1 end 4 (spell 4 0xFFFFFFFF) c p2 (omega arith) (length-spell 4 0xFFFFFFFF) in
    let s3 = next s2 (end + 4) 4 (zeros 4) d p3 (omega arith) (length-zeros 4) in
    let s4 = next s3 (end + 8) (1024 - used_of r.attrs) (zeros (1024 - used_of r.attrs)) e p4 (omega arith) (length-zeros (1024 - used_of r.attrs)) in
    s4.bytes ∙ whole_put r old fits whole
