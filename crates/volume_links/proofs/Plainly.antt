-- The walk over the attributes of a plain record.
use Rattle.std.proofs.Common.{◌≡◌, ℕ, ◌+◌, ◌-◌, ◌<◌, ◌≤◌, ◌==◌, ◌&&◌, ◌||◌, Bool, true, false, nat_le, nat_lt, suc, List, [], ◌∷◌, ◌++◌, length, map, take, drop, Option, Result, Ok, Err, refl, sym, ap, ◌∙◌, append_assoc, arith}
use Rattle.std.specs.Prelude.{IfOk, IsTrue, is_ok, is_some}
use Rattle.std.proofs.lemmas.Bool.Decides.{nat_tests}
use Rattle.std.proofs.lemmas.List.{append-nil, map-append}
use Rattle.std.proofs.lemmas.List.Elements.{filter-append, filter_map-append}
use Rattle.std.specs.List.{list_all, list_any, filter, filter_map, cons_option}
use Rattle.host_base.specs.Answers.{◌>>=◌, needs}
use Rattle.host_base.specs.declared.file_ref.FileRef.{FileRef}
use Rattle.disk_model.specs.Numbers.{field}
use Rattle.record_model.specs.declared.attribute.Attr.{Attr}
use Rattle.record_model.specs.declared.record.RecHead.{RecHead}
use Rattle.record_model.specs.declared.values.FileNameValue.{FileNameValue}
use Rattle.record_model.specs.declared.values.ValueFault.{ValueFault}
use Rattle.record_model.specs.Values.{is_file_name, has_lawful_value}
use Rattle.record_model.specs.StdValues.{file_name_of}
use Rattle.record_model.specs.Attributes.{has_length, is_inside, head_of, attr_of}
use Rattle.record_model.specs.Records.{Record, Pieces, with_piece, cut, types_rise, has_first, has_size, is_base, is_end_mark, most_attributes, attribute_bytes, rec_head_of, shaped_at, has_lawful_values}
use Rattle.record_model.proofs.Answering.{needs_from_ok}
use Rattle.record_model.proofs.Attributes.{own_from_length}
use Rattle.record_model.proofs.FileNames.{file_name_lawful}
use Rattle.record_model.specs.Constants.{attribute_list, index_allocation}
use Rattle.file_record.specs.attr_codec.Reading.{own_bytes, attr_at}
use Rattle.file_tree.specs.declared.link.Link.{Link}
use Rattle.file_tree.specs.Trees.{is_long}
use Rattle.state_model.specs.Files.{is_base_record, has_type, named, attr_link, record_links}
use Rattle.state_model.specs.Loads.{has_fitting_pairs, has_all_pairs, whole_record}
use Rattle.volume_links.specs.Plain.{Grows, TakesPlain, ArePlain, IsPlain}

-- ---- values

named_ok : (child : FileRef) (r : Result FileNameValue ValueFault) → is_some (named child r) ≡ is_ok r
named_ok child (Ok f) = refl
named_ok child (Err fault) = refl

-- a value is a link just where it is a file name
pub is_name : (child : FileRef) (value : List ℕ) (o : Option Link) → o ≡ named child (file_name_of value) → is_some o ≡ is_file_name value
is_name child value o is = ap (λ (l : Option Link). is_some l) is ∙ named_ok child (file_name_of value) ∙ file_name_lawful value

-- ---- lists

and_both : (a b : Bool) → a ≡ true → b ≡ true → (a && b) ≡ true
and_both a b p q = rw (p, q) refl

first_of_both : (a b : Bool) → (a && b) ≡ true → a ≡ true
first_of_both true b h = refl
first_of_both false b h = absurd cc

second_of_both : (a b : Bool) → (a && b) ≡ true → b ≡ true
second_of_both true b h = h
second_of_both false b h = absurd cc

all_more : {A : Type 0} (p : A → Bool) (xs : List A) (a : A) → list_all p xs ≡ true → p a ≡ true → list_all p (xs ++ a ∷ []) ≡ true
all_more p [] a h e = rw e refl
all_more p (x ∷ xs) a h e = and_both _ _ (first_of_both _ _ h) (all_more p xs a (second_of_both _ _ h) e)

any_more : (p : Attr → Bool) (xs : List Attr) (a : Attr) → list_any p xs ≡ false → p a ≡ false → list_any p (xs ++ a ∷ []) ≡ false
any_more p [] a h e = rw e refl
any_more p (x ∷ xs) a h e = both_false (p x) (list_any p xs) _ h (any_more p xs a (later (p x) (list_any p xs) h) e)
  where
    later : (b c : Bool) → (b || c) ≡ false → c ≡ false
    later true c h = absurd cc
    later false c h = h

    both_false : (b c d : Bool) → (b || c) ≡ false → d ≡ false → (b || d) ≡ false
    both_false true c d h e = absurd cc
    both_false false c d h e = e

long_and : (child : FileRef) (xs : List Attr) (a : Attr) → filter is_long (filter_map (attr_link child) (xs ++ a ∷ [])) ≡ filter is_long (filter_map (attr_link child) xs) ++ filter is_long (cons_option (attr_link child a) [])
long_and child xs a = ap (filter is_long) (filter_map-append (attr_link child) xs (a ∷ [])) ∙ filter-append is_long (filter_map (attr_link child) xs) (cons_option (attr_link child a) [])

-- ---- pieces of bytes

types_more : (ps : List (List ℕ)) (q r : List ℕ) → types_rise (ps ++ q ∷ []) ≡ true → nat_le (field 0 4 q) (field 0 4 r) ≡ true → types_rise ((ps ++ q ∷ []) ++ r ∷ []) ≡ true
types_more [] q r h e = rw e refl
types_more (p ∷ []) q r h e = and_both (nat_le (field 0 4 p) (field 0 4 q)) (types_rise (q ∷ r ∷ [])) (first_of_both (nat_le (field 0 4 p) (field 0 4 q)) (types_rise (q ∷ [])) h) (types_more [] q r refl e)
types_more (p ∷ (o ∷ ps)) q r h e =
    and_both (nat_le (field 0 4 p) (field 0 4 o)) (types_rise (((o ∷ ps) ++ q ∷ []) ++ r ∷ [])) (first_of_both (nat_le (field 0 4 p) (field 0 4 o)) (types_rise ((o ∷ ps) ++ q ∷ [])) h)
    (types_more (o ∷ ps) q r (second_of_both (nat_le (field 0 4 p) (field 0 4 o)) (types_rise ((o ∷ ps) ++ q ∷ [])) h) e)

-- pieces before others
abbrev behind : List (List ℕ) → Result Pieces ℕ → Result Pieces ℕ
behind [] read = read
behind (p ∷ ps) read = with_piece p (behind ps read)

behind_more : (ps : List (List ℕ)) (q : List ℕ) (read : Result Pieces ℕ) → behind ps (with_piece q read) ≡ behind (ps ++ q ∷ []) read
behind_more [] q read = refl
behind_more (p ∷ ps) q read = ap (with_piece p) (behind_more ps q read)

behind_end : (ps : List (List ℕ)) → behind ps (Ok (record { pieces = []; ended = true })) ≡ Ok (record { pieces = ps; ended = true })
behind_end [] = refl
behind_end (p ∷ ps) = ap (with_piece p) (behind_end ps)

-- one step of the cut
abbrev pub cut_by : Bool → Bool → Bool → Result Pieces ℕ → Result Pieces ℕ
cut_by short mark lawful later =
    elim short [
      | true ↦ Ok (record { pieces = []; ended = false })
      | false ↦ elim mark [
        | true ↦ Ok (record { pieces = []; ended = true })
        | false ↦ needs lawful 3 >>= λ _. later
      ]
    ]

pub cut_step : (most : ℕ) (bytes : List ℕ) → cut (suc most) bytes ≡ cut_by (nat_lt (length bytes) 4) (is_end_mark bytes) (has_length bytes) (with_piece (take (field 0x04 4 bytes) bytes) (cut most (drop (field 0x04 4 bytes) bytes)))
unfolding cut
cut_step most bytes = refl

pub is_long_enough : (rest : List ℕ) → 4 ≤ length rest → nat_lt (length rest) 4 ≡ false
is_long_enough rest le = grind (arith, nat_tests)

cut_on : (most : ℕ) (bytes : List ℕ) → 4 ≤ length bytes → is_end_mark bytes ≡ false → has_length bytes ≡ true → cut (suc most) bytes ≡ with_piece (own_bytes bytes) (cut most (drop (field 0x04 4 bytes) bytes))
cut_on most bytes long mark lawful =
    let later = with_piece (take (field 0x04 4 bytes) bytes) (cut most (drop (field 0x04 4 bytes) bytes)) in
    cut_step most bytes ∙ ap (λ (b : Bool). cut_by b (is_end_mark bytes) (has_length bytes) later) (is_long_enough bytes long) ∙ ap (λ (b : Bool). cut_by false b (has_length bytes) later) mark ∙ ap (λ (b : Bool). cut_by false false b later) lawful

cut_ends : (most : ℕ) (bytes : List ℕ) → 4 ≤ length bytes → is_end_mark bytes ≡ true → cut (suc most) bytes ≡ Ok (record { pieces = []; ended = true })
cut_ends most bytes long mark =
    let later = with_piece (take (field 0x04 4 bytes) bytes) (cut most (drop (field 0x04 4 bytes) bytes)) in
    cut_step most bytes ∙ ap (λ (b : Bool). cut_by b (is_end_mark bytes) (has_length bytes) later) (is_long_enough bytes long) ∙ ap (λ (b : Bool). cut_by false b (has_length bytes) later) mark

-- what a read of the attribute at the front says
pub read_parts : (bytes : List ℕ) (a : Attr) → attr_at bytes ≡ Ok a → (has_length bytes ≡ true) × (is_inside (own_bytes bytes) ≡ true) × (attr_of (own_bytes bytes) ≡ a)
unfolding attr_at
read_parts bytes a e =
    let p = needs_from_ok (has_length bytes) 3 (λ _. needs (is_inside (own_bytes bytes)) 6 >>= λ _. Ok (attr_of (own_bytes bytes))) a e in
    let q = needs_from_ok (is_inside (own_bytes bytes)) 6 (λ _. Ok (attr_of (own_bytes bytes))) a p.1 in
    let same : attr_of (own_bytes bytes) ≡ a = cc (q.1) in
    (p.0, q.0, same)

pub kind_is : (slot : List ℕ) → (attr_of slot).head.kind ≡ field 0 4 slot
unfolding attr_of head_of
kind_is slot = refl

-- ---- the walk

-- the attributes before this place are those of a plain record, whose long names were added
pub record Plainly (child : FileRef) (bytes rest : List ℕ) (counter least : ℕ) (old new : List Link) : Type 0 where
  pub pieces : List (List ℕ)
  pub goes : cut most_attributes bytes ≡ behind pieces (cut (most_attributes - counter) rest)
  pub rises : types_rise pieces ≡ true
  pub rises_on : (q : List ℕ) → nat_le least (field 0 4 q) ≡ true → types_rise (pieces ++ q ∷ []) ≡ true
  pub inside : list_all is_inside pieces ≡ true
  pub lawful : list_all has_lawful_value (map attr_of pieces) ≡ true
  pub fits : list_all has_fitting_pairs (map attr_of pieces) ≡ true
  pub unlisted : list_any (λ (a : Attr). a.head.kind == attribute_list) (map attr_of pieces) ≡ false
  pub unindexed : list_any (λ (a : Attr). a.head.kind == index_allocation) (map attr_of pieces) ≡ false
  pub links : new ≡ old ++ filter is_long (filter_map (attr_link child) (map attr_of pieces))

pub begins : (child : FileRef) (bytes : List ℕ) (links : List Link) → Plainly child bytes bytes 0 0 links links
begins child bytes links = record {
  pieces = [];
  goes = refl;
  rises = refl;
  rises_on = λ q h. refl;
  inside = refl;
  lawful = refl;
  fits = refl;
  unlisted = refl;
  unindexed = refl;
  links = sym (append-nil links);
}

pub inside : (child : FileRef) (rest : List ℕ) (n least next : ℕ) (old new : List Link) → TakesPlain child rest n least next old new → n ≤ length rest
inside child rest n least next old new front = let own = own_from_length rest (read_parts rest front.attr front.is_read).0 in omega (arith, own.0, front.size)

pub one_less : (counter : ℕ) → counter < most_attributes → most_attributes - counter ≡ suc (most_attributes - (counter + 1))
one_less counter lt = omega arith

goes_on : (bytes rest : List ℕ) (counter n : ℕ) (pieces : List (List ℕ)) (a : Attr) → counter < most_attributes → 4 ≤ length rest → is_end_mark rest ≡ false → attr_at rest ≡ Ok a → n ≡ field 0x04 4 rest
    → cut most_attributes bytes ≡ behind pieces (cut (most_attributes - counter) rest) → cut most_attributes bytes ≡ behind (pieces ++ own_bytes rest ∷ []) (cut (most_attributes - (counter + 1)) (drop n rest))
goes_on bytes rest counter n pieces a lt long mark read size goes =
    goes ∙ ap (λ (k : ℕ). behind pieces (cut k rest)) (one_less counter lt) ∙ ap (behind pieces) (cut_on (most_attributes - (counter + 1)) rest long mark (read_parts rest a read).0)
    ∙ behind_more pieces (own_bytes rest) _ ∙ ap (λ (k : ℕ). behind (pieces ++ own_bytes rest ∷ []) (cut (most_attributes - (counter + 1)) (drop k rest))) (sym size)

pub more : (child : FileRef) (bytes rest : List ℕ) (counter n least next : ℕ) (old before after : List Link) → counter < most_attributes → 4 ≤ length rest → is_end_mark rest ≡ false
    → Plainly child bytes rest counter least old before → TakesPlain child rest n least next before after → Plainly child bytes (drop n rest) (counter + 1) next old after
more child bytes rest counter n least next old before after lt long mark so_far front =
    let ps : List (List ℕ) = so_far.pieces in
    let own : List ℕ = own_bytes rest in
    let a : Attr = front.attr in
    let parts = read_parts rest a front.is_read in
    let kind : field 0 4 own ≡ a.head.kind = sym (kind_is own) ∙ ap (λ (b : Attr). b.head.kind) parts.2 in
    let next_kind : next ≡ field 0 4 own = front.next_is ∙ sym kind in
    let attrs : map attr_of (ps ++ own ∷ []) ≡ map attr_of ps ++ a ∷ [] = map-append attr_of ps (own ∷ []) ∙ ap (λ (b : Attr). map attr_of ps ++ b ∷ []) parts.2 in
    let rising : types_rise (ps ++ own ∷ []) ≡ true = so_far.rises_on own (ap (λ (k : ℕ). nat_le least k) kind ∙ front.rises) in
    record {
      pieces = ps ++ own ∷ [];
      goes = goes_on bytes rest counter n ps a lt long mark front.is_read front.size so_far.goes;
      rises = rising;
      rises_on = λ q h. types_more ps own q rising (ap (λ (k : ℕ). nat_le k (field 0 4 q)) (sym next_kind) ∙ h);
      inside = all_more is_inside ps own so_far.inside parts.1;
      lawful = ap (list_all has_lawful_value) attrs ∙ all_more has_lawful_value (map attr_of ps) a so_far.lawful front.lawful;
      fits = ap (list_all has_fitting_pairs) attrs ∙ all_more has_fitting_pairs (map attr_of ps) a so_far.fits front.fits;
      unlisted = ap (list_any (λ (b : Attr). b.head.kind == attribute_list)) attrs ∙ any_more (λ (b : Attr). b.head.kind == attribute_list) (map attr_of ps) a so_far.unlisted front.unlisted;
      unindexed = ap (list_any (λ (b : Attr). b.head.kind == index_allocation)) attrs ∙ any_more (λ (b : Attr). b.head.kind == index_allocation) (map attr_of ps) a so_far.unindexed front.unindexed;
      links = front.links ∙ ap (λ (ls : List Link). ls ++ filter is_long (cons_option (attr_link child a) [])) so_far.links
          ∙ append_assoc old (filter is_long (filter_map (attr_link child) (map attr_of ps))) (filter is_long (cons_option (attr_link child a) []))
          ∙ ap (λ (ls : List Link). old ++ ls) (sym (ap (λ (xs : List Attr). filter is_long (filter_map (attr_link child) xs)) attrs ∙ long_and child (map attr_of ps) a));
    }

pub ends : (child : FileRef) (bytes rest : List ℕ) (counter least : ℕ) (old new : List Link) → counter < most_attributes → 4 ≤ length rest → is_end_mark rest ≡ true → Plainly child bytes rest counter least old new → ArePlain child bytes old new
ends child bytes rest counter least old new lt long mark so_far = record {
  pieces = so_far.pieces;
  is_cut = so_far.goes ∙ ap (λ (k : ℕ). behind so_far.pieces (cut k rest)) (one_less counter lt) ∙ ap (behind so_far.pieces) (cut_ends (most_attributes - (counter + 1)) rest long mark) ∙ behind_end so_far.pieces;
  rises = so_far.rises;
  inside = so_far.inside;
  lawful = so_far.lawful;
  fits = so_far.fits;
  unlisted = so_far.unlisted;
  unindexed = so_far.unindexed;
  links = so_far.links;
}

-- ---- links that grow

pub none_added : (links : List Link) → Grows links links
none_added links = record { added = []; is = sym (append-nil links) }

pub some_added : (old new added : List Link) → new ≡ old ++ added → Grows old new
some_added old new added is = record { added = added; is = is }

pub grows_on : (a b c : List Link) → Grows a b → Grows b c → Grows a c
grows_on a b c p q = record { added = p.added ++ q.added; is = q.is ∙ ap (λ (ls : List Link). ls ++ q.added) p.is ∙ append_assoc a p.added q.added }

-- ---- the record

abbrev pub okay_record : Record → Result Record ℕ
okay_record r = Ok r

shaped_by : (first size : Bool) (read : Result Pieces ℕ) (head : RecHead) (pieces : List (List ℕ)) → first ≡ true → size ≡ true → read ≡ Ok (record { pieces = pieces; ended = true }) → types_rise pieces ≡ true → list_all is_inside pieces ≡ true
    → (needs {F = ℕ} first 1 >>= λ _. needs {F = ℕ} size 2 >>= λ _. read >>= λ p. needs (types_rise p.pieces) 4 >>= λ _. needs p.ended 5 >>= λ _. needs (list_all is_inside p.pieces) 6 >>= λ _. okay_record (record { head = head; attrs = map attr_of p.pieces })) ≡ okay_record (record { head = head; attrs = map attr_of pieces })
shaped_by first size read head pieces f s is r i = rw (f, s, is, r, i) refl

shaped_is : (body : List ℕ) (pieces : List (List ℕ)) → has_first body ≡ true → has_size body ≡ true → cut most_attributes (attribute_bytes body) ≡ Ok (record { pieces = pieces; ended = true }) → types_rise pieces ≡ true → list_all is_inside pieces ≡ true
    → shaped_at body ≡ Ok (record { head = rec_head_of body; attrs = map attr_of pieces })
unfolding shaped_at
shaped_is body pieces first size is rises within = shaped_by (has_first body) (has_size body) (cut most_attributes (attribute_bytes body)) (rec_head_of body) pieces first size is rises within

whole_by : (shaped : Result Record ℕ) (r : Record) → shaped ≡ Ok r → has_all_pairs r ≡ true → has_lawful_values r ≡ true → (shaped >>= λ q. needs (has_all_pairs q) 7 >>= λ _. needs (has_lawful_values q) 8 >>= λ _. Ok q) ≡ Ok r
whole_by shaped r is fits lawful = rw (is, fits, lawful) refl

whole_is : (body : List ℕ) (head : RecHead) (attrs : List Attr) → shaped_at body ≡ Ok (record { head = head; attrs = attrs }) → list_all has_fitting_pairs attrs ≡ true → list_all has_lawful_value attrs ≡ true → whole_record body ≡ Ok (record { head = head; attrs = attrs })
unfolding whole_record has_all_pairs has_lawful_values
whole_is body head attrs is fits lawful = whole_by (shaped_at body) (record { head = head; attrs = attrs }) is fits lawful

base_is : (body : List ℕ) (attrs : List Attr) → is_base body ≡ true → is_base_record (record { head = rec_head_of body; attrs = attrs }) ≡ true
unfolding is_base rec_head_of
base_is body attrs h = let zero_is : field 0x20 8 body ≡ 0 = eqb_zero (field 0x20 8 body) h in rw zero_is refl
  where
    eqb_zero : (n : ℕ) → (n == 0) ≡ true → n ≡ 0
    eqb_zero n h = grind (arith, nat_tests)

links_is : (number seq : ℕ) (body : List ℕ) (attrs : List Attr) → seq ≡ field 0x10 2 body → filter_map (attr_link (record { number = number; seq = seq })) attrs ≡ record_links number (record { head = rec_head_of body; attrs = attrs })
unfolding record_links rec_head_of
links_is number seq body attrs is = ap (λ (s : ℕ). filter_map (attr_link (record { number = number; seq = s })) attrs) is

pub is_plain : (number seq : ℕ) (body : List ℕ) (old new : List Link) → has_first body ≡ true → has_size body ≡ true → is_base body ≡ true → seq ≡ field 0x10 2 body → ArePlain (record { number = number; seq = seq }) (attribute_bytes body) old new → IsPlain number body old new
unfolding has_type
is_plain number seq body old new first size base is plain =
    let attrs : List Attr = map attr_of plain.pieces in
    record {
      file = record { head = rec_head_of body; attrs = attrs };
      is_read = whole_is body (rec_head_of body) attrs (shaped_is body plain.pieces first size plain.is_cut plain.rises plain.inside) plain.fits plain.lawful;
      base = base_is body attrs base;
      unlisted = plain.unlisted;
      unindexed = plain.unindexed;
      links = plain.links ∙ ap (λ (ls : List Link). old ++ filter is_long ls) (links_is number seq body attrs is);
    }

pub plain_in : {E : Type 0} (result : Result Bool E) (number seq : ℕ) (body : List ℕ) (old new : List Link) → has_first body ≡ true → has_size body ≡ true → is_base body ≡ true → seq ≡ field 0x10 2 body
    → IfOk result (λ plain. IsTrue plain → ArePlain (record { number = number; seq = seq }) (attribute_bytes body) old new) → IfOk result (λ plain. IsTrue plain → IsPlain number body old new)
plain_in (Ok plain) number seq body old new first size base is h = λ holds. is_plain number seq body old new first size base is (h holds)
plain_in (Err e) number seq body old new first size base is h = tt
