-- What the walk over the attributes of a plain record declines: exactly the bodies of other records.
use Rattle.std.proofs.Common.{◌≡◌, ℕ, ◌+◌, ◌-◌, ◌/◌, ◌%◌, ◌^◌, ◌<◌, ◌≤◌, ◌==◌, ◌&&◌, ◌||◌, Bool, true, false, nat_le, nat_lt, not, suc, List, [], ◌∷◌, length, map, drop, Result, Ok, Err, refl, sym, ap, ◌∙◌, arith}
use Rattle.std.specs.Prelude.{IfOk, IsTrue}
use Rattle.std.specs.List.{list_all, list_any}
use Rattle.std.proofs.lemmas.Bool.{and_parts, not-true, eqb-true}
use Rattle.std.proofs.lemmas.Bool.Decides.{nat_tests}
use Rattle.host_base.specs.Answers.{◌>>=◌, needs, Explains}
use Rattle.host_base.specs.declared.file_ref.FileRef.{FileRef}
use Rattle.disk_model.specs.Numbers.{field}
use Rattle.record_model.specs.declared.attribute.Attr.{Attr}
use Rattle.record_model.specs.Values.{has_lawful_value}
use Rattle.record_model.specs.Constants.{attribute_list, index_allocation}
use Rattle.record_model.specs.Attributes.{has_length, is_inside, attr_of}
use Rattle.record_model.specs.Records.{Record, Pieces, with_piece, cut, types_rise, has_first, has_size, is_base, is_end_mark, most_attributes, attribute_bytes, rec_head_of, shaped_at, has_lawful_values}
use Rattle.file_record.specs.attr_codec.declared.borrowed.AttrFault.{AttrFault}
use Rattle.file_record.specs.attr_codec.declared.borrowed.AttrFault.TheVariants.{Rule}
use Rattle.file_record.specs.attr_codec.Reading.{own_bytes, attr_at, attr_cause}
use Rattle.file_tree.specs.declared.link.Link.{Link}
use Rattle.state_model.specs.Files.{is_base_record, has_type}
use Rattle.state_model.specs.Loads.{has_fitting_pairs, has_all_pairs, whole_record}
use Rattle.volume_links.specs.Plain.{may_follow, may_all_follow, are_plain, is_plain, IsPlain, TakesPlain}
use Rattle.volume_links.proofs.Plainly.{cut_by, cut_step, is_long_enough, read_parts, kind_is, one_less, okay_record}

-- ---- the attribute at the front

-- one that can't be read
pub unread : (least : ℕ) (fault : AttrFault) (bytes : List ℕ) → Explains (attr_cause fault) (attr_at bytes) → may_follow least (attr_at bytes) ≡ false
unread least (Rule rule) bytes h = rw h refl

and_false : (b : Bool) → (b && false) ≡ false
and_false true = refl
and_false false = refl

and_swap : (a b c : Bool) → (a && (b && c)) ≡ (b && (a && c))
and_swap true true c = refl
and_swap true false c = refl
and_swap false true c = refl
and_swap false false c = refl

-- one step of the cut, and of the read of the attribute there
step_by : (least : ℕ) (own : List ℕ) (lawful within : Bool) (read : Result Pieces ℕ) → is_inside own ≡ within
    → are_plain least (needs lawful 3 >>= λ _. with_piece own read) ≡ (may_follow least (needs lawful 3 >>= λ _. needs within 6 >>= λ _. Ok (attr_of own)) && are_plain (field 0 4 own) read)
step_by least own false within read e = refl
step_by least own true false (Ok p) e = rw e (and_false p.ended)
step_by least own true false (Err rule) e = refl
step_by least own true true (Ok p) e = rw e (and_swap p.ended (may_follow least (Ok (attr_of own))) (may_all_follow (field 0 4 own) p.pieces))
step_by least own true true (Err rule) e = sym (and_false (may_follow least (Ok (attr_of own))))

judged_by : (least most : ℕ) (rest : List ℕ) → are_plain least (needs (has_length rest) 3 >>= λ _. with_piece (own_bytes rest) (cut most (drop (field 0x04 4 rest) rest))) ≡ (may_follow least (attr_at rest) && are_plain (field 0 4 (own_bytes rest)) (cut most (drop (field 0x04 4 rest) rest)))
unfolding attr_at
judged_by least most rest = step_by least (own_bytes rest) (has_length rest) (is_inside (own_bytes rest)) (cut most (drop (field 0x04 4 rest) rest)) refl

judged_on : (least most : ℕ) (rest : List ℕ) → 4 ≤ length rest → is_end_mark rest ≡ false → are_plain least (cut (suc most) rest) ≡ (may_follow least (attr_at rest) && are_plain (field 0 4 (own_bytes rest)) (cut most (drop (field 0x04 4 rest) rest)))
judged_on least most rest long mark =
    let later = with_piece (own_bytes rest) (cut most (drop (field 0x04 4 rest) rest)) in
    ap (are_plain least) (cut_step most rest ∙ ap (λ (b : Bool). cut_by b (is_end_mark rest) (has_length rest) later) (is_long_enough rest long) ∙ ap (λ (b : Bool). cut_by false b (has_length rest) later) mark)
    ∙ judged_by least most rest

-- ---- the walk

-- what is said of all bytes is said of the rest
abbrev pub AsTheRest : List ℕ → List ℕ → ℕ → ℕ → Type 0
AsTheRest bytes rest counter least = are_plain 0 (cut most_attributes bytes) ≡ are_plain least (cut (most_attributes - counter) rest)

here : (bytes rest : List ℕ) (counter least : ℕ) → counter < most_attributes → AsTheRest bytes rest counter least → are_plain 0 (cut most_attributes bytes) ≡ are_plain least (cut (suc (most_attributes - (counter + 1))) rest)
here bytes rest counter least lt so_far = so_far ∙ ap (λ (k : ℕ). are_plain least (cut k rest)) (one_less counter lt)

is_short : (rest : List ℕ) → length rest < 4 → nat_lt (length rest) 4 ≡ true
is_short rest lt = grind (arith, nat_tests)

-- bytes that end before an end mark
pub cut_short : (bytes rest : List ℕ) (counter least : ℕ) → counter < most_attributes → length rest < 4 → AsTheRest bytes rest counter least → false ≡ are_plain 0 (cut most_attributes bytes)
cut_short bytes rest counter least lt short so_far =
    let later = with_piece (own_bytes rest) (cut (most_attributes - (counter + 1)) (drop (field 0x04 4 rest) rest)) in
    sym (here bytes rest counter least lt so_far ∙ ap (are_plain least) (cut_step (most_attributes - (counter + 1)) rest ∙ ap (λ (b : Bool). cut_by b (is_end_mark rest) (has_length rest) later) (is_short rest short)))

-- the end mark
pub at_mark : (bytes rest : List ℕ) (counter least : ℕ) → counter < most_attributes → 4 ≤ length rest → is_end_mark rest ≡ true → AsTheRest bytes rest counter least → true ≡ are_plain 0 (cut most_attributes bytes)
at_mark bytes rest counter least lt long mark so_far =
    let later = with_piece (own_bytes rest) (cut (most_attributes - (counter + 1)) (drop (field 0x04 4 rest) rest)) in
    sym (here bytes rest counter least lt so_far ∙ ap (are_plain least) (cut_step (most_attributes - (counter + 1)) rest ∙ ap (λ (b : Bool). cut_by b (is_end_mark rest) (has_length rest) later) (is_long_enough rest long) ∙ ap (λ (b : Bool). cut_by false b (has_length rest) later) mark))

-- an attribute that no plain record has there
pub at_other : (bytes rest : List ℕ) (counter least : ℕ) → counter < most_attributes → 4 ≤ length rest → is_end_mark rest ≡ false → may_follow least (attr_at rest) ≡ false → AsTheRest bytes rest counter least → false ≡ are_plain 0 (cut most_attributes bytes)
at_other bytes rest counter least lt long mark other so_far =
    sym (here bytes rest counter least lt so_far ∙ judged_on least (most_attributes - (counter + 1)) rest long mark ∙ ap (λ (b : Bool). b && are_plain (field 0 4 (own_bytes rest)) (cut (most_attributes - (counter + 1)) (drop (field 0x04 4 rest) rest))) other)

-- too many attributes
pub too_many : (bytes rest : List ℕ) (counter least : ℕ) → most_attributes ≤ counter → AsTheRest bytes rest counter least → false ≡ are_plain 0 (cut most_attributes bytes)
unfolding cut
too_many bytes rest counter least le so_far = let none : most_attributes - counter ≡ 0 = omega arith in sym (so_far ∙ ap (λ (k : ℕ). are_plain least (cut k rest)) none)

-- one that a plain record may have there
pub one_more : (bytes rest : List ℕ) (child : FileRef) (counter n least next : ℕ) (before after : List Link) → counter < most_attributes → 4 ≤ length rest → is_end_mark rest ≡ false → may_follow least (attr_at rest) ≡ true
    → TakesPlain child rest n least next before after → AsTheRest bytes rest counter least → AsTheRest bytes (drop n rest) (counter + 1) next
one_more bytes rest child counter n least next before after lt long mark is front so_far =
    let next_is : field 0 4 (own_bytes rest) ≡ next = sym (kind_is (own_bytes rest)) ∙ ap (λ (b : Attr). b.head.kind) (read_parts rest front.attr front.is_read).2 ∙ sym front.next_is in
    here bytes rest counter least lt so_far ∙ judged_on least (most_attributes - (counter + 1)) rest long mark
    ∙ ap (λ (b : Bool). b && are_plain (field 0 4 (own_bytes rest)) (cut (most_attributes - (counter + 1)) (drop (field 0x04 4 rest) rest))) is
    ∙ ap (λ (k : ℕ). are_plain k (cut (most_attributes - (counter + 1)) (drop (field 0x04 4 rest) rest))) next_is
    ∙ ap (λ (k : ℕ). are_plain next (cut (most_attributes - (counter + 1)) (drop k rest))) (sym front.size)

-- ---- all attributes of a record

-- types don't fall, and the first isn't below this one
abbrev rise_from : ℕ → List (List ℕ) → Bool
rise_from least [] = true
rise_from least (p ∷ ps) = nat_le least (field 0 4 p) && types_rise (p ∷ ps)

rise_on : (p : List ℕ) (ps : List (List ℕ)) → types_rise (p ∷ ps) ≡ true → rise_from (field 0 4 p) ps ≡ true
rise_on p [] h = refl
rise_on p (q ∷ ps) h = h

none_below : (n : ℕ) → nat_le 0 n ≡ true
none_below n = grind (arith, nat_tests)

rise_all : (ps : List (List ℕ)) → types_rise ps ≡ true → rise_from 0 ps ≡ true
rise_all [] h = refl
rise_all (p ∷ ps) h = ap (λ (b : Bool). b && types_rise (p ∷ ps)) (none_below (field 0 4 p)) ∙ h

abbrev is_of : ℕ → Attr → Bool
is_of kind a = a.head.kind == kind

neither : (b c : Bool) → (b || c) ≡ false → (b ≡ false) × (c ≡ false)
neither true c h = absurd cc
neither false c h = (refl, h)

follows_by : (least : ℕ) (p : List ℕ) (more : Bool) → is_inside p ≡ true → nat_le least (field 0 4 p) ≡ true → is_of attribute_list (attr_of p) ≡ false → is_of index_allocation (attr_of p) ≡ false → has_lawful_value (attr_of p) ≡ true → has_fitting_pairs (attr_of p) ≡ true → more ≡ true
    → (is_inside p && may_follow least (Ok (attr_of p)) && more) ≡ true
follows_by least p more within rises listed indexed lawful fits later =
    let rising : nat_le least (attr_of p).head.kind ≡ true = ap (nat_le least) (kind_is p) ∙ rises in
    rw (within, rising, listed, indexed, lawful, fits, later) refl

all_follow : (least : ℕ) (ps : List (List ℕ)) → rise_from least ps ≡ true → list_all is_inside ps ≡ true → list_any (is_of attribute_list) (map attr_of ps) ≡ false → list_any (is_of index_allocation) (map attr_of ps) ≡ false
    → list_all has_lawful_value (map attr_of ps) ≡ true → list_all has_fitting_pairs (map attr_of ps) ≡ true → may_all_follow least ps ≡ true
all_follow least [] rises within listed indexed lawful fits = refl
all_follow least (p ∷ ps) rises within listed indexed lawful fits =
    let r = and_parts (nat_le least (field 0 4 p)) (types_rise (p ∷ ps)) rises in
    let w = and_parts (is_inside p) (list_all is_inside ps) within in
    let l = neither (is_of attribute_list (attr_of p)) (list_any (is_of attribute_list) (map attr_of ps)) listed in
    let i = neither (is_of index_allocation (attr_of p)) (list_any (is_of index_allocation) (map attr_of ps)) indexed in
    let v = and_parts (has_lawful_value (attr_of p)) (list_all has_lawful_value (map attr_of ps)) lawful in
    let f = and_parts (has_fitting_pairs (attr_of p)) (list_all has_fitting_pairs (map attr_of ps)) fits in
    follows_by least p (may_all_follow (field 0 4 p) ps) w.0 r.0 l.0 i.0 v.0 f.0 (all_follow (field 0 4 p) ps (rise_on p ps r.1) w.1 l.1 i.1 v.1 f.1)

-- ---- the record

shape_tests : (r : Record) (next : Record → Result Record ℕ) (rises ended within : Bool) → is_plain ((needs {F = ℕ} rises 4 >>= λ _. needs {F = ℕ} ended 5 >>= λ _. needs {F = ℕ} within 6 >>= λ _. okay_record r) >>= next) ≡ true
    → (rises ≡ true) × (ended ≡ true) × (within ≡ true) × (is_plain (next r) ≡ true)
shape_tests r next true true true h = (refl, refl, refl, h)
shape_tests r next true true false h = absurd cc
shape_tests r next true false within h = absurd cc
shape_tests r next false ended within h = absurd cc

value_tests : (r : Record) (fits lawful : Bool) → is_plain (needs {F = ℕ} fits 7 >>= λ _. needs {F = ℕ} lawful 8 >>= λ _. okay_record r) ≡ true → (fits ≡ true) × (lawful ≡ true) × (is_plain (okay_record r) ≡ true)
value_tests r true true h = (refl, refl, h)
value_tests r true false h = absurd cc
value_tests r false lawful h = absurd cc

-- what a body says that is read as a plain record
record Parts (body : List ℕ) (read : Result Pieces ℕ) : Type 0 where
  base : is_base_record (record { head = rec_head_of body; attrs = [] }) ≡ true
  plain : are_plain 0 read ≡ true

parts_by : (body : List ℕ) (p : Pieces) → is_plain ((needs {F = ℕ} (types_rise p.pieces) 4 >>= λ _. needs {F = ℕ} p.ended 5 >>= λ _. needs {F = ℕ} (list_all is_inside p.pieces) 6 >>= λ _. okay_record (record { head = rec_head_of body; attrs = map attr_of p.pieces })) >>= λ q. needs {F = ℕ} (has_all_pairs q) 7 >>= λ _. needs {F = ℕ} (has_lawful_values q) 8 >>= λ _. okay_record q) ≡ true
    → Parts body (Ok p)
unfolding has_type has_all_pairs has_lawful_values
parts_by body p h =
    let r : Record = record { head = rec_head_of body; attrs = map attr_of p.pieces } in
    let s = shape_tests r _ (types_rise p.pieces) p.ended (list_all is_inside p.pieces) h in
    let v = value_tests r (has_all_pairs r) (has_lawful_values r) s.3 in
    let t = and_parts (is_base_record r && not (has_type attribute_list r)) (not (has_type index_allocation r)) v.2 in
    let b = and_parts (is_base_record r) (not (has_type attribute_list r)) t.0 in
    record {
      base = b.0;
      plain = rw (s.1, all_follow 0 p.pieces (rise_all p.pieces s.0) s.2 (not-true _ b.1) (not-true _ t.1) v.1 v.0) refl;
    }

-- a record that is read passes the first two rules
record Sized (body : List ℕ) (read : Result Pieces ℕ) : Type 0 where
  first : has_first body ≡ true
  size : has_size body ≡ true
  parts : Parts body read

sized_by : (body : List ℕ) (first size : Bool) (read : Result Pieces ℕ) → has_first body ≡ first → has_size body ≡ size
    → is_plain ((needs {F = ℕ} first 1 >>= λ _. needs {F = ℕ} size 2 >>= λ _. read >>= λ p. needs {F = ℕ} (types_rise p.pieces) 4 >>= λ _. needs {F = ℕ} p.ended 5 >>= λ _. needs {F = ℕ} (list_all is_inside p.pieces) 6 >>= λ _. okay_record (record { head = rec_head_of body; attrs = map attr_of p.pieces })) >>= λ q. needs {F = ℕ} (has_all_pairs q) 7 >>= λ _. needs {F = ℕ} (has_lawful_values q) 8 >>= λ _. okay_record q) ≡ true
    → Sized body read
sized_by body true true (Ok p) f s h = record { first = f; size = s; parts = parts_by body p h }
sized_by body true true (Err rule) f s h = absurd cc
sized_by body true false read f s h = absurd cc
sized_by body false size read f s h = absurd cc

sized : (body : List ℕ) → is_plain (whole_record body) ≡ true → Sized body (cut most_attributes (attribute_bytes body))
unfolding whole_record shaped_at
sized body h = sized_by body (has_first body) (has_size body) (cut most_attributes (attribute_bytes body)) refl refl h

zero_base : (n : ℕ) → (n % 2 ^ 48 == 0 && n / 2 ^ 48 == 0) ≡ true → (n == 0) ≡ true
zero_base n h =
    let p = and_parts (n % 2 ^ 48 == 0) (n / 2 ^ 48 == 0) h in
    let low : n % 2 ^ 48 ≡ 0 = eqb-true _ _ p.0 in
    let high : n / 2 ^ 48 ≡ 0 = eqb-true _ _ p.1 in
    let none : n ≡ 0 = omega arith in
    rw none refl

base_is : (body : List ℕ) → is_base_record (record { head = rec_head_of body; attrs = [] }) ≡ true → is_base body ≡ true
unfolding is_base rec_head_of
base_is body h = zero_base (field 0x20 8 body) h

refused : (b c : Bool) → (b ≡ true → c ≡ true) → c ≡ false → b ≡ false
refused b true f h = absurd cc
refused true false f h = absurd (let e : false ≡ true = f refl in cc)
refused false false f h = refl

-- a body whose first rules fail, or that is no base record's
pub no_first : (body : List ℕ) → has_first body ≡ false → is_plain (whole_record body) ≡ false
no_first body h = refused _ _ (λ is. (sized body is).first) h

pub no_size : (body : List ℕ) → has_size body ≡ false → is_plain (whole_record body) ≡ false
no_size body h = refused _ _ (λ is. (sized body is).size) h

pub no_base : (body : List ℕ) → is_base body ≡ false → is_plain (whole_record body) ≡ false
no_base body h = refused _ _ (λ is. base_is body (sized body is).parts.base) h

is_taken : (number : ℕ) (body : List ℕ) (old new : List Link) → IsPlain number body old new → is_plain (whole_record body) ≡ true
is_taken number body old new p = rw (p.is_read, p.base, p.unlisted, p.unindexed) refl

-- the attributes say whether the record is plain
exactly : (number : ℕ) (body : List ℕ) (old new : List Link) (plain : Bool) → plain ≡ are_plain 0 (cut most_attributes (attribute_bytes body)) → (plain ≡ true → IsPlain number body old new) → plain ≡ is_plain (whole_record body)
exactly number body old new true is taken = sym (is_taken number body old new (taken refl))
exactly number body old new false is taken = sym (refused _ _ (λ e. (sized body e).parts.plain) (sym is))

pub exactly_in : {E : Type 0} (result : Result Bool E) (number : ℕ) (body : List ℕ) (old new : List Link) → IfOk result (λ plain. plain ≡ are_plain 0 (cut most_attributes (attribute_bytes body)))
    → IfOk result (λ plain. IsTrue plain → IsPlain number body old new) → IfOk result (λ plain. plain ≡ is_plain (whole_record body))
exactly_in (Ok plain) number body old new is taken = exactly number body old new plain is taken
exactly_in (Err e) number body old new is taken = tt
