-- The end of a line: the defaults, and what is required.
use Rattle.std.proofs.Common.{◌≡◌, ◌∙◌, ap, ap₂, sym, refl, subst, true≢false, inl, inr}
use Rattle.std.specs.Prelude.{Bool, true, false, not, ◌&&◌, ◌||◌, if◌then◌else◌, List, [], ◌∷◌, ◌++◌, map, drop, find, fold, codes, slice_get, Option, Some, None, is_some, option_map, option_and_then, unwrap_or, Result, Ok, Err, String, string_bytes}
use Rattle.std.specs.Global.{Global}
use Rattle.std.specs.Option.{option_map_or}
use Rattle.std.specs.List.{list_any}
use Rattle.std.specs.Str.{bytes_eq}
use Rattle.std.proofs.lemmas.Str.{IsUtf8-string_bytes}
use Rattle.host_base.specs.Answers.{◌>>=◌, Explains}
use Rattle.clap.specs.Facts.{explicit_source}
use Rattle.clap.specs.Walk.{Row, Text, first_of, has_row, is_empty, more_values, nothing_held, rows_of, settled, walk, with_default, with_values}
use Rattle.clap.specs.Simple.{built, entered, is_simple, matches_of}
use Rattle.clap.specs.Takes.{is_given}
use Rattle.clap.specs.Kinds.{HasKind, IsAmong, Kinds, or_else}
use Rattle.clap.specs.Faults.{built_fault, check_fault, default_fault, defaults_fault, entered_fault, fault_of, given_default_fault, is_simple_and_free, level_fault, settle_fault, walk_fault}
use Rattle.clap.specs.Values.{kind_of, reading_of}
use Rattle.clap.specs.Matches.{found_of}
use Rattle.clap.proofs.WalkLemmas.{first_value-rows}
use Rattle.clap.specs.declared.error.Error.{Error}
use Rattle.clap.specs.declared.error.kind.ErrorKind.{ErrorKind}
use Rattle.clap.specs.declared.error.kind.ErrorKind.TheVariants as kind
use Rattle.clap.specs.declared.parser.matches.ArgMatches.{ArgMatches}
use Rattle.clap.specs.declared.parser.matches.ValueSource.TheVariants.{DefaultValue}
use Rattle.clap.specs.declared.builder.value_parser.ValueParser.TheVariants as vp
use Rattle.command_line.specs.declared.fault.LineFault.{LineFault}
use Rattle.command_line.specs.declared.fault.LineFault.TheVariants.{NoLine, Memory}
use Rattle.command_line.specs.Faults.{kind_fault, line_cause}
use Rattle.command_line.specs.Grammar.{Given, Name, the_image, the_command, the_time, the_seed, the_journal, spelled, is_same, has, value_in, any_word, given_by, given_from}
use Rattle.command_line.specs.Lines.{found_texts, line_app}
use Rattle.command_line.specs.Texts.{Texts, texts_given, texts_of, whole_texts}
use Rattle.command_line.proofs.Rows.{append_none, at_row-absent, line_rules, row, rule_at, shape}
use Rattle.command_line.proofs.Turns.{first_fails, held_plain, is_none, settles_plain}
use Rattle.command_line.proofs.Steps.{Agrees, AllText, At, agrees, clear, walk_at, walk_faults, walk_rest}

-- ---- rows of defaults

abbrev default_at : Name → Text
default_at the_image = []
default_at the_command = []
default_at the_time = codes "0"
default_at the_seed = codes "1"
default_at the_journal = codes "262144"

abbrev default_row : Name → Row
default_row n = record { id = spelled n; values = default_at n ∷ []; count = None; source = Some DefaultValue; reading = reading_of vp.String }

abbrev of : Name → Row → Bool
of n r = bytes_eq r.id (spelled n)

abbrev absent : Name → List Row → List Row
absent n rows = if has_row (spelled n) rows then [] else default_row n ∷ []

place_kept : (rows : List Row) (b : Bool) → (if b then rows else rows) ≡ rows
place_kept rows true = refl
place_kept rows false = refl

option_put : (n : Name) (rows : List Row) → (if has_row (spelled n) rows then rows else with_values (spelled n) (reading_of vp.String) DefaultValue (default_at n ∷ []) rows) ≡ rows ++ absent n rows
option_put n rows = go (has_row (spelled n) rows) refl
  where
    go : (b : Bool) → has_row (spelled n) rows ≡ b
        → (if b then rows else with_values (spelled n) (reading_of vp.String) DefaultValue (default_at n ∷ []) rows) ≡ rows ++ (if b then [] else default_row n ∷ [])
    go true e = sym (append_none rows)
    go false e = at_row-absent (spelled n) (more_values DefaultValue (default_at n ∷ [])) (default_row n ∷ []) rows e

abbrev with_absent : Name → List Row → List Row
with_absent n rows = rows ++ absent n rows

abbrev whole : List Row → List Row
whole rows = with_absent the_journal (with_absent the_seed (with_absent the_time rows))

all_put : (rows : List Row) → fold with_default rows line_rules ≡ whole rows
all_put rows =
    ap (λ (r : List Row). with_default (with_default (with_default (with_default r (rule_at the_command)) (rule_at the_time)) (rule_at the_seed)) (rule_at the_journal)) (place_kept rows (has_row (codes "image") rows))
    ∙ ap (λ (r : List Row). with_default (with_default (with_default r (rule_at the_time)) (rule_at the_seed)) (rule_at the_journal)) (place_kept rows (has_row (codes "command") rows))
    ∙ ap (λ (r : List Row). with_default (with_default r (rule_at the_seed)) (rule_at the_journal)) (option_put the_time rows)
    ∙ ap (λ (r : List Row). with_default r (rule_at the_journal)) (option_put the_seed (with_absent the_time rows))
    ∙ option_put the_journal (with_absent the_seed (with_absent the_time rows))

-- ---- what is found in them

abbrev or_find : Option Row → Option Row → Option Row
or_find None other = other
or_find (Some r) other = Some r

or_nothing : (o : Option Row) → or_find o None ≡ o
or_nothing None = refl
or_nothing (Some r) = refl

find_append : (p : Row → Bool) (xs ys : List Row) → find p (xs ++ ys) ≡ or_find (find p xs) (find p ys)
find_append p [] ys = refl
find_append p (x ∷ xs) ys = go (p x) (find_append p xs ys)
  where
    go : (b : Bool) → find p (xs ++ ys) ≡ or_find (find p xs) (find p ys) → (if b then Some x else find p (xs ++ ys)) ≡ or_find (if b then Some x else find p xs) (find p ys)
    go true later = refl
    go false later = later

any_found : {X : Type 0} (p : X → Bool) (xs : List X) → list_any p xs ≡ is_some (find p xs)
any_found p [] = refl
any_found p (x ∷ xs) = go (p x) (any_found p xs)
  where
    go : (b : Bool) → list_any p xs ≡ is_some (find p xs) → (b || list_any p xs) ≡ is_some (if b then Some x else find p xs)
    go true later = refl
    go false later = later

find_given : (n : Name) (given : Given) → find (of n) (map row given) ≡ option_map row (find (λ g. is_same g.0 n) given)
find_given n [] = refl
find_given n (g ∷ given) = go (is_same g.0 n) (find_given n given)
  where
    go : (b : Bool) → find (of n) (map row given) ≡ option_map row (find (λ g. is_same g.0 n) given)
        → (if b then Some (row g) else find (of n) (map row given)) ≡ option_map row (if b then Some g else find (λ g. is_same g.0 n) given)
    go true later = refl
    go false later = later

same_self : (n : Name) → is_same n n ≡ true
same_self the_image = refl
same_self the_command = refl
same_self the_time = refl
same_self the_seed = refl
same_self the_journal = refl

find_own : (n : Name) (rows : List Row) → find (of n) (with_absent n rows) ≡ Some (unwrap_or (find (of n) rows) (default_row n))
find_own n rows = find_append (of n) rows (absent n rows)
    ∙ ap (λ (b : Bool). or_find (find (of n) rows) (find (of n) (if b then [] else default_row n ∷ []))) (any_found (of n) rows)
    ∙ go (find (of n) rows)
  where
    go : (o : Option Row) → or_find o (find (of n) (if is_some o then [] else default_row n ∷ [])) ≡ Some (unwrap_or o (default_row n))
    go None = ap (λ (b : Bool). if b then Some (default_row n) else None) (same_self n)
    go (Some r) = refl

find_other : (n m : Name) (rows : List Row) → is_same n m ≡ false → find (of m) (with_absent n rows) ≡ find (of m) rows
find_other n m rows differs = find_append (of m) rows (absent n rows)
    ∙ ap (or_find (find (of m) rows)) (go (has_row (spelled n) rows)) ∙ or_nothing (find (of m) rows)
  where
    go : (b : Bool) → find (of m) (if b then [] else default_row n ∷ []) ≡ None
    go true = refl
    go false = ap (λ (b : Bool). if b then Some (default_row n) else None) differs

find_place : (n : Name) (given : Given) → is_same the_time n ≡ false → is_same the_seed n ≡ false → is_same the_journal n ≡ false
    → find (of n) (whole (map row given)) ≡ option_map row (find (λ g. is_same g.0 n) given)
find_place n given t s j = find_other the_journal n (with_absent the_seed (with_absent the_time (map row given))) j ∙ find_other the_seed n (with_absent the_time (map row given)) s ∙ find_other the_time n (map row given) t ∙ find_given n given

abbrev first_text : Option Row → Option Text
first_text = option_and_then (λ r. slice_get r.values 0)

first_given : (o : Option (Name × Text)) → first_text (option_map row o) ≡ option_map (λ g. g.1) o
first_given None = refl
first_given (Some g) = refl

first_default : (n : Name) (o : Option (Name × Text)) → first_text (Some (unwrap_or (option_map row o) (default_row n))) ≡ Some (unwrap_or (option_map (λ g. g.1) o) (default_at n))
first_default n None = refl
first_default n (Some g) = refl

abbrev named : Name → Given → Option (Name × Text)
named n given = find (λ g. is_same g.0 n) given

place_text : (n : Name) (given : Given) → is_same the_time n ≡ false → is_same the_seed n ≡ false → is_same the_journal n ≡ false → first_of (spelled n) (whole (map row given)) ≡ value_in n given
place_text n given t s j = ap first_text (find_place n given t s j) ∙ first_given (named n given)

abbrev own_row : Name → Given → Option Row
own_row n given = Some (unwrap_or (option_map row (named n given)) (default_row n))

time_row : (given : Given) → find (of the_time) (whole (map row given)) ≡ own_row the_time given
time_row given = find_other the_journal the_time (with_absent the_seed (with_absent the_time (map row given))) refl ∙ find_other the_seed the_time (with_absent the_time (map row given)) refl ∙ find_own the_time (map row given)
    ∙ ap (λ (o : Option Row). Some (unwrap_or o (default_row the_time))) (find_given the_time given)

seed_row : (given : Given) → find (of the_seed) (whole (map row given)) ≡ own_row the_seed given
seed_row given = find_other the_journal the_seed (with_absent the_seed (with_absent the_time (map row given))) refl ∙ find_own the_seed (with_absent the_time (map row given))
    ∙ ap (λ (o : Option Row). Some (unwrap_or o (default_row the_seed))) (find_other the_time the_seed (map row given) refl ∙ find_given the_seed given)

journal_row : (given : Given) → find (of the_journal) (whole (map row given)) ≡ own_row the_journal given
journal_row given = find_own the_journal (with_absent the_seed (with_absent the_time (map row given)))
    ∙ ap (λ (o : Option Row). Some (unwrap_or o (default_row the_journal)))
    (find_other the_seed the_journal (with_absent the_time (map row given)) refl ∙ find_other the_time the_journal (map row given) refl ∙ find_given the_journal given)

abbrev row_texts : List Row → Texts
row_texts rows = record {
  image = first_of (codes "image") rows;
  command = first_of (codes "command") rows;
  time = first_of (codes "time") rows;
  seed = first_of (codes "seed") rows;
  journal = first_of (codes "journal") rows;
}

texts_found : (given : Given) → row_texts (whole (map row given)) ≡ texts_given given
texts_found given =
    let image_is = place_text the_image given refl refl refl in
    let command_is = place_text the_command given refl refl refl in
    let time_is = ap first_text (time_row given) ∙ first_default the_time (named the_time given) in
    let seed_is = ap first_text (seed_row given) ∙ first_default the_seed (named the_seed given) in
    let journal_is = ap first_text (journal_row given) ∙ first_default the_journal (named the_journal given) in
    λ i. record { image = image_is i; command = command_is i; time = time_is i; seed = seed_is i; journal = journal_is i }

given_here : (n : Name) (given : Given) → is_same the_time n ≡ false → is_same the_seed n ≡ false → is_same the_journal n ≡ false → is_given (spelled n) (whole (map row given)) ≡ has n given
given_here n given t s j =
    ap (λ (o : Option Row). option_map_or (λ (r : Row). explicit_source r.source) o false) (find_place n given t s j) ∙ go (named n given) ∙ sym (any_found (λ g. is_same g.0 n) given)
  where
    go : (o : Option (Name × Text)) → option_map_or (λ (r : Row). explicit_source r.source) (option_map row o) false ≡ is_some o
    go None = refl
    go (Some g) = refl

-- ---- what is refused at the end

default_passes : (n : Name) (rows : List Row) → default_fault rows (rule_at n) ≡ []
default_passes n rows = go (has_row (rule_at n).id rows)
  where
    at_none : (m : Name) → (if is_empty (rule_at m).defaults then [] else given_default_fault (rule_at m) (rule_at m).defaults) ≡ []
    at_none the_image = refl
    at_none the_command = refl
    at_none the_time = refl
    at_none the_seed = refl
    at_none the_journal = refl

    go : (b : Bool) → (if b || is_empty (rule_at n).defaults then [] else given_default_fault (rule_at n) (rule_at n).defaults) ≡ []
    go true = refl
    go false = at_none n

defaults_pass : (names : List Name) (rows : List Row) → defaults_fault rows (map rule_at names) ≡ []
unfolding defaults_fault
defaults_pass [] rows = refl
defaults_pass (n ∷ names) rows = ap₂ or_else (default_passes n rows) (defaults_pass names (with_default rows (rule_at n)))

abbrev lacks : Bool → Bool → Kinds
lacks has_image has_command = if not has_image || (not has_command || false) then kind.MissingRequiredArgument ∷ [] else []

lacking : (rows : List Row) → check_fault shape rows false ≡ lacks (is_given (codes "image") rows) (is_given (codes "command") rows)
lacking rows = refl

abbrev start : At
start = clear false (held_plain []) [] (settles_plain []) (λ e. refl)

module _ (words : List Text) where
  abbrev rows_left : List Row
  rows_left = (settled line_rules (walk_rest (walk_at start) words).held).rows

  one_level : built_fault (built line_app) nothing_held words ≡ level_fault shape [] nothing_held words false []
  one_level = go (walk line_rules [] nothing_held words).stopped
    where
      go : (stop : Option (Text × List Text)) → level_fault shape [] nothing_held words (is_some (entered (built line_app) stop)) (entered_fault (built line_app) stop)
          ≡ level_fault shape [] nothing_held words false []
      go None = refl
      go (Some p) = refl

  grouped : (a b c : Kinds) → or_else a (or_else [] (or_else b c)) ≡ or_else (or_else a b) c
  grouped [] b c = refl
  grouped (k ∷ a) b c = refl

  whole_fault : built_fault (built line_app) nothing_held words ≡ or_else (walk_faults (walk_at start) words) (check_fault shape (fold with_default rows_left line_rules) false)
  whole_fault = one_level
      ∙ grouped (walk_fault shape [] (walk_at start) words) (settle_fault line_rules false (walk_rest (walk_at start) words).held) _
      ∙ ap (λ (k : Kinds). or_else (walk_faults (walk_at start) words) (or_else k (check_fault shape (fold with_default rows_left line_rules) false)))
      (defaults_pass (the_image ∷ the_command ∷ the_time ∷ the_seed ∷ the_journal ∷ []) rows_left)

-- ---- whole lines

data Reads (words : List Text) : Type 0 where
  reads_texts : fault_of line_app words ≡ [] → texts_of words ≡ Ok (row_texts (matches_of line_app words)) → Reads words
  reads_none : is_none (fault_of line_app words) ≡ false → texts_of words ≡ Err NoLine → Reads words

texts_by : (words : List Text) → texts_of words ≡ (given_from (any_word, []) (drop 1 words) >>= whole_texts)
unfolding texts_of given_by
texts_by words = refl

reads : (words : List Text) → AllText (drop 1 words) → Reads words
reads words texts = go (given_from (any_word, []) (drop 1 words)) refl (agrees (drop 1 words) start texts)
  where
    go : (r : Result Given LineFault) → given_from (any_word, []) (drop 1 words) ≡ r → Agrees (walk_faults (walk_at start) (drop 1 words)) (rows_left (drop 1 words)) r → Reads words
    go (Err NoLine) e bad = reads_none (ap is_none (whole_fault (drop 1 words)) ∙ first_fails _ _ bad) (texts_by words ∙ ap (λ (r : Result Given LineFault). r >>= whole_texts) e)
    go (Err Memory) e bad = absurd bad
    go (Ok given) e agreed = by_places (has the_image given) (has the_command given) refl refl
      where
        is_whole : fold with_default (rows_left (drop 1 words)) line_rules ≡ whole (map row given)
        is_whole = ap (λ (rows : List Row). fold with_default rows line_rules) agreed.1 ∙ all_put (map row given)

        fault_is : fault_of line_app words ≡ lacks (has the_image given) (has the_command given)
        fault_is = whole_fault (drop 1 words)
            ∙ ap₂ (λ (k : Kinds) (rows : List Row). or_else k (check_fault shape rows false)) agreed.0 is_whole
            ∙ ap₂ lacks (given_here the_image given refl refl refl) (given_here the_command given refl refl refl)

        texts_is : (a b : Bool) → has the_image given ≡ a → has the_command given ≡ b → texts_of words ≡ (if a && b then Ok (texts_given given) else Err NoLine)
        texts_is a b i c = texts_by words ∙ ap (λ (r : Result Given LineFault). r >>= whole_texts) e ∙ ap₂ (λ (x y : Bool). if x && y then Ok (texts_given given) else Err NoLine) i c

        by_places : (a b : Bool) → has the_image given ≡ a → has the_command given ≡ b → Reads words
        by_places true true i c = reads_texts (fault_is ∙ ap₂ lacks i c) (texts_is true true i c ∙ ap (λ (t : Texts). Ok t) (sym (texts_found given) ∙ ap row_texts (sym is_whole)))
        by_places true false i c = reads_none (ap is_none (fault_is ∙ ap₂ lacks i c)) (texts_is true false i c)
        by_places false b i c = reads_none (ap is_none (fault_is ∙ ap₂ lacks i c)) (texts_is false b i c)

-- ---- for the call

pub is_free : is_simple_and_free line_app ≡ true
is_free = refl

pub is_plain : is_simple line_app ≡ true
is_plain = refl

all_text : (words : List (String Global)) → AllText (map (λ word. string_bytes word) words)
all_text [] = tt
all_text (word ∷ words) = (IsUtf8-string_bytes word, all_text words)

texts_behind : (words : List (String Global)) → AllText (drop 1 (map (λ word. string_bytes word) words))
texts_behind [] = tt
texts_behind (word ∷ words) = all_text words

found_is : (m : ArgMatches) → found_texts m ≡ row_texts (rows_of (found_of m))
found_is m = λ i. record {
  image = first_value-rows (found_of m) (codes "image") i;
  command = first_value-rows (found_of m) (codes "command") i;
  time = first_value-rows (found_of m) (codes "time") i;
  seed = first_value-rows (found_of m) (codes "seed") i;
  journal = first_value-rows (found_of m) (codes "journal") i;
}

pub matched : (words : List (String Global)) (m : ArgMatches) → fault_of line_app (map (λ word. string_bytes word) words) ≡ []
    → rows_of (found_of m) ≡ matches_of line_app (map (λ word. string_bytes word) words) → texts_of (map (λ word. string_bytes word) words) ≡ Ok (found_texts m)
matched words m none rows = go (reads (map (λ word. string_bytes word) words) (texts_behind words))
  where
    go : Reads (map (λ word. string_bytes word) words) → texts_of (map (λ word. string_bytes word) words) ≡ Ok (found_texts m)
    go (reads_texts e is) = is ∙ ap (λ (t : Texts). Ok t) (ap row_texts (sym rows) ∙ sym (found_is m))
    go (reads_none bad is) = absurd (true≢false (sym (ap is_none none) ∙ bad))

pub unmatched : (words : List (String Global)) (e : Error) → HasKind (fault_of line_app (map (λ word. string_bytes word) words)) e
    → Explains (line_cause (kind_fault (kind_of e))) (texts_of (map (λ word. string_bytes word) words))
unmatched words e (inl memory) = subst (λ (k : ErrorKind). Explains (line_cause (kind_fault k)) (texts_of (map (λ word. string_bytes word) words))) (sym memory) tt
unmatched words e (inr among) = go (reads (map (λ word. string_bytes word) words) (texts_behind words))
  where
    explained : (f : LineFault) → texts_of (map (λ word. string_bytes word) words) ≡ Err NoLine → Explains (line_cause f) (texts_of (map (λ word. string_bytes word) words))
    explained NoLine is = is
    explained Memory is = tt

    go : Reads (map (λ word. string_bytes word) words) → Explains (line_cause (kind_fault (kind_of e))) (texts_of (map (λ word. string_bytes word) words))
    go (reads_texts none is) = absurd (subst (λ (k : Kinds). IsAmong (kind_of e) k) none among)
    go (reads_none bad is) = explained (kind_fault (kind_of e)) is
