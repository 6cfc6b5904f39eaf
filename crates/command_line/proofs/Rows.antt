-- The rules of the command line, and the rows that what is given makes.
use Rattle.std.proofs.Common.{◌≡◌, ◌∙◌, ap, refl, true≢false}
use Rattle.std.specs.Prelude.{ℕ, Bool, true, false, ◌&&◌, ◌||◌, if◌then◌else◌, List, [], ◌∷◌, ◌++◌, map, codes, Some, None, option_map}
use Rattle.std.specs.Str.{bytes_eq}
use Rattle.clap.specs.Walk.{Row, Rule, Text, arg_by_id, arg_by_long, at_row, has_row, more_values, used, with_values, without}
use Rattle.clap.specs.Simple.{Shape, built, filled, with_index}
use Rattle.clap.specs.Kinds.{Kinds, or_else}
use Rattle.clap.specs.Faults.{repeat_fault, use_fault}
use Rattle.clap.specs.Values.{reading_of}
use Rattle.clap.specs.declared.builder.value_parser.ValueParser.TheVariants as vp
use Rattle.clap.specs.declared.parser.matches.ValueSource.TheVariants.{CommandLine}
use Rattle.clap.specs.declared.error.kind.ErrorKind.TheVariants as kind
use Rattle.command_line.specs.Grammar.{Given, Name, the_image, the_command, the_time, the_seed, the_journal, spelled, is_same, has, option_named}
use Rattle.command_line.specs.Lines.{line_app, option_rule, place_rule}

-- ---- rules

abbrev pub shape : Shape
shape = (built line_app).top

abbrev pub rule_at : Name → Rule
rule_at the_image = with_index 1 (filled (place_rule (codes "image")))
rule_at the_command = with_index 2 (filled (place_rule (codes "command")))
rule_at the_time = with_index 3 (filled (option_rule (codes "time") (codes "0")))
rule_at the_seed = with_index 3 (filled (option_rule (codes "seed") (codes "1")))
rule_at the_journal = with_index 3 (filled (option_rule (codes "journal") (codes "262144")))

abbrev pub line_rules : List Rule
line_rules = rule_at the_image ∷ rule_at the_command ∷ rule_at the_time ∷ rule_at the_seed ∷ rule_at the_journal ∷ []

pub by_id : (n : Name) → arg_by_id line_rules (spelled n) ≡ Some (rule_at n)
by_id the_image = refl
by_id the_command = refl
by_id the_time = refl
by_id the_seed = refl
by_id the_journal = refl

pub by_long : (name : Text) → arg_by_long line_rules name ≡ option_map rule_at (option_named name)
by_long name = go (bytes_eq (codes "time") name) (bytes_eq (codes "seed") name) (bytes_eq (codes "journal") name)
  where
    go : (t s j : Bool)
        → (if t || false then Some (rule_at the_time) else if s || false then Some (rule_at the_seed) else if j || false then Some (rule_at the_journal) else None)
        ≡ option_map rule_at (if t then Some the_time else if s then Some the_seed else if j then Some the_journal else None)
    go true s j = refl
    go false true j = refl
    go false false true = refl
    go false false false = refl

-- ---- rows

abbrev pub row : Name × List ℕ → Row
row g = record { id = spelled g.0; values = g.1 ∷ []; count = None; source = Some CommandLine; reading = reading_of vp.String }

pub has_row-given : (n : Name) (given : Given) → has_row (spelled n) (map row given) ≡ has n given
has_row-given n [] = refl
has_row-given n (g ∷ given) = ap (λ (b : Bool). is_same g.0 n || b) (has_row-given n given)

pub at_row-absent : (id : Text) (change : Row → List Row) (missing rows : List Row) → has_row id rows ≡ false → at_row id change missing rows ≡ rows ++ missing
at_row-absent id change missing [] none = refl
at_row-absent id change missing (r ∷ rows) none = go (bytes_eq r.id id) none (at_row-absent id change missing rows)
  where
    go : (b : Bool) → (b || has_row id rows) ≡ false → (has_row id rows ≡ false → at_row id change missing rows ≡ rows ++ missing)
        → (if b then change r ++ rows else r ∷ at_row id change missing rows) ≡ r ∷ (rows ++ missing)
    go true e later = absurd (true≢false e)
    go false e later = ap (λ (rs : List Row). r ∷ rs) (later e)

pub append_none : (rows : List Row) → rows ++ [] ≡ rows
append_none [] = refl
append_none (r ∷ rows) = ap (λ (rs : List Row). r ∷ rs) (append_none rows)

map_more : (given : Given) (g : Name × List ℕ) → map row given ++ row g ∷ [] ≡ map row (given ++ g ∷ [])
map_more [] g = refl
map_more (h ∷ given) g = ap (λ (rs : List Row). row h ∷ rs) (map_more given g)

used_as_row : (n : Name) (v : Text) (rows : List Row) → used (rule_at n) (v ∷ []) rows ≡ with_values (spelled n) (reading_of vp.String) CommandLine (v ∷ []) (without (spelled n) rows)
used_as_row the_image v rows = refl
used_as_row the_command v rows = refl
used_as_row the_time v rows = refl
used_as_row the_seed v rows = refl
used_as_row the_journal v rows = refl

-- a first use of a name is a row behind the others
pub used_first : (n : Name) (v : Text) (given : Given) → has n given ≡ false → used (rule_at n) (v ∷ []) (map row given) ≡ map row (given ++ (n, v) ∷ [])
used_first n v given none =
    let absent = has_row-given n given ∙ none in
    let kept : without (spelled n) (map row given) ≡ map row given = at_row-absent (spelled n) (λ _. []) [] (map row given) absent ∙ append_none (map row given) in
    used_as_row n v (map row given)
    ∙ ap (λ (rows : List Row). with_values (spelled n) (reading_of vp.String) CommandLine (v ∷ []) rows) kept
    ∙ at_row-absent (spelled n) (more_values CommandLine (v ∷ [])) (row (n, v) ∷ []) (map row given) absent
    ∙ map_more given (n, v)

-- ---- what a use is refused for

use_one : (n : Name) (v : Text) (rows : List Row) → use_fault false (rule_at n) (v ∷ []) rows ≡ or_else (repeat_fault false (spelled n) rows) []
use_one the_image v rows = refl
use_one the_command v rows = refl
use_one the_time v rows = refl
use_one the_seed v rows = refl
use_one the_journal v rows = refl

pub use_none : (n : Name) (rows : List Row) → use_fault false (rule_at n) [] rows ≡ kind.InvalidValue ∷ []
use_none the_image rows = refl
use_none the_command rows = refl
use_none the_time rows = refl
use_none the_seed rows = refl
use_none the_journal rows = refl

abbrev pub repeated : Bool → Kinds
repeated b = or_else (if b && true then kind.ArgumentConflict ∷ [] else []) []

pub use_first : (n : Name) (v : Text) (given : Given) → use_fault false (rule_at n) (v ∷ []) (map row given) ≡ repeated (has n given)
use_first n v given = use_one n v (map row given) ∙ ap repeated (has_row-given n given)

-- ---- lists of what is given

pub has_more : (n m : Name) (v : Text) (given : Given) → has n (given ++ (m, v) ∷ []) ≡ (has n given || (is_same m n || false))
has_more n m v [] = refl
has_more n m v (g ∷ given) = ap (λ (b : Bool). is_same g.0 n || b) (has_more n m v given) ∙ go (is_same g.0 n)
  where
    go : (b : Bool) → (b || (has n given || (is_same m n || false))) ≡ ((b || has n given) || (is_same m n || false))
    go true = refl
    go false = refl
