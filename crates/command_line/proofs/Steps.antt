-- Each word is a turn: `clap`'s walk and the grammar go on together, or both refuse.
use Rattle.std.proofs.Common.{◌≡◌, ◌∙◌, ap, ap₂, sym, refl, subst}
use Rattle.std.specs.Prelude.{ℕ, Bool, true, false, ◌||◌, if◌then◌else◌, List, [], ◌∷◌, ◌++◌, map, codes, fold, option_map, IfSome, Option, Some, None, Result, Ok, Err}
use Rattle.std.specs.Str.{IsUtf8, bytes_eq}
use Rattle.host_base.specs.Answers.{◌>>=◌}
use Rattle.clap.specs.Lexer.{long_of}
use Rattle.clap.specs.Walk.{Held, Row, Rule, Text, Waiting, Walk, arg_by_index, idle, next, option, option_word, reacted, settled, to_positional, used, value, walked}
use Rattle.clap.specs.Kinds.{Kinds, or_else}
use Rattle.clap.specs.Faults.{long_fault, settle_fault, step_fault, turn_fault, use_fault, walk_fault}
use Rattle.command_line.specs.declared.fault.LineFault.{LineFault}
use Rattle.command_line.specs.declared.fault.LineFault.TheVariants.{NoLine, Memory}
use Rattle.command_line.specs.Grammar.{Form, Given, Name, Next, State, the_image, the_command, the_time, the_seed, the_journal, spelled, is_same, has, option_named, with_value, with_word, any_word, value_of, placed_word, then_any, then_word, at_any, at_option, at_value, form_of, given_from, turn}
use Rattle.command_line.proofs.Lexing.{Lex, lex, lex_plain, lex_closing, lex_long, lex_short}
use Rattle.command_line.proofs.Rows.{by_id, has_more, line_rules, repeated, row, rule_at, shape, use_first, used_first}
use Rattle.command_line.proofs.Turns.{Bad, InOrder, Placed, Settles, bad_place, bad_twice, bad_wait, first_fails, held_one, held_plain, held_wait, id_at, is_none, long_fault-named, long_means, long_refused, means_by, means_plain, place, place_by, place_number, placed, refused_by, refused_plain, refused_short, settles_one, settles_plain, short_fails, standing, stray, turn_fails, turn_refused, turn_walked, word_means}

-- ---- the walk over all words

abbrev pub walk_rest : Walk → List Text → Walk
walk_rest w words = fold (walked line_rules []) w words

abbrev pub walk_faults : Walk → List Text → Kinds
walk_faults w words = or_else (walk_fault shape [] w words) (settle_fault line_rules false (walk_rest w words).held)

abbrev pub AllText : List Text → Type 0
AllText [] = Unit {0}
AllText (word ∷ words) = IsUtf8 word × AllText words

-- the words are refused, or their rows are what is given
abbrev pub Agrees : Kinds → List Row → Result Given LineFault → Type 0
Agrees kinds rows (Ok given) = (kinds ≡ []) × (rows ≡ map row given)
Agrees kinds rows (Err NoLine) = is_none kinds ≡ false
Agrees kinds rows (Err Memory) = ⊥

none_left : (w : Walk) → walk_fault shape [] w [] ≡ []
unfolding walk_fault
none_left w = refl

one_more : (w : Walk) (word : Text) (words : List Text) → walk_fault shape [] w (word ∷ words) ≡ or_else (turn_fault shape [] w word) (walk_fault shape [] (walked line_rules [] w word) words)
unfolding walk_fault
one_more w word words = refl

faults_more : (w : Walk) (word : Text) (words : List Text) → walk_faults w (word ∷ words)
    ≡ or_else (or_else (turn_fault shape [] w word) (walk_fault shape [] (walked line_rules [] w word) words)) (settle_fault line_rules false (walk_rest (walked line_rules [] w word) words).held)
faults_more w word words = ap (λ (k : Kinds). or_else k (settle_fault line_rules false (walk_rest (walked line_rules [] w word) words).held)) (one_more w word words)

-- a turn that fails fails the walk
fails_now : (w : Walk) (word : Text) (words : List Text) → is_none (turn_fault shape [] w word) ≡ false → is_none (walk_faults w (word ∷ words)) ≡ false
fails_now w word words bad = ap is_none (faults_more w word words) ∙ first_fails _ _ (first_fails _ _ bad)

fails_later : (w after : Walk) (word : Text) (words : List Text) → walked line_rules [] w word ≡ after → is_none (walk_faults after words) ≡ false → is_none (walk_faults w (word ∷ words)) ≡ false
fails_later w after word words is bad =
    ap is_none (faults_more w word words)
    ∙ go (turn_fault shape [] w word) (walk_fault shape [] (walked line_rules [] w word) words) (settle_fault line_rules false (walk_rest (walked line_rules [] w word) words).held)
    (ap (λ (v : Walk). is_none (walk_faults v words)) is ∙ bad)
  where
    go : (a b c : Kinds) → is_none (or_else b c) ≡ false → is_none (or_else (or_else a b) c) ≡ false
    go [] b c e = e
    go (k ∷ a) b c e = refl

goes_on : (w after : Walk) (word : Text) (words : List Text) → turn_fault shape [] w word ≡ [] → walked line_rules [] w word ≡ after → walk_faults w (word ∷ words) ≡ walk_faults after words
goes_on w after word words none is =
    faults_more w word words
    ∙ ap (λ (k : Kinds). or_else (or_else k (walk_fault shape [] (walked line_rules [] w word) words)) (settle_fault line_rules false (walk_rest (walked line_rules [] w word) words).held)) none
    ∙ ap (λ (v : Walk). walk_faults v words) is

-- ---- walks that are refused, whatever follows

abbrev pub Doomed : Walk → Type 0
Doomed w = (words : List Text) → AllText words → is_none (walk_faults w words) ≡ false

at_end : (w : Walk) → Bad w.held → is_none (walk_faults w []) ≡ false
at_end w bad = ap (λ (k : Kinds). is_none (or_else k (settle_fault line_rules false w.held))) (none_left w) ∙ bad

doomed_behind : (h : Held) (waiting : Waiting) (position : ℕ) → Bad h → Doomed (standing h waiting position true)
doomed_behind h waiting position bad [] texts = at_end _ bad
doomed_behind h waiting position bad (word ∷ words) texts = fails_now _ word words (bad_place h position bad)

bad_long : (h : Held) (name : Text) (v : Option Text) (o : Option Name) → Bad h → is_none (long_fault line_rules false (option_map rule_at o) v h) ≡ false
bad_long h name v None bad = refl
bad_long h name (Some v) (Some n) bad = ap is_none (long_fault-named n (Some v) h) ∙ first_fails _ _ bad
bad_long h name None (Some n) bad = ap is_none (long_fault-named n None h) ∙ bad

doomed_idle : (h : Held) (position : ℕ) → h.skip ≡ 0 → Bad h → Doomed (standing h idle position false)
doomed_idle h position skip bad [] texts = at_end _ bad
doomed_idle h position skip bad (word ∷ words) texts = go (lex word texts.0)
  where
    go : Lex word → is_none (walk_faults (standing h idle position false) (word ∷ words)) ≡ false
    go (lex_plain form e f g) =
        fails_now _ word words (ap is_none (turn_refused h idle position word [] (h, value) (refused_plain h idle position word e f g) (means_plain h idle position word e f g)) ∙ bad_place h position bad)
    go (lex_closing form e) =
        fails_later _ (standing h idle position true) word words (turn_walked h idle position word _ (means_by h idle position word true _ e refl)) (doomed_behind h idle position bad words texts.1)
    go (lex_long name v form e f) =
        fails_now _ word words (turn_fails h idle position word _ (long_refused h idle position word name v _ e f refl) (bad_long h name v (option_named name) bad))
    go (lex_short x k flags form e f g first long) =
        fails_now _ word words (turn_fails h idle position word _ (refused_short h idle position word flags e f g ∙ short_fails h flags x k skip first long) refl)

-- ---- one turn

abbrev pub next_of : Bool → Next
next_of true = placed_word
next_of false = any_word

-- an option is no word that goes by its place
abbrev pub IsOption : Name → Type 0
IsOption n = (is_same n the_image ≡ false) × (is_same n the_command ≡ false)

pub data At : Type 0 where
  clear : (t : Bool) (h : Held) (given : Given) → Settles h given → InOrder given → At
  waits : (given : Given) (n : Name) → IsOption n → InOrder given → At

abbrev pub walk_at : At → Walk
walk_at (clear t h given settles order) = standing h idle (place_number given) t
walk_at (waits given n is order) = standing (held_wait given n) (option (spelled n)) (place_number given) false

abbrev pub state_at : At → State
state_at (clear t h given settles order) = (next_of t, given)
state_at (waits given n is order) = (value_of n, given)

data Turned (w : Walk) (s : State) (word : Text) : Type 0 where
  refuses : is_none (turn_fault shape [] w word) ≡ false → turn s.0 word s.1 ≡ Err NoLine → Turned w s word
  goes : (a : At) → turn_fault shape [] w word ≡ [] → walked line_rules [] w word ≡ walk_at a → turn s.0 word s.1 ≡ Ok (state_at a) → Turned w s word
  dooms : (after : Walk) → walked line_rules [] w word ≡ after → Doomed after → turn s.0 word s.1 ≡ Err NoLine → Turned w s word

options : (name : Text) → IfSome (option_named name) IsOption
options name = go (bytes_eq (codes "time") name) (bytes_eq (codes "seed") name) (bytes_eq (codes "journal") name)
  where
    go : (t s j : Bool) → IfSome (if t then Some the_time else if s then Some the_seed else if j then Some the_journal else None) IsOption
    go true s j = (refl, refl)
    go false true j = (refl, refl)
    go false false true = (refl, refl)
    go false false false = tt

-- an option leaves the places as they were
keeps_image : (given : Given) (n : Name) (v : Text) → IsOption n → has the_image (given ++ (n, v) ∷ []) ≡ has the_image given
keeps_image given n v is = has_more the_image n v given ∙ ap (λ (b : Bool). has the_image given || (b || false)) is.0 ∙ or_none (has the_image given)
  where
    or_none : (b : Bool) → (b || false) ≡ b
    or_none true = refl
    or_none false = refl

keeps_command : (given : Given) (n : Name) (v : Text) → IsOption n → has the_command (given ++ (n, v) ∷ []) ≡ has the_command given
keeps_command given n v is = has_more the_command n v given ∙ ap (λ (b : Bool). has the_command given || (b || false)) is.1 ∙ or_none (has the_command given)
  where
    or_none : (b : Bool) → (b || false) ≡ b
    or_none true = refl
    or_none false = refl

keeps_place : (given : Given) (n : Name) (v : Text) → IsOption n → place_number given ≡ place_number (given ++ (n, v) ∷ [])
keeps_place given n v is = sym (place_by (given ++ (n, v) ∷ []) _ _ (keeps_image given n v is) (keeps_command given n v is))

keeps_order : (given : Given) (n : Name) (v : Text) → IsOption n → InOrder given → InOrder (given ++ (n, v) ∷ [])
keeps_order given n v is order none = keeps_command given n v is ∙ order (sym (keeps_image given n v is) ∙ none)

adds : (n : Name) (v : Text) (given : Given) (b : Bool) → has n given ≡ b → with_value n v given ≡ (if b then Err NoLine else Ok (given ++ (n, v) ∷ []))
adds n v given b e = ap (λ (c : Bool). if c then Err NoLine else Ok (given ++ (n, v) ∷ [])) e

-- `--NAME=VALUE`
reacts : (h : Held) (given : Given) (n : Name) (v : Text) → Settles h given → has n given ≡ false → reacted line_rules (rule_at n) (v ∷ []) h ≡ held_plain (given ++ (n, v) ∷ [])
reacts h given n v settles none =
    ap (λ (s : Held). as_held s (used (rule_at n) (v ∷ []) s.rows)) settles.leaves ∙ ap (λ (rows : List Row). as_held (held_plain given) rows) (used_first n v given none)
  where
    as_held : Held → List Row → Held
    as_held s rows = record s { rows = rows; pending = None }

react_refused : (h : Held) (given : Given) (n : Name) (v : Text) (b : Bool) → Settles h given → has n given ≡ b → long_fault line_rules false (Some (rule_at n)) (Some v) h ≡ repeated b
react_refused h given n v b settles e =
    long_fault-named n (Some v) h
    ∙ ap₂ (λ (k : Kinds) (s : Held). or_else k (use_fault false (rule_at n) (v ∷ []) s.rows)) settles.passes settles.leaves
    ∙ use_first n v given ∙ ap repeated e

behind_walked : (h : Held) (given : Given) (word : Text) → walked line_rules [] (standing h idle (place_number given) true) word
    ≡ to_positional line_rules (arg_by_index line_rules (place_number given)) word (standing h idle (place_number given) true) h
unfolding walked
behind_walked h given word = refl

module _ (h : Held) (given : Given) (settles : Settles h given) (order : InOrder given) (word : Text) where
  attached : (name v : Text) (n : Name) (b : Bool) → has n given ≡ b → IsOption n → option_named name ≡ Some n → form_of word ≡ Form.long name (Some v) → bytes_eq word (45 ∷ 45 ∷ []) ≡ false
      → long_of word ≡ Some (name, Some v) → Turned (standing h idle (place_number given) false) (any_word, given) word
  attached name v n true twice is named form e f =
      refuses (turn_fails h idle (place_number given) word _ (long_refused h idle (place_number given) word name (Some v) (Some n) e f named ∙ react_refused h given n v true settles twice) refl)
      (ap (λ (m : Form). at_any m word given) form ∙ ap (λ (o : Option Name). at_option o (Some v) given) named ∙ ap then_any (adds n v given true twice))
  attached name v n false once is named form e f =
      goes (clear false (held_plain (given ++ (n, v) ∷ [])) (given ++ (n, v) ∷ []) (settles_plain _) (keeps_order given n v is order))
      (turn_refused h idle (place_number given) word _ _ (long_refused h idle (place_number given) word name (Some v) (Some n) e f named ∙ react_refused h given n v false settles once)
      (long_means h idle (place_number given) word name (Some v) n e f named))
      (turn_walked h idle (place_number given) word _ (long_means h idle (place_number given) word name (Some v) n e f named)
      ∙ ap₂ (λ (g : Held) (p : ℕ). standing g idle p false) (reacts h given n v settles once) (keeps_place given n v is))
      (ap (λ (m : Form). at_any m word given) form ∙ ap (λ (o : Option Name). at_option o (Some v) given) named ∙ ap then_any (adds n v given false once))

  detached : (name : Text) (n : Name) → IsOption n → option_named name ≡ Some n → form_of word ≡ Form.long name None → bytes_eq word (45 ∷ 45 ∷ []) ≡ false
      → long_of word ≡ Some (name, None) → Turned (standing h idle (place_number given) false) (any_word, given) word
  detached name n is named form e f =
      goes (waits given n is order)
      (turn_refused h idle (place_number given) word _ _ (long_refused h idle (place_number given) word name None (Some n) e f named ∙ long_fault-named n None h ∙ settles.passes)
      (long_means h idle (place_number given) word name None n e f named))
      (turn_walked h idle (place_number given) word _ (long_means h idle (place_number given) word name None n e f named)
      ∙ ap₂ (λ (s : Held) (id : Text). standing (record s { pending = Some (id, []) }) (option id) (place_number given) false) settles.leaves (id_at n))
      (ap (λ (m : Form). at_any m word given) form ∙ ap (λ (o : Option Name). at_option o None given) named)

  named_turn : (name : Text) (v : Option Text) (o : Option Name) → option_named name ≡ o → form_of word ≡ Form.long name v → bytes_eq word (45 ∷ 45 ∷ []) ≡ false
      → long_of word ≡ Some (name, v) → Turned (standing h idle (place_number given) false) (any_word, given) word
  named_turn name v None named form e f =
      refuses (turn_fails h idle (place_number given) word _ (long_refused h idle (place_number given) word name v None e f named) refl)
      (ap (λ (m : Form). at_any m word given) form ∙ ap (λ (o : Option Name). at_option o v given) named)
  named_turn name (Some v) (Some n) named form e f =
      attached name v n (has n given) refl (subst (λ (o : Option Name). IfSome o IsOption) named (options name)) named form e f
  named_turn name None (Some n) named form e f =
      detached name n (subst (λ (o : Option Name). IfSome o IsOption) named (options name)) named form e f

  clear_turn : Lex word → Turned (standing h idle (place_number given) false) (any_word, given) word
  clear_turn (lex_plain form e f g) = go (place false h given word settles order)
    where
      refused_here : turn_fault shape [] (standing h idle (place_number given) false) word ≡ step_fault shape (place_number given) h value
      refused_here = turn_refused h idle (place_number given) word [] (h, value) (refused_plain h idle (place_number given) word e f g) (means_plain h idle (place_number given) word e f g)

      walked_here : walked line_rules [] (standing h idle (place_number given) false) word
          ≡ to_positional line_rules (arg_by_index line_rules (place_number given)) word (standing h idle (place_number given) false) h
      walked_here = turn_walked h idle (place_number given) word (h, value) (means_plain h idle (place_number given) word e f g)

      turn_here : turn any_word word given ≡ then_any (with_word word given)
      turn_here = ap (λ (m : Form). at_any m word given) form

      go : Placed false h given word → Turned (standing h idle (place_number given) false) (any_word, given) word
      go (placed n with absent order2 passes moved) =
          goes (clear false (held_one given n word) (given ++ (n, word) ∷ []) (settles_one given n word absent) order2) (refused_here ∙ passes) (walked_here ∙ moved) (turn_here ∙ ap then_any with)
      go (stray with bad) = refuses (ap is_none refused_here ∙ bad) (turn_here ∙ ap then_any with)
  clear_turn (lex_closing form e) =
      goes (clear true h given settles order)
      (turn_refused h idle (place_number given) word _ _ (refused_by h idle (place_number given) word true _ e refl) (means_by h idle (place_number given) word true _ e refl))
      (turn_walked h idle (place_number given) word _ (means_by h idle (place_number given) word true _ e refl))
      (ap (λ (m : Form). at_any m word given) form)
  clear_turn (lex_long name v form e f) = named_turn name v (option_named name) refl form e f
  clear_turn (lex_short x k flags form e f g first long) =
      refuses (turn_fails h idle (place_number given) word _ (refused_short h idle (place_number given) word flags e f g ∙ short_fails h flags x k (ap (λ (s : Held). s.skip) settles.leaves) first long) refl)
      (ap (λ (m : Form). at_any m word given) form)

  behind_turn : Turned (standing h idle (place_number given) true) (placed_word, given) word
  behind_turn = go (place true h given word settles order)
    where
      walked_here : walked line_rules [] (standing h idle (place_number given) true) word
          ≡ to_positional line_rules (arg_by_index line_rules (place_number given)) word (standing h idle (place_number given) true) h
      walked_here = behind_walked h given word

      go : Placed true h given word → Turned (standing h idle (place_number given) true) (placed_word, given) word
      go (placed n with absent order2 passes moved) =
          goes (clear true (held_one given n word) (given ++ (n, word) ∷ []) (settles_one given n word absent) order2) passes (walked_here ∙ moved) (ap then_word with)
      go (stray with bad) = refuses bad (ap then_word with)

-- the value of an option
value_taken : (n : Name) (given : Given) (word : Text) → option_word (Some (rule_at n)) (spelled n) word (held_wait given n) ≡ (held_one given n word, idle)
value_taken the_image given word = refl
value_taken the_command given word = refl
value_taken the_time given word = refl
value_taken the_seed given word = refl
value_taken the_journal given word = refl

module _ (given : Given) (n : Name) (is : IsOption n) (order : InOrder given) (word : Text) where
  value_turn : Lex word → Turned (standing (held_wait given n) (option (spelled n)) (place_number given) false) (value_of n, given) word
  value_turn (lex_plain form e f g) = go (has n given) refl
    where
      means : word_means (held_wait given n) (option (spelled n)) (place_number given) word ≡ (held_one given n word, next idle)
      means = means_plain (held_wait given n) (option (spelled n)) (place_number given) word e f g
          ∙ ap (λ (m : Held × Waiting). (m.0, next m.1)) (ap (λ (o : Option Rule). option_word o (spelled n) word (held_wait given n)) (by_id n) ∙ value_taken n given word)

      walked_here : walked line_rules [] (standing (held_wait given n) (option (spelled n)) (place_number given) false) word ≡ standing (held_one given n word) idle (place_number given) false
      walked_here = turn_walked (held_wait given n) (option (spelled n)) (place_number given) word _ means

      turn_here : turn (value_of n) word given ≡ then_any (with_value n word given)
      turn_here = ap (λ (m : Form). at_value m n word given) form

      go : (b : Bool) → has n given ≡ b → Turned (standing (held_wait given n) (option (spelled n)) (place_number given) false) (value_of n, given) word
      go true twice = dooms (standing (held_one given n word) idle (place_number given) false) walked_here (doomed_idle (held_one given n word) (place_number given) refl (bad_twice given n word twice))
          (turn_here ∙ ap then_any (adds n word given true twice))
      go false once = goes (clear false (held_one given n word) (given ++ (n, word) ∷ []) (settles_one given n word once) (keeps_order given n word is order))
          (turn_refused (held_wait given n) (option (spelled n)) (place_number given) word _ _ (refused_plain (held_wait given n) (option (spelled n)) (place_number given) word e f g) means)
          (walked_here ∙ ap (λ (p : ℕ). standing (held_one given n word) idle p false) (keeps_place given n word is))
          (turn_here ∙ ap then_any (adds n word given false once))
  value_turn (lex_closing form e) =
      dooms (standing (held_wait given n) (option (spelled n)) (place_number given) true)
      (turn_walked (held_wait given n) (option (spelled n)) (place_number given) word _ (means_by (held_wait given n) (option (spelled n)) (place_number given) word true _ e refl))
      (doomed_behind (held_wait given n) (option (spelled n)) (place_number given) (bad_wait given n))
      (ap (λ (m : Form). at_value m n word given) form)
  value_turn (lex_long name v form e f) =
      refuses (turn_fails (held_wait given n) (option (spelled n)) (place_number given) word _ (long_refused (held_wait given n) (option (spelled n)) (place_number given) word name v _ e f refl)
      (bad_long (held_wait given n) name v (option_named name) (bad_wait given n)))
      (ap (λ (m : Form). at_value m n word given) form)
  value_turn (lex_short x k flags form e f g first long) =
      refuses (turn_fails (held_wait given n) (option (spelled n)) (place_number given) word _ (refused_short (held_wait given n) (option (spelled n)) (place_number given) word flags e f g
      ∙ short_fails (held_wait given n) flags x k refl first long) refl)
      (ap (λ (m : Form). at_value m n word given) form)

one_turn : (a : At) (word : Text) → IsUtf8 word → Turned (walk_at a) (state_at a) word
one_turn (clear false h given settles order) word utf8 = clear_turn h given settles order word (lex word utf8)
one_turn (clear true h given settles order) word utf8 = behind_turn h given settles order word
one_turn (waits given n is order) word utf8 = value_turn given n is order word (lex word utf8)

-- ---- all words

abbrev pub walk_agrees : At → List Text → Type 0
walk_agrees a words = Agrees (walk_faults (walk_at a) words) (settled line_rules (walk_rest (walk_at a) words).held).rows (given_from (state_at a) words)

ends : (a : At) → walk_agrees a []
ends (clear false h given settles order) = (ap (λ (k : Kinds). or_else k (settle_fault line_rules false h)) (none_left _) ∙ settles.passes, ap (λ (s : Held). s.rows) settles.leaves)
ends (clear true h given settles order) = (ap (λ (k : Kinds). or_else k (settle_fault line_rules false h)) (none_left _) ∙ settles.passes, ap (λ (s : Held). s.rows) settles.leaves)
ends (waits given n is order) = at_end _ (bad_wait given n)

pub agrees : (words : List Text) (a : At) → AllText words → walk_agrees a words
agrees [] a texts = ends a
agrees (word ∷ words) a texts = go (λ b. agrees words b texts.1) (one_turn a word texts.0)
  where
    fails : is_none (walk_faults (walk_at a) (word ∷ words)) ≡ false → turn (state_at a).0 word (state_at a).1 ≡ Err NoLine → walk_agrees a (word ∷ words)
    fails bad e = subst (λ (r : Result State LineFault). Agrees (walk_faults (walk_at a) (word ∷ words)) (settled line_rules (walk_rest (walk_at a) (word ∷ words)).held).rows (r >>= λ s. given_from s words)) (sym e) bad

    go : ((b : At) → walk_agrees b words) → Turned (walk_at a) (state_at a) word → walk_agrees a (word ∷ words)
    go later (refuses bad e) = fails (fails_now (walk_at a) word words bad) e
    go later (dooms w is doomed e) = fails (fails_later (walk_at a) w word words is (doomed words texts.1)) e
    go later (goes b none is e) =
        subst (λ (r : Result State LineFault). Agrees (walk_faults (walk_at a) (word ∷ words)) (settled line_rules (walk_rest (walk_at a) (word ∷ words)).held).rows (r >>= λ s. given_from s words)) (sym e)
        (subst (λ (k : Kinds). Agrees k (settled line_rules (walk_rest (walk_at a) (word ∷ words)).held).rows (given_from (state_at b) words)) (sym (goes_on (walk_at a) (walk_at b) word words none is))
        (subst (λ (w : Walk). Agrees (walk_faults (walk_at b) words) (settled line_rules (walk_rest w words).held).rows (given_from (state_at b) words)) (sym is) (later b)))
