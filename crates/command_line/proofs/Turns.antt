-- One word of `clap`'s walk is one turn of the grammar.
use Rattle.std.proofs.Common.{◌≡◌, ◌∙◌, ap, ap₂, sym, refl, true≢false}
use Rattle.std.specs.Prelude.{ℕ, suc, Bool, true, false, not, ◌&&◌, ◌||◌, ◌==◌, if◌then◌else◌, List, [], ◌∷◌, ◌++◌, length, map, Option, Some, None, option_map, slice_get, Ok, Err}
use Rattle.std.specs.Option.{option_map_or}
use Rattle.std.specs.Str.{bytes_eq, chars}
use Rattle.clap.specs.Lexer.{long_of, short_of}
use Rattle.clap.specs.Walk.{Held, Row, Rule, Step, Text, Waiting, Walk, after_step, arg_by_index, idle, option, is_pending, long_met, long_or_other, plain_word, settled, short_or_plain, subcommand_met, subcommand_or_other, takes_several, to_positional, positional, positional_held, pushed, option_met, Outcome, after_flag, trailing, used_by_id, value, walked, word_met}
use Rattle.clap.specs.Kinds.{Kinds, or_else}
use Rattle.clap.specs.Faults.{bundle_fault, bundle_step_fault, option_fault, flag_word_fault, flags_fault, long_fault, other_fault, positional_fault, settle_fault, step_fault, stray_fault, turn_fault, use_fault, word_fault}
use Rattle.clap.specs.declared.error.kind.ErrorKind.TheVariants as kind
use Rattle.command_line.specs.declared.fault.LineFault.TheVariants.{NoLine}
use Rattle.command_line.specs.Grammar.{Given, Name, the_image, the_command, the_time, the_seed, the_journal, spelled, has, option_named, with_word}
use Rattle.command_line.proofs.Lexing.{hyphens}
use Rattle.command_line.proofs.Rows.{by_id, by_long, has_more, line_rules, repeated, row, rule_at, shape, use_first, use_none, used_first}

abbrev pub is_none : Kinds → Bool
is_none [] = true
is_none (k ∷ ks) = false

pub first_fails : (a b : Kinds) → is_none a ≡ false → is_none (or_else a b) ≡ false
first_fails [] b e = absurd (true≢false e)
first_fails (k ∷ a) b e = refl

pub then_fails : (a b : Kinds) → a ≡ [] → is_none b ≡ false → is_none (or_else a b) ≡ false
then_fails a b e f = ap (λ (x : Kinds). is_none (or_else x b)) e ∙ f

-- ---- where the walk stands

abbrev pub standing : Held → Waiting → ℕ → Bool → Walk
standing h waiting position is_trailing = record { held = h; waiting = waiting; position = position; is_trailing = is_trailing; stopped = None }

none_met : (waiting : Waiting) (word : Text) → subcommand_met [] waiting word ≡ None
none_met idle word = refl
none_met (option id) word = refl
none_met positional word = refl

-- a word before `--` is refused for the first, and means the second
module _ (h : Held) (waiting : Waiting) (position : ℕ) (word : Text) where
  abbrev pub word_refused : Kinds
  word_refused = word_fault shape [] false waiting word h

  abbrev pub word_means : Held × Step
  word_means = word_met line_rules [] false waiting position word h

  pub refused_by : (b : Bool) (o : Option (Text × Option Text)) → bytes_eq word hyphens ≡ b → long_of word ≡ o
      → word_refused ≡ (if b then [] else flag_word_fault line_rules false o word h)
  refused_by b o e f = ap (λ (s : Option Text). other_fault shape s word h) (none_met waiting word)
      ∙ ap₂ (λ (c : Bool) (l : Option (Text × Option Text)). if c then [] else flag_word_fault line_rules false l word h) e f

  pub means_by : (b : Bool) (o : Option (Text × Option Text)) → bytes_eq word hyphens ≡ b → long_of word ≡ o
      → word_means ≡ (if b then (h, trailing position) else long_or_other line_rules waiting word o h)
  means_by b o e f = ap (λ (s : Option Text). subcommand_or_other line_rules s waiting position word h) (none_met waiting word)
      ∙ ap₂ (λ (c : Bool) (l : Option (Text × Option Text)). if c then (h, trailing position) else long_or_other line_rules waiting word l h) e f

  pub turn_refused : (f : Kinds) (m : Held × Step) → word_refused ≡ f → word_means ≡ m
      → turn_fault shape [] (standing h waiting position false) word ≡ or_else f (step_fault shape position m.0 m.1)
  turn_refused f m e g = ap₂ (λ (k : Kinds) (n : Held × Step). or_else k (step_fault shape position n.0 n.1)) e g

  pub turn_walked : (m : Held × Step) → word_means ≡ m → walked line_rules [] (standing h waiting position false) word ≡ after_step line_rules word (standing h waiting position false) m.0 m.1
  unfolding walked
  turn_walked m g = ap (λ (n : Held × Step). after_step line_rules word (standing h waiting position false) n.0 n.1) g

  pub refused_plain : bytes_eq word hyphens ≡ false → long_of word ≡ None → short_of word ≡ None → word_refused ≡ []
  refused_plain e f g = refused_by false None e f ∙ ap (λ (o : Option Text). option_map_or (λ (flags : Text). bundle_fault line_rules false flags h) o []) g

  pub means_plain : bytes_eq word hyphens ≡ false → long_of word ≡ None → short_of word ≡ None → word_means ≡ plain_word line_rules waiting word h
  means_plain e f g = means_by false None e f ∙ ap (λ (o : Option Text). short_or_plain line_rules waiting word o h) g

  pub refused_short : (flags : Text) → bytes_eq word hyphens ≡ false → long_of word ≡ None → short_of word ≡ Some flags → word_refused ≡ bundle_fault line_rules false flags h
  refused_short flags e f g = refused_by false None e f ∙ ap (λ (o : Option Text). option_map_or (λ (t : Text). bundle_fault line_rules false t h) o []) g

  -- a word that is refused
  pub turn_fails : (f : Kinds) → word_refused ≡ f → is_none f ≡ false → is_none (turn_fault shape [] (standing h waiting position false) word) ≡ false
  turn_fails f e bad = first_fails word_refused (step_fault shape position word_means.0 word_means.1) (ap is_none e ∙ bad)

-- no option has a short name
pub short_fails : (h : Held) (flags : Text) (x k : ℕ) → h.skip ≡ 0 → slice_get (chars flags) 0 ≡ Some x → length flags ≡ suc k
    → bundle_fault line_rules false flags h ≡ kind.UnknownArgument ∷ []
unfolding flags_fault
short_fails h flags x k e f g =
    ap₂ (λ (n skip : ℕ). flags_fault line_rules false n flags skip (record h { skip = 0 })) g e
    ∙ ap (λ (o : Option ℕ). bundle_step_fault line_rules false o flags 0 (record h { skip = 0 }) (flags_fault line_rules false k)) f

pub long_fault-named : (n : Name) (v : Option Text) (h : Held) → long_fault line_rules false (Some (rule_at n)) v h ≡ option_fault line_rules false (rule_at n) v h
long_fault-named the_image v h = refl
long_fault-named the_command v h = refl
long_fault-named the_time v h = refl
long_fault-named the_seed v h = refl
long_fault-named the_journal v h = refl

long_met-named : (n : Name) (v : Option Text) (h : Held) → long_met line_rules (Some (rule_at n)) v h ≡ option_met line_rules (rule_at n) v h
long_met-named the_image v h = refl
long_met-named the_command v h = refl
long_met-named the_time v h = refl
long_met-named the_seed v h = refl
long_met-named the_journal v h = refl

pub id_at : (n : Name) → (rule_at n).id ≡ spelled n
id_at the_image = refl
id_at the_command = refl
id_at the_time = refl
id_at the_seed = refl
id_at the_journal = refl

one_value : (n : Name) → takes_several (rule_at n) ≡ false
one_value the_image = refl
one_value the_command = refl
one_value the_time = refl
one_value the_seed = refl
one_value the_journal = refl

-- what `clap` makes of `--NAME` and `--NAME=VALUE`
pub long_refused : (h : Held) (waiting : Waiting) (position : ℕ) (word name : Text) (v : Option Text) (o : Option Name) → bytes_eq word hyphens ≡ false → long_of word ≡ Some (name, v)
    → option_named name ≡ o → word_refused h waiting position word ≡ long_fault line_rules false (option_map rule_at o) v h
long_refused h waiting position word name v o e f g =
    refused_by h waiting position word false (Some (name, v)) e f ∙ ap (λ (a : Option Rule). long_fault line_rules false a v h) (by_long name ∙ ap (option_map rule_at) g)

pub long_means : (h : Held) (waiting : Waiting) (position : ℕ) (word name : Text) (v : Option Text) (n : Name) → bytes_eq word hyphens ≡ false → long_of word ≡ Some (name, v)
    → option_named name ≡ Some n
    → word_means h waiting position word ≡ after_flag line_rules waiting word (option_met line_rules (rule_at n) v h).0 (option_met line_rules (rule_at n) v h).1
long_means h waiting position word name v n e f g =
    means_by h waiting position word false (Some (name, v)) e f
    ∙ ap (λ (m : Held × Outcome). after_flag line_rules waiting word m.0 m.1)
    (ap (λ (a : Option Rule). long_met line_rules a v h) (by_long name ∙ ap (option_map rule_at) g) ∙ long_met-named n v h)

-- ---- what is held

abbrev pub held_plain : Given → Held
held_plain given = record { rows = map row given; pending = None; skip = 0 }

abbrev pub held_one : Given → Name → Text → Held
held_one done n v = record { rows = map row done; pending = Some (spelled n, v ∷ []); skip = 0 }

abbrev pub held_wait : Given → Name → Held
held_wait given n = record { rows = map row given; pending = Some (spelled n, []); skip = 0 }

-- what is held comes to what was given
pub record Settles (h : Held) (given : Given) : Type 0 where
  pub passes : settle_fault line_rules false h ≡ []
  pub leaves : settled line_rules h ≡ held_plain given

pub settles_plain : (given : Given) → Settles (held_plain given) given
settles_plain given = record { passes = refl; leaves = refl }

pub settles_one : (done : Given) (n : Name) (v : Text) → has n done ≡ false → Settles (held_one done n v) (done ++ (n, v) ∷ [])
settles_one done n v absent = record {
  passes = ap (λ (o : Option Rule). option_map_or (λ (a : Rule). use_fault false a (v ∷ []) (map row done)) o []) (by_id n) ∙ use_first n v done ∙ ap repeated absent;
  leaves = ap (λ (o : Option Rule). as_held (used_by_id o (v ∷ []) (map row done))) (by_id n) ∙ ap as_held (used_first n v done absent);
}
  where
    as_held : List Row → Held
    as_held rows = record { rows = rows; pending = None; skip = 0 }

abbrev pub Bad : Held → Type 0
Bad h = is_none (settle_fault line_rules false h) ≡ false

pub bad_wait : (given : Given) (n : Name) → Bad (held_wait given n)
bad_wait given n = ap (λ (o : Option Rule). is_none (option_map_or (λ (a : Rule). use_fault false a [] (map row given)) o [])) (by_id n) ∙ ap is_none (use_none n (map row given))

pub bad_twice : (done : Given) (n : Name) (v : Text) → has n done ≡ true → Bad (held_one done n v)
bad_twice done n v twice =
    ap (λ (o : Option Rule). is_none (option_map_or (λ (a : Rule). use_fault false a (v ∷ []) (map row done)) o [])) (by_id n)
    ∙ ap is_none (use_first n v done ∙ ap repeated twice)

-- ---- a word that goes by its place

and_false : (b : Bool) → (b && false) ≡ false
and_false true = refl
and_false false = refl

or_false : (b : Bool) → (b || false) ≡ b
or_false true = refl
or_false false = refl

not_same : (n : Name) (h : Held) → (is_pending (rule_at n) h.pending && takes_several (rule_at n)) ≡ false
not_same n h = ap (λ (b : Bool). is_pending (rule_at n) h.pending && b) (one_value n) ∙ and_false (is_pending (rule_at n) h.pending)

place_fault : (n : Name) (h : Held) → positional_fault line_rules false (rule_at n) h ≡ settle_fault line_rules false h
place_fault n h = ap (λ (b : Bool). if b then [] else settle_fault line_rules false h) (not_same n h)

place_held : (n : Name) (word : Text) (h : Held) → positional_held line_rules (rule_at n) word h ≡ pushed (rule_at n).id word (settled line_rules h)
place_held n word h = ap (λ (b : Bool). pushed (rule_at n).id word (if b then h else settled line_rules h)) (not_same n h)

pub bad_place : (h : Held) (position : ℕ) → Bad h → is_none (step_fault shape position h value) ≡ false
bad_place h position bad = go (1 == position) (2 == position)
  where
    go : (a b : Bool)
        → is_none (option_map_or (λ (r : Rule). positional_fault line_rules false r h)
        (if a then Some (rule_at the_image) else if b then Some (rule_at the_command) else None) (stray_fault shape)) ≡ false
    go true b = ap is_none (place_fault the_image h) ∙ bad
    go false true = ap is_none (place_fault the_command h) ∙ bad
    go false false = refl

abbrev pub place_number : Given → ℕ
place_number given = if not (has the_image given) then 1 else if not (has the_command given) then 2 else 3

-- the command stands behind the image
abbrev pub InOrder : Given → Type 0
InOrder given = has the_image given ≡ false → has the_command given ≡ false

pub place_by : (given : Given) (a b : Bool) → has the_image given ≡ a → has the_command given ≡ b → place_number given ≡ (if not a then 1 else if not b then 2 else 3)
place_by given a b e f = ap₂ (λ (i c : Bool). if not i then 1 else if not c then 2 else 3) e f

pub data Placed (t : Bool) (h : Held) (given : Given) (word : Text) : Type 0 where
  placed : (n : Name) → with_word word given ≡ Ok (given ++ (n, word) ∷ []) → has n given ≡ false → InOrder (given ++ (n, word) ∷ [])
      → step_fault shape (place_number given) h value ≡ []
      → to_positional line_rules (arg_by_index line_rules (place_number given)) word (standing h idle (place_number given) t) h
      ≡ standing (held_one given n word) idle (place_number (given ++ (n, word) ∷ [])) t
      → Placed t h given word
  stray : with_word word given ≡ Err NoLine → is_none (step_fault shape (place_number given) h value) ≡ false → Placed t h given word

with_by : (given : Given) (word : Text) (a b : Bool) → has the_image given ≡ a → has the_command given ≡ b
    → with_word word given ≡ (if not a then if a then Err NoLine else Ok (given ++ (the_image, word) ∷ []) else if not b then if b then Err NoLine else Ok (given ++ (the_command, word) ∷ []) else Err NoLine)
with_by given word a b e f =
    ap₂ (λ (i c : Bool). if not i then if i then Err NoLine else Ok (given ++ (the_image, word) ∷ []) else if not c then if c then Err NoLine else Ok (given ++ (the_command, word) ∷ []) else Err NoLine) e f

pub place : (t : Bool) (h : Held) (given : Given) (word : Text) → Settles h given → InOrder given → Placed t h given word
place t h given word settles order = go (has the_image given) (has the_command given) refl refl
  where
    moved : ℕ → Walk
    moved p = to_positional line_rules (arg_by_index line_rules p) word (standing h idle p t) h

    go : (a b : Bool) → has the_image given ≡ a → has the_command given ≡ b → Placed t h given word
    go false b e f =
        let f2 = order e in
        let at = place_by given false false e f2 in
        let image_in = has_more the_image the_image word given ∙ ap (λ (x : Bool). x || true) e in
        let command_in = has_more the_command the_image word given ∙ ap (λ (x : Bool). x || false) f2 in
        let after = place_by (given ++ (the_image, word) ∷ []) true false image_in command_in in
        placed the_image (with_by given word false false e f2) e (λ none. absurd (true≢false (sym image_in ∙ none)))
        (ap (λ (p : ℕ). step_fault shape p h value) at ∙ place_fault the_image h ∙ settles.passes)
        (ap moved at
        ∙ ap₂ (λ (g : Held) (u : Bool). standing g idle 2 u) (place_held the_image word h ∙ ap (λ (g : Held). pushed (spelled the_image) word g) settles.leaves) (or_false t)
        ∙ ap (λ (p : ℕ). standing (held_one given the_image word) idle p t) (sym after))
    go true false e f =
        let at = place_by given true false e f in
        let image_in = has_more the_image the_command word given ∙ ap (λ (x : Bool). x || false) e in
        let command_in = has_more the_command the_command word given ∙ ap (λ (x : Bool). x || true) f in
        let after = place_by (given ++ (the_command, word) ∷ []) true true image_in command_in in
        placed the_command (with_by given word true false e f) f (λ none. absurd (true≢false (sym image_in ∙ none)))
        (ap (λ (p : ℕ). step_fault shape p h value) at ∙ place_fault the_command h ∙ settles.passes)
        (ap moved at
        ∙ ap₂ (λ (g : Held) (u : Bool). standing g idle 3 u) (place_held the_command word h ∙ ap (λ (g : Held). pushed (spelled the_command) word g) settles.leaves) (or_false t)
        ∙ ap (λ (p : ℕ). standing (held_one given the_command word) idle p t) (sym after))
    go true true e f =
        stray (with_by given word true true e f) (ap (λ (p : ℕ). is_none (step_fault shape p h value)) (place_by given true true e f))
