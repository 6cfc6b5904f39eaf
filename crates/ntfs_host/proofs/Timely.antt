-- The time of a run that words ask for is a number of a script.
use Rattle.std.proofs.Common.{◌≡◌, ℕ, ◌^◌, ◌<◌, Bool, true, false, cond, List, Option, Some, None, Result, Ok, Err, refl, ap, arith}
use Rattle.std.specs.Prelude.{nat_lt, not, codes, option_and_then, String}
use Rattle.std.specs.Global.{Global}
use Rattle.std.specs.Str.{bytes_eq}
use Rattle.std.proofs.lemmas.Bool.{ltb-true}
use Rattle.host_base.specs.Answers.{◌>>=◌}
use Rattle.host_base.specs.Numbers.{number_of, number_below, is_decimal, decimal_behind}
use Rattle.command_line.specs.declared.command.Command.{Command}
use Rattle.command_line.specs.declared.command.Command.TheVariants as commands
use Rattle.command_line.specs.declared.fault.LineFault.{LineFault}
use Rattle.command_line.specs.Texts.{Texts, texts_of}
use Rattle.command_line.specs.Commands.{command_named, command_in, command_or, number_in, size_of, is_first, line_in, line_of}
use Rattle.ntfs_host.specs.declared.command.Asked.TheVariants.{Run}
use Rattle.ntfs_host.specs.Words.{asked_by, found, asked_in}

-- what a first step gave, and one behind it
steps_from_ok : {A B F : Type 0} (first : Result A F) (next : A → Result B F) (y : B) → (first >>= next) ≡ Ok y → (x : A) × (first ≡ Ok x) × (next x ≡ Ok y)
steps_from_ok (Ok x) next y e = (x, refl, e)
steps_from_ok (Err f) next y e = absurd cc

-- what a step behind an option has given
step_from_some : {A B : Type 0} (f : A → Option B) (o : Option A) (y : B) → option_and_then f o ≡ Some y → (x : A) × (o ≡ Some x) × (f x ≡ Some y)
step_from_some f (Some x) y is = (x, refl, is)
step_from_some f None y is = absurd cc

below : (n time : ℕ) → number_below n ≡ Some time → time < 2 ^ 62
below n time is = go (nat_lt n (2 ^ 62)) refl is
  where
    go : (t : Bool) → nat_lt n (2 ^ 62) ≡ t → cond t (Some n) None ≡ Some time → time < 2 ^ 62
    go true low e = (let same : n ≡ time = cc in let less = ltb-true n (2 ^ 62) low in omega (arith, same, less))
    go false low e = absurd cc

number_low : (word : List ℕ) (time : ℕ) → number_of word ≡ Some time → time < 2 ^ 62
unfolding number_of
number_low word time is = go (is_decimal word) is
  where
    go : (t : Bool) → cond t (number_below (decimal_behind 0 word)) None ≡ Some time → time < 2 ^ 62
    go true e = below (decimal_behind 0 word) time e
    go false e = absurd cc

-- ---- the command of the texts

named_time : (name : List ℕ) (time seed max t : ℕ) → command_named name time seed max ≡ Some (commands.Run t) → time ≡ t
unfolding command_named
named_time name time seed max t is =
    go (bytes_eq name (codes "scan")) (bytes_eq name (codes "dump")) (bytes_eq name (codes "check")) (bytes_eq name (codes "journal")) (bytes_eq name (codes "format")) (bytes_eq name (codes "enable")) (bytes_eq name (codes "run")) (bytes_eq name (codes "gen")) is
  where
    go : (a b c d e f g h : Bool)
        → cond a (Some commands.Scan) (cond b (Some commands.Dump) (cond c (Some commands.Check) (cond d (Some commands.Journal) (cond e (Some (commands.Format seed time)) (cond f (Some (commands.Enable max time)) (cond g (Some (commands.Run time)) (cond h (Some (commands.Gen seed time)) None))))))) ≡ Some (commands.Run t)
        → time ≡ t
    go true b c d e f g h is = absurd cc
    go false true c d e f g h is = absurd cc
    go false false true d e f g h is = absurd cc
    go false false false true e f g h is = absurd cc
    go false false false false true f g h is = absurd cc
    go false false false false false true g h is = absurd cc
    go false false false false false false true h is = cc
    go false false false false false false false true is = absurd cc
    go false false false false false false false false is = absurd cc

module _ (texts : Texts) (words : List (List ℕ)) where
  abbrev by_max : ℕ → ℕ → ℕ → Option Command
  by_max time seed max = option_and_then (λ name. command_named name time seed max) texts.command

  abbrev by_seed : ℕ → ℕ → Option Command
  by_seed time seed = option_and_then (by_max time seed) (option_and_then size_of texts.journal)

  abbrev by_time : ℕ → Option Command
  by_time time = option_and_then (by_seed time) (number_in texts.seed)

  abbrev by_image : List ℕ → Option Command
  by_image image = cond (not (is_first image words)) None (option_and_then by_time (number_in texts.time))

  timely : (t : ℕ) → option_and_then by_time (number_in texts.time) ≡ Some (commands.Run t) → t < 2 ^ 62
  timely t is =
      let time = step_from_some by_time (number_in texts.time) (commands.Run t) is in
      let seed = step_from_some (by_seed time.0) (number_in texts.seed) (commands.Run t) time.2 in
      let max = step_from_some (by_max time.0 seed.0) (option_and_then size_of texts.journal) (commands.Run t) seed.2 in
      let name = step_from_some (λ (x : List ℕ). command_named x time.0 seed.0 max.0) texts.command (commands.Run t) max.2 in
      let word = step_from_some number_of texts.time time.0 time.1 in
      let low = number_low word.0 time.0 word.2 in
      let same = named_time name.0 time.0 seed.0 max.0 t name.2 in
      omega (arith, low, same)

  in_time : (t : ℕ) → command_in texts words ≡ Some (commands.Run t) → t < 2 ^ 62
  unfolding command_in
  in_time t is = (let image = step_from_some by_image texts.image (commands.Run t) is in by (not (is_first image.0 words)) image.2)
    where
      by : (b : Bool) → cond b None (option_and_then by_time (number_in texts.time)) ≡ Some (commands.Run t) → t < 2 ^ 62
      by true e = absurd cc
      by false e = timely t e

-- ---- the words

named : (c : Option Command) (command : Command) → command_or c ≡ Ok command → c ≡ Some command
named None command is = absurd cc
named (Some c) command is = cc

line_time : (words : List (List ℕ)) (t : ℕ) → line_in words ≡ Ok (commands.Run t) → t < 2 ^ 62
unfolding line_in
line_time words t is =
    let texts = steps_from_ok (texts_of words) (λ x. command_or (command_in x words)) (commands.Run t) is in
    in_time texts.0 words t (named (command_in texts.0 words) (commands.Run t) texts.2)

found_is : (r : Result Command LineFault) (command : Command) → found r ≡ Some command → r ≡ Ok command
found_is (Ok c) command is = cc
found_is (Err fault) command is = absurd cc

asked_run : (c : Option Command) (t : ℕ) → asked_by c ≡ Run t → c ≡ Some (commands.Run t)
asked_run (Some commands.Scan) t is = absurd cc
asked_run (Some commands.Dump) t is = absurd cc
asked_run (Some commands.Check) t is = absurd cc
asked_run (Some commands.Journal) t is = absurd cc
asked_run (Some (commands.Format seed time)) t is = absurd cc
asked_run (Some (commands.Run time)) t is = (let same : time ≡ t = cc in ap (λ (n : ℕ). Some (commands.Run n)) same)
asked_run (Some (commands.Enable max time)) t is = absurd cc
asked_run (Some (commands.Gen seed time)) t is = absurd cc
asked_run None t is = absurd cc

pub asked_early : (words : List (String Global)) (t : ℕ) → asked_in words ≡ Run t → t < 2 ^ 62
asked_early words t is = line_time _ t (found_is (line_of words) (commands.Run t) (asked_run _ t is))
