-- The command line as `clap` sees it.
use Rattle.std.specs.Prelude.{ℕ, List, [], ◌∷◌, codes, Some, true}
use Rattle.clap.specs.Words.{App, Rule, new_app, new_rule, with_rule}
use Rattle.clap.specs.Words.{first_value, found_of}
use Rattle.clap.specs.Simple.{on_top}
use Rattle.clap.specs.declared.parser.matches.ArgMatches.{ArgMatches}
use Rattle.command_line.specs.Texts.{Texts}

-- a word that goes by its place
abbrev pub place_rule : List ℕ → Rule
place_rule name = record (new_rule name) { required = true }

-- an option with its default
abbrev pub option_rule : List ℕ → List ℕ → Rule
option_rule name default = record (new_rule name) { long = Some name; defaults = default ∷ [] }

-- neither `--help` nor `--version` is an option
abbrev pub bare_app : App
bare_app = on_top (λ s. record s { disable_help_flag = true; disable_version_flag = true }) (new_app (codes "ntfshost"))

-- two words by their places and three options
abbrev pub line_app : App
line_app =
    with_rule (with_rule (with_rule (with_rule (with_rule bare_app (place_rule (codes "image"))) (place_rule (codes "command")))
    (option_rule (codes "time") (codes "0"))) (option_rule (codes "seed") (codes "1"))) (option_rule (codes "journal") (codes "262144"))

-- the texts that `clap` found
abbrev pub found_texts : ArgMatches → Texts
found_texts matches = record {
  image = first_value (found_of matches) (codes "image");
  command = first_value (found_of matches) (codes "command");
  time = first_value (found_of matches) (codes "time");
  seed = first_value (found_of matches) (codes "seed");
  journal = first_value (found_of matches) (codes "journal");
}
