-- The five texts of a command line: its image and its command, and the numbers of its options.
use Rattle.std.specs.Prelude.{ℕ, ◌&&◌, if◌then◌else◌, List, codes, drop, Option, Some, unwrap_or, Result, Ok, Err}
use Rattle.host_base.specs.Answers.{◌>>=◌}
use Rattle.command_line.specs.declared.fault.LineFault.{LineFault}
use Rattle.command_line.specs.declared.fault.LineFault.TheVariants.{NoLine}
use Rattle.command_line.specs.Grammar.{Given, the_image, the_command, the_time, the_seed, the_journal, has, value_in, given_by}

pub record Texts : Type 0 where
  pub image : Option (List ℕ)
  pub command : Option (List ℕ)
  pub time : Option (List ℕ)
  pub seed : Option (List ℕ)
  pub journal : Option (List ℕ)

-- the options have defaults
abbrev pub texts_given : Given → Texts
texts_given given = record {
  image = value_in the_image given;
  command = value_in the_command given;
  time = Some (unwrap_or (value_in the_time given) (codes "0"));
  seed = Some (unwrap_or (value_in the_seed given) (codes "1"));
  journal = Some (unwrap_or (value_in the_journal given) (codes "262144"));
}

-- the image and the command have none
abbrev pub whole_texts : Given → Result Texts LineFault
whole_texts given = if has the_image given && has the_command given then Ok (texts_given given) else Err NoLine

-- the first word is the program's name
unfoldable pub texts_of : List (List ℕ) → Result Texts LineFault
texts_of words = given_by (drop 1 words) >>= whole_texts
