-- What the two restart pages of a log say.
use Rattle.std.specs.Prelude.{ℕ, ◌+◌, ◌^◌, ◌==◌, ◌&&◌, not, nat_le, if◌then◌else◌, List, Option, Some, None, is_some, Result, Ok}
use Rattle.disk_model.specs.host_base.Answers.{◌>>=◌, needs}
use Rattle.log_page.specs.declared.restart.Restart.{Restart}
use Rattle.log_page.specs.Restarts.{restart_of, chosen, is_second_chosen, is_blank, is_emptied}
use Rattle.log_reading.specs.declared.fault.LogRefusal.{LogRefusal}
use Rattle.log_reading.specs.declared.fault.LogRefusal.TheVariants.{LogVersion, NoRestart}
use Rattle.log_reading.specs.declared.front.RestartFront.{RestartFront}

-- the chosen one of the restart pages that stand on the disk like this
abbrev pub chosen_in : List ℕ → List ℕ → Option Restart
chosen_in first second = chosen (restart_of first) (restart_of second)

-- where the next restart page goes: the place that isn't the chosen page's; in an emptied log the second one where the first alone is all FF
unfoldable pub next_restart : List ℕ → List ℕ → ℕ
next_restart first second =
    if is_some (chosen_in first second)
    then (if is_second_chosen (restart_of first) (restart_of second) then 0 else 1)
    else (if is_blank first && not (is_blank second) then 1 else 0)

-- one more than the chosen page's open count, or 0 where that is 2^31 or more or there is none
abbrev pub next_opens : Option Restart → ℕ
next_opens (Some r) = if nat_le (2 ^ 31) r.opens then 0 else r.opens + 1
next_opens None = 0

-- of version 1 where a page is chosen, and emptied where none is
abbrev pub is_readable : Option Restart → List ℕ → List ℕ → Result (Unit {0}) LogRefusal
is_readable (Some r) first second = needs (r.major == 1) (LogVersion r.major r.minor)
is_readable None first second = needs (is_emptied first second) NoRestart

-- What the first two pages of a log say, or the refusal of its version, or of a log that has no restart page and isn't emptied.
unfoldable pub front_in : List ℕ → List ℕ → Result RestartFront LogRefusal
front_in first second =
    is_readable (chosen_in first second) first second
    >>= λ _. Ok (record { chosen = chosen_in first second; restart = next_restart first second; opens = next_opens (chosen_in first second) })
