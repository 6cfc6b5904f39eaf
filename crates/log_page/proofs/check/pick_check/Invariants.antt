use Rattle.std.proofs.Common.{◌≡◌, ◌-◌, ◌<◌, ◌≤◌, ℕ, true}
use Rattle.log_page.specs.CheckWords.{is_last_word}
use Rattle.log_page.proofs.check.pick_check.Given as goal

abbrev pub invariant-loop-word : goal.invariant-loop-word
invariant-loop-word l = record {
  some : 0 < l.word;
  few : l.word ≤ 9;
  below : (w : ℕ) → 0 < w → w < l.word → is_last_word l.page w ≡ true;
}

abbrev pub decreases-loop-word : goal.decreases-loop-word
decreases-loop-word l = 10 - l.word
