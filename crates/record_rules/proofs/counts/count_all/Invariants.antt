use Rattle.std.proofs.Common.{◌≡◌, ℕ, ◌<◌, length, get_or}
use Rattle.record_rules.specs.Counts.{names_at}
use Rattle.state_model.specs.Loads.{table_in}
use Rattle.record_rules.proofs.counts.count_all.Given as goal

-- the names of the files so far are counted
abbrev pub invariant-loop-list : goal.invariant-loop-list
invariant-loop-list l = record { size : length l.counts ≡ length l.records; counted : (n : ℕ) → n < length l.records → get_or l.counts n 0 ≡ names_at (table_in l.records) n l.list-index }
