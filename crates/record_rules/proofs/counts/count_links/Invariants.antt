use Rattle.std.proofs.Common.{◌≡◌, ℕ, ◌+◌, ◌<◌, length, take, get_or}
use Rattle.record_rules.specs.Counts.{count_at}
use Rattle.state_model.specs.Loads.{table_in}
use Rattle.record_rules.proofs.counts.count_links.Given as goal

-- those so far are counted
abbrev pub invariant-loop-link : goal.invariant-loop-link
invariant-loop-link l = (n : ℕ) → n < length l.fn.counts → get_or l.counts n 0 ≡ get_or l.fn.counts n 0 + count_at (table_in l.records) n (take l.link-index l.links)
