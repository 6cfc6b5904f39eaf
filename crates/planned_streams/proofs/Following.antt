-- Steps of a loop over runs that follow one another.
use Rattle.std.proofs.Common.{ℕ, ◌+◌, ◌<◌, ◌≤◌, List, length, get_or, drop, sym, subst}
use Rattle.record_model.specs.declared.runs.Run.{Run}
use Rattle.record_model.specs.Pairs.{Follow, IsNext}
use Rattle.draft_growth.proofs.stream_runs.Looping.{next_is, none_left}

pub next_there : (runs : List Run) (i n : ℕ) (d : Run) → i < length runs → Follow 0 n (drop i runs) → IsNext 0 n (get_or runs i d) × Follow 0 (n + (get_or runs i d).len) (drop (i + 1) runs)
next_there runs i n d lt follow = subst (Follow 0 n) (next_is runs i d lt) follow

pub next_back : (runs : List Run) (i n : ℕ) (d : Run) → i < length runs → IsNext 0 n (get_or runs i d) → Follow 0 (n + (get_or runs i d).len) (drop (i + 1) runs) → Follow 0 n (drop i runs)
next_back runs i n d lt next behind = subst (Follow 0 n) (sym (next_is runs i d lt)) (next, behind)

pub end_follows : (runs : List Run) (i n : ℕ) → length runs ≤ i → Follow 0 n (drop i runs)
end_follows runs i n le = subst (Follow 0 n) (sym (none_left runs i le)) tt
