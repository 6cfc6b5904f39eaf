-- The clusters that a table that grows takes of what is free.
use Rattle.std.proofs.Common.{◌≡◌, ℕ, ◌-◌, ◌<◌, ◌≤◌, Bool, true, false, not, leb, List, [], length, Ok, refl, subst, inl, inr, arith}
use Rattle.std.specs.Prelude.{count_by, nat_le}
use Rattle.std.proofs.lemmas.Bool.{cases_lt, both_ways, leb-true}
use Rattle.std.proofs.lemmas.List.{get_or_past}
use Rattle.host_base.specs.Answers.{◌>>=◌, needs}
use Rattle.record_model.specs.declared.runs.Run.{Run}
use Rattle.record_model.specs.Pairs.{cluster_limit}
use Rattle.bit_set.specs.Bits.{bit}
use Rattle.state_model.specs.declared.stream.Extents.{Extents}
use Rattle.state_model.specs.declared.stream.Stream.{Stream}
use Rattle.state_model.specs.declared.stream.Stream.TheVariants.{Held, Placed}
use Rattle.state_model.specs.Loads.{total_clusters}
use Rattle.volume_model.specs.Owners.{uses}
use Rattle.stream_laws.proofs.Sharing.{uses-none}
use Rattle.stream_laws.specs.Places.{AreApart}
use Rattle.stream_runs.specs.Runs.{last_cluster}
use Rattle.plan_edits.specs.resized_streams.Resizing.{clusters_for}
use Rattle.plan_edits.proofs.resized_streams.Chosen.{chosen_count, total_chosen}
use Rattle.plan_edits.specs.plan_growth.Streams.{MayTake}
use Rattle.plan_edits.proofs.plan_growth.Choosing.{may_be_taken}
use Rattle.draft_growth.specs.declared.table.Table.{Table}
use Rattle.draft_growth.specs.Growing.{behind_records, bitmap_size, IsTable, more_for, numbers_in, space_of, table_clusters, wanted_for}
use Rattle.draft_growth.proofs.Tables.{length-with_runs}
use Rattle.table_edits.specs.Grown.{numbers_runs, table_runs}
use Rattle.table_edits.proofs.Taken.{runs_set, clear_before}

-- ---- there was room

both_ok : (s t : Bool) (a b : ℕ) → (needs {F = ℕ} s a >>= λ _. needs {F = ℕ} t b) ≡ Ok tt → (s ≡ true) × (t ≡ true)
both_ok true true a b is = (refl, refl)
both_ok true false a b is = absurd cc
both_ok false t a b is = absurd cc

-- nothing may always be taken
none_taken : (clusters : ℕ) (bits : List Bool) → MayTake clusters bits []
none_taken clusters bits = record {
  spelled = tt;
  whole = refl;
  inside = refl;
  once = λ x. omega (arith, uses-none x);
  clear = λ x some. absurd (omega (arith, some, uses-none x));
}

past_clear : (bits : List Bool) (x : ℕ) → length bits ≤ x → bit bits x ≡ false
past_clear bits x past = get_or_past bits x false past

module _ (per : ℕ) (bits others : List Bool) (t : Table) (few : length bits ≤ cluster_limit) (free : (x : ℕ) → bit bits x ≡ false → bit others x ≡ false) (space : space_of per bits t ≡ Ok tt) (stands : IsTable (length bits) t) where
  abbrev own : List Run
  own = table_runs bits t

  abbrev behind : List Bool
  behind = behind_records bits t

  room : (leb table_clusters (count_by not bits) ≡ true) × (leb (wanted_for per (bitmap_size t) (numbers_in per bits t)) (count_by not behind) ≡ true)
  room = both_ok (nat_le table_clusters (count_by not bits)) (nat_le (wanted_for per (bitmap_size t) (numbers_in per bits t)) (count_by not behind)) (count_by not bits) (count_by not behind) space

  pub own_size : total_clusters own ≡ 64
  own_size = total_chosen bits (last_cluster t.extents.runs) table_clusters (leb-true table_clusters (count_by not bits) room.0)

  pub own_taken : MayTake (length bits) others own
  own_taken = may_be_taken bits others (last_cluster t.extents.runs) table_clusters free few (let size = own_size in omega (arith, size))

  long : length behind ≡ length bits
  long = length-with_runs own bits

  was_clear : (x : ℕ) → bit behind x ≡ false → bit bits x ≡ false
  was_clear x clear = elim (cases_lt x (length bits)) [
    | inl low ↦ clear_before own bits x low clear
    | inr past ↦ past_clear bits x past
  ]

  pub numbers_size : (e : Extents) → numbers_in per bits t ≡ Placed e → total_clusters (more_for per (bitmap_size t) behind (Placed e)) ≡ clusters_for per (bitmap_size t) - total_clusters e.runs
  numbers_size e is =
      total_chosen behind (last_cluster e.runs) (clusters_for per (bitmap_size t) - total_clusters e.runs)
      (leb-true (wanted_for per (bitmap_size t) (Placed e)) (count_by not behind) (subst (λ (s : Stream). leb (wanted_for per (bitmap_size t) s) (count_by not behind) ≡ true) is room.1))

  pub own_count : length own ≤ 64
  own_count = chosen_count bits (last_cluster t.extents.runs) table_clusters (leb-true table_clusters (count_by not bits) room.0) few (omega arith)

  pub numbers_count : (e : Extents) → numbers_in per bits t ≡ Placed e → clusters_for per (bitmap_size t) ≤ cluster_limit → length (more_for per (bitmap_size t) behind (Placed e)) ≤ clusters_for per (bitmap_size t) - total_clusters e.runs
  numbers_count e is most =
      chosen_count behind (last_cluster e.runs) (clusters_for per (bitmap_size t) - total_clusters e.runs)
      (leb-true (wanted_for per (bitmap_size t) (Placed e)) (count_by not behind) (subst (λ (s : Stream). leb (wanted_for per (bitmap_size t) s) (count_by not behind) ≡ true) is room.1)) (omega (arith, few, long)) (omega (arith, most))

  by_stream : (s : Stream) → numbers_in per bits t ≡ s → ((e : Extents) → s ≡ Placed e → clusters_for per (bitmap_size t) ≤ cluster_limit) → MayTake (length bits) others (more_for per (bitmap_size t) behind s) × ((x : ℕ) → 0 < uses (more_for per (bitmap_size t) behind s) x → bit behind x ≡ false)
  by_stream (Held value) is fits = (none_taken (length bits) others, λ x some. absurd (omega (arith, some, uses-none x)))
  by_stream (Placed e) is fits =
      let size = numbers_size e is in
      let most = fits e refl in
      let may = may_be_taken behind behind (last_cluster e.runs) (clusters_for per (bitmap_size t) - total_clusters e.runs) (λ x clear. clear) (omega (arith, few, long)) (omega (arith, size, most)) in
      let all = may_be_taken behind others (last_cluster e.runs) (clusters_for per (bitmap_size t) - total_clusters e.runs) (λ x clear. free x (was_clear x clear)) (omega (arith, few, long)) (omega (arith, size, most)) in
      (subst (λ (n : ℕ). MayTake n others (more_for per (bitmap_size t) behind (Placed e))) long all, may.clear)

  pub numbers_taken : ((e : Extents) → numbers_in per bits t ≡ Placed e → clusters_for per (bitmap_size t) ≤ cluster_limit) → MayTake (length bits) others (numbers_runs per bits t)
  numbers_taken fits = (by_stream (numbers_in per bits t) refl fits).0

  -- no cluster is taken for both
  pub both_apart : ((e : Extents) → numbers_in per bits t ≡ Placed e → clusters_for per (bitmap_size t) ≤ cluster_limit) → AreApart own (numbers_runs per bits t)
  both_apart fits x =
      let once_own = own_taken.once x in
      let once_other = (numbers_taken fits).once x in
      elim (cases_lt 0 (uses own x)) [
        | inr none ↦ omega (arith, none, once_other)
        | inl some ↦ elim (cases_lt 0 (uses (numbers_runs per bits t) x)) [
          | inr none ↦ omega (arith, none, once_own)
          | inl other ↦ absurd (both_ways (bit behind x) ((by_stream (numbers_in per bits t) refl fits).1 x other) (runs_set own bits x own_taken.inside some))
        ]
      ]
