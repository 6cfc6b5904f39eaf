-- What a count says of the used bytes of a directory's record, and of those that an entry more takes.
use Rattle.std.proofs.Common.{◌≡◌, ℕ, ◌<◌, ◌≤◌, Bool, true, false, cond, eqb, List, [], ◌∷◌, drop, All, Option, Some, None, Ok, sym, ap, subst, ◌∙◌, inl, inr, arith}
use Rattle.std.proofs.lemmas.Bool.{cases_lt, lt-ltb, le-ltb}
use Rattle.std.proofs.lemmas.List.Elements.{All-head, All-tail}
use Rattle.disk_model.specs.Content.{Content}
use Rattle.record_model.specs.declared.entry.Entry.{Entry as Raw}
use Rattle.record_model.specs.Nodes.{children_flag, down_flag, entry_length, last_entry, root_at}
use Rattle.record_model.specs.Records.{Record}
use Rattle.record_model.specs.Values.{is_file_name}
use Rattle.record_model.proofs.NodeTables.{root_from_ok}
use Rattle.index_model.specs.declared.key.Key.{Key}
use Rattle.index_model.specs.Trees.{Tree, Leaf, Down, Entry, DownEntry, one_if, raw, raws_of}
use Rattle.index_model.specs.Indexes.{Place}
use Rattle.index_model.specs.Laws.{HoldsIndex}
use Rattle.index_plan.proofs.Fitting.{short_bytes}
use Rattle.index_change.specs.Plans.{has_blocks, bytes_more}
use Rattle.index_change.proofs.Sizing.{short_key}
use Rattle.space_model.specs.Choosing.{with_runs}
use Rattle.volume_model.specs.Volumes.{Volume, cluster_bits, file_in, table_file}
use Rattle.volume_state.specs.Trees.{tree_of}
use Rattle.tree_model.specs.declared.reply.Reply.{Reply}
use Rattle.tree_model.specs.declared.reply.Reply.TheVariants.{RecordFull}
use Rattle.place_makes.specs.made_trees.step_model.Used.{most_used, used_after}
use Rattle.place_makes.specs.made_trees.step_model.Streams.{Changed, index_comes}
use Rattle.place_makes.specs.made_trees.step_model.Placing.{Growth, taken_runs}
use Rattle.place_makes.specs.made_trees.step_model.Plans.{bits_left, full_row, grows_table, spread_comes, spread_used, table_change, table_in}
use Rattle.directory_growth.specs.Growing.{root_bytes}
use Rattle.place_makes.specs.index_grows.Counted.{IsTooFull}
use Rattle.refused_places.specs.Refused.{more_bytes}

-- ---- a row

row_is : (bytes used : ℕ) → full_row (bytes ∷ []) ≡ Some (RecordFull used) → (bytes ≡ used) × (most_used < used)
row_is bytes used is = elim (cases_lt most_used bytes) [
  | inl over ↦
      (let same : Some (RecordFull bytes) ≡ Some (RecordFull used) = sym (ap (λ (b : Bool). cond {A = Option Reply} b (Some (RecordFull bytes)) None) (lt-ltb most_used bytes over)) ∙ is in
      let e : bytes ≡ used = cc in
      (e, omega (arith, over, e)))
  | inr low ↦ (let clash : None ≡ Some (RecordFull used) = sym (ap (λ (b : Bool). cond {A = Option Reply} b (Some (RecordFull bytes)) None) (le-ltb most_used bytes low)) ∙ is in absurd cc)
]

nothing_left : (bits : List Bool) (growths : List Growth) → growths ≡ [] → with_runs (taken_runs growths) bits ≡ bits
unfolding with_runs
nothing_left bits growths none = ap (λ (l : List Growth). with_runs (taken_runs l) bits) none

-- where some number is spare, the file table takes no cluster
among_all : (c : Content) (v : Volume) (n : ℕ) (r : Record) (x : Tree) (more : ℕ) → grows_table (tree_of c v) ≡ false → spread_comes c v n r x more ≡ index_comes (cluster_bits c v) n r x more
among_all c v n r x more spare =
    let none : (table_change c v).growths ≡ [] = ap (λ (b : Bool). (table_in b (cluster_bits c v) v (file_in v table_file)).growths) spare in
    let all : bits_left c v ≡ cluster_bits c v = nothing_left (cluster_bits c v) (table_change c v).growths none in
    ap (λ (l : List Bool). index_comes l n r x more) all

-- so a step counts as many
pub counted : (c : Content) (v : Volume) (n : ℕ) (r : Record) (x : Tree) (root more used : ℕ) → grows_table (tree_of c v) ≡ false → IsTooFull (cluster_bits c v) r root more used → root ≡ root_bytes x → (spread_used c v n r x more ≡ used) × (most_used < used)
counted c v n r x root more used none full is =
    let row = row_is (used_after (index_comes (cluster_bits c v) n r x more).attrs r) used (full n x is) in
    (ap (λ (d : Changed). used_after d.attrs r) (among_all c v n r x more none) ∙ row.0, row.1)

-- ---- an entry more

flags_in : (t : Tree) (flag : ℕ) → All (λ (e : Raw). down_flag e.down ≡ flag) (raws_of t) → one_if (has_blocks t) ≡ flag
flags_in Leaf flag all = All-head (λ (e : Raw). down_flag e.down ≡ flag) (last_entry None) [] all
flags_in (Down v t) flag all = All-head (λ (e : Raw). down_flag e.down ≡ flag) (last_entry (Some v)) [] all
flags_in (Entry key rest) flag all = flags_in rest flag (All-tail (λ (e : Raw). down_flag e.down ≡ flag) (raw key None) (raws_of rest) all)
flags_in (DownEntry v t key rest) flag all = All-head (λ (e : Raw). down_flag e.down ≡ flag) (raw key (Some v)) (raws_of rest) all

flag_is : (value : List ℕ) (entries : List Raw) (t : Tree) → root_at value ≡ Ok entries → entries ≡ raws_of t → one_if (has_blocks t) ≡ children_flag (drop 0x10 value)
flag_is value entries t read is = flags_in t (children_flag (drop 0x10 value)) (subst (λ (l : List Raw). All (λ (e : Raw). down_flag e.down ≡ children_flag (drop 0x10 value)) l) is (root_from_ok value entries read).holds.flags)

by_flag : (b : Bool) (flag bytes : ℕ) → one_if b ≡ flag → cond b 600 bytes ≡ cond (eqb flag 0) bytes 600
by_flag true flag bytes is = ap (λ (f : ℕ). cond (eqb f 0) bytes 600) is
by_flag false flag bytes is = ap (λ (f : ℕ). cond (eqb f 0) bytes 600) is

-- the root's value tells what an entry more takes
pub more_is : (c : Content) (p : Place) (upper value : List ℕ) (key : Key) (t : Tree) → HoldsIndex c p upper value t → bytes_more key t ≡ more_bytes key value
more_is c p upper value key t holds = by_flag (has_blocks t) (children_flag (drop 0x10 value)) (entry_length (raw key None)) (flag_is value holds.entries t holds.root_read holds.is_index.root_is)

few_of : (b : Bool) (bytes : ℕ) → bytes ≤ 600 → cond b 600 bytes ≤ 600
few_of true bytes low = omega arith
few_of false bytes low = low

pub more_few : (key : Key) (t : Tree) → is_file_name key.value ≡ true → bytes_more key t ≤ 600
more_few key t lawful = few_of (has_blocks t) (entry_length (raw key None)) (short_bytes (raw key None) (short_key key.value lawful))
