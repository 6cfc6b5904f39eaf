-- What a step says of data that stays, leaves, grows, is cut or has other sizes.
use Rattle.std.proofs.Common.{◌≡◌, ℕ, ◌+◌, ◌-◌, ◌<◌, ◌≤◌, suc, Bool, true, false, cond, List, [], ◌∷◌, length, Option, Some, None, Ok, Err, refl, sym, ap, ◌∙◌, subst, inl, inr, arith}
use Rattle.std.specs.Prelude.{not, count_by, nat_le, ◌==◌, ◌&&◌, ◌||◌, if◌then◌else◌}
use Rattle.std.proofs.lemmas.Bool.{cases_lt, lt-ltb, le-ltb, lt-leb, le-leb}
use Rattle.std.proofs.lemmas.Bool.Decides.{nat_tests}
use Rattle.std.proofs.lemmas.List.{take_all}
use Rattle.used_laws.specs.disk_model.Bytes.{up8}
use Rattle.used_laws.specs.record_model.declared.attribute.Attr.{Attr}
use Rattle.used_laws.specs.record_model.declared.runs.Run.{Run}
use Rattle.used_laws.specs.record_model.Attributes.{is_compressed_or_sparse}
use Rattle.used_laws.specs.record_model.Constants.{data_type}
use Rattle.used_laws.specs.record_model.Pairs.{pairs_of}
use Rattle.used_laws.specs.record_model.Records.{Record, used_of}
use Rattle.used_laws.specs.record_writer.Edits.{whole_length}
use Rattle.used_laws.specs.file_tree.declared.node.Node.{Node}
use Rattle.used_laws.specs.state_model.declared.stream.Extents.{Extents}
use Rattle.used_laws.specs.state_model.declared.stream.Stream.{Stream}
use Rattle.used_laws.specs.state_model.declared.stream.Stream.TheVariants.{Held, Placed}
use Rattle.used_laws.specs.state_model.Loads.{total_clusters}
use Rattle.used_laws.specs.state_model.Streams.{attributes_of}
use Rattle.used_laws.specs.tree_model.declared.script.Op.{Op}
use Rattle.used_laws.specs.tree_model.declared.reply.Reply.{Reply}
use Rattle.used_laws.specs.tree_model.declared.reply.Reply.TheVariants.{RecordFull}
use Rattle.used_laws.specs.tree_model.Needs.{size_after, shrinks}
use Rattle.used_laws.specs.tree_model.Effects.{clusters_after}
use Rattle.used_laws.specs.space_model.Choosing.{with_run, run_at, behind, chosen_anywhere, chosen, with_runs}
use Rattle.used_laws.specs.plan_space.Choices.{TakesFirst}
use Rattle.used_laws.specs.stream_laws.Sharing.{runs_in}
use Rattle.used_laws.specs.stream_runs.Runs.{merged, grown, front, last_cluster}
use Rattle.used_laws.specs.record_streams.Placing.{placed_record}
use Rattle.used_laws.specs.resized_streams.declared.resized.Resized.{Resized}
use Rattle.used_laws.specs.resized_streams.Resizing.{lengthened, IsGrown}
use Rattle.used_laws.specs.step_model.Placing.{Growth, more_of, runs_after}
use Rattle.used_laws.specs.step_model.Used.{used_after, own_attr, value_attr, placed_attr, is_in_record, stays_in}
use Rattle.used_laws.specs.step_model.Streams.{Comes, as_value, placed_among, placed_by, in_clusters, comes, wanted_data, is_value_cut, data_comes}
use Rattle.used_laws.specs.step_model.Plans.{full_row}
use Rattle.used_laws.proofs.step_model.NeverFull.{used_bytes}
use Rattle.used_laws.proofs.Lengths.{written_used}
use Rattle.used_laws.proofs.Beside.{one_more, alike, used}
use Rattle.data_plan.specs.declared.change.DataChange.{DataChange}
use Rattle.data_plan.specs.declared.fault.DataFault.{DataFault}
use Rattle.data_plan.specs.declared.fault.DataFault.TheVariants.{Memory}
use Rattle.data_plan.specs.Faults.{IsShortFault, IsRowFault}
use Rattle.data_plan.specs.Changes.{data_in, growth_of, row_of, IsTaken, IsChange, MustLeave, DataAfter}

-- ---- tests

not_zero : (n : ℕ) → 0 < n → (n == 0) ≡ false
not_zero n some = grind (arith, nat_tests)

pub above : (n m : ℕ) → m < n → (n == m) ≡ false
above n m less = grind (arith, nat_tests)

pub below : (n m : ℕ) → n < m → (n == m) ≡ false
below n m less = grind (arith, nat_tests)

pub equal : (n m : ℕ) → n ≡ m → (n == m) ≡ true
equal n m same = grind (arith, nat_tests)

-- ---- rows

pub none_fits : (used : ℕ) → full_row (used ∷ []) ≡ None → used ≤ 1024
none_fits used none = elim (cases_lt 1024 used) [
  | inl over ↦ absurd (let some = sym none ∙ ap (λ (b : Bool). cond b (Some (RecordFull used)) None) (lt-ltb 1024 used over) in cc)
  | inr fits ↦ fits
]

pub fits_none : (used : ℕ) → used ≤ 1024 → full_row (used ∷ []) ≡ None
fits_none used fits = ap (λ (b : Bool). cond b (Some (RecordFull used)) None) (le-ltb 1024 used fits)

pub over_full : (used : ℕ) → 1024 < used → full_row (used ∷ []) ≡ Some (RecordFull used)
over_full used over = ap (λ (b : Bool). cond b (Some (RecordFull used)) None) (lt-ltb 1024 used over)

-- ---- used bytes

-- a value takes its bytes, up to a multiple of 8
pub value_more : (size : ℕ) (a : Attr) (r : Record) → used_after (value_attr size a ∷ []) r ≡ used_after (value_attr 0 a ∷ []) r + up8 size
value_more size a r =
    let more = one_more [] (value_attr size a) r in
    let none = one_more [] (value_attr 0 a) r in
    let long = used_bytes.value size a in
    let short = used_bytes.value 0 a in
    omega (arith, more, none, long, short)

-- sizes don't count
pub sizes_free : (x y z w : ℕ) (runs others : List Run) (a : Attr) (r : Record) → runs ≡ others → used_after (placed_attr x y runs a ∷ []) r ≡ used_after (placed_attr z w others a ∷ []) r
sizes_free x y z w runs others a r same =
    alike [] (placed_attr x y runs a) (placed_attr z w others a) r refl refl
    (used_bytes.placed x y runs a
    ∙ ap (λ (l : List Run). whole_length (if is_compressed_or_sparse a.head.flags then 0x48 else 0x40) (length a.name) (length (pairs_of l))) same
    ∙ sym (used_bytes.placed z w others a))

-- ---- what comes

abbrev pub StaysIn : Record → Op → Node → Bool
StaysIn r op node = stays_in (data_in r) (size_after op node) (used_after (value_attr (size_after op node) (own_attr data_type [] r) ∷ []) r) || is_value_cut r op node

either : {A : Type 0} (s t : Bool) (x y : A) → cond t x (cond s x y) ≡ cond (s || t) x y
either true true x y = refl
either true false x y = refl
either false true x y = refl
either false false x y = refl

pub comes_by : (bits : List Bool) (r : Record) (op : Op) (node : Node) (t : Bool) → StaysIn r op node ≡ t → data_comes bits r op node ≡ cond t (as_value r (wanted_data op node)) (in_clusters bits r (wanted_data op node))
unfolding data_comes comes
comes_by bits r op node t is =
    either (stays_in (data_in r) (size_after op node) (used_after (value_attr (size_after op node) (own_attr data_type [] r) ∷ []) r)) (is_value_cut r op node) (as_value r (wanted_data op node)) (in_clusters bits r (wanted_data op node))
    ∙ ap (λ (b : Bool). cond b (as_value r (wanted_data op node)) (in_clusters bits r (wanted_data op node))) is

-- only what stood in its record stays there
pub stays_held : (r : Record) (op : Op) (node : Node) → StaysIn r op node ≡ true → is_in_record (data_in r) ≡ true
stays_held r op node stays = by (is_in_record (data_in r)) (size_after op node == 0 || nat_le (used_after (value_attr (size_after op node) (own_attr data_type [] r) ∷ []) r) 1024) (shrinks op node) stays
  where
    by : (b x y : Bool) → ((b && x) || (b && y)) ≡ true → b ≡ true
    by true x y is = refl
    by false x y is = absurd cc

-- a value that is cut stays
pub cut_stays : (r : Record) (op : Op) (node : Node) → is_in_record (data_in r) ≡ true → shrinks op node ≡ true → StaysIn r op node ≡ true
cut_stays r op node held cut =
    let fits = stays_in (data_in r) (size_after op node) (used_after (value_attr (size_after op node) (own_attr data_type [] r) ∷ []) r) in
    ap (λ (b : Bool). fits || (b && shrinks op node)) held ∙ ap (λ (b : Bool). fits || b) cut ∙ either_way fits
  where
    either_way : (b : Bool) → (b || true) ≡ true
    either_way true = refl
    either_way false = refl

pub clusters_by : (bits : List Bool) (r : Record) (op : Op) (node : Node) (s : Option Stream) → StaysIn r op node ≡ false → data_in r ≡ s → data_comes bits r op node ≡ placed_by r (wanted_data op node) (placed_among bits (runs_in s) (wanted_data op node))
unfolding in_clusters
clusters_by bits r op node s leaves is = comes_by bits r op node false leaves ∙ ap (λ (o : Option Stream). placed_by r (wanted_data op node) (placed_among bits (runs_in o) (wanted_data op node))) is

pub placed_comes : (bits : List Bool) (r : Record) (op : Op) (node : Node) (e : Extents) → data_in r ≡ Some (Placed e) → data_comes bits r op node ≡ placed_by r (wanted_data op node) (placed_among bits e.runs (wanted_data op node))
placed_comes bits r op node e is =
    clusters_by bits r op node (Some (Placed e))
    (ap (λ (o : Option Stream). stays_in o (size_after op node) (used_after (value_attr (size_after op node) (own_attr data_type [] r) ∷ []) r) || (is_in_record o && shrinks op node)) is) is

held_test : (r : Record) (op : Op) (node : Node) (value : List ℕ) (x y z : Bool) → data_in r ≡ Some (Held value) → (size_after op node == 0) ≡ x → nat_le (used_after (value_attr (size_after op node) (own_attr data_type [] r) ∷ []) r) 1024 ≡ y → shrinks op node ≡ z → StaysIn r op node ≡ (x || y || z)
held_test r op node value x y z is zero fits cut =
    ap (λ (o : Option Stream). stays_in o (size_after op node) (used_after (value_attr (size_after op node) (own_attr data_type [] r) ∷ []) r) || (is_in_record o && shrinks op node)) is
    ∙ ap (λ (b : Bool). b || nat_le (used_after (value_attr (size_after op node) (own_attr data_type [] r) ∷ []) r) 1024 || shrinks op node) zero
    ∙ ap (λ (b : Bool). x || b || shrinks op node) fits
    ∙ ap (λ (b : Bool). x || y || b) cut

pub leaving_comes : (bits : List Bool) (r : Record) (op : Op) (node : Node) (value : List ℕ) → data_in r ≡ Some (Held value) → MustLeave r op node → data_comes bits r op node ≡ placed_by r (wanted_data op node) (placed_among bits [] (wanted_data op node))
leaving_comes bits r op node value is leaves =
    clusters_by bits r op node (Some (Held value)) (held_test r op node value false false false is (not_zero (size_after op node) leaves.some) (lt-leb _ 1024 leaves.full) leaves.grows) is

staying_comes : (bits : List Bool) (r : Record) (op : Op) (node : Node) (value : List ℕ) (x y z : Bool) → data_in r ≡ Some (Held value) → (size_after op node == 0) ≡ x → nat_le (used_after (value_attr (size_after op node) (own_attr data_type [] r) ∷ []) r) 1024 ≡ y → shrinks op node ≡ z → (x || y || z) ≡ true
    → data_comes bits r op node ≡ as_value r (wanted_data op node)
staying_comes bits r op node value x y z is zero fits cut stays = comes_by bits r op node true (held_test r op node value x y z is zero fits cut ∙ stays)

-- it stays where it has no bytes, where there is room for them, or where it is cut
pub kept_comes : (bits : List Bool) (r : Record) (op : Op) (node : Node) (value : List ℕ) → data_in r ≡ Some (Held value) → (MustLeave r op node → ⊥) → data_comes bits r op node ≡ as_value r (wanted_data op node)
kept_comes bits r op node value is never = elim (cases_lt 0 (size_after op node)) [
  | inl some ↦ elim (cases_lt 1024 (used_after (value_attr (size_after op node) (own_attr data_type [] r) ∷ []) r)) [
    | inl over ↦ by (shrinks op node) refl some over
    | inr fits ↦ staying_comes bits r op node value false true (shrinks op node) is (not_zero (size_after op node) some) (le-leb _ 1024 fits) refl refl
  ]
  | inr none ↦ staying_comes bits r op node value true (nat_le (used_after (value_attr (size_after op node) (own_attr data_type [] r) ∷ []) r) 1024) (shrinks op node) is (equal (size_after op node) 0 (omega (arith, none))) refl refl refl
]
  where
    by : (t : Bool) → shrinks op node ≡ t → 0 < size_after op node → 1024 < used_after (value_attr (size_after op node) (own_attr data_type [] r) ∷ []) r → data_comes bits r op node ≡ as_value r (wanted_data op node)
    by true cut some over = staying_comes bits r op node value false false true is (not_zero (size_after op node) some) (lt-leb _ 1024 over) cut refl
    by false grows some over = absurd (never (record { some = some; full = over; grows = grows }))

-- ---- clusters

pub runs_grown : (g : Growth) → total_clusters g.old < g.clusters → runs_after g ≡ grown g.old g.runs
unfolding runs_after
runs_grown g more =
    ap (λ (b : Bool). cond b (merged (front g.clusters g.old)) (if g.clusters == total_clusters g.old then g.old else grown g.old g.runs)) (le-ltb g.clusters (total_clusters g.old) (omega (arith, more)))
    ∙ ap (λ (b : Bool). cond b g.old (grown g.old g.runs)) (above g.clusters (total_clusters g.old) more)

pub runs_cut : (g : Growth) → g.clusters < total_clusters g.old → runs_after g ≡ merged (front g.clusters g.old)
unfolding runs_after
runs_cut g fewer = ap (λ (b : Bool). cond b (merged (front g.clusters g.old)) (if g.clusters == total_clusters g.old then g.old else grown g.old g.runs)) (lt-ltb g.clusters (total_clusters g.old) fewer)

pub runs_same : (g : Growth) → g.clusters ≡ total_clusters g.old → runs_after g ≡ g.old
unfolding runs_after
runs_same g same =
    ap (λ (b : Bool). cond b (merged (front g.clusters g.old)) (if g.clusters == total_clusters g.old then g.old else grown g.old g.runs)) (le-ltb g.clusters (total_clusters g.old) (omega (arith, same)))
    ∙ ap (λ (b : Bool). cond b g.old (grown g.old g.runs)) (equal g.clusters (total_clusters g.old) same)

-- none are chosen where none are wanted
chosen_anywhere_none : (bits : List Bool) → chosen_anywhere 0 bits 0 0 ≡ []
unfolding chosen_anywhere
chosen_anywhere_none bits = refl

behind_none : (last : ℕ) (bits : List Bool) → behind last 0 bits ≡ 0
unfolding behind
behind_none last bits = omega arith

chosen_by : (bits : List Bool) (last : Option ℕ) → chosen bits last 0 ≡ []
unfolding chosen
chosen_by bits None = chosen_anywhere_none bits
chosen_by bits (Some at) =
    ap (λ (b : Bool). cond b (chosen_anywhere 0 bits 0 0) (run_at 0 (suc at) (behind at 0 bits) ∷ chosen_anywhere 0 (with_run (suc at) (behind at 0 bits) bits) (behind at 0 bits) (0 - behind at 0 bits))) (equal (behind at 0 bits) 0 (behind_none at bits))
    ∙ chosen_anywhere_none bits

pub chosen_none : (bits : List Bool) (last : Option ℕ) (n : ℕ) → n ≡ 0 → chosen bits last n ≡ []
chosen_none bits last n zero = ap (chosen bits last) zero ∙ chosen_by bits last

-- the first so many runs, of none or of all
pub takes_none : (runs : List Run) (bits : List Bool) → TakesFirst runs bits bits
unfolding with_runs
takes_none runs bits = (0, refl)

pub takes_all : (runs : List Run) (bits new : List Bool) → new ≡ with_runs runs bits → TakesFirst runs bits new
takes_all runs bits new is = (length runs, is ∙ ap (λ (l : List Run). with_runs l bits) (sym (take_all (length runs) runs (omega arith))))

-- the row of data whose clusters are others
pub changed_row : (bits : List Bool) (r : Record) (op : Op) (node : Node) (a : Attr) (others : List Attr) (old : List Run) (f : Extents) → attributes_of data_type [] r.attrs ≡ a ∷ others
    → data_comes bits r op node ≡ placed_by r (wanted_data op node) (placed_among bits old (wanted_data op node)) → (clusters_after false op node == total_clusters old) ≡ false → f.runs ≡ runs_after (placed_among bits old (wanted_data op node))
    → row_of bits r op node ≡ full_row (used_of (placed_record 8 data_type [] f r).attrs ∷ [])
changed_row bits r op node a others old f is come differ runs =
    let w = wanted_data op node in
    let own = own_attr data_type [] r in
    let after = runs_after (placed_among bits old w) in
    ap (λ (c : Comes). full_row (used_after c.attrs r ∷ [])) come
    ∙ ap (λ (b : Bool). full_row (used_after (cond b [] (placed_attr w.real w.initialised after own ∷ [])) r ∷ [])) differ
    ∙ ap (λ (n : ℕ). full_row (n ∷ [])) (sizes_free w.real w.initialised f.real f.initialised after f.runs own r (sym runs) ∙ sym (used.placed 8 data_type [] f r a others is) ∙ written_used (placed_record 8 data_type [] f r))

-- ---- data that takes clusters

-- what a step says of data in these extents that takes so many clusters
pub record TakesMore (bits : List Bool) (r : Record) (op : Op) (node : Node) (e : Extents) (wanted : ℕ) : Type 0 where
  pub stands : (growth_of bits r op node).stands ≡ false
  pub old : (growth_of bits r op node).old ≡ e.runs
  pub clusters : (growth_of bits r op node).clusters ≡ clusters_after false op node
  pub more : more_of (growth_of bits r op node) ≡ wanted
  pub runs : (growth_of bits r op node).runs ≡ chosen bits (last_cluster e.runs) wanted
  pub after : runs_after (growth_of bits r op node) ≡ grown e.runs (chosen bits (last_cluster e.runs) wanted)
  pub row : row_of bits r op node ≡ full_row (used_of (placed_record 8 data_type [] (lengthened 8 (chosen bits (last_cluster e.runs) wanted) e) r).attrs ∷ [])

pub takes_more : (bits : List Bool) (r : Record) (op : Op) (node : Node) (a : Attr) (others : List Attr) (e : Extents) (wanted : ℕ) → attributes_of data_type [] r.attrs ≡ a ∷ others
    → data_comes bits r op node ≡ placed_by r (wanted_data op node) (placed_among bits e.runs (wanted_data op node)) → total_clusters e.runs < clusters_after false op node → wanted ≡ clusters_after false op node - total_clusters e.runs
    → TakesMore bits r op node e wanted
takes_more bits r op node a others e wanted is come more same =
    let g = placed_among bits e.runs (wanted_data op node) in
    let of_growth = ap (λ (c : Comes). c.growth) come in
    let chosen_is : g.runs ≡ chosen bits (last_cluster e.runs) wanted = ap (chosen bits (last_cluster e.runs)) (sym same) in
    let after = runs_grown g more ∙ ap (grown e.runs) chosen_is in
    record {
      stands = ap (λ (h : Growth). h.stands) of_growth;
      old = ap (λ (h : Growth). h.old) of_growth;
      clusters = ap (λ (h : Growth). h.clusters) of_growth;
      more = ap more_of of_growth ∙ sym same;
      runs = ap (λ (h : Growth). h.runs) of_growth ∙ chosen_is;
      after = ap runs_after of_growth ∙ after;
      row = changed_row bits r op node a others e.runs (lengthened 8 (chosen bits (last_cluster e.runs) wanted) e) is come (above (clusters_after false op node) (total_clusters e.runs) more) (sym after);
    }

pub grown_taken : (bits : List Bool) (r : Record) (op : Op) (node : Node) (e : Extents) (wanted : ℕ) (z : Resized) → TakesMore bits r op node e wanted → IsGrown 8 data_type [] e r (chosen bits (last_cluster e.runs) wanted) z
    → full_row (used_of (placed_record 8 data_type [] (lengthened 8 (chosen bits (last_cluster e.runs) wanted) e) r).attrs ∷ []) ≡ None → IsTaken (growth_of bits r op node) z
grown_taken bits r op node e wanted z takes is none =
    let fits = none_fits _ none in
    let file = ap (λ (s : Record). used_of s.attrs) is.file in
    record {
      clusters = takes.stands;
      taken = is.taken ∙ sym takes.runs;
      runs = ap (λ (x : Extents). x.runs) is.extents ∙ sym takes.after;
      room = omega (arith, written_used z.file, file, fits);
    }

-- the same growth in the step's own runs
pub grown_as : (bits : List Bool) (r : Record) (op : Op) (node : Node) (e : Extents) (wanted : ℕ) (z : Resized) → TakesMore bits r op node e wanted → IsGrown 8 data_type [] e r (chosen bits (last_cluster e.runs) wanted) z → IsGrown 8 data_type [] e r (growth_of bits r op node).runs z
grown_as bits r op node e wanted z takes is = subst (λ (runs : List Run). IsGrown 8 data_type [] e r runs z) (sym takes.runs) is

-- ---- answers

pub taken_ok : (bits new : List Bool) (r : Record) (op : Op) (node : Node) (e : Extents) (wanted : ℕ) (c : DataChange) → TakesMore bits r op node e wanted → IsChange (growth_of bits r op node) r op node c → new ≡ with_runs (chosen bits (last_cluster e.runs) wanted) bits → (count_by not bits < wanted → ⊥)
    → full_row (used_of (placed_record 8 data_type [] (lengthened 8 (chosen bits (last_cluster e.runs) wanted) e) r).attrs ∷ []) ≡ None → DataAfter bits new r op node (Ok c)
taken_ok bits new r op node e wanted c takes is set enough none = record {
  is_change = is;
  taken = set ∙ ap (λ (runs : List Run). with_runs runs bits) (sym takes.runs);
  short = λ less. enough (omega (arith, less, takes.more));
  unchanged = λ less. absurd (enough (omega (arith, less, takes.more)));
  full = λ room. takes.row ∙ none;
  first = tt;
}

pub taken_err : (bits new : List Bool) (r : Record) (op : Op) (node : Node) (e : Extents) (wanted : ℕ) (fault : DataFault) → TakesMore bits r op node e wanted → (count_by not bits < wanted → IsShortFault (count_by not bits) fault) → (count_by not bits < wanted → new ≡ bits)
    → (wanted ≤ count_by not bits → IsRowFault (full_row (used_of (placed_record 8 data_type [] (lengthened 8 (chosen bits (last_cluster e.runs) wanted) e) r).attrs ∷ [])) fault) → TakesFirst (chosen bits (last_cluster e.runs) wanted) bits new → DataAfter bits new r op node (Err fault)
taken_err bits new r op node e wanted fault takes short stays row first = record {
  is_change = tt;
  taken = tt;
  short = λ less. short (omega (arith, less, takes.more));
  unchanged = λ less. stays (omega (arith, less, takes.more));
  full = λ room. subst (λ (o : Option Reply). IsRowFault o fault) (sym takes.row) (row (omega (arith, room, takes.more)));
  first = subst (λ (runs : List Run). TakesFirst runs bits new) (sym takes.runs) first;
}

-- no clusters are taken
pub quiet_ok : (bits : List Bool) (r : Record) (op : Op) (node : Node) (c : DataChange) → (growth_of bits r op node).runs ≡ [] → more_of (growth_of bits r op node) ≡ 0 → IsChange (growth_of bits r op node) r op node c → row_of bits r op node ≡ None → DataAfter bits bits r op node (Ok c)
unfolding with_runs
quiet_ok bits r op node c none zero is row = record {
  is_change = is;
  taken = ap (λ (runs : List Run). with_runs runs bits) (sym none);
  short = λ less. absurd (omega (arith, less, zero));
  unchanged = λ less. refl;
  full = λ room. row;
  first = tt;
}

pub quiet_err : (bits : List Bool) (r : Record) (op : Op) (node : Node) (fault : DataFault) → more_of (growth_of bits r op node) ≡ 0 → IsRowFault (row_of bits r op node) fault → DataAfter bits bits r op node (Err fault)
quiet_err bits r op node fault zero row = record {
  is_change = tt;
  taken = tt;
  short = λ less. absurd (omega (arith, less, zero));
  unchanged = λ less. refl;
  full = λ room. row;
  first = takes_none (growth_of bits r op node).runs bits;
}

pub memory_err : (bits : List Bool) (r : Record) (op : Op) (node : Node) → DataAfter bits bits r op node (Err Memory)
memory_err bits r op node = record { is_change = tt; taken = tt; short = λ less. tt; unchanged = λ less. refl; full = λ room. tt; first = takes_none (growth_of bits r op node).runs bits }
