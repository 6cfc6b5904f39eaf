-- The answers of calls on data, by what a step says.
use Rattle.std.proofs.Common.{◌≡◌, ℕ, ◌+◌, ◌-◌, ◌*◌, ◌/◌, ◌<◌, ◌≤◌, max, Bool, true, false, cond, List, [], ◌∷◌, Option, Some, None, Result, Ok, Err, refl, sym, ap, ◌∙◌, subst, inl, inr, arith}
use Rattle.std.specs.Prelude.{not, count_by, All}
use Rattle.std.specs.List.{AllByRecursion}
use Rattle.std.proofs.lemmas.Bool.{cases_lt}
use Rattle.std.proofs.lemmas.Bool.Decides.{nat_tests}
use Rattle.used_laws.specs.record_model.declared.attribute.Attr.{Attr}
use Rattle.used_laws.specs.record_model.declared.runs.Run.{Run}
use Rattle.used_laws.specs.record_model.Constants.{data_type}
use Rattle.used_laws.specs.record_model.Records.{Record, used_of}
use Rattle.used_laws.specs.file_tree.declared.node.Node.{Node}
use Rattle.used_laws.specs.state_model.declared.stream.Extents.{Extents}
use Rattle.used_laws.specs.state_model.declared.stream.Stream.{Stream}
use Rattle.used_laws.specs.state_model.declared.stream.Stream.TheVariants.{Held, Placed}
use Rattle.used_laws.specs.state_model.Loads.{total_clusters}
use Rattle.used_laws.specs.state_model.Streams.{first_vcn, attributes_of, joined, stream_of}
use Rattle.used_laws.specs.volume_model.Volumes.{size_or}
use Rattle.used_laws.specs.volume_model.Nodes.{clusters_or}
use Rattle.used_laws.specs.tree_model.declared.script.Op.{Op}
use Rattle.used_laws.specs.tree_model.declared.script.Op.TheVariants as op
use Rattle.used_laws.specs.tree_model.declared.reply.Reply.{Reply}
use Rattle.used_laws.specs.tree_model.declared.reply.Reply.TheVariants.{RecordFull}
use Rattle.used_laws.specs.tree_model.Needs.{clusters_for, size_after, shrinks}
use Rattle.used_laws.specs.tree_model.Effects.{valid_after, clusters_after}
use Rattle.used_laws.specs.space_model.Choosing.{chosen, with_runs}
use Rattle.used_laws.specs.plan_space.Choices.{TakesFirst}
use Rattle.used_laws.specs.stream_runs.Runs.{merged, front, last_cluster}
use Rattle.used_laws.specs.record_streams.Placing.{placed_record}
use Rattle.used_laws.specs.record_values.Values.{valued_record}
use Rattle.used_laws.specs.resized_streams.declared.resized.Resized.{Resized}
use Rattle.used_laws.specs.resized_streams.Resizing.{lengthened, shortened, with_sizes, unplaced, IsGrown, IsCut, IsSized}
use Rattle.used_laws.specs.draft_records.Records.{written_bytes}
use Rattle.used_laws.specs.step_model.Placing.{Growth, more_of, runs_after}
use Rattle.used_laws.specs.step_model.Used.{used_after, own_attr, value_attr, placed_attr}
use Rattle.used_laws.specs.step_model.Streams.{Comes, placed_among, placed_by, wanted_data, data_comes}
use Rattle.used_laws.specs.step_model.Plans.{full_row}
use Rattle.used_laws.proofs.step_model.NeverFull.{used_bytes}
use Rattle.used_laws.specs.Laws.{HasBytes, IsReadAttr}
use Rattle.used_laws.proofs.Lengths.{written_used}
use Rattle.used_laws.proofs.Beside.{used}
use Rattle.used_laws.proofs.Staying.{sizes}
use Rattle.data_plan.specs.declared.change.DataChange.{DataChange}
use Rattle.data_plan.specs.declared.change.DataChange.TheVariants as change
use Rattle.data_plan.specs.declared.fault.DataFault.{DataFault}
use Rattle.data_plan.specs.declared.fault.DataFault.TheVariants.{Full, Short, Memory}
use Rattle.data_plan.specs.Faults.{IsShortFault, IsRowFault}
use Rattle.data_plan.specs.Changes.{data_in, ShowsData, BeginsAtZero, HasData, IsHeld, MustLeave, IsKept, growth_of, row_of, IsTaken, Stays, IsChange, DataAfter}
use Rattle.data_plan.proofs.Cases.{below, equal, none_fits, fits_none, over_full, value_more, placed_comes, leaving_comes, kept_comes, runs_cut, runs_same, chosen_none, changed_row, TakesMore, takes_more, grown_taken, grown_as, taken_ok, taken_err, quiet_ok, quiet_err}

-- ---- the attributes of data that is there

pub record IsThere (attrs : List Attr) : Type 0 where
  pub first : Attr
  pub others : List Attr
  pub is : attrs ≡ first ∷ others
  pub begins : first_vcn first ≡ 0

pub there_is : (attrs : List Attr) → BeginsAtZero attrs → IsThere attrs
there_is [] begins = absurd begins
there_is (a ∷ others) begins = record { first = a; others = others; is = refl; begins = begins }

-- data that begins is some
pub some_data : (r : Record) → BeginsAtZero (attributes_of data_type [] r.attrs) → data_in r ≡ None → ⊥
unfolding stream_of
some_data r begins none = (let t = there_is (attributes_of data_type [] r.attrs) begins in let some = sym (ap joined t.is) ∙ none in absurd cc)

pub as_value_bytes : (r : Record) (size : ℕ) → BeginsAtZero (attributes_of data_type [] r.attrs) → used_of (valued_record data_type [] [] r).attrs + 8 * ((size + 7) / 8) ≡ used_after (value_attr size (own_attr data_type [] r) ∷ []) r
as_value_bytes r size begins =
    let t = there_is (attributes_of data_type [] r.attrs) begins in
    let e = used.valued data_type [] [] r t.first t.others t.is in
    omega (arith, e, written_used (valued_record data_type [] [] r), value_more size (own_attr data_type [] r) r)

-- ---- values

pub record HeldValue (s : Option Stream) : Type 0 where
  pub value : List ℕ
  pub is : s ≡ Some (Held value)

pub held_of : (s : Option Stream) → IsHeld s → HeldValue s
held_of None held = absurd held
held_of (Some (Held value)) held = record { value = value; is = refl }
held_of (Some (Placed e)) held = absurd held

-- what a step says of a value that stays
pub kept_after : (bits : List Bool) (r : Record) (op : Op) (node : Node) (size used_then : ℕ) (result : Result DataChange DataFault) → BeginsAtZero (attributes_of data_type [] r.attrs) → IsHeld (data_in r) → size ≡ size_after op node
    → used_then ≡ used_after (value_attr size (own_attr data_type [] r) ∷ []) r → (MustLeave r op node → ⊥) → IsKept size used_then result → DataAfter bits bits r op node result
kept_after bits r op node size used_then (Ok c) begins held is bytes never kept =
    let h = held_of (data_in r) held in
    let come = kept_comes bits r op node h.value h.is never in
    let g = ap (λ (x : Comes). x.growth) come in
    let t = there_is (attributes_of data_type [] r.attrs) begins in
    let row : row_of bits r op node ≡ None = ap (λ (x : Comes). full_row (used_after x.attrs r ∷ [])) come ∙ fits_none _ (omega (arith, kept.1, ap (λ (n : ℕ). used_after (value_attr n (own_attr data_type [] r) ∷ []) r) is, bytes)) in
    let stays : Stays (growth_of bits r op node) r op node size = record {
      stands = ap (λ (x : Growth). x.stands) g;
      size_is = is;
      room = λ value long. omega (arith, used.valued data_type [] value r t.first t.others t.is, ap (λ (n : ℕ). used_after (value_attr n (own_attr data_type [] r) ∷ []) r) long, bytes, kept.1);
    } in
    quiet_ok bits r op node c (ap (λ (x : Growth). x.runs) g) (ap more_of g) (subst (IsChange (growth_of bits r op node) r op node) (sym kept.0) stays) row
kept_after bits r op node size used_then (Err (Full full)) begins held is bytes never kept =
    let h = held_of (data_in r) held in
    let come = kept_comes bits r op node h.value h.is never in
    let g = ap (λ (x : Comes). x.growth) come in
    let same : used_after (value_attr (size_after op node) (own_attr data_type [] r) ∷ []) r ≡ full = sym (ap (λ (n : ℕ). used_after (value_attr n (own_attr data_type [] r) ∷ []) r) is) ∙ sym bytes ∙ sym kept.0 in
    let row : row_of bits r op node ≡ Some (RecordFull full) = ap (λ (x : Comes). full_row (used_after x.attrs r ∷ [])) come ∙ ap (λ (n : ℕ). full_row (n ∷ [])) same ∙ over_full full (omega (arith, kept.0, kept.1)) in
    quiet_err bits r op node (Full full) (ap more_of g) row
kept_after bits r op node size used_then (Err (Short room)) begins held is bytes never kept = absurd kept
kept_after bits r op node size used_then (Err Memory) begins held is bytes never kept = absurd kept

-- ---- clusters

held_clusters : (t : Bool) (c n : ℕ) → n ≡ 0 → cond t c (max n c) ≡ c
held_clusters true c n none = refl
held_clusters false c n none = omega (arith, none)

cut_by : (t : Bool) (c n : ℕ) → cond t c (max n c) < n → (t ≡ true) × (cond t c (max n c) ≡ c)
cut_by true c n fewer = (refl, refl)
cut_by false c n fewer = absurd (omega (arith, fewer))

shrinks_less : (o : Op) (node : Node) → shrinks o node ≡ true → size_after o node < node.size
shrinks_less (op.Truncate path size) node is = grind (arith, nat_tests)
shrinks_less other node is = absurd cc

-- a value that leaves takes the clusters that its bytes want
pub leaving : (bits : List Bool) (r : Record) (o : Op) (node : Node) (e : Extents) (wanted : ℕ) → BeginsAtZero (attributes_of data_type [] r.attrs) → IsHeld (data_in r) → ShowsData node r → MustLeave r o node → e ≡ unplaced (size_after o node) → wanted ≡ clusters_for (size_after o node) → TakesMore bits r o node e wanted
leaving bits r o node e wanted begins held shows leaves is wants =
    let t = there_is (attributes_of data_type [] r.attrs) begins in
    let h = held_of (data_in r) held in
    let none : e.runs ≡ [] = ap (λ (x : Extents). x.runs) is in
    let zero : node.clusters ≡ 0 = shows.clusters ∙ ap clusters_or h.is in
    let clusters : clusters_after false o node ≡ clusters_for (size_after o node) = held_clusters (shrinks o node) (clusters_for (size_after o node)) node.clusters zero in
    let total = ap total_clusters none in
    let some = leaves.some in
    takes_more bits r o node t.first t.others e wanted t.is
    (leaving_comes bits r o node h.value h.is leaves ∙ ap (λ (l : List Run). placed_by r (wanted_data o node) (placed_among bits l (wanted_data o node))) (sym none))
    (omega (arith, clusters, total, some)) (omega (arith, clusters, total, wants))

-- data takes clusters behind its own
pub growing : (bits : List Bool) (r : Record) (o : Op) (node : Node) (e : Extents) (wanted : ℕ) → BeginsAtZero (attributes_of data_type [] r.attrs) → ShowsData node r → data_in r ≡ Some (Placed e) → node.clusters < clusters_after false o node → wanted ≡ clusters_after false o node - node.clusters → TakesMore bits r o node e wanted
growing bits r o node e wanted begins shows placed more wants =
    let t = there_is (attributes_of data_type [] r.attrs) begins in
    let total : node.clusters ≡ total_clusters e.runs = shows.clusters ∙ ap clusters_or placed in
    takes_more bits r o node t.first t.others e wanted t.is (placed_comes bits r o node e placed) (omega (arith, total, more)) (omega (arith, total, wants))

-- its clusters are fewer than the step says
pub growing_more : (r : Record) (node : Node) (e : Extents) (clusters after : ℕ) → clusters ≡ after → node.clusters < after → ShowsData node r → data_in r ≡ Some (Placed e) → total_clusters e.runs < clusters
growing_more r node e clusters after is more shows placed = (let total : node.clusters ≡ total_clusters e.runs = shows.clusters ∙ ap clusters_or placed in omega (arith, is, more, total))

-- ---- answers of calls that take clusters

pub grown_ok : (per : ℕ) (bits new : List Bool) (r : Record) (o : Op) (node : Node) (e : Extents) (wanted : ℕ) (z : Resized) (c : DataChange) → per ≡ 8 → TakesMore bits r o node e wanted → IsGrown per data_type [] e r (chosen bits (last_cluster e.runs) wanted) z
    → new ≡ with_runs (chosen bits (last_cluster e.runs) wanted) bits → (count_by not bits < wanted → ⊥)
    → (wanted ≤ count_by not bits → full_row (used_of (placed_record per data_type [] (lengthened per (chosen bits (last_cluster e.runs) wanted) e) r).attrs ∷ []) ≡ None)
    → (IsTaken (growth_of bits r o node) z → IsGrown 8 data_type [] e r (growth_of bits r o node).runs z → IsChange (growth_of bits r o node) r o node c) → DataAfter bits new r o node (Ok c)
grown_ok per bits new r o node e wanted z c eight takes is set enough row make =
    let runs = chosen bits (last_cluster e.runs) wanted in
    let is8 : IsGrown 8 data_type [] e r runs z = subst (λ (p : ℕ). IsGrown p data_type [] e r runs z) eight is in
    let row8 : wanted ≤ count_by not bits → full_row (used_of (placed_record 8 data_type [] (lengthened 8 runs e) r).attrs ∷ []) ≡ None = subst (λ (p : ℕ). wanted ≤ count_by not bits → full_row (used_of (placed_record p data_type [] (lengthened p runs e) r).attrs ∷ []) ≡ None) eight row in
    let none : full_row (used_of (placed_record 8 data_type [] (lengthened 8 runs e) r).attrs ∷ []) ≡ None = elim (cases_lt (count_by not bits) wanted) [ inl less ↦ absurd (enough less) | inr room ↦ row8 room ] in
    taken_ok bits new r o node e wanted c takes (make (grown_taken bits r o node e wanted z takes is8 none) (grown_as bits r o node e wanted z takes is8)) set enough none

pub grown_err : (per : ℕ) (bits new : List Bool) (r : Record) (o : Op) (node : Node) (e : Extents) (wanted : ℕ) (fault : DataFault) → per ≡ 8 → TakesMore bits r o node e wanted → (count_by not bits < wanted → IsShortFault (count_by not bits) fault) → (count_by not bits < wanted → new ≡ bits)
    → (wanted ≤ count_by not bits → IsRowFault (full_row (used_of (placed_record per data_type [] (lengthened per (chosen bits (last_cluster e.runs) wanted) e) r).attrs ∷ [])) fault) → TakesFirst (chosen bits (last_cluster e.runs) wanted) bits new → DataAfter bits new r o node (Err fault)
grown_err per bits new r o node e wanted fault eight takes short stays row first =
    let runs = chosen bits (last_cluster e.runs) wanted in
    taken_err bits new r o node e wanted fault takes short stays
    (subst (λ (p : ℕ). wanted ≤ count_by not bits → IsRowFault (full_row (used_of (placed_record p data_type [] (lengthened p runs e) r).attrs ∷ [])) fault) eight row) first

-- ---- data that is cut

-- what a step says of data that takes no cluster
pub record TakesNone (bits : List Bool) (r : Record) (o : Op) (node : Node) (e : Extents) : Type 0 where
  pub come : data_comes bits r o node ≡ placed_by r (wanted_data o node) (placed_among bits e.runs (wanted_data o node))
  pub stands : (growth_of bits r o node).stands ≡ false
  pub more : more_of (growth_of bits r o node) ≡ 0
  pub runs : (growth_of bits r o node).runs ≡ []
  pub total : node.clusters ≡ total_clusters e.runs

pub takes_none_of : (bits : List Bool) (r : Record) (o : Op) (node : Node) (e : Extents) → ShowsData node r → data_in r ≡ Some (Placed e) → clusters_after false o node ≤ node.clusters → TakesNone bits r o node e
takes_none_of bits r o node e shows placed few =
    let total : node.clusters ≡ total_clusters e.runs = shows.clusters ∙ ap clusters_or placed in
    let come = placed_comes bits r o node e placed in
    let zero : clusters_after false o node - total_clusters e.runs ≡ 0 = omega (arith, total, few) in
    record {
      come = come;
      stands = ap (λ (c : Comes). c.growth.stands) come;
      more = ap (λ (c : Comes). more_of c.growth) come ∙ zero;
      runs = ap (λ (c : Comes). c.growth.runs) come ∙ chosen_none bits (last_cluster e.runs) (clusters_after false o node - total_clusters e.runs) zero;
      total = total;
    }

pub record CutOff (bits : List Bool) (r : Record) (o : Op) (node : Node) (e : Extents) : Type 0 where
  pub none : TakesNone bits r o node e
  pub less : size_after o node < e.real
  pub after : runs_after (growth_of bits r o node) ≡ (shortened 8 (size_after o node) e).runs
  pub row : row_of bits r o node ≡ full_row (used_of (placed_record 8 data_type [] (shortened 8 (size_after o node) e) r).attrs ∷ [])

pub cut_off : (bits : List Bool) (r : Record) (o : Op) (node : Node) (e : Extents) → BeginsAtZero (attributes_of data_type [] r.attrs) → ShowsData node r → data_in r ≡ Some (Placed e) → clusters_after false o node < node.clusters → CutOff bits r o node e
cut_off bits r o node e begins shows placed fewer =
    let t = there_is (attributes_of data_type [] r.attrs) begins in
    let none = takes_none_of bits r o node e shows placed (omega (arith, fewer)) in
    let by = cut_by (shrinks o node) (clusters_for (size_after o node)) node.clusters fewer in
    let size : node.size ≡ e.real = shows.size ∙ ap size_or placed in
    let g = placed_among bits e.runs (wanted_data o node) in
    let less : g.clusters < total_clusters e.runs = omega (arith, fewer, none.total) in
    let after : runs_after g ≡ (shortened 8 (size_after o node) e).runs = runs_cut g less ∙ ap (λ (n : ℕ). merged (front n e.runs)) by.1 in
    record {
      none = none;
      less = omega (arith, shrinks_less o node by.0, size);
      after = ap (λ (c : Comes). runs_after c.growth) none.come ∙ after;
      row = changed_row bits r o node t.first t.others e.runs (shortened 8 (size_after o node) e) t.is none.come (below (clusters_after false o node) (total_clusters e.runs) less) (sym after);
    }

pub cut_ok : (per size : ℕ) (bits : List Bool) (r : Record) (o : Op) (node : Node) (e : Extents) (z : Resized) → per ≡ 8 → size ≡ size_after o node → data_in r ≡ Some (Placed e) → CutOff bits r o node e → IsCut per data_type [] e r size z → full_row (used_of z.file.attrs ∷ []) ≡ None → DataAfter bits bits r o node (Ok (change.Cut z))
cut_ok per size bits r o node e z eight is placed off cut fits =
    let cut8 : IsCut 8 data_type [] e r (size_after o node) z = subst (λ (p : ℕ). IsCut p data_type [] e r (size_after o node) z) eight (subst (λ (n : ℕ). IsCut per data_type [] e r n z) is cut) in
    let row : row_of bits r o node ≡ None = off.row ∙ sym (ap (λ (s : Record). full_row (used_of s.attrs ∷ [])) cut8.file) ∙ fits in
    quiet_ok bits r o node (change.Cut z) off.none.runs off.none.more
    (record {
      e = e;
      placed = placed;
      less = off.less;
      takes = record {
        clusters = off.none.stands;
        taken = cut8.taken ∙ sym off.none.runs;
        runs = ap (λ (x : Extents). x.runs) cut8.extents ∙ sym off.after;
        room = omega (arith, written_used z.file, none_fits (used_of z.file.attrs) fits);
      };
      cut = cut8;
    }) row

pub cut_err : (per size : ℕ) (bits : List Bool) (r : Record) (o : Op) (node : Node) (e : Extents) (z : Resized) (fault : DataFault) → per ≡ 8 → size ≡ size_after o node → CutOff bits r o node e → IsCut per data_type [] e r size z → IsRowFault (full_row (used_of z.file.attrs ∷ [])) fault → DataAfter bits bits r o node (Err fault)
cut_err per size bits r o node e z fault eight is off cut row =
    let cut8 : IsCut 8 data_type [] e r (size_after o node) z = subst (λ (p : ℕ). IsCut p data_type [] e r (size_after o node) z) eight (subst (λ (n : ℕ). IsCut per data_type [] e r n z) is cut) in
    quiet_err bits r o node fault off.none.more (subst (λ (x : Option Reply). IsRowFault x fault) (sym (off.row ∙ sym (ap (λ (s : Record). full_row (used_of s.attrs ∷ [])) cut8.file))) row)

-- ---- data that has other sizes

same_row : (bits : List Bool) (r : Record) (o : Op) (node : Node) (e : Extents) → TakesNone bits r o node e → clusters_after false o node ≡ node.clusters → row_of bits r o node ≡ full_row (used_of r.attrs ∷ [])
same_row bits r o node e none same =
    let w = wanted_data o node in
    let attrs : Bool → List Attr = λ b. cond b [] (placed_attr w.real w.initialised (runs_after (placed_among bits e.runs w)) (own_attr data_type [] r) ∷ []) in
    ap (λ (c : Comes). full_row (used_after c.attrs r ∷ [])) none.come
    ∙ ap (λ (b : Bool). full_row (used_after (attrs b) r ∷ [])) (equal (clusters_after false o node) (total_clusters e.runs) (same ∙ none.total))
    ∙ ap (λ (n : ℕ). full_row (n ∷ [])) (used_bytes.none r)

pub sized_full : (bits : List Bool) (r : Record) (o : Op) (node : Node) (e : Extents) (full : ℕ) → ShowsData node r → data_in r ≡ Some (Placed e) → clusters_after false o node ≡ node.clusters → full ≡ used_of r.attrs → 1024 < full → DataAfter bits bits r o node (Err (Full full))
sized_full bits r o node e full shows placed same is over =
    let none = takes_none_of bits r o node e shows placed (omega (arith, same)) in
    quiet_err bits r o node (Full full) none.more (same_row bits r o node e none same ∙ ap (λ (n : ℕ). full_row (n ∷ [])) (sym is) ∙ over_full full over)

pub sized_ok : (per clusters real initialised : ℕ) (bits : List Bool) (r : Record) (o : Op) (node : Node) (e : Extents) (z : Resized) → per ≡ 8 → real ≡ size_after o node → initialised ≡ valid_after o node → HasData clusters r → All HasBytes r.attrs → ShowsData node r → data_in r ≡ Some (Placed e) → clusters_after false o node ≡ node.clusters
    → used_of r.attrs ≤ 1024 → IsSized per data_type [] e r real initialised z → DataAfter bits bits r o node (Ok (change.Sized z))
sized_ok per clusters real initialised bits r o node e z eight is_real is_initialised has bytes shows placed same fits sized =
    let t = there_is (attributes_of data_type [] r.attrs) has.begins in
    let none = takes_none_of bits r o node e shows placed (omega (arith, same)) in
    let sized8 : IsSized 8 data_type [] e r (size_after o node) (valid_after o node) z =
    subst (λ (p : ℕ). IsSized p data_type [] e r (size_after o node) (valid_after o node) z) eight
    (subst (λ (n : ℕ). IsSized per data_type [] e r n (valid_after o node) z) is_real (subst (λ (n : ℕ). IsSized per data_type [] e r real n z) is_initialised sized)) in
    let read = subst (AllByRecursion IsReadAttr) t.is (sizes.checked data_type [] r has.fits has.pairs bytes) in
    let short = sizes.stays 8 data_type [] e (with_sizes (size_after o node) (valid_after o node) e) r t.first t.others t.is read t.begins placed refl in
    let g = placed_among bits e.runs (wanted_data o node) in
    let after = ap (λ (c : Comes). runs_after c.growth) none.come ∙ runs_same g (same ∙ none.total) in
    quiet_ok bits r o node (change.Sized z) none.runs none.more
    (record {
      e = e;
      placed = placed;
      takes = record {
        clusters = none.stands;
        taken = sized8.taken ∙ sym none.runs;
        runs = ap (λ (x : Extents). x.runs) sized8.extents ∙ sym after;
        room = omega (arith, ap written_bytes sized8.file, short, fits);
      };
      sized = sized8;
    })
    (same_row bits r o node e none same ∙ fits_none (used_of r.attrs) fits)
