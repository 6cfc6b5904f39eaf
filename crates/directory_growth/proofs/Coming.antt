-- What a step says of the bitmap of an index, and the answers of calls on it.
use Rattle.std.proofs.Common.{◌≡◌, ℕ, ◌-◌, ◌<◌, ◌≤◌, max, Bool, true, false, cond, List, [], ◌∷◌, ◌++◌, length, Option, Some, None, Result, Ok, Err, refl, sym, ap, ◌∙◌, subst, inl, inr, arith}
use Rattle.std.specs.Prelude.{not, count_by, nat_le, ◌==◌, ◌||◌, if◌then◌else◌}
use Rattle.std.specs.List.{AllByRecursion}
use Rattle.std.proofs.lemmas.Bool.{cases_lt, lt-leb, le-leb}
use Rattle.disk_model.specs.Bytes.{zeros}
use Rattle.record_model.specs.declared.attribute.Attr.{Attr}
use Rattle.record_model.specs.declared.runs.Run.{Run}
use Rattle.record_model.specs.Constants.{bitmap_type, names_index}
use Rattle.record_model.specs.Records.{Record, used_of}
use Rattle.record_model.proofs.UnitBytes.{length-zeros}
use Rattle.state_model.specs.declared.stream.Extents.{Extents}
use Rattle.state_model.specs.declared.stream.Stream.{Stream}
use Rattle.state_model.specs.declared.stream.Stream.TheVariants.{Held, Placed}
use Rattle.state_model.specs.Loads.{total_clusters}
use Rattle.state_model.specs.Streams.{attributes_of, stream_of}
use Rattle.tree_model.specs.Needs.{clusters_for}
use Rattle.space_model.specs.Choosing.{chosen, with_runs}
use Rattle.plan_space.specs.Choices.{TakesFirst}
use Rattle.stream_laws.specs.Sharing.{runs_in}
use Rattle.stream_runs.specs.Runs.{last_cluster}
use Rattle.data_plan.specs.record_values.Values.{valued_record}
use Rattle.data_plan.specs.resized_streams.declared.resized.Resized.{Resized}
use Rattle.data_plan.specs.resized_streams.Resizing.{unplaced}
use Rattle.data_plan.specs.step_model.Placing.{Growth, more_of, runs_after}
use Rattle.data_plan.specs.step_model.Used.{used_after, own_attr, value_attr, placed_attr, stays_in}
use Rattle.data_plan.specs.step_model.Streams.{Wanted, Comes, in_record, as_value, placed_among, placed_by, in_clusters, comes}
use Rattle.data_plan.specs.step_model.Plans.{full_row}
use Rattle.data_plan.proofs.used_laws.Lengths.{written_used}
use Rattle.data_plan.proofs.used_laws.Beside.{together, used}
use Rattle.data_plan.specs.declared.fault.DataFault.{DataFault}
use Rattle.data_plan.specs.declared.fault.DataFault.TheVariants.{Memory}
use Rattle.data_plan.specs.Faults.{IsShortFault, IsRowFault}
use Rattle.data_plan.specs.Changes.{BeginsAtZero}
use Rattle.data_plan.proofs.Cases.{above, none_fits, fits_none, takes_none}
use Rattle.data_plan.proofs.Taking.{there_is}
use Rattle.directory_growth.specs.declared.change.BitsChange.{BitsChange}
use Rattle.directory_growth.specs.declared.change.BitsChange.TheVariants as change
use Rattle.directory_growth.specs.declared.bitmap.CountedBits.{CountedBits}
use Rattle.directory_growth.specs.Clusters.{longer_extents, IsLonger, counted_record}
use Rattle.directory_growth.specs.Growing.{ComesInto, BitsCome}
use Rattle.directory_growth.specs.Bitmap.{counted_bytes, MustLeave, BitsAfter}
use Rattle.directory_growth.proofs.Placing.{wanted_in, takes_more, comes_into, counted_used}

-- ---- what comes, by the stream, its attribute and the used bytes with a value

abbrev placed_come : Attr → Wanted → Growth → Comes
placed_come a w g = record { attrs = if w.clusters == total_clusters g.old then [] else placed_attr w.real w.initialised (runs_after g) a ∷ []; growth = g }

abbrev pub come_by : List Bool → Wanted → Option Stream → Attr → ℕ → Comes
come_by bits w o a u =
    if stays_in o w.real u
    then record { attrs = value_attr w.real a ∷ []; growth = in_record w.stream }
    else placed_come a w (placed_among bits (runs_in o) w)

pub come_is : (bits : List Bool) (r : Record) (others : List Attr) (w : Wanted) → comes bits r others w ≡ come_by bits w (stream_of w.stream.kind w.stream.name r.attrs) (own_attr w.stream.kind w.stream.name r) (used_after (value_attr w.real (own_attr w.stream.kind w.stream.name r) ∷ others) r)
unfolding comes in_clusters
come_is bits r others w = refl

-- records with the same stream, and the same used bytes beside it, come to the same
pub come_alike : (bits : List Bool) (r s : Record) (others more : List Attr) (w : Wanted) → stream_of w.stream.kind w.stream.name s.attrs ≡ stream_of w.stream.kind w.stream.name r.attrs → own_attr w.stream.kind w.stream.name s ≡ own_attr w.stream.kind w.stream.name r
    → used_after (value_attr w.real (own_attr w.stream.kind w.stream.name s) ∷ others) s ≡ used_after (value_attr w.real (own_attr w.stream.kind w.stream.name s) ∷ more) r → comes bits s others w ≡ comes bits r more w
come_alike bits r s others more w streams attrs bytes =
    let kind = w.stream.kind in
    let name = w.stream.name in
    come_is bits s others w
    ∙ ap (come_by bits w (stream_of kind name s.attrs) (own_attr kind name s)) bytes
    ∙ ap (λ (o : Option Stream). come_by bits w o (own_attr kind name s) (used_after (value_attr w.real (own_attr kind name s) ∷ more) r)) streams
    ∙ ap (λ (a : Attr). come_by bits w (stream_of kind name r.attrs) a (used_after (value_attr w.real a ∷ more) r)) attrs
    ∙ sym (come_is bits r more w)

-- what comes is of the stream
pub all_come : (P : Attr → Type 0) (bits : List Bool) (w : Wanted) (o : Option Stream) (a : Attr) (u : ℕ) → P (value_attr w.real a) → ((runs : List Run) → P (placed_attr w.real w.initialised runs a)) → AllByRecursion P (come_by bits w o a u).attrs
all_come P bits w o a u value placed = by (stays_in o w.real u) (w.clusters == total_clusters (runs_in o))
  where
    by : (s t : Bool) → AllByRecursion P (cond {A = Comes} s (record { attrs = value_attr w.real a ∷ []; growth = in_record w.stream }) (record { attrs = cond t [] (placed_attr w.real w.initialised (runs_after (placed_among bits (runs_in o) w)) a ∷ []); growth = placed_among bits (runs_in o) w })).attrs
    by true t = (value, tt)
    by false true = tt
    by false false = (placed (runs_after (placed_among bits (runs_in o) w)), tt)

-- ---- the cases

pub comes_placed : (bits : List Bool) (c : Record) (n size clusters : ℕ) (e : Extents) → stream_of bitmap_type names_index c.attrs ≡ Some (Placed e) → comes bits c [] (wanted_in n bitmap_type size clusters) ≡ placed_by c (wanted_in n bitmap_type size clusters) (placed_among bits e.runs (wanted_in n bitmap_type size clusters))
comes_placed bits c n size clusters e is =
    let w = wanted_in n bitmap_type size clusters in
    let own = own_attr bitmap_type names_index c in
    come_is bits c [] w ∙ ap (λ (o : Option Stream). come_by bits w o own (used_after (value_attr size own ∷ []) c)) is

held_test : (size u : ℕ) (x y : Bool) → (size == 0) ≡ x → nat_le u 1024 ≡ y → (size == 0 || nat_le u 1024) ≡ (x || y)
held_test size u x y zero fits = ap (λ (b : Bool). b || nat_le u 1024) zero ∙ ap (λ (b : Bool). x || b) fits

comes_held : (bits : List Bool) (c : Record) (n size clusters : ℕ) (value : List ℕ) (t : Bool) → 0 < size → stream_of bitmap_type names_index c.attrs ≡ Some (Held value) → nat_le (used_after (value_attr size (own_attr bitmap_type names_index c) ∷ []) c) 1024 ≡ t
    → comes bits c [] (wanted_in n bitmap_type size clusters) ≡ cond t (as_value c (wanted_in n bitmap_type size clusters)) (placed_by c (wanted_in n bitmap_type size clusters) (placed_among bits [] (wanted_in n bitmap_type size clusters)))
comes_held bits c n size clusters value t some is fits =
    let w = wanted_in n bitmap_type size clusters in
    let own = own_attr bitmap_type names_index c in
    let u = used_after (value_attr size own ∷ []) c in
    come_is bits c [] w
    ∙ ap (λ (o : Option Stream). come_by bits w o own u) is
    ∙ ap (λ (b : Bool). cond b (as_value c w) (placed_by c w (placed_among bits [] w))) (held_test size u false t (above size 0 some) fits)

pub comes_left : (bits : List Bool) (c : Record) (n size clusters : ℕ) (value : List ℕ) → 0 < size → stream_of bitmap_type names_index c.attrs ≡ Some (Held value) → MustLeave c size → comes bits c [] (wanted_in n bitmap_type size clusters) ≡ placed_by c (wanted_in n bitmap_type size clusters) (placed_among bits [] (wanted_in n bitmap_type size clusters))
comes_left bits c n size clusters value some is over = comes_held bits c n size clusters value false some is (lt-leb _ 1024 over)

pub comes_kept : (bits : List Bool) (c : Record) (n size clusters : ℕ) (value : List ℕ) → 0 < size → stream_of bitmap_type names_index c.attrs ≡ Some (Held value) → used_after (value_attr size (own_attr bitmap_type names_index c) ∷ []) c ≤ 1024 → comes bits c [] (wanted_in n bitmap_type size clusters) ≡ as_value c (wanted_in n bitmap_type size clusters)
comes_kept bits c n size clusters value some is fits = comes_held bits c n size clusters value true some is (le-leb _ 1024 fits)

-- the used bytes as a value of so many zeros
pub valued_used : (c : Record) (size bytes : ℕ) → BeginsAtZero (attributes_of bitmap_type names_index c.attrs) → bytes ≡ used_of (valued_record bitmap_type names_index (zeros size) c).attrs → bytes ≡ used_after (value_attr size (own_attr bitmap_type names_index c) ∷ []) c
valued_used c size bytes begins is =
    let t = there_is (attributes_of bitmap_type names_index c.attrs) begins in
    is
    ∙ sym (written_used (valued_record bitmap_type names_index (zeros size) c))
    ∙ used.valued bitmap_type names_index (zeros size) c t.first t.others t.is
    ∙ ap (λ (m : ℕ). used_after (value_attr m (own_attr bitmap_type names_index c) ∷ []) c) (length-zeros size)

-- ---- answers

-- what a step says of a bitmap in these extents
pub record PlacesBits (bits : List Bool) (c : Record) (n size clusters wanted : ℕ) (e : Extents) : Type 0 where
  pub begins : BeginsAtZero (attributes_of bitmap_type names_index c.attrs)
  pub come : comes bits c [] (wanted_in n bitmap_type size clusters) ≡ placed_by c (wanted_in n bitmap_type size clusters) (placed_among bits e.runs (wanted_in n bitmap_type size clusters))
  pub few : total_clusters e.runs ≤ clusters
  pub same : wanted ≡ clusters - total_clusters e.runs

bits_used : (per : ℕ) (bits : List Bool) (c : Record) (n size clusters wanted : ℕ) (e : Extents) → per ≡ 8 → PlacesBits bits c n size clusters wanted e → counted_bytes per size wanted (chosen bits (last_cluster e.runs) wanted) e c ≡ used_after (comes bits c [] (wanted_in n bitmap_type size clusters)).attrs c
bits_used per bits c n size clusters wanted e eight places =
    let t = there_is (attributes_of bitmap_type names_index c.attrs) places.begins in
    let runs = chosen bits (last_cluster e.runs) wanted in
    ap (λ (p : ℕ). counted_bytes p size wanted runs e c) eight
    ∙ none_more (counted_record 8 bitmap_type wanted (longer_extents 8 size wanted runs e) c)
    ∙ counted_used n bitmap_type size clusters wanted bits e c t.first t.others [] t.is tt places.few places.same
    ∙ sym (ap (λ (x : Comes). used_after x.attrs c) places.come)
  where
    none_more : (r : Record) → used_of r.attrs ≡ used_after [] r
    none_more r = (let none = together.none r in let same = written_used r in omega (arith, none, same))

pub placed_ok : (per : ℕ) (bits new : List Bool) (c s : Record) (old : Option Stream) (n size clusters wanted : ℕ) (e : Extents) (z : Resized) (x : CountedBits) → per ≡ 8 → PlacesBits bits c n size clusters wanted e → IsLonger per bitmap_type e s size wanted (chosen bits (last_cluster e.runs) wanted) z
    → x.used ≡ counted_bytes per size wanted (chosen bits (last_cluster e.runs) wanted) e c → new ≡ with_runs (chosen bits (last_cluster e.runs) wanted) bits → (count_by not bits < wanted → ⊥)
    → (wanted ≤ count_by not bits → full_row (counted_bytes per size wanted (chosen bits (last_cluster e.runs) wanted) e c ∷ []) ≡ None)
    → (ComesInto bitmap_type (placed_among bits e.runs (wanted_in n bitmap_type size clusters)) s e size z → BitsCome (placed_among bits e.runs (wanted_in n bitmap_type size clusters)) old s size x.bits)
    → BitsAfter bits new c s old (wanted_in n bitmap_type size clusters) (Ok x)
placed_ok per bits new c s old n size clusters wanted e z x eight places is bytes set enough row make =
    let w = wanted_in n bitmap_type size clusters in
    let g = placed_among bits e.runs w in
    let takes = takes_more bits e w size wanted places.few places.same in
    let growth = ap (λ (y : Comes). y.growth) places.come in
    let used_is = bits_used per bits c n size clusters wanted e eight places in
    let room : wanted ≤ count_by not bits = elim (cases_lt (count_by not bits) wanted) [ inl less ↦ absurd (enough less) | inr le ↦ le ] in
    let none = row room in
    let fits = none_fits _ none in
    record {
      is_change = record {
        come = subst (λ (h : Growth). BitsCome h old s size x.bits) (sym growth) (make (comes_into per bitmap_type bits e w size wanted s z eight takes is));
        used = bytes ∙ used_is;
        room = omega (arith, bytes, fits);
      };
      taken = set ∙ ap (λ (l : List Run). with_runs l bits) (sym takes.runs ∙ sym (ap (λ (h : Growth). h.runs) growth));
      short = λ less. enough (omega (arith, less, takes.more, ap more_of growth));
      full = λ le. ap (λ (b : ℕ). full_row (b ∷ [])) (sym used_is) ∙ none;
      first = tt;
    }

pub placed_err : (per : ℕ) (bits new : List Bool) (c s : Record) (old : Option Stream) (n size clusters wanted : ℕ) (e : Extents) (fault : DataFault) → per ≡ 8 → PlacesBits bits c n size clusters wanted e
    → (count_by not bits < wanted → IsShortFault (count_by not bits) fault) → (wanted ≤ count_by not bits → IsRowFault (full_row (counted_bytes per size wanted (chosen bits (last_cluster e.runs) wanted) e c ∷ [])) fault)
    → TakesFirst (chosen bits (last_cluster e.runs) wanted) bits new → BitsAfter bits new c s old (wanted_in n bitmap_type size clusters) (Err fault)
placed_err per bits new c s old n size clusters wanted e fault eight places short row first =
    let w = wanted_in n bitmap_type size clusters in
    let takes = takes_more bits e w size wanted places.few places.same in
    let growth = ap (λ (y : Comes). y.growth) places.come in
    let used_is = bits_used per bits c n size clusters wanted e eight places in
    record {
      is_change = tt;
      taken = tt;
      short = λ less. short (omega (arith, less, takes.more, ap more_of growth));
      full = λ le. subst (λ (b : ℕ). IsRowFault (full_row (b ∷ [])) fault) used_is (row (omega (arith, le, takes.more, ap more_of growth)));
      first = subst (λ (l : List Run). TakesFirst l bits new) (sym takes.runs ∙ sym (ap (λ (h : Growth). h.runs) growth)) first;
    }

-- a value that stays
pub kept_ok : (bits : List Bool) (c s : Record) (n size clusters : ℕ) (value : List ℕ) (file : Record) (x : CountedBits) → 0 < size → stream_of bitmap_type names_index c.attrs ≡ Some (Held value) → x.bits ≡ change.Stays file → x.used ≡ used_after (value_attr size (own_attr bitmap_type names_index c) ∷ []) c → x.used ≤ 1024
    → file ≡ valued_record bitmap_type names_index (value ++ zeros (size - length value)) s → BitsAfter bits bits c s (Some (Held value)) (wanted_in n bitmap_type size clusters) (Ok x)
unfolding with_runs
kept_ok bits c s n size clusters value file x some is stays bytes fits put =
    let w = wanted_in n bitmap_type size clusters in
    let come = comes_kept bits c n size clusters value some is (omega (arith, bytes, fits)) in
    let growth = ap (λ (y : Comes). y.growth) come in
    let used_is : x.used ≡ used_after (comes bits c [] w).attrs c = bytes ∙ sym (ap (λ (y : Comes). used_after y.attrs c) come) in
    let none : more_of (comes bits c [] w).growth ≡ 0 = ap more_of growth in
    record {
      is_change = record {
        come = subst (λ (h : Growth). BitsCome h (Some (Held value)) s size x.bits) (sym growth) (subst (λ (b : BitsChange). BitsCome (in_record w.stream) (Some (Held value)) s size b) (sym stays) (record { stands = refl; value = value; held = refl; file_is = put }));
        used = used_is;
        room = fits;
      };
      taken = sym (ap (λ (h : Growth). with_runs h.runs bits) growth);
      short = λ less. absurd (omega (arith, less, none));
      full = λ le. fits_none _ (omega (arith, used_is, fits));
      first = tt;
    }

pub memory_err : (bits : List Bool) (c s : Record) (old : Option Stream) (w : Wanted) → BitsAfter bits bits c s old w (Err Memory)
memory_err bits c s old w = record { is_change = tt; taken = tt; short = λ less. tt; full = λ le. tt; first = takes_none (comes bits c [] w).growth.runs bits }

-- ---- the calls

pub at_size : (bits new : List Bool) (c s : Record) (old : Option Stream) (n size most clusters : ℕ) (result : Result CountedBits DataFault) → size ≡ most → BitsAfter bits new c s old (wanted_in n bitmap_type size clusters) result → BitsAfter bits new c s old (wanted_in n bitmap_type most clusters) result
at_size bits new c s old n size most clusters result is after = subst (λ (m : ℕ). BitsAfter bits new c s old (wanted_in n bitmap_type m clusters) result) is after

pub leaves_places : (bits : List Bool) (c : Record) (n size clusters wanted : ℕ) (value : List ℕ) (e : Extents) → BeginsAtZero (attributes_of bitmap_type names_index c.attrs) → 0 < size → stream_of bitmap_type names_index c.attrs ≡ Some (Held value) → MustLeave c size → e ≡ unplaced size → wanted ≡ clusters → PlacesBits bits c n size clusters wanted e
leaves_places bits c n size clusters wanted value e begins some held full is wants =
    let w = wanted_in n bitmap_type size clusters in
    let none : e.runs ≡ [] = ap (λ (x : Extents). x.runs) is in
    let total : total_clusters e.runs ≡ 0 = ap total_clusters none in
    record {
      begins = begins;
      come = comes_left bits c n size clusters value some held full ∙ ap (λ (l : List Run). placed_by c w (placed_among bits l w)) (sym none);
      few = omega (arith, total);
      same = omega (arith, total, wants);
    }

pub placed_places : (bits : List Bool) (c : Record) (n size least wanted : ℕ) (e : Extents) → BeginsAtZero (attributes_of bitmap_type names_index c.attrs) → stream_of bitmap_type names_index c.attrs ≡ Some (Placed e) → wanted ≡ clusters_for least - total_clusters e.runs → PlacesBits bits c n size (max (total_clusters e.runs) (clusters_for least)) wanted e
placed_places bits c n size least wanted e begins is wants = record {
  begins = begins;
  come = comes_placed bits c n size (max (total_clusters e.runs) (clusters_for least)) e is;
  few = omega arith;
  same = omega (arith, wants);
}

-- whether it stands in the record says which
comes_either : (bits : List Bool) (c : Record) (n size clusters : ℕ) (value : List ℕ) (t : Bool) → 0 < size → stream_of bitmap_type names_index c.attrs ≡ Some (Held value) → nat_le (used_after (value_attr size (own_attr bitmap_type names_index c) ∷ []) c) 1024 ≡ t
    → (comes bits c [] (wanted_in n bitmap_type size clusters)).growth.stands ≡ t
comes_either bits c n size clusters value true some is fits = ap (λ (x : Comes). x.growth.stands) (comes_held bits c n size clusters value true some is fits)
comes_either bits c n size clusters value false some is fits = ap (λ (x : Comes). x.growth.stands) (comes_held bits c n size clusters value false some is fits)

pub comes_by_value : (bits : List Bool) (c : Record) (n size clusters : ℕ) (value : List ℕ) → 0 < size → stream_of bitmap_type names_index c.attrs ≡ Some (Held value) → (comes bits c [] (wanted_in n bitmap_type size clusters)).growth.stands ≡ true → comes bits c [] (wanted_in n bitmap_type size clusters) ≡ as_value c (wanted_in n bitmap_type size clusters)
comes_by_value bits c n size clusters value some is stays =
    comes_held bits c n size clusters value true some is (sym (comes_either bits c n size clusters value (nat_le (used_after (value_attr size (own_attr bitmap_type names_index c) ∷ []) c) 1024) some is refl) ∙ stays)

pub comes_by_growth : (bits : List Bool) (c : Record) (n size clusters : ℕ) (value : List ℕ) → 0 < size → stream_of bitmap_type names_index c.attrs ≡ Some (Held value) → (comes bits c [] (wanted_in n bitmap_type size clusters)).growth.stands ≡ false
    → comes bits c [] (wanted_in n bitmap_type size clusters) ≡ placed_by c (wanted_in n bitmap_type size clusters) (placed_among bits [] (wanted_in n bitmap_type size clusters))
comes_by_growth bits c n size clusters value some is leaves =
    comes_held bits c n size clusters value false some is (sym (comes_either bits c n size clusters value (nat_le (used_after (value_attr size (own_attr bitmap_type names_index c) ∷ []) c) 1024) some is refl) ∙ leaves)
