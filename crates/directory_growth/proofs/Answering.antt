-- The answers of calls on a directory's index that gets more blocks.
use Rattle.std.proofs.Common.{◌≡◌, ◌≢◌, ℕ, ◌+◌, ◌*◌, ◌^◌, ◌<◌, ◌≤◌, zero, suc, Bool, false, cond, List, [], ◌∷◌, ◌++◌, length, take, Option, Some, None, Result, Ok, Err, refl, sym, ap, ◌∙◌, subst, inl, inr, arith}
use Rattle.std.specs.Prelude.{not, count_by, ◌==◌}
use Rattle.std.specs.List.{AllByRecursion}
use Rattle.std.proofs.lemmas.Bool.{cases_lt}
use Rattle.std.proofs.lemmas.List.{append_assoc, append-nil, take-append-le, take_all}
use Rattle.std.proofs.Math.Seq.{take-append-add, take-append_seam}
use Rattle.std.proofs.lemmas.List.Sums.{sum_by-cons}
use Rattle.record_model.specs.declared.attribute.Attr.{Attr}
use Rattle.record_model.specs.declared.runs.Run.{Run}
use Rattle.record_model.specs.Constants.{index_root, index_allocation, bitmap_type, names_index}
use Rattle.record_model.specs.Pairs.{cluster_limit}
use Rattle.record_model.specs.Records.{Record}
use Rattle.index_model.specs.Trees.{Tree}
use Rattle.state_model.specs.declared.stream.Extents.{Extents}
use Rattle.state_model.specs.declared.stream.Stream.{Stream}
use Rattle.state_model.specs.declared.stream.Stream.TheVariants.{Placed}
use Rattle.state_model.specs.Streams.{attributes_of, stream_of}
use Rattle.volume_model.specs.Volumes.{size_or}
use Rattle.data_plan.specs.record_values.Values.{valued_record}
use Rattle.disk_model.specs.Bytes.{zeros}
use Rattle.tree_model.specs.declared.reply.Reply.{Reply}
use Rattle.space_model.specs.Choosing.{chosen, with_run, with_clusters, with_runs}
use Rattle.space_model.specs.Laws.{clusters_of, AreFree}
use Rattle.space_model.proofs.Lawful.{chosen_are_free}
use Rattle.space_model.proofs.Fitting.{counted_after}
use Rattle.plan_space.specs.Choices.{TakesFirst}
use Rattle.stream_runs.specs.Runs.{last_cluster}
use Rattle.data_plan.specs.resized_streams.declared.resized.Resized.{Resized}
use Rattle.data_plan.specs.step_model.Placing.{Growth, more_of, taken_runs, wanted_by}
use Rattle.data_plan.specs.step_model.Used.{used_after, own_attr, value_attr}
use Rattle.data_plan.specs.step_model.Streams.{Wanted, Comes, Changed, in_clusters, comes, no_change, and_then, own_comes, used_key, blocks_size, wanted_size, wanted_blocks, wanted_used, used_behind, with_own, index_comes}
use Rattle.data_plan.specs.step_model.Plans.{full_row}
use Rattle.data_plan.specs.used_laws.Laws.{IsOther}
use Rattle.data_plan.specs.declared.fault.DataFault.{DataFault}
use Rattle.data_plan.specs.declared.fault.DataFault.TheVariants.{Full, Short, Memory}
use Rattle.data_plan.specs.Faults.{IsShortFault, IsRowFault}
use Rattle.data_plan.specs.Changes.{BeginsAtZero, StandsBelow}
use Rattle.data_plan.proofs.Cases.{above, fits_none, takes_none, takes_all}
use Rattle.directory_growth.specs.declared.change.BitsChange.{BitsChange}
use Rattle.directory_growth.specs.declared.change.IndexChange.{IndexChange}
use Rattle.directory_growth.specs.declared.bitmap.CountedBits.{CountedBits}
use Rattle.directory_growth.specs.Clusters.{longer_extents, IsLonger, counted_record}
use Rattle.directory_growth.specs.Growing.{IsShortValue, HasIndex, GrowsLittle, blocks_in, bits_in, blocks_growth, growths_of, used_with, row_of, bits_size, at_first, BlocksCome, BitsCome, IndexAfter}
use Rattle.directory_growth.specs.Bitmap.{joined_answer, BitsAfter}
use Rattle.directory_growth.proofs.Placing.{TakesMore, takes_more, comes_into}
use Rattle.directory_growth.proofs.Coming.{come_is, come_alike, all_come}
use Rattle.directory_growth.proofs.Step.{other_bits, bits_root, counted_others, own_kind, want, blocks_come, Gets, counted_for, bits_come, counts, blocks_are, blocks_want, bits_want, same_stream, same_own, root_stays}

-- ---- runs that are taken one after the other

with_append : (xs ys : List Run) (bits : List Bool) → with_runs (xs ++ ys) bits ≡ with_runs ys (with_runs xs bits)
unfolding with_runs
with_append [] ys bits = refl
with_append (x ∷ xs) ys bits = with_append xs ys (with_clusters x.lcn x.len bits)

free_counted : (bits : List Bool) (vcn : ℕ) (runs : List Run) → AreFree bits vcn runs → count_by not (with_runs runs bits) + clusters_of runs ≡ count_by not bits
unfolding with_runs
free_counted bits vcn [] free = omega arith
free_counted bits vcn (r ∷ runs) free =
    let first = free.0 in
    let one = counted_after first r.len bits free.1.clear in
    let others = free_counted (with_run first r.len bits) (vcn + r.len) runs free.2 in
    let same : count_by not (with_runs runs (with_clusters r.lcn r.len bits)) ≡ count_by not (with_runs runs (with_run first r.len bits)) = ap (λ lcn. count_by not (with_runs runs (with_clusters lcn r.len bits))) free.1.lcn in
    omega arith

-- so many bits are clear no longer
pub taken_count : (bits : List Bool) (e : Extents) (wanted : ℕ) → wanted ≤ count_by not bits → count_by not (with_runs (chosen bits (last_cluster e.runs) wanted) bits) + wanted ≡ count_by not bits
taken_count bits e wanted enough =
    let runs = chosen bits (last_cluster e.runs) wanted in
    let count = chosen_are_free.count bits (last_cluster e.runs) wanted enough in
    let left = free_counted bits 0 runs (chosen_are_free.free bits (last_cluster e.runs) wanted) in
    omega (arith, count, left)

first_of_both : (xs ys : List Run) (bits new : List Bool) → TakesFirst xs bits new → TakesFirst (xs ++ ys) bits new
first_of_both xs ys bits new first = elim (cases_lt (length xs) first.0) [
  | inl over ↦
      (length xs, first.1 ∙ ap (λ (l : List Run). with_runs l bits) (take_all first.0 xs (omega (arith, over)) ∙ sym (take-append_seam xs ys)))
  | inr le ↦ (first.0, first.1 ∙ ap (λ (l : List Run). with_runs l bits) (sym (take-append-le first.0 xs ys le)))
]

then_first : (xs ys zs : List Run) (bits mid new : List Bool) → mid ≡ with_runs xs bits → TakesFirst ys mid new → TakesFirst (xs ++ (ys ++ zs)) bits new
then_first xs ys zs bits mid new is first =
    let both = first_of_both ys zs mid new first in
    (length xs + both.0, both.1 ∙ ap (with_runs (take both.0 (ys ++ zs))) is ∙ sym (with_append xs (take both.0 (ys ++ zs)) bits) ∙ ap (λ (l : List Run). with_runs l bits) (sym (take-append-add xs (ys ++ zs) both.0)))

sum_two : (g h : Growth) → wanted_by (g ∷ h ∷ []) ≡ more_of g + more_of h
sum_two g h = (let one = sum_by-cons more_of g (h ∷ []) in let two = sum_by-cons more_of h [] in let none : wanted_by [] ≡ 0 = refl in omega (arith, one, two, none))

-- ---- what the step says

-- of both streams, when the blocks have taken their clusters
pub record Says (bits now : List Bool) (n : ℕ) (r : Record) (t : Tree) (more root : ℕ) (e : Extents) (s : Stream) (size wanted : ℕ) : Type 0 where
  pub growths : growths_of bits n r t more ≡ (blocks_come bits n r e size).growth ∷ (bits_come bits now n root r e s size wanted).growth ∷ []
  pub used : used_with bits n r t more ≡ used_after (bits_come bits now n root r e s size wanted).attrs (counted_for bits root r e size wanted)
  pub blocks : blocks_growth bits n r more ≡ (blocks_come bits n r e size).growth
  pub takes : TakesMore bits e (want n e size) size wanted

index_by : (bits : List Bool) (n : ℕ) (r : Record) (t : Tree) (more : ℕ) (b : Bool) → (blocks_size n r more == 0) ≡ b → index_comes bits n r t more ≡ cond b (with_own r t no_change) (with_own r t (used_behind bits n r t more (in_clusters bits r (wanted_blocks n r more))))
unfolding index_comes
index_by bits n r t more b is = ap (λ (x : Bool). cond x (with_own r t no_change) (with_own r t (used_behind bits n r t more (in_clusters bits r (wanted_blocks n r more))))) is

pub says : (bits now : List Bool) (n : ℕ) (r : Record) (t : Tree) (more root : ℕ) (e : Extents) (s : Stream) (size wanted : ℕ) → Gets r t more root e s size wanted → now ≡ with_runs (chosen bits (last_cluster e.runs) wanted) bits → Says bits now n r t more root e s size wanted
says bits now n r t more root e s size wanted gets set =
    let takes = takes_more bits e (want n e size) size wanted (omega arith) (omega (arith, gets.wanted_is)) in
    let x = blocks_come bits n r e size in
    let c = counted_for bits root r e size wanted in
    let w = wanted_size (used_key n) (Some s) (bits_size size) in
    let now_is : now ≡ with_runs x.growth.runs bits = set ∙ ap (λ (l : List Run). with_runs l bits) (sym takes.runs) in
    let some : (blocks_size n r more == 0) ≡ false = above (blocks_size n r more) 0 (let least : 4096 ≤ blocks_size n r more = gets.little.some in omega (arith, least)) in
    let attrs_are : attributes_of bitmap_type names_index c.attrs ≡ attributes_of bitmap_type names_index r.attrs =
    counted_others 8 index_allocation bitmap_type wanted _ _ other_bits ∙ root_stays bitmap_type root r bits_root in
    let own_is = same_own bitmap_type r c attrs_are in
    let kind : (own_attr bitmap_type names_index c).head.kind ≡ bitmap_type = ap (λ (a : Attr). a.head.kind) own_is ∙ own_kind bitmap_type r gets.has.bits in
    let apart : (k : ℕ) → bitmap_type ≢ k → AllByRecursion (IsOther k names_index) (value_attr w.real (own_attr bitmap_type names_index c) ∷ []) = λ k differ. (inl (λ same. differ (sym kind ∙ same)), tt) in
    let value = counts bits n r t more root e s size wanted gets (value_attr w.real (own_attr bitmap_type names_index c) ∷ []) (apart index_allocation other_bits) (apart index_root bits_root) in
    let alike : comes now c [] w ≡ comes now r (x.attrs ++ own_comes r t) w = come_alike now r c [] (x.attrs ++ own_comes r t) w (same_stream bitmap_type r c attrs_are) own_is value in
    let come : Comes = comes now c [] w in
    let come_apart : (k : ℕ) → bitmap_type ≢ k → AllByRecursion (IsOther k names_index) come.attrs = λ k differ.
    subst (λ (y : Comes). AllByRecursion (IsOther k names_index) y.attrs) (sym (come_is now c [] w))
    (all_come (IsOther k names_index) now w (stream_of bitmap_type names_index c.attrs) (own_attr bitmap_type names_index c) _ (inl (λ same. differ (sym kind ∙ same))) (λ runs. inl (λ same. differ (sym kind ∙ same)))) in
    let behind : index_comes bits n r t more ≡ with_own r t (and_then x come) =
    index_by bits n r t more false some
    ∙ ap (λ (y : Comes). with_own r t (used_behind bits n r t more y)) (blocks_are bits n more r e size gets.blocks gets.size_is)
    ∙ ap (λ (v : Wanted). with_own r t (and_then x (comes (with_runs x.growth.runs bits) r (x.attrs ++ own_comes r t) v))) (bits_want n more r e s size gets.blocks gets.bitmap gets.size_is)
    ∙ ap (λ (b : List Bool). with_own r t (and_then x (comes b r (x.attrs ++ own_comes r t) w))) (sym now_is)
    ∙ ap (λ (y : Comes). with_own r t (and_then x y)) (sym alike) in
    record {
      growths = ap (λ (y : Changed). y.growths) behind;
      used = ap (λ (y : Changed). used_after y.attrs r) behind ∙ ap (λ (l : List Attr). used_after l r) (append_assoc come.attrs x.attrs (own_comes r t)) ∙ sym (counts bits n r t more root e s size wanted gets come.attrs (come_apart index_allocation other_bits) (come_apart index_root bits_root));
      blocks = ap (λ (y : Comes). y.growth) (blocks_are bits n more r e size gets.blocks gets.size_is);
      takes = takes;
    }

-- ---- answers

-- the blocks took their clusters, and nothing was refused
pub both_ok : (per : ℕ) (bits now new : List Bool) (n : ℕ) (r : Record) (t : Tree) (more root : ℕ) (e : Extents) (s : Stream) (size wanted : ℕ) (z : Resized) (x : CountedBits) (a : IndexChange) → per ≡ 8 → Gets r t more root e s size wanted → IsLonger per index_allocation e r size wanted (chosen bits (last_cluster e.runs) wanted) z
    → now ≡ with_runs (chosen bits (last_cluster e.runs) wanted) bits → (count_by not bits < wanted → ⊥) → BitsAfter now new (counted_for bits root r e size wanted) z.file (Some s) (wanted_size (used_key n) (Some s) (bits_size size)) (Ok x) → a.blocks ≡ z → a.bits ≡ x.bits → a.used ≡ x.used
    → IndexAfter bits new n r t more (Ok a)
both_ok per bits now new n r t more root e s size wanted z x a eight gets is set enough after blocks_is bits_is used_is =
    let says = says bits now n r t more root e s size wanted gets set in
    let g = (blocks_come bits n r e size).growth in
    let h = (bits_come bits now n root r e s size wanted).growth in
    let used = used_is ∙ after.is_change.used ∙ sym says.used in
    let room : a.used ≤ 1024 = omega (arith, used_is, after.is_change.room) in
    let le : wanted ≤ count_by not bits = elim (cases_lt (count_by not bits) wanted) [ inl less ↦ absurd (enough less) | inr le ↦ le ] in
    let counted = taken_count bits e wanted le in
    let left = ap (count_by not) set in
    let sum = ap wanted_by says.growths ∙ sum_two g h in
    let more_is = says.takes.more in
    record {
      is_change = record {
        blocks_grow = g;
        bits_grow = h;
        growths = says.growths;
        blocks = subst (λ (y : Resized). BlocksCome g r (wanted_blocks n r more).real y) (sym blocks_is)
            (subst (λ (m : ℕ). BlocksCome g r m z) (sym (ap (λ (w : Wanted). w.real) (blocks_want n more r e size gets.blocks gets.size_is))) (record { e = e; placed = gets.blocks; come = comes_into per index_allocation bits e (want n e size) size wanted r z eight says.takes is }));
        bitmap = bits_as h r (wanted_used n r more) (wanted_size (used_key n) (Some s) (bits_size size)) (Some s) z a.blocks x.bits a.bits blocks_is bits_is gets.bitmap (bits_want n more r e s size gets.blocks gets.bitmap gets.size_is) after.is_change.come;
        used = used;
        room = room;
      };
      taken = after.taken ∙ ap (with_runs h.runs) (set ∙ ap (λ (l : List Run). with_runs l bits) (sym says.takes.runs)) ∙ sym (with_append g.runs h.runs bits) ∙ ap (λ (l : List Run). with_runs (g.runs ++ l) bits) (sym (append-nil h.runs)) ∙ sym (ap (λ (l : List Growth). with_runs (taken_runs l) bits) says.growths);
      short = λ less. after.short (omega (arith, less, sum, more_is, counted, left));
      unchanged = λ less. absurd (enough (omega (arith, less, more_is, ap more_of says.blocks)));
      full = λ fits. fits_none _ (omega (arith, used, room));
      first = tt;
    }
  where
    bits_as : (h : Growth) (r : Record) (v w : Wanted) (o : Option Stream) (z y : Resized) (b d : BitsChange) → y ≡ z → d ≡ b → bits_in r ≡ o → v ≡ w → BitsCome h o z.file w.real b → BitsCome h (bits_in r) y.file v.real d
    bits_as h r v w o z y b d blocks_is bits_is old wants come =
        subst (λ (q : Resized). BitsCome h (bits_in r) q.file v.real d) (sym blocks_is)
        (subst (λ (q : BitsChange). BitsCome h (bits_in r) z.file v.real q) (sym bits_is)
        (subst (λ (q : Wanted). BitsCome h (bits_in r) z.file q.real b) (sym wants)
        (subst (λ (q : Option Stream). BitsCome h q z.file w.real b) (sym old) come)))

-- the bitmap was refused, or memory is wanting behind the blocks
pub bits_err : (bits now new : List Bool) (n : ℕ) (r : Record) (t : Tree) (more root : ℕ) (e : Extents) (s : Stream) (size wanted room : ℕ) (file : Record) (fault : DataFault) → Gets r t more root e s size wanted → now ≡ with_runs (chosen bits (last_cluster e.runs) wanted) bits → (count_by not bits < wanted → ⊥)
    → BitsAfter now new (counted_for bits root r e size wanted) file (Some s) (wanted_size (used_key n) (Some s) (bits_size size)) (Err fault) → room ≡ count_by not bits → IndexAfter bits new n r t more (Err (at_first room fault))
bits_err bits now new n r t more root e s size wanted room file fault gets set enough after room_is =
    let says = says bits now n r t more root e s size wanted gets set in
    let g = (blocks_come bits n r e size).growth in
    let h = (bits_come bits now n root r e s size wanted).growth in
    let le : wanted ≤ count_by not bits = elim (cases_lt (count_by not bits) wanted) [ inl less ↦ absurd (enough less) | inr le ↦ le ] in
    let counted = taken_count bits e wanted le in
    let left = ap (count_by not) set in
    let sum = ap wanted_by says.growths ∙ sum_two g h in
    let more_is = says.takes.more in
    let mid : now ≡ with_runs g.runs bits = set ∙ ap (λ (l : List Run). with_runs l bits) (sym says.takes.runs) in
    record {
      is_change = tt;
      taken = tt;
      short = λ less. short_at (count_by not now) room (count_by not bits) fault room_is (after.short (omega (arith, less, sum, more_is, counted, left)));
      unchanged = λ less. absurd (enough (omega (arith, less, more_is, ap more_of says.blocks)));
      full = λ fits. subst (λ (m : ℕ). IsRowFault (full_row (m ∷ [])) (at_first room fault)) (sym says.used) (full_at room _ fault (after.full (omega (arith, fits, sum, more_is, counted, left))));
      first = subst (λ (l : List Growth). TakesFirst (taken_runs l) bits new) (sym says.growths) (then_first g.runs h.runs [] bits now new mid after.first);
    }
  where
    short_at : (clear room at : ℕ) (fault : DataFault) → room ≡ at → IsShortFault clear fault → IsShortFault at (at_first room fault)
    short_at clear room at (Full used) is short = absurd short
    short_at clear room at (Short some) is short = is
    short_at clear room at Memory is short = tt

    full_at : (room : ℕ) (row : Option Reply) (fault : DataFault) → IsRowFault row fault → IsRowFault row (at_first room fault)
    full_at room row (Full used) is = is
    full_at room row (Short some) is = absurd is
    full_at room row Memory is = tt

-- the blocks were refused
pub blocks_err : (bits new : List Bool) (n : ℕ) (r : Record) (t : Tree) (more root : ℕ) (e : Extents) (s : Stream) (size wanted : ℕ) (fault : DataFault) → Gets r t more root e s size wanted → (count_by not bits < wanted → IsShortFault (count_by not bits) fault) → (count_by not bits < wanted → new ≡ bits) → (wanted ≤ count_by not bits → fault ≡ Memory)
    → TakesFirst (chosen bits (last_cluster e.runs) wanted) bits new → IndexAfter bits new n r t more (Err fault)
blocks_err bits new n r t more root e s size wanted fault gets short stays memory first =
    let now = with_runs (chosen bits (last_cluster e.runs) wanted) bits in
    let says = says bits now n r t more root e s size wanted gets refl in
    let g = (blocks_come bits n r e size).growth in
    let h = (bits_come bits now n root r e s size wanted).growth in
    let sum = ap wanted_by says.growths ∙ sum_two g h in
    let more_is = says.takes.more in
    record {
      is_change = tt;
      taken = tt;
      short = λ less. elim (cases_lt (count_by not bits) wanted) [ inl few ↦ short few | inr le ↦ subst (IsShortFault (count_by not bits)) (sym (memory le)) tt ];
      unchanged = λ less. stays (omega (arith, less, more_is, ap more_of says.blocks));
      full = λ fits. subst (IsRowFault (row_of bits n r t more)) (sym (memory (omega (arith, fits, sum, more_is)))) tt;
      first = subst (λ (l : List Growth). TakesFirst (taken_runs l) bits new) (sym says.growths) (first_of_both g.runs (h.runs ++ []) bits new (subst (λ (l : List Run). TakesFirst l bits new) (sym says.takes.runs) first));
    }

-- memory is wanting behind the blocks
pub memory_behind : (bits now : List Bool) (n : ℕ) (r : Record) (t : Tree) (more root : ℕ) (e : Extents) (s : Stream) (size wanted : ℕ) → Gets r t more root e s size wanted → now ≡ with_runs (chosen bits (last_cluster e.runs) wanted) bits → (count_by not bits < wanted → ⊥) → IndexAfter bits now n r t more (Err Memory)
memory_behind bits now n r t more root e s size wanted gets set enough =
    blocks_err bits now n r t more root e s size wanted Memory gets (λ less. tt) (λ less. absurd (enough less)) (λ le. refl) (takes_all (chosen bits (last_cluster e.runs) wanted) bits now set)

pub no_memory : (bits : List Bool) (n : ℕ) (r : Record) (t : Tree) (more : ℕ) → IndexAfter bits bits n r t more (Err Memory)
no_memory bits n r t more = record { is_change = tt; taken = tt; short = λ less. tt; unchanged = λ less. refl; full = λ fits. tt; first = takes_none (taken_runs (growths_of bits n r t more)) bits }

-- ---- the calls

pub counted_is : (per : ℕ) (bits : List Bool) (root : ℕ) (r b : Record) (e f : Extents) (size wanted : ℕ) → per ≡ 8 → f ≡ longer_extents per size wanted (chosen bits (last_cluster e.runs) wanted) e → b ≡ counted_record per index_allocation wanted f (valued_record index_root names_index (zeros root) r) → b ≡ counted_for bits root r e size wanted
counted_is per bits root r b e f size wanted eight extents is =
    is
    ∙ ap (λ (x : Extents). counted_record per index_allocation wanted x (valued_record index_root names_index (zeros root) r)) extents
    ∙ ap (λ (p : ℕ). counted_record p index_allocation wanted (longer_extents p size wanted (chosen bits (last_cluster e.runs) wanted) e) (valued_record index_root names_index (zeros root) r)) eight

pub joined_after : (per : ℕ) (bits now new : List Bool) (n : ℕ) (r b : Record) (t : Tree) (more root : ℕ) (e : Extents) (s : Stream) (size wanted room : ℕ) (z : Resized) (answer : Result CountedBits DataFault) → per ≡ 8 → Gets r t more root e s size wanted → IsLonger per index_allocation e r size wanted (chosen bits (last_cluster e.runs) wanted) z
    → now ≡ with_runs (chosen bits (last_cluster e.runs) wanted) bits → (count_by not bits < wanted → ⊥) → b ≡ counted_for bits root r e size wanted → room ≡ count_by not bits → BitsAfter now new b z.file (Some s) (wanted_size (used_key n) (Some s) (bits_size size)) answer → IndexAfter bits new n r t more (joined_answer room z answer)
joined_after per bits now new n r b t more root e s size wanted room z (Ok x) eight gets is set enough counted room_is after =
    both_ok per bits now new n r t more root e s size wanted z x (record { blocks = z; bits = x.bits; used = x.used }) eight gets is set enough (subst (λ (c : Record). BitsAfter now new c z.file (Some s) (wanted_size (used_key n) (Some s) (bits_size size)) (Ok x)) counted after) refl refl refl
joined_after per bits now new n r b t more root e s size wanted room z (Err fault) eight gets is set enough counted room_is after =
    bits_err bits now new n r t more root e s size wanted room z.file fault gets set enough (subst (λ (c : Record). BitsAfter now new c z.file (Some s) (wanted_size (used_key n) (Some s) (bits_size size)) (Err fault)) counted after) room_is

length_with : (first len : ℕ) (bits : List Bool) → length (with_run first len bits) ≡ length bits
unfolding with_run
length_with first len [] = refl
length_with zero zero (b ∷ bits) = refl
length_with zero (suc len) (b ∷ bits) = ap suc (length_with zero len bits)
length_with (suc first) len (b ∷ bits) = ap suc (length_with first len bits)

length_by : (lcn : Option ℕ) (len : ℕ) (bits : List Bool) → length (with_clusters lcn len bits) ≡ length bits
length_by None len bits = refl
length_by (Some first) len bits = length_with first len bits

length_taken : (runs : List Run) (bits : List Bool) → length (with_runs runs bits) ≡ length bits
unfolding with_runs
length_taken [] bits = refl
length_taken (r ∷ runs) bits = length_taken runs (with_clusters r.lcn r.len bits) ∙ length_by r.lcn r.len bits

-- what the call on the bitmap is given
pub record GivesBits (now : List Bool) (b : Record) (s : Stream) (least : ℕ) : Type 0 where
  pub clusters : length now ≤ cluster_limit
  pub begins : BeginsAtZero (attributes_of bitmap_type names_index b.attrs)
  pub is : stream_of bitmap_type names_index b.attrs ≡ Some s
  pub stands : StandsBelow (length now) (Some s)
  pub short : IsShortValue (Some s)
  pub some : 0 < least
  pub few : least ≤ 2 ^ 16

pub gives_bits : (bits now : List Bool) (runs : List Run) (r b : Record) (e : Extents) (s : Stream) (root more size wanted least : ℕ) → length bits ≤ cluster_limit → HasIndex (length bits) r → GrowsLittle r root more → blocks_in r ≡ Some (Placed e) → bits_in r ≡ Some s → size ≡ e.real + 4096 * more → now ≡ with_runs runs bits
    → b ≡ counted_for bits root r e size wanted → least ≡ bits_size size → GivesBits now b s least
gives_bits bits now runs r b e s root more size wanted least limit has little blocks bitmap size_is set counted least_is =
    let same = ap length set ∙ length_taken runs bits in
    let attrs : attributes_of bitmap_type names_index b.attrs ≡ attributes_of bitmap_type names_index r.attrs = ap (λ (c : Record). attributes_of bitmap_type names_index c.attrs) counted ∙ counted_others 8 index_allocation bitmap_type wanted _ _ other_bits ∙ root_stays bitmap_type root r bits_root in
    let real : size_or (blocks_in r) ≡ e.real = ap size_or blocks in
    let low = little.some in
    let high = little.real in
    let few = little.few in
    record {
      clusters = omega (arith, same, limit);
      begins = subst BeginsAtZero (sym attrs) has.bits;
      is = same_stream bitmap_type r b attrs ∙ bitmap;
      stands = subst (λ (m : ℕ). StandsBelow m (Some s)) (sym same) (subst (StandsBelow (length bits)) bitmap has.stands);
      short = subst IsShortValue bitmap has.short;
      some = omega (arith, least_is, size_is, real, low);
      few = omega (arith, least_is, size_is, real, high, few);
    }

pub at_least : (bits new : List Bool) (c f : Record) (s : Stream) (n least size : ℕ) (answer : Result CountedBits DataFault) → least ≡ bits_size size → BitsAfter bits new c f (Some s) (wanted_size (used_key n) (Some s) least) answer → BitsAfter bits new c f (Some s) (wanted_size (used_key n) (Some s) (bits_size size)) answer
at_least bits new c f s n least size answer is after = subst (λ (m : ℕ). BitsAfter bits new c f (Some s) (wanted_size (used_key n) (Some s) m) answer) is after
