-- What comes of the record as it is made is what comes of the directory.
use Rattle.std.proofs.Common.{◌≡◌, ℕ, ◌<◌, ◌≤◌, Bool, true, false, cond, List, [], ◌∷◌, Result, Err, refl, sym, ap, subst, ◌∙◌, inl, inr, arith}
use Rattle.std.specs.Prelude.{not, count_by, Option, IfOk, OnErr}
use Rattle.std.proofs.lemmas.Result.{IfOk-weaker}
use Rattle.record_model.specs.Constants.{index_allocation}
use Rattle.record_model.specs.Records.{Record}
use Rattle.index_model.specs.Trees.{Tree}
use Rattle.volume_model.specs.Volumes.{size_or}
use Rattle.tree_model.specs.declared.reply.Reply.{Reply}
use Rattle.space_model.specs.Choosing.{with_runs}
use Rattle.plan_space.specs.Choices.{TakesFirst}
use Rattle.made_data.specs.step_model.Placing.{Growth, more_of, taken_runs, wanted_by}
use Rattle.made_data.specs.step_model.Streams.{Wanted, wanted_blocks, wanted_used}
use Rattle.made_data.specs.data_plan.declared.fault.DataFault.{DataFault}
use Rattle.made_data.specs.data_plan.declared.fault.DataFault.TheVariants.{Memory}
use Rattle.made_data.specs.data_plan.Faults.{IsShortOf, HasRow}
use Rattle.made_data.specs.data_plan.Changes.{BeginsAtZero}
use Rattle.made_data.proofs.data_plan.Cases.{takes_none}
use Rattle.directory_growth.specs.declared.change.IndexChange.{IndexChange}
use Rattle.directory_growth.specs.Growing.{blocks_in, bits_in, HasIndex, GrowsLittle, growths_of, used_with, row_of, BlocksCome, BitsCome, IsIndexChange, IndexAfter}
use Rattle.made_index.specs.Made.{has_stream, HasNoStreams, indexed_record}
use Rattle.made_index.specs.Growing.{HasRoot, MayGrow, with_streams, IsAnyChange, AnyIndexAfter}
use Rattle.made_index.proofs.Having.{none_there, no_stream, blocks_placed}
use Rattle.made_index.proofs.Counting.{counted}

-- ---- which record it is

there_by : (clusters : ℕ) (r : Record) (t : Bool) → has_stream index_allocation r ≡ t → HasIndex clusters r → has_stream index_allocation r ≡ true
there_by clusters r true is has = is
there_by clusters r false is has = absurd (subst BeginsAtZero (none_there index_allocation r is) has.blocks)

pub has_there : (clusters : ℕ) (r : Record) → HasIndex clusters r → has_stream index_allocation r ≡ true
has_there clusters r has = there_by clusters r (has_stream index_allocation r) refl has

pub own_streams : (r : Record) → has_stream index_allocation r ≡ true → with_streams r ≡ r
own_streams r is = ap (λ (t : Bool). cond t r (indexed_record r)) is

pub made_streams : (r : Record) → has_stream index_allocation r ≡ false → with_streams r ≡ indexed_record r
made_streams r is = ap (λ (t : Bool). cond t r (indexed_record r)) is

both_not : {A : Type 0} (t : Bool) → t ≡ true → t ≡ false → A
both_not true is other = absurd cc
both_not false is other = absurd cc

pub index_there : (clusters : ℕ) (r : Record) → MayGrow clusters r → has_stream index_allocation r ≡ true → HasIndex clusters r
index_there clusters r (inl has) is = has
index_there clusters r (inr root) is = both_not (has_stream index_allocation r) is root.none.blocks

pub root_alone : (clusters : ℕ) (r : Record) → MayGrow clusters r → has_stream index_allocation r ≡ false → HasRoot r
root_alone clusters r (inl has) is = both_not (has_stream index_allocation r) (has_there clusters r has) is
root_alone clusters r (inr root) is = root

-- ---- blocks that come

pub same_size : (r : Record) → HasNoStreams r → size_or (blocks_in (indexed_record r)) ≡ size_or (blocks_in r)
same_size r none = ap size_or (blocks_placed r none) ∙ sym (ap size_or (no_stream index_allocation r none.blocks))

pub some_more : (r : Record) (root more : ℕ) → HasNoStreams r → GrowsLittle r root more → 0 < more
some_more r root more none little = (let none_yet = ap size_or (no_stream index_allocation r none.blocks) in let some = little.some in omega (arith, none_yet, some))

pub little_made : (r : Record) (root more : ℕ) → HasNoStreams r → GrowsLittle r root more → GrowsLittle (indexed_record r) root more
little_made r root more none little =
    let same = same_size r none in
    let some = little.some in
    let real = little.real in
    record { some = omega (arith, same, some); real = omega (arith, same, real); few = little.few; short = little.short }

-- ---- the answer

-- a change that comes in this record
record ComesIn (bits : List Bool) (n : ℕ) (r q : Record) (t : Tree) (more : ℕ) (a : IndexChange) : Type 0 where
  blocks_grow : Growth
  bits_grow : Growth
  growths : growths_of bits n r t more ≡ blocks_grow ∷ bits_grow ∷ []
  blocks : BlocksCome blocks_grow q (wanted_blocks n r more).real a.blocks
  bitmap : BitsCome bits_grow (bits_in q) a.blocks.file (wanted_used n r more).real a.bits
  used : a.used ≡ used_with bits n r t more
  room : a.used ≤ 1024

of_own : (bits : List Bool) (n : ℕ) (r : Record) (t : Tree) (more : ℕ) (a : IndexChange) → IsIndexChange bits n r t more a → ComesIn bits n r r t more a
of_own bits n r t more a is = record { blocks_grow = is.blocks_grow; bits_grow = is.bits_grow; growths = is.growths; blocks = is.blocks; bitmap = is.bitmap; used = is.used; room = is.room }

to_own : (bits : List Bool) (n : ℕ) (r : Record) (t : Tree) (more : ℕ) (a : IndexChange) → ComesIn bits n r r t more a → IsIndexChange bits n r t more a
to_own bits n r t more a is = record { blocks_grow = is.blocks_grow; bits_grow = is.bits_grow; growths = is.growths; blocks = is.blocks; bitmap = is.bitmap; used = is.used; room = is.room }

to_any : (bits : List Bool) (n : ℕ) (r q : Record) (t : Tree) (more : ℕ) (a : IndexChange) → with_streams r ≡ q → ComesIn bits n r q t more a → IsAnyChange bits n r t more a
to_any bits n r q t more a same is = record {
  blocks_grow = is.blocks_grow;
  bits_grow = is.bits_grow;
  growths = is.growths;
  blocks = subst (λ (x : Record). BlocksCome is.blocks_grow x (wanted_blocks n r more).real a.blocks) (sym same) is.blocks;
  bitmap = subst (λ (x : Record). BitsCome is.bits_grow (bits_in x) a.blocks.file (wanted_used n r more).real a.bits) (sym same) is.bitmap;
  used = is.used;
  room = is.room;
}

of_any : (bits : List Bool) (n : ℕ) (r q : Record) (t : Tree) (more : ℕ) (a : IndexChange) → with_streams r ≡ q → IsAnyChange bits n r t more a → ComesIn bits n r q t more a
of_any bits n r q t more a same is = record {
  blocks_grow = is.blocks_grow;
  bits_grow = is.bits_grow;
  growths = is.growths;
  blocks = subst (λ (x : Record). BlocksCome is.blocks_grow x (wanted_blocks n r more).real a.blocks) same is.blocks;
  bitmap = subst (λ (x : Record). BitsCome is.bits_grow (bits_in x) a.blocks.file (wanted_used n r more).real a.bits) same is.bitmap;
  used = is.used;
  room = is.room;
}

-- records of which a step says the same
turned : (bits : List Bool) (n : ℕ) (r s q : Record) (t : Tree) (more : ℕ) (a : IndexChange) → growths_of bits n s t more ≡ growths_of bits n r t more → wanted_blocks n s more ≡ wanted_blocks n r more → wanted_used n s more ≡ wanted_used n r more → used_with bits n s t more ≡ used_with bits n r t more
    → ComesIn bits n s q t more a → ComesIn bits n r q t more a
turned bits n r s q t more a growths wants wants_bits used is = record {
  blocks_grow = is.blocks_grow;
  bits_grow = is.bits_grow;
  growths = sym growths ∙ is.growths;
  blocks = subst (λ (w : Wanted). BlocksCome is.blocks_grow q w.real a.blocks) wants is.blocks;
  bitmap = subst (λ (w : Wanted). BitsCome is.bits_grow (bits_in q) a.blocks.file w.real a.bits) wants_bits is.bitmap;
  used = is.used ∙ used;
  room = is.room;
}

pub change_own : (bits : List Bool) (n : ℕ) (r : Record) (t : Tree) (more : ℕ) (a : IndexChange) → has_stream index_allocation r ≡ true → IsAnyChange bits n r t more a → IsIndexChange bits n r t more a
change_own bits n r t more a there is = to_own bits n r t more a (of_any bits n r r t more a (own_streams r there) is)

pub change_made : (bits : List Bool) (n : ℕ) (r : Record) (t : Tree) (more : ℕ) (a : IndexChange) → HasNoStreams r → 0 < more → IsAnyChange bits n r t more a → IsIndexChange bits n (indexed_record r) t more a
change_made bits n r t more a none some is =
    let s : Record = indexed_record r in
    to_own bits n s t more a
    (turned bits n s r s t more a (sym (counted.growths bits n r t more none)) (sym (counted.wants n r more none)) (sym (counted.wants_bits n r more none)) (sym (counted.used bits n r t more none some)) (of_any bits n r s t more a (made_streams r none.blocks) is))

change_turned : (bits : List Bool) (n : ℕ) (r : Record) (t : Tree) (more : ℕ) (a : IndexChange) → HasNoStreams r → 0 < more → IsIndexChange bits n (indexed_record r) t more a → IsAnyChange bits n r t more a
change_turned bits n r t more a none some is =
    let s : Record = indexed_record r in
    to_any bits n r s t more a (made_streams r none.blocks)
    (turned bits n r s s t more a (counted.growths bits n r t more none) (counted.wants n r more none) (counted.wants_bits n r more none) (counted.used bits n r t more none some) (of_own bits n s t more a is))

pub after_made : (bits new : List Bool) (n : ℕ) (r : Record) (t : Tree) (root more : ℕ) (result : Result IndexChange DataFault) → HasRoot r → GrowsLittle r root more → IndexAfter bits new n (indexed_record r) t more result → AnyIndexAfter bits new n r t more result
after_made bits new n r t root more result k little after =
    let s : Record = indexed_record r in
    let some = some_more r root more k.none little in
    let growths = counted.growths bits n r t more k.none in
    let clear = count_by not bits in
    record {
      is_change = IfOk-weaker result (IsIndexChange bits n s t more) (IsAnyChange bits n r t more) (λ a is. change_turned bits n r t more a k.none some is) after.is_change;
      taken = subst (λ (l : List Growth). IfOk result (λ _. new ≡ with_runs (taken_runs l) bits)) growths after.taken;
      short = subst (λ (l : List Growth). clear < wanted_by l → IsShortOf clear result) growths after.short;
      unchanged = subst (λ (g : Growth). clear < more_of g → new ≡ bits) (counted.takes bits n r more k.none) after.unchanged;
      full = subst (λ (l : List Growth). wanted_by l ≤ clear → HasRow (row_of bits n r t more) result) growths (subst (λ (row : Option Reply). wanted_by (growths_of bits n s t more) ≤ clear → HasRow row result) (counted.row bits n r t more k.none some) after.full);
      first = subst (λ (l : List Growth). OnErr result (TakesFirst (taken_runs l) bits new)) growths after.first;
    }

pub after_own : (bits new : List Bool) (n : ℕ) (r : Record) (t : Tree) (more : ℕ) (result : Result IndexChange DataFault) → has_stream index_allocation r ≡ true → IndexAfter bits new n r t more result → AnyIndexAfter bits new n r t more result
after_own bits new n r t more result there after = record {
  is_change = IfOk-weaker result (IsIndexChange bits n r t more) (IsAnyChange bits n r t more) (λ a is. to_any bits n r r t more a (own_streams r there) (of_own bits n r t more a is)) after.is_change;
  taken = after.taken;
  short = after.short;
  unchanged = after.unchanged;
  full = after.full;
  first = after.first;
}

pub no_memory : (bits : List Bool) (n : ℕ) (r : Record) (t : Tree) (more : ℕ) → AnyIndexAfter bits bits n r t more (Err Memory)
no_memory bits n r t more = record { is_change = tt; taken = tt; short = λ less. tt; unchanged = λ less. refl; full = λ fits. tt; first = takes_none (taken_runs (growths_of bits n r t more)) bits }
