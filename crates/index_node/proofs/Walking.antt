-- What was found so far, and what the bytes that are left come to.
use Rattle.std.proofs.Common.{◌≡◌, ℕ, suc, ◌+◌, ◌-◌, ◌<◌, ◌≤◌, Bool, true, false, ◌&&◌, nat_lt, List, [], ◌∷◌, ◌++◌, length, map, take, drop, Result, Ok, Err, refl, sym, ap, ◌∙◌, append_assoc, subst, arith, if◌then◌else◌}
use Rattle.std.specs.List.{list_all}
use Rattle.disk_model.specs.host_base.Answers.{◌>>=◌, needs}
use Rattle.disk_model.specs.Numbers.{field}
use Rattle.record_model.specs.declared.entry.Entry.{Entry}
use Rattle.record_model.specs.Records.{Pieces, with_piece}
use Rattle.record_model.specs.Nodes.{is_last, has_key, has_entry, entry_of, cut_entries, most_entries, has_flag}
use Rattle.record_model.proofs.NodePieces.{own_from_entry, cut_last, cut_short, cut_entries_next}
use Rattle.index_node.specs.declared.walk.Next.{Next}
use Rattle.index_node.specs.declared.walk.Next.TheVariants.{Inner, Last, Short, Faulty}
use Rattle.index_node.specs.declared.walk.Found.{Found}
use Rattle.index_node.specs.Walks.{next_of, nothing_found, with_found, verdict_of, entries_of, entries_at}

-- the rules from 5 on, in their order
abbrev chain : Bool → Bool → List Entry → Result (List Entry) ℕ
chain ended same entries = needs ended 5 >>= λ _. needs same 6 >>= λ _. Ok entries

-- what was found, and the pieces that follow
abbrev pub judged : ℕ → Found → Pieces → Result (List Entry) ℕ
judged flag f p = chain p.ended (f.same && list_all (has_flag flag) p.pieces) (f.entries ++ map entry_of p.pieces)

and_assoc : (a b c : Bool) → ((a && b) && c) ≡ (a && (b && c))
and_assoc true b c = refl
and_assoc false b c = refl

and_true : (a : Bool) → (a && true) ≡ a
and_true true = refl
and_true false = refl

judged_more : (flag : ℕ) (f : Found) (piece : List ℕ) (p : Pieces) → judged flag (with_found flag f piece) p ≡ judged flag f (record { pieces = piece ∷ p.pieces; ended = p.ended })
unfolding with_found
judged_more flag f piece p =
    ap (λ (b : Bool). chain p.ended b ((f.entries ++ entry_of piece ∷ []) ++ map entry_of p.pieces)) (and_assoc f.same (has_flag flag piece) (list_all (has_flag flag) p.pieces))
    ∙ ap (λ (es : List Entry). chain p.ended (f.same && (has_flag flag piece && list_all (has_flag flag) p.pieces)) es) (append_assoc f.entries (entry_of piece ∷ []) (map entry_of p.pieces))

judged_last : (flag : ℕ) (f : Found) (piece : List ℕ) → judged flag f (record { pieces = piece ∷ []; ended = true }) ≡ verdict_of (with_found flag f piece)
unfolding with_found
judged_last flag f piece = ap (λ (b : Bool). chain true (f.same && b) (f.entries ++ entry_of piece ∷ [])) (and_true (has_flag flag piece))

judged_first : (flag : ℕ) (p : Pieces) → judged flag nothing_found p ≡ entries_of flag p
judged_first flag p = refl

-- ---- one step

abbrev next_by : Bool → Bool → Bool → ℕ → Next
next_by short lawful last n = if short then Short else if lawful then (if last then Last n else Inner n) else Faulty

-- what an answer says of the tests
by_inner : (s l t : Bool) (n k : ℕ) → next_by s l t n ≡ Inner k → (s ≡ false) × (l ≡ true) × (t ≡ false) × (n ≡ k)
by_inner true l t n k h = cc
by_inner false true true n k h = cc
by_inner false true false n k h = (refl, refl, refl, cc)
by_inner false false t n k h = cc

by_last : (s l t : Bool) (n k : ℕ) → next_by s l t n ≡ Last k → (s ≡ false) × (l ≡ true) × (t ≡ true) × (n ≡ k)
by_last true l t n k h = cc
by_last false true true n k h = (refl, refl, refl, cc)
by_last false true false n k h = cc
by_last false false t n k h = cc

by_short : (s l t : Bool) (n : ℕ) → next_by s l t n ≡ Short → s ≡ true
by_short true l t n h = refl
by_short false true true n h = cc
by_short false true false n h = cc
by_short false false t n h = cc

by_fault : (s l t : Bool) (n : ℕ) → next_by s l t n ≡ Faulty → (s ≡ false) × (l ≡ false)
by_fault true l t n h = cc
by_fault false true true n h = cc
by_fault false true false n h = cc
by_fault false false t n h = (refl, refl)

-- the entry that is next: its own bytes
record IsNext (rest : List ℕ) (n : ℕ) : Type 0 where
  pub inside : n ≤ length rest
  pub front : 0x10 ≤ length (take n rest)
  pub own_length : field 0x08 2 (take n rest) ≡ length (take n rest)
  pub key : has_key (take n rest) ≡ true

is_next : (rest : List ℕ) (n : ℕ) → has_entry rest ≡ true → field 0x08 2 rest ≡ n → IsNext rest n
is_next rest n lawful e =
    let own = own_from_entry rest lawful in
    subst (IsNext rest) e (record { inside = own.0; front = omega (arith, own.1.long); own_length = own.1.own_length; key = own.1.key })

inner_is : (rest : List ℕ) (n : ℕ) → next_of rest ≡ Inner n → IsNext rest n
unfolding next_of
inner_is rest n next = let p = by_inner (nat_lt (length rest) 0x10) (has_entry rest) (is_last rest) (field 0x08 2 rest) n next in is_next rest n p.1 p.3

last_is : (rest : List ℕ) (n : ℕ) → next_of rest ≡ Last n → IsNext rest n
unfolding next_of
last_is rest n next = let p = by_last (nat_lt (length rest) 0x10) (has_entry rest) (is_last rest) (field 0x08 2 rest) n next in is_next rest n p.1 p.3

pub inner_inside : (rest : List ℕ) (n : ℕ) → next_of rest ≡ Inner n → n ≤ length rest
inner_inside rest n next = (inner_is rest n next).inside

pub inner_front : (rest : List ℕ) (n : ℕ) → next_of rest ≡ Inner n → 0x10 ≤ length (take n rest)
inner_front rest n next = (inner_is rest n next).front

pub inner_length : (rest : List ℕ) (n : ℕ) → next_of rest ≡ Inner n → field 0x08 2 (take n rest) ≡ length (take n rest)
inner_length rest n next = (inner_is rest n next).own_length

pub inner_key : (rest : List ℕ) (n : ℕ) → next_of rest ≡ Inner n → has_key (take n rest) ≡ true
inner_key rest n next = (inner_is rest n next).key

pub last_inside : (rest : List ℕ) (n : ℕ) → next_of rest ≡ Last n → n ≤ length rest
last_inside rest n next = (last_is rest n next).inside

pub last_front : (rest : List ℕ) (n : ℕ) → next_of rest ≡ Last n → 0x10 ≤ length (take n rest)
last_front rest n next = (last_is rest n next).front

pub last_length : (rest : List ℕ) (n : ℕ) → next_of rest ≡ Last n → field 0x08 2 (take n rest) ≡ length (take n rest)
last_length rest n next = (last_is rest n next).own_length

pub last_key : (rest : List ℕ) (n : ℕ) → next_of rest ≡ Last n → has_key (take n rest) ≡ true
last_key rest n next = (last_is rest n next).key

-- what is known of an entry that is next
pub ruleset next = (inner_inside, inner_front, inner_length, inner_key, last_inside, last_front, last_length, last_key)

-- ---- the walk

-- what the walk comes to, with so many entries at most
abbrev pub still : ℕ → ℕ → List ℕ → Found → Result (List Entry) ℕ
still flag most rest f = cut_entries most rest >>= judged flag f

later_piece : (flag : ℕ) (f : Found) (piece : List ℕ) (read : Result Pieces ℕ) → (with_piece piece read >>= judged flag f) ≡ (read >>= judged flag (with_found flag f piece))
later_piece flag f piece (Ok p) = sym (judged_more flag f piece p)
later_piece flag f piece (Err e) = refl

step : (flag count i : ℕ) (rest : List ℕ) (f : Found) → i < count → still flag (count - i) rest f ≡ (cut_short (count - (i + 1)) rest (nat_lt (length rest) 0x10) >>= judged flag f)
step flag count i rest f lt =
    let next : count - i ≡ suc (count - (i + 1)) = omega arith in
    ap (λ (n : ℕ). still flag n rest f) next ∙ ap (λ (r : Result Pieces ℕ). r >>= judged flag f) (cut_entries_next (count - (i + 1)) rest)

tested : (flag m : ℕ) (rest : List ℕ) (f : Found) (last : Bool) → nat_lt (length rest) 0x10 ≡ false → has_entry rest ≡ true → is_last rest ≡ last → (cut_short m rest (nat_lt (length rest) 0x10) >>= judged flag f) ≡ (cut_last m rest last >>= judged flag f)
tested flag m rest f last long lawful e =
    ap (λ (b : Bool). cut_short m rest b >>= judged flag f) long
    ∙ ap (λ (b : Bool). (needs b 4 >>= λ _. cut_last m rest (is_last rest)) >>= judged flag f) lawful
    ∙ ap (λ (b : Bool). cut_last m rest b >>= judged flag f) e

pub goes_on : (flag count i : ℕ) (rest : List ℕ) (f : Found) (n : ℕ) → i < count → next_of rest ≡ Inner n → still flag (count - i) rest f ≡ still flag (count - (i + 1)) (drop n rest) (with_found flag f (take n rest))
unfolding next_of
goes_on flag count i rest f n lt next =
    let m : ℕ = count - (i + 1) in
    let own : ℕ = field 0x08 2 rest in
    let p = by_inner (nat_lt (length rest) 0x10) (has_entry rest) (is_last rest) own n next in
    step flag count i rest f lt
    ∙ tested flag m rest f false p.0 p.1 p.2
    ∙ later_piece flag f (take own rest) (cut_entries m (drop own rest))
    ∙ ap (λ (k : ℕ). still flag m (drop k rest) (with_found flag f (take k rest))) p.3

pub ends_at_last : (flag count i : ℕ) (rest : List ℕ) (f : Found) (n : ℕ) → i < count → next_of rest ≡ Last n → still flag (count - i) rest f ≡ verdict_of (with_found flag f (take n rest))
unfolding next_of
ends_at_last flag count i rest f n lt next =
    let own : ℕ = field 0x08 2 rest in
    let p = by_last (nat_lt (length rest) 0x10) (has_entry rest) (is_last rest) own n next in
    step flag count i rest f lt
    ∙ tested flag (count - (i + 1)) rest f true p.0 p.1 p.2
    ∙ judged_last flag f (take own rest)
    ∙ ap (λ (k : ℕ). verdict_of (with_found flag f (take k rest))) p.3

pub ends_short : (flag count i : ℕ) (rest : List ℕ) (f : Found) → i < count → next_of rest ≡ Short → still flag (count - i) rest f ≡ Err 5
unfolding next_of
ends_short flag count i rest f lt next =
    step flag count i rest f lt ∙ ap (λ (b : Bool). cut_short (count - (i + 1)) rest b >>= judged flag f) (by_short (nat_lt (length rest) 0x10) (has_entry rest) (is_last rest) (field 0x08 2 rest) next)

pub ends_faulty : (flag count i : ℕ) (rest : List ℕ) (f : Found) → i < count → next_of rest ≡ Faulty → still flag (count - i) rest f ≡ Err 4
unfolding next_of
ends_faulty flag count i rest f lt next =
    let p = by_fault (nat_lt (length rest) 0x10) (has_entry rest) (is_last rest) (field 0x08 2 rest) next in
    step flag count i rest f lt
    ∙ ap (λ (b : Bool). cut_short (count - (i + 1)) rest b >>= judged flag f) p.0
    ∙ ap (λ (b : Bool). (needs b 4 >>= λ _. cut_last (count - (i + 1)) rest (is_last rest)) >>= judged flag f) p.1

pub ends_full : (flag count i : ℕ) (rest : List ℕ) (f : Found) → count ≤ i → still flag (count - i) rest f ≡ Err 5
unfolding cut_entries
ends_full flag count i rest f le =
    let none : count - i ≡ 0 = omega arith in
    ap (λ (n : ℕ). still flag n rest f) none

starts_at : (flag : ℕ) (r : Result Pieces ℕ) → (r >>= judged flag nothing_found) ≡ (r >>= entries_of flag)
starts_at flag (Ok p) = judged_first flag p
starts_at flag (Err e) = refl

pub starts : (flag : ℕ) (bytes : List ℕ) → still flag (most_entries bytes - 0) bytes nothing_found ≡ entries_at flag bytes
unfolding entries_at
starts flag bytes =
    let all : most_entries bytes - 0 ≡ most_entries bytes = omega arith in
    ap (λ (n : ℕ). still flag n bytes nothing_found) all ∙ starts_at flag (cut_entries (most_entries bytes) bytes)
