-- Entries of the log: the table against the reader.
use Rattle.std.proofs.Common.{◌≡◌, ◌⊎◌, ℕ, zero, suc, ◌+◌, ◌-◌, ◌%◌, ◌^◌, ◌<◌, ◌≤◌, Bool, true, false, List, [], ◌∷◌, length, take, drop, Result, Ok, Err, refl, sym, ap, ◌∙◌, inl, inr, arith}
use Rattle.std.specs.Prelude.{nat_le, nat_lt, ◌==◌, ◌&&◌, if◌then◌else◌}
use Rattle.std.specs.List.{list_all}
use Rattle.std.proofs.lemmas.Bool.{and_parts, and_from, eqb-true, eq-eqb, le-leb, leb-true, lt-ltb, ltb-true}
use Rattle.std.proofs.lemmas.List.{length-take-le, length-drop, drop-take}
use Rattle.disk_model.specs.host_base.Answers.{◌>>=◌, needs}
use Rattle.disk_model.specs.Numbers.{field}
use Rattle.disk_model.specs.Bytes.{part, zeros, up8, all_zeros}
use Rattle.log_model.specs.declared.entry.Entry.{Entry}
use Rattle.log_model.specs.declared.entry.Act.{Act}
use Rattle.log_model.specs.declared.entry.Act.TheVariants.{Commit}
use Rattle.log_model.specs.declared.fault.EntryFault.{EntryFault}
use Rattle.log_model.specs.declared.fault.EntryFault.TheVariants.{Shape}
use Rattle.log_model.specs.Entries.{update_operation, most_bytes, head_size, update_size, said_size, is_sized, front_fits, transaction_fits, lengths_fit, is_placed, target_fits, cluster_fits, is_filled, bytes_fit, update_fits, no_lengths, no_place, commit_fits, act_at, entry_at, IsPlaced}
use Rattle.log_model.proofs.Passing.{first_passed, step_passed, two_passed, three_passed, four_passed, five_passed, two_pass, three_pass, four_pass, five_pass, two_steps, four_steps}

-- ---- zeros, and parts of a front

pub zeros_from_test : (xs : List ℕ) → all_zeros xs ≡ true → xs ≡ zeros (length xs)
unfolding all_zeros zeros
zeros_from_test [] h = refl
zeros_from_test (x ∷ xs) h =
    let p = and_parts (x == 0) (list_all (λ b. b == 0) xs) h in
    let here : x ≡ 0 = eqb-true _ _ p.0 in
    ap (λ (n : ℕ). n ∷ xs) here ∙ ap (λ (l : List ℕ). 0 ∷ l) (zeros_from_test xs p.1)

pub zeros_pass : (n : ℕ) → all_zeros (zeros n) ≡ true
unfolding all_zeros zeros
zeros_pass zero = refl
zeros_pass (suc n) = zeros_pass n

take_twice : (n m : ℕ) (xs : List ℕ) → n ≤ m → take n (take m xs) ≡ take n xs
take_twice zero m xs le = refl
take_twice (suc n) zero xs le = absurd (omega arith)
take_twice (suc n) (suc m) [] le = refl
take_twice (suc n) (suc m) (x ∷ xs) le = ap (λ (l : List ℕ). x ∷ l) (take_twice n m xs (omega arith))

pub part-take : (at n m : ℕ) (bytes : List ℕ) → at + n ≤ m → part at n (take m bytes) ≡ part at n bytes
part-take at n m bytes le =
    let k = m - at in
    let whole : m ≡ at + k = omega arith in
    ap (λ (x : ℕ). take n (drop at (take x bytes))) whole ∙ ap (take n) (drop-take at k bytes) ∙ take_twice n k (drop at bytes) (omega arith)

pub length-part : (at n : ℕ) (bytes : List ℕ) → at + n ≤ length bytes → length (part at n bytes) ≡ n
length-part at n bytes le = length-take-le n (drop at bytes) (omega (arith, length-drop at bytes))

-- ---- the header

pub record FrontParts (s : List ℕ) : Type 0 where
  pub undo_next : field 0x10 8 s ≡ field 0x08 8 s
  pub own_length : 0x30 + field 0x18 4 s ≡ said_size s
  pub inside : said_size s ≤ length s
  pub zero : field 0x1C 4 s ≡ 0
  pub kind : field 0x20 4 s ≡ 1
  pub some : 1 ≤ field 0x24 4 s
  pub zero_too : field 0x28 2 s ≡ 0

pub front_parts : (s : List ℕ) → front_fits s ≡ Ok tt → transaction_fits s ≡ Ok tt → FrontParts s
unfolding front_fits transaction_fits is_sized
front_parts s front transaction =
    let a = four_passed (field 0x10 8 s == field 0x08 8 s) (0x30 + field 0x18 4 s == said_size s && nat_le (said_size s) (length s)) (field 0x1C 4 s == 0) (field 0x20 4 s == 1) (Shape 0x10) (Shape 0x18) (Shape 0x1C) (Shape 0x20) front in
    let b = two_passed (nat_le 1 (field 0x24 4 s)) (field 0x28 2 s == 0) (Shape 0x24) (Shape 0x28) transaction in
    let sized = and_parts (0x30 + field 0x18 4 s == said_size s) (nat_le (said_size s) (length s)) a.1 in
    record { undo_next = eqb-true _ _ a.0; own_length = eqb-true _ _ sized.0; inside = leb-true _ _ sized.1; zero = eqb-true _ _ a.2; kind = eqb-true _ _ a.3; some = leb-true _ _ b.0; zero_too = eqb-true _ _ b.1 }

pub front_from : (s : List ℕ) → FrontParts s → (front_fits s ≡ Ok tt) × (transaction_fits s ≡ Ok tt)
unfolding front_fits transaction_fits is_sized
front_from s p = (
  four_pass (field 0x10 8 s == field 0x08 8 s) (0x30 + field 0x18 4 s == said_size s && nat_le (said_size s) (length s)) (field 0x1C 4 s == 0) (field 0x20 4 s == 1) (Shape 0x10) (Shape 0x18) (Shape 0x1C) (Shape 0x20)
      (eq-eqb _ _ p.undo_next) (and_from _ _ (eq-eqb _ _ p.own_length) (le-leb _ _ p.inside)) (eq-eqb _ _ p.zero) (eq-eqb _ _ p.kind),
  two_pass (nat_le 1 (field 0x24 4 s)) (field 0x28 2 s == 0) (Shape 0x24) (Shape 0x28) (le-leb _ _ p.some) (eq-eqb _ _ p.zero_too),
)

-- ---- where a block begins

pub placed_from_test : (kind sector : ℕ) → kind ≤ 2 → is_placed kind sector ≡ true → (sector < 8) × IsPlaced kind sector
unfolding is_placed
placed_from_test zero sector le h = let p = and_parts (nat_lt sector 8) true h in (ltb-true _ _ p.0, inl refl)
placed_from_test (suc zero) sector le h = let p = and_parts (nat_lt sector 8) (sector % 2 == 0) h in (ltb-true _ _ p.0, inr (inl (refl, eqb-true _ _ p.1)))
placed_from_test (suc (suc zero)) sector le h = let p = and_parts (nat_lt sector 8) (sector == 0) h in (ltb-true _ _ p.0, inr (inr (refl, eqb-true _ _ p.1)))
placed_from_test (suc (suc (suc kind))) sector le h = absurd (omega arith)

pub test_from_placed : (kind sector : ℕ) → sector < 8 → IsPlaced kind sector → is_placed kind sector ≡ true
unfolding is_placed
test_from_placed kind sector lt (inl e) = ap (λ (k : ℕ). is_placed k sector) e ∙ and_from (nat_lt sector 8) true (lt-ltb _ _ lt) refl
test_from_placed kind sector lt (inr (inl (e, even))) = ap (λ (k : ℕ). is_placed k sector) e ∙ and_from (nat_lt sector 8) (sector % 2 == 0) (lt-ltb _ _ lt) (eq-eqb _ _ even)
test_from_placed kind sector lt (inr (inr (e, first))) = ap (λ (k : ℕ). is_placed k sector) e ∙ and_from (nat_lt sector 8) (sector == 0) (lt-ltb _ _ lt) (eq-eqb _ _ first)

pub small_kind : (kind sector : ℕ) → IsPlaced kind sector → kind ≤ 2
small_kind kind sector (inl e) = omega arith
small_kind kind sector (inr (inl (e, even))) = omega arith
small_kind kind sector (inr (inr (e, first))) = omega arith

-- ---- an update

pub record UpdateParts (s : List ℕ) : Type 0 where
  pub undo_operation : field 0x32 2 s ≡ update_operation
  pub redo_offset : field 0x34 2 s ≡ 0x28
  pub some : 1 ≤ field 0x36 2 s
  pub few : field 0x36 2 s ≤ most_bytes
  pub undo_offset : field 0x38 2 s ≡ 0x28 + up8 (field 0x36 2 s)
  pub undo_length : field 0x3A 2 s ≡ field 0x36 2 s
  pub target : field 0x3C 2 s ≡ 0
  pub clusters : field 0x3E 2 s ≡ 1
  pub kind : field 0x42 2 s ≤ 2
  pub placed : is_placed (field 0x42 2 s) (field 0x44 2 s) ≡ true
  pub zero : field 0x46 2 s ≡ 0
  pub vcn : field 0x48 8 s ≡ 0
  pub lcn : field 0x50 8 s < 2 ^ 61
  pub redo_zeros : is_filled 0x58 (field 0x36 2 s) s ≡ true
  pub undo_zeros : is_filled (0x58 + up8 (field 0x36 2 s)) (field 0x36 2 s) s ≡ true

update_steps : (s : List ℕ) → update_fits s ≡ Ok tt → (lengths_fit s ≡ Ok tt) × (target_fits s ≡ Ok tt) × (cluster_fits s ≡ Ok tt) × (bytes_fit s ≡ Ok tt)
unfolding update_fits
update_steps s h =
    let a = step_passed (lengths_fit s) (λ _. target_fits s >>= λ _. cluster_fits s >>= λ _. bytes_fit s) tt h in
    let b = step_passed (target_fits s) (λ _. cluster_fits s >>= λ _. bytes_fit s) tt a.1 in
    let c = step_passed (cluster_fits s) (λ _. bytes_fit s) tt b.1 in
    (a.0, b.0, c.0, c.1)

pub update_parts : (s : List ℕ) → update_fits s ≡ Ok tt → UpdateParts s
unfolding lengths_fit target_fits cluster_fits bytes_fit
update_parts s h =
    let n = field 0x36 2 s in
    let steps = update_steps s h in
    let a = five_passed (field 0x32 2 s == update_operation) (field 0x34 2 s == 0x28) (nat_le 1 n && nat_le n most_bytes) (field 0x38 2 s == 0x28 + up8 n) (field 0x3A 2 s == n) (Shape 0x32) (Shape 0x34) (Shape 0x36) (Shape 0x38) (Shape 0x3A) steps.0 in
    let b = four_passed (field 0x3C 2 s == 0) (field 0x3E 2 s == 1) (nat_le (field 0x42 2 s) 2) (is_placed (field 0x42 2 s) (field 0x44 2 s)) (Shape 0x3C) (Shape 0x3E) (Shape 0x42) (Shape 0x44) steps.1 in
    let c = three_passed (field 0x46 2 s == 0) (field 0x48 8 s == 0) (nat_lt (field 0x50 8 s) (2 ^ 61)) (Shape 0x46) (Shape 0x48) (Shape 0x50) steps.2 in
    let d = two_passed (is_filled 0x58 n s) (is_filled (0x58 + up8 n) n s) (Shape (0x58 + n)) (Shape (0x58 + up8 n + n)) steps.3 in
    let size = and_parts (nat_le 1 n) (nat_le n most_bytes) a.2 in
    record {
      undo_operation = eqb-true _ _ a.0;
      redo_offset = eqb-true _ _ a.1;
      some = leb-true _ _ size.0;
      few = leb-true _ _ size.1;
      undo_offset = eqb-true _ _ a.3;
      undo_length = eqb-true _ _ a.4;
      target = eqb-true _ _ b.0;
      clusters = eqb-true _ _ b.1;
      kind = leb-true _ _ b.2;
      placed = b.3;
      zero = eqb-true _ _ c.0;
      vcn = eqb-true _ _ c.1;
      lcn = ltb-true _ _ c.2;
      redo_zeros = d.0;
      undo_zeros = d.1;
    }

pub update_from : (s : List ℕ) → UpdateParts s → update_fits s ≡ Ok tt
unfolding update_fits lengths_fit target_fits cluster_fits bytes_fit
update_from s p =
    let n = field 0x36 2 s in
    four_steps (lengths_fit s) (target_fits s) (cluster_fits s) (bytes_fit s)
    (five_pass (field 0x32 2 s == update_operation) (field 0x34 2 s == 0x28) (nat_le 1 n && nat_le n most_bytes) (field 0x38 2 s == 0x28 + up8 n) (field 0x3A 2 s == n) (Shape 0x32) (Shape 0x34) (Shape 0x36) (Shape 0x38) (Shape 0x3A)
    (eq-eqb _ _ p.undo_operation) (eq-eqb _ _ p.redo_offset) (and_from _ _ (le-leb _ _ p.some) (le-leb _ _ p.few)) (eq-eqb _ _ p.undo_offset) (eq-eqb _ _ p.undo_length))
    (four_pass (field 0x3C 2 s == 0) (field 0x3E 2 s == 1) (nat_le (field 0x42 2 s) 2) (is_placed (field 0x42 2 s) (field 0x44 2 s)) (Shape 0x3C) (Shape 0x3E) (Shape 0x42) (Shape 0x44)
    (eq-eqb _ _ p.target) (eq-eqb _ _ p.clusters) (le-leb _ _ p.kind) p.placed)
    (three_pass (field 0x46 2 s == 0) (field 0x48 8 s == 0) (nat_lt (field 0x50 8 s) (2 ^ 61)) (Shape 0x46) (Shape 0x48) (Shape 0x50)
    (eq-eqb _ _ p.zero) (eq-eqb _ _ p.vcn) (lt-ltb _ _ p.lcn))
    (two_pass (is_filled 0x58 n s) (is_filled (0x58 + up8 n) n s) (Shape (0x58 + n)) (Shape (0x58 + up8 n + n)) p.redo_zeros p.undo_zeros)

-- ---- a commit

pub record CommitParts (s : List ℕ) : Type 0 where
  pub undo_operation : field 0x32 2 s ≡ 0
  pub redo_offset : field 0x34 2 s ≡ 0
  pub redo_length : field 0x36 2 s ≡ 0
  pub undo_offset : field 0x38 2 s ≡ 0
  pub undo_length : field 0x3A 2 s ≡ 0
  pub clusters : field 0x3E 2 s ≡ 0
  pub first_byte : field 0x40 2 s ≡ 0
  pub block_kind : field 0x42 2 s ≡ 0
  pub sector : field 0x44 2 s ≡ 0
  pub zero : field 0x46 2 s ≡ 0

pub commit_parts : (s : List ℕ) → commit_fits s ≡ Ok tt → CommitParts s
unfolding commit_fits no_lengths no_place
commit_parts s h =
    let steps = step_passed (no_lengths s) (λ _. no_place s) tt h in
    let a = five_passed (field 0x32 2 s == 0) (field 0x34 2 s == 0) (field 0x36 2 s == 0) (field 0x38 2 s == 0) (field 0x3A 2 s == 0) (Shape 0x32) (Shape 0x34) (Shape 0x36) (Shape 0x38) (Shape 0x3A) steps.0 in
    let b = five_passed (field 0x3E 2 s == 0) (field 0x40 2 s == 0) (field 0x42 2 s == 0) (field 0x44 2 s == 0) (field 0x46 2 s == 0) (Shape 0x3E) (Shape 0x40) (Shape 0x42) (Shape 0x44) (Shape 0x46) steps.1 in
    record {
      undo_operation = eqb-true _ _ a.0;
      redo_offset = eqb-true _ _ a.1;
      redo_length = eqb-true _ _ a.2;
      undo_offset = eqb-true _ _ a.3;
      undo_length = eqb-true _ _ a.4;
      clusters = eqb-true _ _ b.0;
      first_byte = eqb-true _ _ b.1;
      block_kind = eqb-true _ _ b.2;
      sector = eqb-true _ _ b.3;
      zero = eqb-true _ _ b.4;
    }

pub commit_from : (s : List ℕ) → CommitParts s → commit_fits s ≡ Ok tt
unfolding commit_fits no_lengths no_place
commit_from s p =
    two_steps (no_lengths s) (no_place s)
    (five_pass (field 0x32 2 s == 0) (field 0x34 2 s == 0) (field 0x36 2 s == 0) (field 0x38 2 s == 0) (field 0x3A 2 s == 0) (Shape 0x32) (Shape 0x34) (Shape 0x36) (Shape 0x38) (Shape 0x3A)
    (eq-eqb _ _ p.undo_operation) (eq-eqb _ _ p.redo_offset) (eq-eqb _ _ p.redo_length) (eq-eqb _ _ p.undo_offset) (eq-eqb _ _ p.undo_length))
    (five_pass (field 0x3E 2 s == 0) (field 0x40 2 s == 0) (field 0x42 2 s == 0) (field 0x44 2 s == 0) (field 0x46 2 s == 0) (Shape 0x3E) (Shape 0x40) (Shape 0x42) (Shape 0x44) (Shape 0x46)
    (eq-eqb _ _ p.clusters) (eq-eqb _ _ p.first_byte) (eq-eqb _ _ p.block_kind) (eq-eqb _ _ p.sector) (eq-eqb _ _ p.zero))

-- ---- by the operation

abbrev pub chosen : Bool → Bool → Result (Unit {0}) EntryFault → Result (Unit {0}) EntryFault → Act → Result Act EntryFault
chosen u c update commit act = if u then (update >>= λ _. Ok act) else (if c then (commit >>= λ _. Ok Commit) else Err (Shape 0x30))

abbrev pub Chose : Bool → Bool → Result (Unit {0}) EntryFault → Result (Unit {0}) EntryFault → Act → Act → Type 0
Chose u c update commit act found = ((u ≡ true) × (update ≡ Ok tt) × (act ≡ found)) ⊎ ((u ≡ false) × (c ≡ true) × (commit ≡ Ok tt) × (Commit ≡ found))

abbrev pub good : Act → Result Act EntryFault
good act = Ok act

pub chose : (u c : Bool) (update commit : Result (Unit {0}) EntryFault) (act found : Act) → chosen u c update commit act ≡ Ok found → Chose u c update commit act found
chose true c update commit act found h = let p = step_passed update (λ _. good act) found h in let same : act ≡ found = cc (p.1) in inl (refl, p.0, same)
chose false true update commit act found h = let p = step_passed commit (λ _. good Commit) found h in let same : Commit ≡ found = cc (p.1) in inr (refl, refl, p.0, same)
chose false false update commit act found h = absurd cc

pub chosen_update : (u c : Bool) (update commit : Result (Unit {0}) EntryFault) (act : Act) → u ≡ true → update ≡ Ok tt → chosen u c update commit act ≡ Ok act
chosen_update u c update commit act a b = rw (a, b) refl

pub chosen_commit : (u c : Bool) (update commit : Result (Unit {0}) EntryFault) (act : Act) → u ≡ false → c ≡ true → commit ≡ Ok tt → chosen u c update commit act ≡ Ok Commit
chosen_commit u c update commit act a b d = rw (a, b, d) refl

pub said_update : (s : List ℕ) → field 0x30 2 s ≡ update_operation → said_size s ≡ update_size (field 0x36 2 s)
unfolding said_size
said_update s e = ap (λ (t : Bool). if t then update_size (field 0x36 2 s) else head_size) (eq-eqb (field 0x30 2 s) update_operation e)

pub said_other : (s : List ℕ) → (field 0x30 2 s == update_operation) ≡ false → said_size s ≡ head_size
unfolding said_size
said_other s e = ap (λ (t : Bool). if t then update_size (field 0x36 2 s) else head_size) e

-- ---- a whole entry

abbrev pub made : List ℕ → Act → Entry
made bytes act = record { lsn = field 0x00 8 bytes; previous = field 0x08 8 bytes; tx = field 0x24 4 bytes; act = act }

abbrev ok : Entry → Result Entry EntryFault
ok e = Ok e

made_is : (r : Result Act EntryFault) (bytes : List ℕ) (e : Entry) → (r >>= λ act. Ok (made bytes act)) ≡ Ok e → (r ≡ Ok e.act) × (made bytes e.act ≡ e)
made_is (Ok act) bytes e is =
    let same : made bytes act ≡ e = cc in
    let own : act ≡ e.act = ap (λ (x : Entry). x.act) same in
    (ap (λ (a : Act). good a) own, ap (made bytes) (sym own) ∙ same)
made_is (Err f) bytes e is = absurd cc

pub record EntryParts (bytes : List ℕ) (e : Entry) : Type 0 where
  pub long : head_size ≤ length bytes
  pub front : FrontParts bytes
  pub act : act_at bytes ≡ Ok e.act
  pub same : made bytes e.act ≡ e

pub entry_parts : (bytes : List ℕ) (e : Entry) → entry_at bytes ≡ Ok e → EntryParts bytes e
unfolding entry_at
entry_parts bytes e h =
    let last : Unit {0} → Result Entry EntryFault = λ _. act_at bytes >>= λ act. Ok (made bytes act) in
    let a = first_passed (nat_le head_size (length bytes)) (Shape 0x18) (λ _. front_fits bytes >>= λ _. transaction_fits bytes >>= last) e h in
    let b = step_passed (front_fits bytes) (λ _. transaction_fits bytes >>= last) e a.1 in
    let c = step_passed (transaction_fits bytes) last e b.1 in
    let d = made_is (act_at bytes) bytes e c.1 in
    record { long = leb-true _ _ a.0; front = front_parts bytes b.0 c.0; act = d.0; same = d.1 }

joined : (p : Bool) (f : EntryFault) (a b : Result (Unit {0}) EntryFault) (r : Result Act EntryFault) (act : Act) (bytes : List ℕ) → p ≡ true → a ≡ Ok tt → b ≡ Ok tt → r ≡ Ok act
    → (needs p f >>= λ _. a >>= λ _. b >>= λ _. r >>= λ act. Ok (made bytes act)) ≡ Ok (made bytes act)
joined p f a b r act bytes is_p is_a is_b is_r = rw (is_p, is_a, is_b, is_r) refl

pub entry_from : (bytes : List ℕ) (e : Entry) → EntryParts bytes e → entry_at bytes ≡ Ok e
unfolding entry_at
entry_from bytes e p =
    let front = front_from bytes p.front in
    joined (nat_le head_size (length bytes)) (Shape 0x18) (front_fits bytes) (transaction_fits bytes) (act_at bytes) e.act bytes (le-leb _ _ p.long) front.0 front.1 p.act ∙ ap ok p.same
