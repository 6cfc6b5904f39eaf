-- What is always so of a mark stays so in each call.
use Rattle.std.proofs.Common.{◌≡◌, ℕ, ◌<◌, ◌≤◌, Bool, true, false, not, cond, refl, sym, ap, ◌∙◌, inl, inr, arith}
use Rattle.std.specs.Prelude.{◌&&◌, ◌||◌, nat_le}
use Rattle.std.proofs.lemmas.Bool.{cases_lt, le-leb}
use Rattle.txn_laws.specs.txn_model.declared.mark.Mark.{Mark}
use Rattle.txn_laws.specs.txn_model.Calls.{changed_mark, rival_mark, noted_mark, synced_mark}
use Rattle.txn_core.specs.Kept.{KeepsMark}

clash : {A : Type 0} → true ≡ false → A
clash e = absurd cc

-- pages and commits may come
pub raised : (s e n c k : ℕ) (m : Mark) → KeepsMark s e c m → e ≤ n → c ≤ k → KeepsMark s n k m
raised s e n c k m is pages commits = record {
  owed_is = is.owed_is;
  due_is = is.due_is;
  commit_is = (let le = is.commit_is in omega (arith, le, commits));
  until_is = (let le = is.until_is in omega (arith, le, pages));
  killed_is = λ dead. let both = is.killed_is dead in (both.0, omega (arith, both.1, pages));
}

pub clean_keeps : (s e c : ℕ) → KeepsMark s e c (record { dirty = false; dead = false; wet = false; owed = false; due = false; imaged = false; until = 0; commit = 0; killed = 0 })
clean_keeps s e c = record { owed_is = λ h. clash (sym h); due_is = λ h. clash (sym h); commit_is = omega arith; until_is = omega arith; killed_is = λ h. clash (sym h) }

-- ---- a change, where the pages end behind its entries

changed_keeps : (s e c : ℕ) (m : Mark) → KeepsMark s e c m → KeepsMark s e c (changed_mark e m)
changed_keeps s e c m is = record { owed_is = λ h. refl; due_is = is.due_is; commit_is = is.commit_is; until_is = omega arith; killed_is = λ h. clash (sym h) }

rival_owed : (dirty dead : Bool) → (dirty || dead) ≡ true → (dead || dirty) ≡ true
rival_owed true true e = refl
rival_owed true false e = refl
rival_owed false true e = refl
rival_owed false false e = e

rival_killed : (s e killed : ℕ) (dirty dead : Bool) → s < e → (dead ≡ true → (s < killed) × (killed ≤ e)) → (dead || dirty) ≡ true → (s < cond dirty e killed) × (cond dirty e killed ≤ e)
rival_killed s e killed true dead lt old is = (lt, omega arith)
rival_killed s e killed false true lt old is = old refl
rival_killed s e killed false false lt old is = clash (sym is)

rival_keeps : (s e c : ℕ) (m : Mark) → s < e → KeepsMark s e c m → KeepsMark s e c (rival_mark e m)
rival_keeps s e c m lt is = record {
  owed_is = λ h. rival_owed m.dirty m.dead (is.owed_is h);
  due_is = is.due_is;
  commit_is = is.commit_is;
  until_is = is.until_is;
  killed_is = rival_killed s e m.killed m.dirty m.dead lt is.killed_is;
}

pub changed_by : (s e c : ℕ) (m : Mark) (t r : Bool) → s < e → KeepsMark s e c m → KeepsMark s e c (cond t (changed_mark e m) (cond r (rival_mark e m) m))
changed_by s e c m true r lt is = changed_keeps s e c m is
changed_by s e c m false true lt is = rival_keeps s e c m lt is
changed_by s e c m false false lt is = is

-- ---- ends of transactions

pub committed_by : (s e c : ℕ) (m : Mark) (t : Bool) → KeepsMark s e c m → KeepsMark s e c (cond t (record m { commit = c }) m)
committed_by s e c m true is = record { owed_is = is.owed_is; due_is = is.due_is; commit_is = omega arith; until_is = is.until_is; killed_is = is.killed_is }
committed_by s e c m false is = is

pub given_up_by : (s e c : ℕ) (m : Mark) (t : Bool) → KeepsMark s e c m → KeepsMark s e c (cond t (record m { dirty = true; dead = false; imaged = false }) m)
given_up_by s e c m true is = record { owed_is = λ h. refl; due_is = is.due_is; commit_is = is.commit_is; until_is = is.until_is; killed_is = λ h. clash (sym h) }
given_up_by s e c m false is = is

-- ---- checkpoints and syncs

pub noted_keeps : (s e c : ℕ) (m : Mark) → KeepsMark s e c m → KeepsMark s e c (noted_mark m)
noted_keeps s e c m is = record { owed_is = λ h. h; due_is = λ h. h; commit_is = is.commit_is; until_is = is.until_is; killed_is = is.killed_is }

not_buried : (s killed : ℕ) → not (true && nat_le killed s) ≡ true → s < killed
not_buried s killed e = elim (cases_lt s killed) [
  | inl lt ↦ lt
  | inr le ↦ clash (sym e ∙ ap (λ (t : Bool). not t) (le-leb killed s le))
]

synced_owed : (dirty dead owed le : Bool) → (owed ≡ true → (dirty || dead) ≡ true) → (owed && not (dead && le)) ≡ true → (dirty || (dead && not (dead && le))) ≡ true
synced_owed true dead owed le old is = refl
synced_owed false true true true old is = is
synced_owed false true true false old is = refl
synced_owed false true false le old is = clash (sym is)
synced_owed false false true le old is = old refl
synced_owed false false false le old is = is

synced_killed : (s n e killed : ℕ) (dead : Bool) → (dead ≡ true → (n < killed) × (killed ≤ e)) → (dead && not (dead && nat_le killed s)) ≡ true → (s < killed) × (killed ≤ e)
synced_killed s n e killed true old is = (not_buried s killed is, (old refl).1)
synced_killed s n e killed false old is = clash (sym is)

pub synced_keeps : (s n e c : ℕ) (m : Mark) → KeepsMark n e c m → KeepsMark s e c (synced_mark s m)
synced_keeps s n e c m is = record {
  owed_is = synced_owed m.dirty m.dead m.owed (nat_le m.killed s) is.owed_is;
  due_is = λ h. clash (sym h);
  commit_is = is.commit_is;
  until_is = is.until_is;
  killed_is = synced_killed s n e m.killed m.dead is.killed_is;
}

-- ---- write-outs

freed_keeps : (s e c : ℕ) (m : Mark) → KeepsMark s e c m → KeepsMark s e c (record m { dead = false; owed = false })
freed_keeps s e c m is = record { owed_is = λ h. clash (sym h); due_is = is.due_is; commit_is = is.commit_is; until_is = is.until_is; killed_is = λ h. clash (sym h) }

pub written_by : (s e c : ℕ) (m : Mark) (noted t r : Bool) → KeepsMark s e c m → KeepsMark s e c (cond t (record m { dirty = false; wet = true; owed = false; due = m.due || noted }) (cond r (record m { dead = false; owed = false }) m))
written_by s e c m noted true r is = record { owed_is = λ h. clash (sym h); due_is = λ h. refl; commit_is = is.commit_is; until_is = is.until_is; killed_is = is.killed_is }
written_by s e c m noted false true is = freed_keeps s e c m is
written_by s e c m noted false false is = is

pub sent_by : (s e c : ℕ) (m : Mark) (noted t r : Bool) → KeepsMark s e c m → KeepsMark s e c (cond t (record m { wet = true; due = m.due || noted }) (cond r (record m { dead = false; owed = false }) m))
sent_by s e c m noted true r is = record { owed_is = is.owed_is; due_is = λ h. refl; commit_is = is.commit_is; until_is = is.until_is; killed_is = is.killed_is }
sent_by s e c m noted false true is = freed_keeps s e c m is
sent_by s e c m noted false false is = is

pub again_by : (s e c : ℕ) (m : Mark) (t : Bool) → KeepsMark s e c m → KeepsMark s e c (cond t (record m { dirty = false; wet = true; owed = false; due = m.due || m.owed }) m)
again_by s e c m true is = record { owed_is = λ h. clash (sym h); due_is = λ h. refl; commit_is = is.commit_is; until_is = is.until_is; killed_is = is.killed_is }
again_by s e c m false is = is
