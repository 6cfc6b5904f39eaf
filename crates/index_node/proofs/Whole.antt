-- A node by its header and the walk over its entries.
use Rattle.std.proofs.Common.{◌≡◌, ℕ, ◌<◌, ◌≤◌, Bool, true, false, leb, eqb, List, length, drop, Result, Ok, Err, refl, ap, ◌∙◌, arith}
use Rattle.std.specs.Prelude.{◌&&◌}
use Rattle.std.proofs.lemmas.Bool.{and_parts, leb-true}
use Rattle.std.proofs.lemmas.List.{length-drop}
use Rattle.disk_model.specs.host_base.Answers.{◌>>=◌, needs, Explains}
use Rattle.disk_model.specs.declared.block.BlockKind.TheVariants.{Index}
use Rattle.disk_model.specs.Numbers.{field}
use Rattle.disk_model.specs.Content.{is_signed}
use Rattle.record_model.specs.declared.entry.Entry.{Entry}
use Rattle.record_model.specs.Nodes.{Node, first_entry, used_end, children_flag, has_node_header, entry_bytes, cut_entries, most_entries, node_entries, node_at, has_root_header, root_at, node_used}
use Rattle.record_model.proofs.NodeTables.{header_parts, holds_from_ok}
use Rattle.record_model.proofs.NodeRoom.{written_no_longer}
use Rattle.index_node.specs.declared.fault.NodeFault.{NodeFault}
use Rattle.index_node.specs.declared.fault.NodeFault.TheVariants.{Rule, Full, Memory}
use Rattle.index_node.specs.Faults.{rule_cause}
use Rattle.index_node.specs.Walks.{entries_of, entries_at}

-- ---- the header

not_true : (b : Bool) → (b ≡ true → ⊥) → b ≡ false
not_true true h = absurd (h refl)
not_true false h = refl

-- bytes without a whole header have no lawful one
pub too_short : (node : List ℕ) → length node < 0x10 → has_node_header node ≡ false
too_short node short = not_true (has_node_header node) (λ h. omega (arith, short, (header_parts node h).first_behind, (header_parts node h).first_inside, (header_parts node h).used, (header_parts node h).allocated))

pub used_inside : (node : List ℕ) → has_node_header node ≡ true → used_end node ≤ length node
used_inside node h = omega (arith, (header_parts node h).used, (header_parts node h).allocated)

pub first_inside : (node : List ℕ) → has_node_header node ≡ true → first_entry node ≤ used_end node
first_inside node h = (header_parts node h).first_inside

pub header_inside : (node : List ℕ) → has_node_header node ≡ true → 0x10 ≤ first_entry node
header_inside node h = (header_parts node h).first_behind

pub node_long : (node : List ℕ) → has_node_header node ≡ true → 0x10 ≤ length node
node_long node h = omega (arith, header_inside node h, first_inside node h, used_inside node h)

-- where the entries lie
pub ruleset bounds = (node_long, used_inside, first_inside, header_inside)

-- ---- a node

pub entries_on : (node : List ℕ) → has_node_header node ≡ true → node_entries node ≡ entries_at (children_flag node) (entry_bytes node)
unfolding node_entries entries_at
entries_on node h = ap (λ (b : Bool). needs b 3 >>= λ _. cut_entries (most_entries (entry_bytes node)) (entry_bytes node) >>= entries_of (children_flag node)) h

pub breaks_header : (node : List ℕ) → has_node_header node ≡ false → node_entries node ≡ Err 3
unfolding node_entries
breaks_header node h = ap (λ (b : Bool). needs b 3 >>= λ _. cut_entries (most_entries (entry_bytes node)) (entry_bytes node) >>= entries_of (children_flag node)) h

pub ruleset answers = (breaks_header, entries_on)

-- ---- a root

pub breaks_root : (value : List ℕ) → has_root_header value ≡ false → root_at value ≡ Err 3
unfolding root_at
breaks_root value h = ap (λ (b : Bool). needs b 3 >>= λ _. node_entries (drop 0x10 value)) h

pub root_on : (value : List ℕ) → has_root_header value ≡ true → root_at value ≡ node_entries (drop 0x10 value)
unfolding root_at
root_on value h = ap (λ (b : Bool). needs b 3 >>= λ _. node_entries (drop 0x10 value)) h

pub root_long : (value : List ℕ) → has_root_header value ≡ true → 0x10 ≤ length value
unfolding has_root_header
root_long value h =
    let a = leb 0x10 (length value) in
    let b = eqb (field 0x00 4 value) 0x30 in
    let c = eqb (field 0x04 4 value) 1 in
    let p = and_parts (a && b && c) (eqb (field 0x08 4 value) 4096) h in
    let q = and_parts (a && b) c p.0 in
    leb-true _ _ (and_parts a b q.0).0

-- a value without a header, and one with it
pub ruleset root_answers = (breaks_root, root_on, root_long)

-- ---- a block

abbrev block : List ℕ → List Entry → Node
block body entries = record { vcn = field 0x10 8 body; lsn = field 0x08 8 body; entries = entries }

abbrev blocked : List ℕ → Result (List Entry) ℕ → Result Node ℕ
blocked body read = read >>= λ entries. Ok (block body entries)

pub breaks_signature : (body : List ℕ) → is_signed Index body ≡ false → node_at body ≡ Err 1
unfolding node_at
breaks_signature body h = ap (λ (b : Bool). needs b 1 >>= λ _. blocked body (node_entries (drop 0x18 body))) h

node_on : (body : List ℕ) → is_signed Index body ≡ true → node_at body ≡ blocked body (node_entries (drop 0x18 body))
unfolding node_at
node_on body h = ap (λ (b : Bool). needs b 1 >>= λ _. blocked body (node_entries (drop 0x18 body))) h

pub reads_block : (body : List ℕ) (entries : List Entry) → is_signed Index body ≡ true → node_entries (drop 0x18 body) ≡ Ok entries → node_at body ≡ Ok (record { vcn = field 0x10 8 body; lsn = field 0x08 8 body; entries = entries })
reads_block body entries h e = node_on body h ∙ ap (blocked body) e

refuses_block : (body : List ℕ) (rule : ℕ) → is_signed Index body ≡ true → node_entries (drop 0x18 body) ≡ Err rule → node_at body ≡ Err rule
refuses_block body rule h e = node_on body h ∙ ap (blocked body) e

-- a refusal of the entries is that of the block
pub block_refused : (fault : NodeFault) (body : List ℕ) → is_signed Index body ≡ true → Explains (rule_cause fault) (node_entries (drop 0x18 body)) → Explains (rule_cause fault) (node_at body)
block_refused (Rule rule) body h e = refuses_block body rule h e
block_refused (Full used) body h e = absurd e
block_refused Memory body h e = tt

-- what the signature and then the entries answer
pub ruleset block_answers = (breaks_signature, reads_block, block_refused)

-- the entries of a block don't take much more than the block
pub block_bounded : (body : List ℕ) (entries : List Entry) → length body ≡ 4096 → node_entries (drop 0x18 body) ≡ Ok entries → node_used entries ≤ 8192
unfolding node_used
block_bounded body entries long e =
    let t = holds_from_ok (drop 0x18 body) entries e in
    omega (arith, written_no_longer (drop 0x18 body) entries e, t.used, t.allocated, length-drop 0x18 body)
