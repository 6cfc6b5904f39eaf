-- How many bytes an operation brings and leaves.
use Rattle.std.proofs.Common.{◌≡◌, ℕ, ◌+◌, ◌-◌, ◌*◌, ◌<◌, ◌≤◌, max, min, Bool, true, false, cond, ltb, List, ◌++◌, length, take, drop, refl, sym, ap, ◌∙◌, arith}
use Rattle.std.specs.Prelude.{replicate}
use Rattle.std.proofs.lemmas.Bool.{ltb-true}
use Rattle.std.proofs.lemmas.List.{length-append, length-replicate, length-take, length-drop}
use Rattle.file_tree.specs.declared.node.Node.{Node}
use Rattle.tree_model.specs.declared.script.Op.{Op}
use Rattle.tree_model.specs.declared.script.Op.TheVariants as op
use Rattle.tree_model.specs.Needs.{size_after, shrinks, clusters_for}
use Rattle.tree_model.specs.Effects.{zeros_up_to, put_at, bytes_after, clusters_after}
use Rattle.file_puts.specs.plan_changes.Bytes.{place_of, put_of}
use Rattle.file_puts.specs.Puts.{with_bytes}

-- ---- what it puts

ends_at : (offset valid : ℕ) (more : List ℕ) → min offset valid + length (replicate (offset - valid) 0 ++ more) ≡ offset + length more
ends_at offset valid more =
    let all = length-append (replicate (offset - valid) 0) more in
    let zeros = length-replicate {A = ℕ} (offset - valid) 0 in
    omega (arith, all, zeros)

pub reach : (o : Op) (a : Node) → place_of o a + length (put_of o a) ≤ max a.valid (size_after o a)
reach (op.Write path offset bytes) a = omega (arith, ends_at offset a.valid bytes)
reach (op.Fill path offset count byte) a = omega (arith, ends_at offset a.valid (replicate count byte), length-replicate {A = ℕ} count byte)
reach (op.Truncate path size) a = omega (arith, length-replicate {A = ℕ} (size - a.valid) 0)
reach other a = omega arith

-- ---- what the bytes are then

zeros_long : (bytes : List ℕ) (valid place : ℕ) → valid ≡ length bytes → length (zeros_up_to bytes valid place) ≡ place
unfolding zeros_up_to
zeros_long bytes valid place whole =
    let front : List ℕ = take (min place valid) bytes in
    omega (arith, length-append front (replicate (place - valid) 0), length-take (min place valid) bytes, length-replicate {A = ℕ} (place - valid) 0)

put_long : (bytes : List ℕ) (valid offset : ℕ) (more : List ℕ) → valid ≡ length bytes → length (put_at bytes valid offset more) ≡ max (length bytes) (offset + length more)
unfolding put_at
put_long bytes valid offset more whole =
    let front : List ℕ = zeros_up_to bytes valid offset in
    let rest : List ℕ = drop (offset + length more) bytes in
    omega (arith, length-append (front ++ more) rest, length-append front more, zeros_long bytes valid offset whole, length-drop (offset + length more) bytes)

cut_long : (bytes : List ℕ) (valid size : ℕ) (t : Bool) → ltb size (length bytes) ≡ t → valid ≡ length bytes → length (cond t (take size bytes) (zeros_up_to bytes valid size)) ≡ size
cut_long bytes valid size true less whole = (let below : size < length bytes = ltb-true _ _ less in omega (arith, length-take size bytes, below))
cut_long bytes valid size false less whole = zeros_long bytes valid size whole

-- a value that is initialised whole has the size after the operation
pub long_after : (o : Op) (a : Node) (value : List ℕ) → a.size ≡ length value → a.valid ≡ length value → length (bytes_after o (with_bytes value a)) ≡ size_after o a
long_after (op.Write path offset bytes) a value size valid = put_long value a.valid offset bytes valid ∙ ap (λ (n : ℕ). max n (offset + length bytes)) (sym size)
long_after (op.Fill path offset count byte) a value size valid =
    put_long value a.valid offset (replicate count byte) valid ∙ ap (λ (n : ℕ). max n (offset + length (replicate count byte))) (sym size) ∙ ap (λ (n : ℕ). max a.size (offset + n)) (length-replicate {A = ℕ} count byte)
long_after (op.Truncate path size) a value sized valid =
    ap (λ (n : ℕ). length (cond (ltb size n) (take size value) (zeros_up_to value a.valid size))) sized ∙ cut_long value a.valid size (ltb size (length value)) refl valid
long_after other a value size valid = sym size

-- ---- what its clusters bound

for_size : (t : Bool) (n clusters size : ℕ) → cond t (clusters_for size) (max clusters (clusters_for size)) ≤ n → size ≤ 4096 * n
for_size true n clusters size few = omega (arith, few)
for_size false n clusters size few = omega (arith, few)

pub size_below : (o : Op) (a : Node) (n : ℕ) → clusters_after false o a ≤ n → size_after o a ≤ 4096 * n
size_below o a n few = for_size (shrinks o a) n a.clusters (size_after o a) few
