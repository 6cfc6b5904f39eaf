-- The bytes that an operation on a file puts.
use Rattle.std.proofs.Common.{◌≡◌, ℕ, ◌+◌, ◌-◌, ◌<◌, ◌≤◌, max, min, Bool, false, cond, ltb, List, ◌++◌, length, take, drop, sym, ap, ◌∙◌, arith}
use Rattle.std.specs.Prelude.{replicate}
use Rattle.std.proofs.lemmas.Bool.{le-ltb}
use Rattle.std.proofs.lemmas.List.{append_assoc, append-nil, length-append, length-replicate, drop_all}
use Rattle.tree_model.specs.file_tree.declared.node.Node.{Node}
use Rattle.tree_model.specs.declared.script.Op.{Op}
use Rattle.tree_model.specs.declared.script.Op.TheVariants as op
use Rattle.tree_model.specs.Needs.{size_after}
use Rattle.tree_model.specs.Effects.{zeros_up_to, put_at, bytes_after, valid_after}
use Rattle.plan_informed.specs.plan_edits.Sizes.{put_over}
use Rattle.plan_changes.specs.Bytes.{GrowsFile, place_of, put_of, HasSizes, BytesBrought}

-- where bytes behind zeros end
ends_at : (offset valid : ℕ) (more : List ℕ) → min offset valid + length (replicate (offset - valid) 0 ++ more) ≡ offset + length more
ends_at offset valid more =
    let all = length-append (replicate (offset - valid) 0) more in
    let zeros = length-replicate {A = ℕ} (offset - valid) 0 in
    omega (arith, all, zeros)

over_is : (old : List ℕ) (valid offset : ℕ) (more : List ℕ) → put_over (min offset valid) (replicate (offset - valid) 0 ++ more) old ≡ put_at old valid offset more
unfolding put_at zeros_up_to
over_is old valid offset more =
    let front : List ℕ = take (min offset valid) old in
    let zeros : List ℕ = replicate (offset - valid) 0 in
    let rest : List ℕ = drop (offset + length more) old in
    ap (λ (k : ℕ). front ++ ((zeros ++ more) ++ drop k old)) (ends_at offset valid more)
    ∙ ap (λ (l : List ℕ). front ++ l) (append_assoc zeros more rest)
    ∙ sym (append_assoc (front ++ zeros) more rest ∙ append_assoc front zeros (more ++ rest))

zeros_are : (old : List ℕ) (valid size : ℕ) → valid ≤ size → length old ≤ size → put_over valid (replicate (size - valid) 0) old ≡ zeros_up_to old valid size
unfolding zeros_up_to
zeros_are old valid size within short =
    let zeros : List ℕ = replicate (size - valid) 0 in
    let long : length zeros ≡ size - valid = length-replicate {A = ℕ} (size - valid) 0 in
    let least : valid ≡ min size valid = omega (arith, within) in
    ap (λ (l : List ℕ). take valid old ++ (zeros ++ l)) (drop_all (valid + length zeros) old (omega (arith, long, within, short)))
    ∙ ap (λ (l : List ℕ). take valid old ++ l) (append-nil zeros)
    ∙ ap (λ (k : ℕ). take k old ++ zeros) least

greater : (size old : ℕ) → old < size → ltb size old ≡ false
greater size old less = le-ltb size old (omega (arith, less))

bytes_are : (op : Op) (a : Node) → HasSizes a → GrowsFile op a → put_over (place_of op a) (put_of op a) a.bytes ≡ bytes_after op a
bytes_are (op.Write path offset bytes) a sizes grows = over_is a.bytes a.valid offset bytes
bytes_are (op.Fill path offset count byte) a sizes grows = over_is a.bytes a.valid offset (replicate count byte)
bytes_are (op.Truncate path size) a sizes grows =
    let all = sizes.all in
    let valid = sizes.valid in
    zeros_are a.bytes a.valid size (omega (arith, valid, grows)) (omega (arith, all, grows)) ∙ sym (ap (λ (t : Bool). cond t (take size a.bytes) (zeros_up_to a.bytes a.valid size)) (greater size a.size grows))
bytes_are other a sizes grows = absurd grows

begins_at : (op : Op) (a : Node) → place_of op a ≤ a.valid
begins_at (op.Write path offset bytes) a = omega arith
begins_at (op.Fill path offset count byte) a = omega arith
begins_at other a = omega arith

valid_is : (op : Op) (a : Node) → HasSizes a → GrowsFile op a → valid_after op a ≡ max a.valid (place_of op a + length (put_of op a))
valid_is (op.Write path offset bytes) a sizes grows = ap (max a.valid) (sym (ends_at offset a.valid bytes))
valid_is (op.Fill path offset count byte) a sizes grows = ap (max a.valid) (sym (ends_at offset a.valid (replicate count byte) ∙ ap (λ (k : ℕ). offset + k) (length-replicate count byte)))
valid_is (op.Truncate path size) a sizes grows =
    let valid = sizes.valid in
    let zeros = length-replicate {A = ℕ} (size - a.valid) 0 in
    ap (λ (t : Bool). cond t (min a.valid size) size) (greater size a.size grows) ∙ omega (arith, valid, zeros, grows)
valid_is other a sizes grows = absurd grows

size_is : (op : Op) (a : Node) → HasSizes a → GrowsFile op a → size_after op a ≡ max a.size (place_of op a + length (put_of op a))
size_is (op.Write path offset bytes) a sizes grows = ap (max a.size) (sym (ends_at offset a.valid bytes))
size_is (op.Fill path offset count byte) a sizes grows = ap (max a.size) (sym (ends_at offset a.valid (replicate count byte) ∙ ap (λ (k : ℕ). offset + k) (length-replicate count byte)))
size_is (op.Truncate path size) a sizes grows =
    let valid = sizes.valid in
    let zeros = length-replicate {A = ℕ} (size - a.valid) 0 in
    omega (arith, valid, zeros, grows)
size_is other a sizes grows = absurd grows

pub bytes_come : BytesBrought
bytes_come = record { bytes = bytes_are; begins = begins_at; valid = valid_is; size = size_is }
