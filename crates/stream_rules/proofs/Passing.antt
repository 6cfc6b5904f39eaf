-- Runs that are passed over.
use Rattle.std.proofs.Common.{◌≡◌, ℕ, suc, ◌+◌, ◌-◌, ◌*◌, ◌/◌, ◌%◌, ◌<◌, ◌≤◌, Bool, true, false, cond, List, ◌∷◌, length, get_or, take, drop, find, Option, Some, refl, sym, ap, ◌∙◌, subst, arith}
use Rattle.std.specs.Prelude.{◌&&◌, nat_le, option_map, IfSome}
use Rattle.std.proofs.Math.Nat.{div-mul-le_self, mul-le-mul_left}
use Rattle.std.proofs.Math.Seq.{drop-cons}
use Rattle.std.proofs.lemmas.Bool.{le-ltb, leb-true}
use Rattle.std.proofs.lemmas.List.{take_all, length-drop}
use Rattle.std.proofs.lemmas.Nat.{le-div}
use Rattle.disk_model.specs.Content.{Content}
use Rattle.disk_model.specs.declared.block.Block.{Block}
use Rattle.disk_model.specs.declared.block.BlockKind.{BlockKind}
use Rattle.disk_model.specs.declared.block.BlockKind.TheVariants.{Plain, FileRec, Index}
use Rattle.disk_model.specs.Sectors.{sectors}
use Rattle.stream_map.specs.record_model.declared.runs.Run.{Run}
use Rattle.state_model.specs.Streams.{holds, lcn_in, block_at}
use Rattle.volume_model.specs.Sizes.{is_torn_at}

and_false : (b : Bool) → (b && false) ≡ false
and_false true = refl
and_false false = refl

-- a run that ends at or before a VCN doesn't hold that one, nor one behind it
not_held : (vcn : ℕ) (r : Run) → nat_le (r.vcn + r.len) vcn ≡ true → (first last : ℕ) → vcn ≤ last → holds first last r ≡ false
not_held vcn r ends first last le =
    let past : r.vcn + r.len ≤ vcn = leb-true (r.vcn + r.len) vcn ends in
    ap (λ (b : Bool). nat_le r.vcn first && b) (le-ltb last (r.vcn + r.len) (omega arith)) ∙ and_false (nat_le r.vcn first)

pub passed_here : (vcn : ℕ) (runs : List Run) (i : ℕ) (d r : Run) → i < length runs → r ≡ get_or runs i d → nat_le (r.vcn + r.len) vcn ≡ true → (first last : ℕ) → vcn ≤ last → find (holds first last) (drop (i + 1) runs) ≡ find (holds first last) (drop i runs)
passed_here vcn runs i d r lt is ends first last le =
    let next : suc i ≡ i + 1 = omega arith in
    let item : drop i runs ≡ r ∷ drop (i + 1) runs = drop-cons runs i d lt ∙ ap (λ (x : Run). x ∷ drop (suc i) runs) (sym is) ∙ ap (λ (k : ℕ). r ∷ drop k runs) next in
    sym (ap (find (holds first last)) item ∙ ap (λ (b : Bool). cond b (Some r) (find (holds first last) (drop (i + 1) runs))) (not_held vcn r ends first last le))

-- the last VCN of a block is at or behind the first one of a block before it
some_sector : (kind : BlockKind) → 0 < sectors kind
some_sector Plain = omega arith
some_sector FileRec = omega arith
some_sector Index = omega arith

rises : (per s n k : ℕ) → 0 < per → 0 < s → n ≤ k → s * n / per ≤ (s * k + s - 1) / per
rises per s n k some sector le =
    let product : s * n ≤ s * k = mul-le-mul_left s le in
    let whole : s * n / per * per ≤ s * n = div-mul-le_self (s * n) per in
    le-div (s * n / per) (s * k + s - 1) per some (omega arith)

-- the blocks from the n-th on lie in the runs that aren't passed over before it
block_behind : (per : ℕ) (rest runs : List Run) (kind : BlockKind) (n vcn : ℕ) → 0 < per → vcn ≡ sectors kind * n / per → ((first last : ℕ) → vcn ≤ last → find (holds first last) rest ≡ find (holds first last) runs) → (k : ℕ) → n ≤ k → block_at per rest kind k ≡ block_at per runs kind k
unfolding block_at
block_behind per rest runs kind n vcn some is same k le =
    let s = sectors kind in
    let first = s * k / per in
    let last = (s * k + s - 1) / per in
    let behind : vcn ≤ last = omega (arith, is, rises per s n k some (some_sector kind) le) in
    ap (λ (o : Option Run). option_map (λ lcn. record { first = lcn * per + (s * k) % per; kind = kind }) (lcn_in first o)) (same first last behind)

-- the same by the runs behind the first so many
pub block_in_rest : (per : ℕ) (runs : List Run) (kind : BlockKind) (n vcn begin : ℕ) → 0 < per → vcn ≡ sectors kind * n / per → ((first last : ℕ) → vcn ≤ last → find (holds first last) (drop begin runs) ≡ find (holds first last) runs) → (k : ℕ) → n ≤ k → block_at per (take (length runs - begin) (drop begin runs)) kind k ≡ block_at per runs kind k
block_in_rest per runs kind n vcn begin some is same k le =
    let whole : take (length runs - begin) (drop begin runs) ≡ drop begin runs = take_all (length runs - begin) (drop begin runs) (omega (arith, length-drop begin runs)) in
    ap (λ (rest : List Run). block_at per rest kind k) whole ∙ block_behind per (drop begin runs) runs kind n vcn some is same k le

-- whether a block is torn, by the runs that it may lie in
pub torn_by : (known : Option Content) (here : Bool) (before now : Option Block) → before ≡ now → IfSome known (λ c. here ≡ is_torn_at c before) → IfSome known (λ c. here ≡ is_torn_at c now)
torn_by known here before now is h = let P : Option Block → Type 0 = λ b. IfSome known (λ c. here ≡ is_torn_at c b) in subst P is h
