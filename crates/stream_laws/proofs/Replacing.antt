-- One file replaced.
use Rattle.std.proofs.Common.{◌≡◌, ℕ, zero, suc, ◌+◌, ◌<◌, ◌≤◌, List, Option, None, refl, ap, inl, inr, arith}
use Rattle.std.proofs.lemmas.Bool.{cases_lt}
use Rattle.volume_model.specs.host_base.declared.file_ref.FileRef.{FileRef}
use Rattle.volume_model.specs.record_model.Records.{Record}
use Rattle.volume_model.specs.state_model.Files.{Table, only_base, file_at, file_links, links_at}
use Rattle.volume_model.specs.state_model.Loads.{table_in}
use Rattle.volume_model.specs.state_model.Rules.{count_in, names_in}
use Rattle.volume_model.specs.Owners.{file_runs, volume_runs, uses}
use Rattle.stream_laws.specs.Replacing.{SameBut, OneFileDiffers}
use Rattle.stream_laws.proofs.Counting.{sum_replaced}
use Rattle.stream_laws.proofs.Sharing.{file_uses, volume_sum}

pub clusters_replaced : (old new : List (Option Record)) (n x : ℕ) → OneFileDiffers n old new → uses (volume_runs new) x + uses (file_runs (table_in old n)) x ≡ uses (volume_runs old) x + uses (file_runs (table_in new n)) x
clusters_replaced old new n x differs =
    let sums = sum_replaced (file_uses x) None old new n differs.count differs.others in
    omega (arith, volume_sum old x, volume_sum new x, sums)

pub same_names : (p q : Table) (n : ℕ) → q n ≡ p n → links_at q n ≡ links_at p n
unfolding links_at file_at
same_names p q n same = ap (λ (o : Option Record). file_links n (only_base o)) same

names_below : (p q : Table) (directory : FileRef) (count n : ℕ) → count ≤ n → SameBut n p q → names_in q directory count ≡ names_in p directory count
unfolding names_in
names_below p q directory zero n le others = refl
names_below p q directory (suc count) n le others =
    let here : count_in directory (links_at q count) ≡ count_in directory (links_at p count) = ap (count_in directory) (same_names p q count (others count (λ is. omega (arith, is)))) in
    let below = names_below p q directory count n (omega arith) others in
    omega (arith, here, below)

pub names_replaced : (p q : Table) (directory : FileRef) (count n : ℕ) → n < count → SameBut n p q → names_in q directory count + count_in directory (links_at p n) ≡ names_in p directory count + count_in directory (links_at q n)
unfolding names_in
names_replaced p q directory zero n lt others = absurd (omega arith)
names_replaced p q directory (suc count) n lt others = elim (cases_lt n count) [
  | inl below ↦
      (let here : count_in directory (links_at q count) ≡ count_in directory (links_at p count) = ap (count_in directory) (same_names p q count (others count (λ is. omega (arith, is)))) in
      let rest = names_replaced p q directory count n below others in
      omega (arith, here, rest))
  | inr last ↦
      (let is : n ≡ count = omega arith in
      let below = names_below p q directory count n last others in
      let old : count_in directory (links_at p n) ≡ count_in directory (links_at p count) = ap (λ (k : ℕ). count_in directory (links_at p k)) is in
      let new : count_in directory (links_at q n) ≡ count_in directory (links_at q count) = ap (λ (k : ℕ). count_in directory (links_at q k)) is in
      omega (arith, below, old, new))
]
