-- Several files replaced at once.
use Rattle.std.proofs.Common.{◌≡◌, ℕ, ◌+◌, ◌<◌, List, [], ◌∷◌, length, get_or, set, Option, None, refl, sym, ap, subst, ◌∙◌, arith}
use Rattle.std.specs.List.{sum_by, AllByRecursion}
use Rattle.std.proofs.Math.ListN.{length-set}
use Rattle.std.proofs.lemmas.List.{get_or-set_same, get_or-set_other}
use Rattle.std.proofs.lemmas.List.Sums.{sum_by-cons, sum_by-set}
use Rattle.volume_model.specs.host_base.declared.file_ref.FileRef.{FileRef}
use Rattle.volume_model.specs.record_model.Records.{Record}
use Rattle.volume_model.specs.state_model.Files.{only_base, file_at, file_links, links_at}
use Rattle.volume_model.specs.state_model.Loads.{table_in}
use Rattle.volume_model.specs.state_model.Rules.{count_in, names_in}
use Rattle.volume_model.specs.Owners.{volume_runs, uses}
use Rattle.stream_laws.specs.Replacing.{FileEdit, with_edits, LeaveNumber, AreEdits, clusters_lost, clusters_gained, names_lost, names_gained}
use Rattle.stream_laws.proofs.Sharing.{file_uses, volume_sum}
use Rattle.stream_laws.proofs.Replacing.{names_replaced}

abbrev Files : Type 0
Files = List (Option Record)

pub length-with_edits : (files : Files) (edits : List FileEdit) → length (with_edits edits files) ≡ length files
length-with_edits files [] = refl
length-with_edits files (e ∷ edits) = length-with_edits (set files e.number e.file) edits ∙ length-set files e.number e.file

pub other_file : (files : Files) (edits : List FileEdit) (n : ℕ) → LeaveNumber n edits → get_or (with_edits edits files) n None ≡ get_or files n None
other_file files [] n leave = refl
other_file files (e ∷ edits) n leave = other_file (set files e.number e.file) edits n leave.1 ∙ get_or-set_other files e.number n e.file None (λ is. leave.0 (sym is))

pub edited_files : (files : Files) (edits : List FileEdit) → AreEdits (length files) edits → AllByRecursion (λ e. get_or (with_edits edits files) e.number None ≡ e.file) edits
edited_files files [] are = tt
edited_files files (e ∷ edits) are =
    let size : length (set files e.number e.file) ≡ length files = length-set files e.number e.file in (
      other_file (set files e.number e.file) edits e.number are.1 ∙ get_or-set_same files e.number e.file None are.0,
      edited_files (set files e.number e.file) edits (subst (λ (k : ℕ). AreEdits k edits) (sym size) are.2),
    )

-- ---- a whole that is a sum over the files

-- the edits see the old files, since no two are of the same file
same_lost : (weigh : ℕ → Option Record → ℕ) (files : Files) (n : ℕ) (file : Option Record) (edits : List FileEdit) → LeaveNumber n edits → sum_by (λ e. weigh e.number (get_or (set files n file) e.number None)) edits ≡ sum_by (λ e. weigh e.number (get_or files e.number None)) edits
same_lost weigh files n file [] leave = refl
same_lost weigh files n file (e ∷ edits) leave =
    let here : weigh e.number (get_or (set files n file) e.number None) ≡ weigh e.number (get_or files e.number None) = ap (weigh e.number) (get_or-set_other files n e.number file None leave.0) in
    omega (
      arith,
      sum_by-cons (λ (k : FileEdit). weigh k.number (get_or (set files n file) k.number None)) e edits,
      sum_by-cons (λ (k : FileEdit). weigh k.number (get_or files k.number None)) e edits,
      here,
      same_lost weigh files n file edits leave.1,
    )

-- a whole that changes by the weights of one file's replacement changes by those of all edits
pub balance : (whole : Files → ℕ) (weigh : ℕ → Option Record → ℕ) (count : ℕ) → ((files : Files) (n : ℕ) (file : Option Record) → length files ≡ count → n < count → whole (set files n file) + weigh n (get_or files n None) ≡ whole files + weigh n file)
    → (files : Files) (edits : List FileEdit) → length files ≡ count → AreEdits count edits → whole (with_edits edits files) + sum_by (λ e. weigh e.number (get_or files e.number None)) edits ≡ whole files + sum_by (λ e. weigh e.number e.file) edits
balance whole weigh count step files [] size are = refl
balance whole weigh count step files (e ∷ edits) size are =
    let next = set files e.number e.file in
    let one = step files e.number e.file size are.0 in
    let rest = balance whole weigh count step next edits (length-set files e.number e.file ∙ size) are.2 in
    omega (
      arith,
      one,
      rest,
      same_lost weigh files e.number e.file edits are.1,
      sum_by-cons (λ (k : FileEdit). weigh k.number (get_or files k.number None)) e edits,
      sum_by-cons (λ (k : FileEdit). weigh k.number k.file) e edits,
    )

one_file : (x : ℕ) (files : Files) (n : ℕ) (file : Option Record) → n < length files → uses (volume_runs (set files n file)) x + file_uses x (get_or files n None) ≡ uses (volume_runs files) x + file_uses x file
one_file x files n file within = omega (arith, volume_sum files x, volume_sum (set files n file) x, sum_by-set (file_uses x) files n file None within)

pub clusters_balance : (files : Files) (edits : List FileEdit) (x : ℕ) → AreEdits (length files) edits → uses (volume_runs (with_edits edits files)) x + clusters_lost files x edits ≡ uses (volume_runs files) x + clusters_gained x edits
clusters_balance files edits x are =
    balance (λ fs. uses (volume_runs fs) x) (λ n. file_uses x) (length files) (λ fs n file size lt. one_file x fs n file (omega arith)) files edits refl are

-- the names of a file in a directory
abbrev names_of : FileRef → ℕ → Option Record → ℕ
names_of directory n file = count_in directory (file_links n (only_base file))

one_name : (directory : FileRef) (files : Files) (n : ℕ) (file : Option Record) (count : ℕ) → length files ≡ count → n < count → names_in (table_in (set files n file)) directory count + names_of directory n (get_or files n None) ≡ names_in (table_in files) directory count + names_of directory n file
unfolding links_at file_at
one_name directory files n file count size lt =
    let new : names_of directory n (get_or (set files n file) n None) ≡ names_of directory n file = ap (names_of directory n) (get_or-set_same files n file None (omega arith)) in
    let one = names_replaced (table_in files) (table_in (set files n file)) directory count n lt (λ m not. get_or-set_other files n m file None not) in
    omega (arith, one, new)

pub names_balance : (files : Files) (edits : List FileEdit) (directory : FileRef) → AreEdits (length files) edits → names_in (table_in (with_edits edits files)) directory (length files) + names_lost files directory edits ≡ names_in (table_in files) directory (length files) + names_gained directory edits
unfolding links_at file_at
names_balance files edits directory are =
    balance (λ fs. names_in (table_in fs) directory (length files)) (names_of directory) (length files) (λ fs n file size lt. one_name directory fs n file (length files) size lt) files edits refl are
