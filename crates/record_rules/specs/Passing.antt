-- The ways up from all records, each record passed once.
use Rattle.std.specs.Prelude.{◌≡◌, ℕ, zero, suc, ◌<◌, Bool, true, false, ◌==◌, nat_lt, if◌then◌else◌, List, [], ◌∷◌, length, slice_index_or, Option, Some, None}
use Rattle.state_model.specs.file_tree.Walks.{root, at_some, first_user_record}
use Rattle.record_rules.specs.declared.passing.Question.{Question}
use Rattle.record_rules.specs.declared.passing.Question.TheVariants.{Rooted, InSystem}

-- The answer, where the way up ends at this number: the root is reached and is no directory below which the volume keeps
-- files of its own, one of the first 24 records is.
abbrev pub end_of : Question → ℕ → Option Bool
end_of Rooted n = if n == root then Some true else None
end_of InSystem n = if n == root then Some false else if nat_lt n first_user_record then Some true else None

abbrev pub answer_or : Option Bool → Bool → Bool
answer_or (Some answer) other = answer
answer_or None other = other

-- the answer that the way up from a record gives, of so many records at most; a way that doesn't end says no
unfoldable pub climbed : Question → List (Option ℕ) → ℕ → ℕ → Bool
climbed q parents zero n = false
climbed q parents (suc most) n = answer_or (end_of q n) (at_some (climbed q parents most) (slice_index_or parents n None))

-- how many records a way passes at most, of so many that there are: to the root the root as well
abbrev pub reach : Question → ℕ → ℕ
reach Rooted count = suc count
reach InSystem count = count

-- ---- what is known of records that were passed

-- What is known of a record that was passed on the way up from another: the answer there. Where none is there yet, the way
-- has come back to itself, and the answer is no.
abbrev pub answered : List Bool → Option ℕ → Option Bool
answered answers None = None
answered answers (Some first) = Some (slice_index_or answers first false)

-- a record that isn't there has no way up
abbrev pub passed_answer : List (Option ℕ) → List Bool → ℕ → Option Bool
passed_answer firsts answers n = if nat_lt n (length firsts) then answered answers (slice_index_or firsts n None) else Some false

abbrev pub known_by : Option Bool → Option Bool → Option Bool
known_by (Some answer) other = Some answer
known_by None other = other

-- the answer at a record, as far as it is known by where each record was first passed and the answers so far
abbrev pub known : Question → List (Option ℕ) → List Bool → ℕ → Option Bool
known q firsts answers n = known_by (end_of q n) (passed_answer firsts answers n)

-- how many records were passed
abbrev pub passed : List (Option ℕ) → ℕ
passed [] = 0
passed (None ∷ firsts) = passed firsts
passed (Some first ∷ firsts) = suc (passed firsts)

-- a yes comes within so many records, a no is the answer however far the way is followed
abbrev pub Tells : Question → List (Option ℕ) → ℕ → ℕ → Bool → Type 0
Tells q parents most n true = climbed q parents most n ≡ true
Tells q parents most n false = (more : ℕ) → climbed q parents more n ≡ false

-- no way ends at the record, and the answer at that from which it was first passed is its own
pub record IsSettled (q : Question) (parents : List (Option ℕ)) (answers : List Bool) (most n first : ℕ) : Type 0 where
  pub earlier : first < length answers
  pub between : end_of q n ≡ None
  pub tells : Tells q parents most n (slice_index_or answers first false)

-- each record that was passed is settled
abbrev pub AreSettled : Question → List (Option ℕ) → List (Option ℕ) → List Bool → Type 0
AreSettled q parents firsts answers = (n first : ℕ) → slice_index_or firsts n None ≡ Some first → IsSettled q parents answers (suc (passed firsts)) n first
