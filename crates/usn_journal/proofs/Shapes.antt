-- A journal in shape begins within its real size.
use Rattle.std.proofs.Common.{◌≡◌, ℕ, ◌≤◌, Bool, true, false, refl, arith}
use Rattle.std.specs.Prelude.{◌&&◌, ◌==◌, ◌^◌, nat_le}
use Rattle.std.specs.List.{list_all}
use Rattle.std.proofs.lemmas.Bool.Decides.{nat_tests}
use Rattle.record_rules.specs.state_model.declared.stream.Extents.{Extents}
use Rattle.record_rules.specs.state_model.Files.{is_sparse}
use Rattle.volume_state.specs.Journals.{ends_within, journal_first, has_journal_shape}

last_but_one : (a b c : Bool) → (a && b && c) ≡ true → b ≡ true
last_but_one true true c both = refl
last_but_one true false c both = absurd cc
last_but_one false b c both = absurd cc

is_below : (a b : ℕ) → nat_le a b ≡ true → a ≤ b
is_below a b is = grind (arith, nat_tests)

pub begins_inside : (per flags : ℕ) (e : Extents) → has_journal_shape per flags e ≡ true → journal_first per e ≤ e.real
unfolding has_journal_shape
begins_inside per flags e is =
    is_below (journal_first per e) e.real
    (last_but_one (is_sparse flags && e.initialised == e.real && list_all (ends_within per e.real) e.runs && list_all (ends_within per (journal_first per e)) e.runs) (nat_le (journal_first per e) e.real) (nat_le e.allocated (2 ^ 43)) is)
