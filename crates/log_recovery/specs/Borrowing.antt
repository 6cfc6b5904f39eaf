-- What stays of a view that is borrowed.
use Rattle.std.specs.Prelude.{ℕ, Option}
use Rattle.log_reading.specs.disk_model.Content.{Content}
use Rattle.log_reading.specs.block_view.Borrowed.{BorrowedView}

-- the reference to it, its content, and what it keeps
abbrev pub borrowed_view : {V Kept : Type 0} → (V → Option Content) → (V → Kept) → ℕ → V → BorrowedView Kept
borrowed_view content kept reference view = record { reference = reference; content = content view; kept = kept view }
