-- The pieces of a device that are read at once.
use Rattle.std.specs.Prelude.{ℕ, ◌+◌, ◌*◌, ◌<◌}

-- so many sectors from this one on, and the piece of 128 sectors with this number, lie one over the other
abbrev pub MeetsPiece : (piece first count : ℕ) → Type 0
MeetsPiece piece first count = (first < 128 * piece + 128) × (128 * piece < first + count)
