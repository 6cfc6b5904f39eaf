-- Numbers and bytes of a script, by their words.
use Rattle.std.specs.Prelude.{ℕ, List, [], ◌∷◌, length, nat_lt, if◌then◌else◌, codes, Option, Some, None, Result, Ok, Err}
use Rattle.std.specs.Str.{bytes_eq}
use Rattle.hex.specs.declared.error.FromHexError.{FromHexError}
use Rattle.hex.specs.Hex.{decode_of, decode_sized}
use Rattle.host_base.specs.Answers.{◌>>=◌}
use Rattle.host_base.specs.Numbers.{number_of}

-- the most bytes that a read answers, and the most that a write or a fill puts into a file
abbrev pub most_read : ℕ
most_read = 4096

abbrev pub most_written : ℕ
most_written = 65536

-- a number; another word breaks rule 8
abbrev pub number_or : Option ℕ → Result ℕ ℕ
number_or None = Err 8
number_or (Some n) = Ok n

unfoldable pub number_in : List ℕ → Result ℕ ℕ
number_in word = number_or (number_of word)

-- a number of at most so many bytes; a greater one breaks rule 9
unfoldable pub count_in : ℕ → List ℕ → Result ℕ ℕ
count_in most word = number_in word >>= λ n. if nat_lt most n then Err 9 else Ok n

-- what pairs of hexadecimal digits spell, 65,536 bytes at most; else rule 9 is broken
abbrev pub bytes_or : Result (List ℕ) FromHexError → Result (List ℕ) ℕ
bytes_or (Ok bytes) = if nat_lt most_written (length bytes) then Err 9 else Ok bytes
bytes_or (Err fault) = Err 9

-- the bytes of a word: none for `-`, else those of its hexadecimal digits, two a byte, upper and lower case mixed
unfoldable pub bytes_in : List ℕ → Result (List ℕ) ℕ
bytes_in word = if bytes_eq word (codes "-") then Ok [] else bytes_or (decode_of word)

-- a byte alone; else rule 9 is broken
abbrev pub byte_or : Result (List ℕ) FromHexError → Result ℕ ℕ
byte_or (Ok []) = Err 9
byte_or (Ok (byte ∷ [])) = Ok byte
byte_or (Ok (byte ∷ other ∷ bytes)) = Err 9
byte_or (Err fault) = Err 9

-- the byte that exactly two hexadecimal digits spell
unfoldable pub byte_in : List ℕ → Result ℕ ℕ
byte_in word = byte_or (decode_sized word 1)
