-- What the ring's calls of a device do: a page is sent to its place.
use Rattle.std.specs.Prelude.{◌≡◌, ℕ, ◌<◌, List, Option, Some, None, Result, OnOk, OnErr, IfSome}
use Rattle.std.specs.Option.{option_map}
use Rattle.disk_model.specs.Bytes.{written}
use Rattle.disk_model.specs.Sectors.{sector_of, raw_from}
use Rattle.sector_device.specs.Moments.{moment_after, Changes, Writes}
use Rattle.sector_device.specs.Sectors.{sectors_of, IsTornBy}
use Rattle.log_reading.specs.log_page.CheckWords.{IsCheckWord}

-- the device is as it was but for its moment, which is that after one call
pub record IsAsked {D : Type 0} (gives : D → Option (List (List ℕ))) (changes : D → Changes) (moment : D → ℕ) (old new : D) : Type 0 where
  pub same : gives new ≡ gives old
  pub unchanged : changes new ≡ changes old
  pub later : moment new ≡ moment_after (moment old)

-- The word by which a page is protected that is sent to this sector: the one that it has already, or else one that ends no sector of what is read there.
pub record IsCheckOf (check : Option ℕ) (gives : Option (List (List ℕ))) (first word : ℕ) : Type 0 where
  pub above : 0 < word
  pub below : word < 0xFFFF
  pub kept : IfSome check (λ c. word ≡ c)
  pub picked : check ≡ None → IfSome gives (λ disk. IsCheckWord (raw_from (sector_of disk) first 8) word)

-- the moment at which it is sent: before that its place is read where it has no check word yet
abbrev pub sending_moment : Option ℕ → ℕ → ℕ
sending_moment None moment = moment_after moment
sending_moment (Some c) moment = moment

-- These bytes are written from this sector on, in a call that begins at this moment.
pub record Sends {D T E : Type 0} (gives : D → Option (List (List ℕ))) (changes : D → Changes) (moment : D → ℕ) (begun first : ℕ) (bytes : List ℕ) (result : Result T E) (old new : D) : Type 0 where
  pub whole : OnOk result (gives new ≡ option_map (written first (sectors_of bytes)) (gives old))
  pub torn : OnErr result (IsTornBy first (sectors_of bytes) (gives old) (gives new))
  pub writes : Writes begun first (sectors_of bytes) result (changes old) (changes new)
  pub later : moment new ≡ moment_after begun

-- A page was sent by this check word.
pub record IsSent {D T E : Type 0} (gives : D → Option (List (List ℕ))) (changes : D → Changes) (moment : D → ℕ) (check : Option ℕ) (first : ℕ) (bytes : ℕ → List ℕ) (word : ℕ) (result : Result T E) (old new : D) : Type 0 where
  pub chosen : IsCheckOf check (gives old) first word
  pub sends : Sends gives changes moment (sending_moment check (moment old)) first (bytes word) result old new

-- After a failure: the page was sent by the check word that it keeps; or its place was read, and it has none.
abbrev pub SentOrAsked : {D T E : Type 0} → (D → Option (List (List ℕ))) → (D → Changes) → (D → ℕ) → Option ℕ → ℕ → (ℕ → List ℕ) → Result T E → D → D → Option ℕ → Type 0
SentOrAsked gives changes moment check first bytes result old new (Some word) = IsSent gives changes moment check first bytes word result old new
SentOrAsked gives changes moment check first bytes result old new None = (check ≡ None) × IsAsked gives changes moment old new

-- What a call did that sends a page, which had this check word before, and has that one now.
pub record IsSentOrNot {D T E : Type 0} (gives : D → Option (List (List ℕ))) (changes : D → Changes) (moment : D → ℕ) (check now : Option ℕ) (first : ℕ) (bytes : ℕ → List ℕ) (result : Result T E) (old new : D) : Type 0 where
  pub sent : OnOk result ((word : ℕ) × IsSent gives changes moment check first bytes word result old new)
  pub failed : OnErr result (SentOrAsked gives changes moment check first bytes result old new now)
