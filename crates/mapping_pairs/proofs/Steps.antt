-- One step of the reader's loop, over plain lists.
use Rattle.std.proofs.Common.{◌≡◌, ◌≢◌, ℕ, suc, ◌+◌, ◌-◌, ◌<◌, List, [], ◌∷◌, ◌++◌, length, drop, Result, Ok, Err, refl, sym, ap, ◌∙◌, arith}
use Rattle.std.proofs.lemmas.List.{append_assoc, append-nil, length-append}
use Rattle.record_model.specs.host_base.Answers.{◌>>=◌, Explains}
use Rattle.record_model.specs.declared.runs.Run.{Run}
use Rattle.record_model.specs.declared.runs.PairsFault.{PairsFault}
use Rattle.record_model.specs.declared.runs.PairsFault.TheVariants.{Header, Cut, Range, Memory}
use Rattle.record_model.proofs.PairsRead.{at_header}
use Rattle.record_model.specs.Pairs.{Place, start, runs_of, runs_from, run_at, behind, length_width, delta_width, pairs_cause}

-- the runs so far, and those that are still to be read
abbrev pub with_front : List Run → Result (List Run) PairsFault → Result (List Run) PairsFault
with_front front (Ok runs) = Ok (front ++ runs)
with_front front (Err fault) = Err fault

moved_front : (front : List Run) (run : Run) (rest : Result (List Run) PairsFault) → with_front front (rest >>= λ runs. Ok (run ∷ runs)) ≡ with_front (front ++ run ∷ []) rest
moved_front front run (Ok runs) = ap Ok (sym (append_assoc front (run ∷ []) runs))
moved_front front run (Err fault) = refl

-- a run was read: it comes behind the front
pub step : (front : List Run) (more first : ℕ) (p : Place) (h : ℕ) (bytes : List ℕ) (run : Run) → h ≢ 0 → run_at first p h bytes ≡ Ok run → with_front front (runs_from (suc more) first p (h ∷ bytes)) ≡ with_front (front ++ run ∷ []) (runs_from more first (behind p h run) (drop (length_width h + delta_width h) bytes))
step front more first p h bytes run not is =
    ap (with_front front) (at_header more first p h bytes not ∙ ap (λ (r : Result Run PairsFault). r >>= λ run. runs_from more first (behind p h run) (drop (length_width h + delta_width h) bytes) >>= λ runs. Ok (run ∷ runs)) is)
    ∙ moved_front front run (runs_from more first (behind p h run) (drop (length_width h + delta_width h) bytes))

-- a fault is the answer
pub stop : (front : List Run) (more first : ℕ) (p : Place) (h : ℕ) (bytes : List ℕ) (fault : PairsFault) → h ≢ 0 → run_at first p h bytes ≡ Err fault → with_front front (runs_from (suc more) first p (h ∷ bytes)) ≡ Err fault
stop front more first p h bytes fault not is =
    ap (with_front front) (at_header more first p h bytes not ∙ ap (λ (r : Result Run PairsFault). r >>= λ run. runs_from more first (behind p h run) (drop (length_width h + delta_width h) bytes) >>= λ runs. Ok (run ∷ runs)) is)

-- the runs end at a zero
pub ended : (front : List Run) (more first : ℕ) (p : Place) (rest : List ℕ) (h : ℕ) (bytes : List ℕ) (whole : Result (List Run) PairsFault) → rest ≡ h ∷ bytes → h ≡ 0 → with_front front (runs_from (suc more) first p rest) ≡ whole → whole ≡ Ok front
unfolding runs_from
ended front more first p rest h bytes whole is zero_is read =
    sym read ∙ ap (λ (l : List ℕ). with_front front (runs_from (suc more) first p l)) (is ∙ ap (λ (n : ℕ). n ∷ bytes) zero_is) ∙ ap Ok (append-nil front)

-- nothing is left to read
pub cut_off : (front : List Run) (more first : ℕ) (p : Place) (rest : List ℕ) (whole : Result (List Run) PairsFault) → length rest ≡ 0 → with_front front (runs_from (suc more) first p rest) ≡ whole → whole ≡ Err (Cut p.at)
unfolding runs_from
cut_off front more first p [] whole empty read = sym read
cut_off front more first p (b ∷ rest) whole empty read = absurd (omega arith)

-- before the first run
pub begun : (front : List Run) (first : ℕ) (bytes : List ℕ) → front ≡ [] → with_front front (runs_from (suc (length bytes - length front)) first start bytes) ≡ runs_of first bytes
unfolding runs_of
begun front first bytes empty =
    let none : length bytes - length front ≡ length bytes = omega (arith, ap length empty) in
    ap (λ (l : List Run). with_front l (runs_from (suc (length bytes - length front)) first start bytes)) empty ∙ alone (runs_from (suc (length bytes - length front)) first start bytes) ∙ ap (λ (n : ℕ). runs_from (suc n) first start bytes) none
  where
    alone : (r : Result (List Run) PairsFault) → with_front [] r ≡ r
    alone (Ok runs) = refl
    alone (Err fault) = refl

-- a fault that is meant has its cause
pub caused : (fault : PairsFault) (meant : Result (List Run) PairsFault) → meant ≡ Err fault → Explains (pairs_cause fault) meant
caused (Header at) meant is = is
caused (Cut at) meant is = is
caused (Range at) meant is = is
caused Memory meant is = tt

-- a run was read and put behind the others, and the reader stands behind it
pub went_on : (pairs : List ℕ) (first : ℕ) (front front' : List Run) (p p' : Place) (rest bytes rest' : List ℕ) (h width : ℕ) (run : Run) (whole : Result (List Run) PairsFault) → rest ≡ h ∷ bytes → h ≢ 0 → run_at first p h bytes ≡ Ok run → front' ≡ front ++ run ∷ [] → p' ≡ behind p h run → width ≡ length_width h + delta_width h → rest' ≡ drop width bytes → length front < length pairs → with_front front (runs_from (suc (length pairs - length front)) first p rest) ≡ whole → with_front front' (runs_from (suc (length pairs - length front')) first p' rest') ≡ whole
went_on pairs first front front' p p' rest bytes rest' h width run whole is not read pushed moved wide left more before =
    let longer : length front' ≡ length front + 1 = ap length pushed ∙ length-append front (run ∷ []) in
    let count : length pairs - length front ≡ suc (length pairs - length front') = omega arith in
    let m = length pairs - length front' in
    let taken : rest' ≡ drop (length_width h + delta_width h) bytes = left ∙ ap (λ (n : ℕ). drop n bytes) wide in
    ap (λ (l : List Run). with_front l (runs_from (suc m) first p' rest')) pushed
    ∙ ap (λ (q : Place). with_front (front ++ run ∷ []) (runs_from (suc m) first q rest')) moved
    ∙ ap (λ (l : List ℕ). with_front (front ++ run ∷ []) (runs_from (suc m) first (behind p h run) l)) taken
    ∙ sym (step front (suc m) first p h bytes run not read)
    ∙ ap (λ (l : List ℕ). with_front front (runs_from (suc (suc m)) first p l)) (sym is)
    ∙ ap (λ (n : ℕ). with_front front (runs_from (suc n) first p rest)) (sym count)
    ∙ before

-- a fault was read
pub went_wrong : (more first : ℕ) (front : List Run) (p : Place) (rest bytes : List ℕ) (h : ℕ) (fault : PairsFault) (whole : Result (List Run) PairsFault) → rest ≡ h ∷ bytes → h ≢ 0 → run_at first p h bytes ≡ Err fault → with_front front (runs_from (suc more) first p rest) ≡ whole → Explains (pairs_cause fault) whole
went_wrong more first front p rest bytes h fault whole is not read before =
    caused fault whole (sym before ∙ ap (λ (l : List ℕ). with_front front (runs_from (suc more) first p l)) is ∙ stop front more first p h bytes fault not read)
