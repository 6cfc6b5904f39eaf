-- Parts of a path, one behind the other.
use Rattle.std.proofs.Common.{◌≡◌, ℕ, ◌+◌, ◌<◌, ◌≤◌, List, [], ◌∷◌, ◌++◌, length, get_or, drop, map, Bor, Result, Ok, Err, refl, sym, ap, ◌∙◌}
use Rattle.std.proofs.lemmas.List.{append_assoc, append-nil, at_drop_more, drop_all}
use Rattle.host_base.specs.Answers.{◌>>=◌, Explains}
use Rattle.script_text.specs.declared.fault.LineFault.{LineFault}
use Rattle.script_text.specs.declared.fault.LineFault.TheVariants.{Rule, Memory}
use Rattle.script_text.specs.Faults.{line_cause}
use Rattle.script_text.specs.Paths.{part_of, parts_of}

-- the parts behind those of the front
abbrev pub with_parts : List (List ℕ) → Result (List (List ℕ)) ℕ → Result (List (List ℕ)) ℕ
with_parts front read = read >>= λ parts. Ok (front ++ parts)

-- the parts of the texts from a place on
abbrev pub parts_from : ℕ → List (Bor (List ℕ)) → Result (List (List ℕ)) ℕ
parts_from i texts = parts_of (map (λ text. text.now) (drop i texts))

one_part : (part front : List (List ℕ)) (read : Result (List (List ℕ)) ℕ) → with_parts front (with_parts part read) ≡ with_parts (front ++ part) read
one_part part front (Ok parts) = ap (λ (ps : List (List ℕ)). Ok ps) (sym (append_assoc front part parts))
one_part part front (Err rule) = refl

next : (texts : List (Bor (List ℕ))) (i : ℕ) (d : Bor (List ℕ)) → i < length texts
    → parts_from i texts ≡ (part_of (get_or texts i d).now >>= λ part. with_parts (part ∷ []) (parts_from (i + 1) texts))
unfolding parts_of
next texts i d lt = at_drop_more (λ xs. parts_of (map (λ text. text.now) xs)) texts i d lt

-- one part more
pub went_on : (texts : List (Bor (List ℕ))) (i : ℕ) (d : Bor (List ℕ)) (part : List ℕ) (front : List (List ℕ)) (whole : Result (List (List ℕ)) ℕ) → i < length texts
    → part_of (get_or texts i d).now ≡ Ok part → with_parts front (parts_from i texts) ≡ whole → with_parts (front ++ part ∷ []) (parts_from (i + 1) texts) ≡ whole
went_on texts i d part front whole lt read so_far =
    sym (one_part (part ∷ []) front (parts_from (i + 1) texts))
    ∙ ap (with_parts front) (sym (next texts i d lt ∙ ap (λ read. read >>= λ part. with_parts (part ∷ []) (parts_from (i + 1) texts)) read))
    ∙ so_far

-- a part at fault
pub went_wrong : (texts : List (Bor (List ℕ))) (i : ℕ) (d : Bor (List ℕ)) (fault : LineFault) (front : List (List ℕ)) (whole : Result (List (List ℕ)) ℕ) → i < length texts
    → Explains (line_cause fault) (part_of (get_or texts i d).now) → with_parts front (parts_from i texts) ≡ whole → Explains (line_cause fault) whole
went_wrong texts i d Memory front whole lt why so_far = tt
went_wrong texts i d (Rule rule) front whole lt why so_far =
    sym so_far ∙ ap (with_parts front) (next texts i d lt ∙ ap (λ read. read >>= λ part. with_parts (part ∷ []) (parts_from (i + 1) texts)) why)

-- all parts
pub ended : (texts : List (Bor (List ℕ))) (i : ℕ) (front : List (List ℕ)) (whole : Result (List (List ℕ)) ℕ) → length texts ≤ i → with_parts front (parts_from i texts) ≡ whole → whole ≡ Ok front
unfolding parts_of
ended texts i front whole le so_far =
    sym so_far ∙ ap (λ xs. with_parts front (parts_of (map (λ text. text.now) xs))) (drop_all i texts le) ∙ ap (λ (ps : List (List ℕ)). Ok ps) (append-nil front)
