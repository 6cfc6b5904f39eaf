-- What recovery makes of the blocks by which a log is found, and what a mount leaves of those that recovery gives.
use Rattle.std.proofs.Common.{◌≡◌, ℕ, Bool, true, false, not, ◌&&◌, ◌||◌, List, [], ◌∷◌, find, Option, Some, None, Ok, refl, sym, ap, ◌∙◌, inl, inr}
use Rattle.std.specs.Prelude.{if◌then◌else◌, unwrap_or}
use Rattle.std.specs.Option.{option_map, option_or}
use Rattle.std.proofs.lemmas.Bool.{cases_Bool, and_from, false_from_ne_true}
use Rattle.disk_model.specs.declared.block.Block.{Block}
use Rattle.disk_model.specs.declared.block.Body.{Body}
use Rattle.disk_model.specs.Content.{Content, HasSizes}
use Rattle.volume_model.specs.Volumes.{Volume}
use Rattle.stream_laws.specs.Owners.{IsLive}
use Rattle.log_model.specs.declared.entry.Entry.{Entry}
use Rattle.log_model.specs.Logs.{is_in_grid, updates, updates_rival, act_says, last_said, is_ended, is_shadowed, first_rival, is_written_out, recovered}
use Rattle.log_page.specs.declared.places.LogPlace.{LogPlace}
use Rattle.log_recovery.specs.LogStates.{LogState}
use Rattle.log_recovery.specs.Own.{is_own}
use Rattle.log_recovery.specs.Recovering.{shadow_lsn}
use Rattle.log_recovery.specs.Writing.{is_spelled, is_put_out, is_barred, to_write_in}
use Rattle.log_recovery.proofs.Ending.{not_written}
use Rattle.store_model.proofs.Told.{true≢false}
use Rattle.safe_blocks.proofs.ring_laws.SeenDisks.{written_updated}
use Rattle.stays_at_mount.specs.txn_mount.Contents.{stays_torn, mounted_content, ReadsLog, ReadsWell}
use Rattle.stays_at_mount.proofs.txn_mount.Frames.{updated_none}
use Rattle.stays_at_mount.proofs.txn_mount.Reading.{read_log, reads_well}
use Rattle.safe_blocks.specs.volume_shadows.Live.{least_live}
use Rattle.safe_blocks.proofs.volume_shadows.Listing.{none_said_live}

-- the second body has the first one's bytes, and is torn at most where that is
abbrev pub IsAlike : Body → Body → Type 0
IsAlike x y = (y.bytes ≡ x.bytes) × (y.torn ≡ true → x.torn ≡ true)

-- ---- blocks of the log's own

out_barred : (own spelled : Bool) → own ≡ true → (own || not spelled) ≡ true
out_barred true spelled is = refl
out_barred false spelled is = absurd cc

module _ (c : Content) (place : LogPlace) (kept : List Block) (state : LogState) (sized : HasSizes c) (read : to_write_in c place kept ≡ Ok state) where
  log : ReadsLog c place kept state
  log = read_log c place kept state read

  well : ReadsWell state.log
  well = reads_well c place kept state read

  -- none of them is put out
  own_stays : (b : Block) → is_own place kept b ≡ true → is_put_out c state.log b ≡ true → is_written_out c state.log b ≡ true → ⊥
  unfolding is_barred
  own_stays b own out written =
      let none : is_barred (is_own place kept) c state.log b ≡ false = updated_none (is_barred (is_own place kept) c state.log) state.log b log.may_write (written_updated state.log b c written) in
      true≢false (sym (ap (λ (t : Bool). t && (is_own place kept b || not (is_spelled c state.log b))) out ∙ out_barred (is_own place kept b) (is_spelled c state.log b) own) ∙ none)

  -- so recovery leaves them, but for one that stays torn
  pub own_same : (b : Block) → is_own place kept b ≡ true → stays_torn c state.log b ≡ false → recovered c state.log b ≡ c b
  own_same b own whole = elim (cases_Bool (is_written_out c state.log b)) [
    | inl written ↦ elim (cases_Bool (is_put_out c state.log b)) [
      | inl out ↦ absurd (own_stays b own out written)
      | inr in_place ↦ absurd (true≢false (sym (ap (λ (t : Bool). t && not (is_put_out c state.log b)) written ∙ ap not in_place) ∙ whole))
    ]
    | inr none ↦ not_written c state.log b sized well.level none
  ]

  -- and so it does with each block that it doesn't write out
  pub unwritten_same : (b : Block) → is_written_out c state.log b ≡ false → recovered c state.log b ≡ c b
  unwritten_same b none = not_written c state.log b sized well.level none

-- ---- known blocks

or_none : (t u : Bool) → u ≡ false → (t || u) ≡ true → t ≡ true
or_none true u none is = refl
or_none false true none is = absurd cc
or_none false false none is = absurd cc

-- what a mount makes of a block is what recovery does, where it doesn't stay torn
pub mounted_alike : (c : Content) (list : List Entry) (b : Block) (body : Body) → stays_torn c list b ≡ false → IsAlike (mounted_content c list b) body → IsAlike (recovered c list b) body
mounted_alike c list b body whole alike = (alike.0, λ torn. or_none (recovered c list b).torn (stays_torn c list b) whole (alike.1 torn))

-- ---- shadows

said_true : (o : Option Bool) → unwrap_or o false ≡ true → o ≡ Some true
said_true (Some true) is = refl
said_true (Some false) is = absurd cc
said_true None is = absurd cc

-- a list that shadows a block updates a rival of it
some_rival : (ended : ℕ → Bool) (list : List Entry) (b : Block) → last_said ended list b ≡ Some true → (n : ℕ) × (first_rival list b ≡ Some n)
some_rival ended [] b is = absurd cc
some_rival ended (e ∷ list) b is = go (λ said. some_rival ended list b said) (updates_rival b e.act) refl (last_said ended list b) refl is
  where
    here : updates_rival b e.act ≡ true → (n : ℕ) × (first_rival (e ∷ list) b ≡ Some n)
    here rival = (e.lsn, ap (λ (t : Bool). option_map (λ (x : Entry). x.lsn) (if t then Some e else find (λ (x : Entry). updates_rival b x.act) list)) rival)

    later : updates_rival b e.act ≡ false → (n : ℕ) × (first_rival list b ≡ Some n) → (n : ℕ) × (first_rival (e ∷ list) b ≡ Some n)
    later none more = (more.0, ap (λ (t : Bool). option_map (λ (x : Entry). x.lsn) (if t then Some e else find (λ (x : Entry). updates_rival b x.act) list)) none ∙ more.1)

    last : (u : Bool) → (if u then Some false else None) ≡ Some true → ⊥
    last true h = cc
    last false h = cc

    go : (last_said ended list b ≡ Some true → (n : ℕ) × (first_rival list b ≡ Some n)) → (r : Bool) → updates_rival b e.act ≡ r → (o : Option Bool) → last_said ended list b ≡ o → option_or (last_said ended list b) (act_says b (ended e.tx) e.act) ≡ Some true → (n : ℕ) × (first_rival (e ∷ list) b ≡ Some n)
    go more true rival o said h = here rival
    go more false none (Some true) said h = later none (more said)
    go more false none (Some false) said h = absurd (let no : Some false ≡ Some true = sym (ap (λ (x : Option Bool). option_or x (act_says b (ended e.tx) e.act)) said) ∙ h in cc)
    go more false none None said h =
        absurd (last (updates b e.act && ended e.tx)
        (sym (ap (λ (x : Option Bool). option_or x (act_says b (ended e.tx) e.act)) said ∙ ap (λ (t : Bool). if t then Some true else (if updates b e.act && ended e.tx then Some false else None)) none) ∙ h))

unsaid : (list : List Entry) (b : Block) → is_in_grid b ≡ true → shadow_lsn list b ≡ None → is_shadowed list b ≡ false
unfolding is_shadowed
unsaid list b grid none = false_from_ne_true (is_shadowed list b) (λ shadowed.
    let rival = some_rival (is_ended list) list b (said_true (last_said (is_ended list) list b) shadowed) in
    let some : shadow_lsn list b ≡ Some rival.0 = ap (λ (t : Bool). if t then first_rival list b else None) (and_from (is_in_grid b) (is_shadowed list b) grid shadowed) ∙ rival.1 in
    no_some rival.0 (sym some ∙ none))
  where
    no_some : (n : ℕ) → Some n ≡ None → ⊥
    no_some n is = cc

-- a list of which nothing is said of a live block shadows none
pub live_clear : (list : List Entry) (v : Volume) (b : Block) → least_live (shadow_lsn list) v ≡ None → IsLive v b → is_in_grid b ≡ true → is_shadowed list b ≡ false
live_clear list v b none live grid = unsaid list b grid (none_said_live (shadow_lsn list) v b none live)
