-- What a group says of a block that begins in its cluster is what all entries say of it.
use Rattle.std.proofs.Common.{◌≡◌, ℕ, ◌+◌, ◌*◌, ◌/◌, ◌<◌, ◌≤◌, Bool, true, false, not, cond, ◌||◌, ◌&&◌, List, [], ◌∷◌, length, Option, Some, None, Vec, refl, sym, ap, ◌∙◌, subst, arith}
use mathlib.Core.Path.{fun_ext}
use Rattle.std.specs.Prelude.{if◌then◌else◌, nat_le, nat_lt, nat_eq, find, unwrap_or, IfSome, All}
use Rattle.std.specs.Option.{option_or, option_map}
use Rattle.std.specs.List.{list_any, list_all, range_with_len, filter, AllByRecursion}
use Rattle.std.proofs.lemmas.List.Elements.{All-filter, All-from_recursion, recursion_from_All}
use Rattle.std.specs.Cmp.Lexicographic.{pointwise}
use Rattle.std.specs.Borrow.{Bor}
use Rattle.std.specs.BTreeMap.{BTreeMap}
use Rattle.log_reading.specs.disk_model.declared.block.Block.{Block}
use Rattle.log_reading.specs.disk_model.declared.block.BlockKind.{BlockKind}
use Rattle.log_reading.specs.disk_model.declared.block.BlockKind.TheVariants.{Plain, FileRec, Index}
use Rattle.log_reading.specs.disk_model.Bodies.{BodyOf}
use Rattle.log_reading.specs.disk_model.Sectors.{sectors, same_kind, same_block, overlap}
use Rattle.log_reading.specs.disk_model.Content.{Content}
use Rattle.log_reading.specs.disk_model.Bytes.{written}
use Rattle.log_reading.specs.disk_model.Writes.{bytes_after}
use Rattle.log_reading.proofs.disk_model.Frames.{same_block-is, bytes_after-append}
use Rattle.log_model.specs.declared.entry.Entry.{Entry}
use Rattle.log_model.specs.declared.entry.Act.{Act}
use Rattle.log_model.specs.declared.entry.Act.TheVariants.{Update, Commit}
use Rattle.log_model.specs.Logs.{is_ended, block_of_kind, updates, is_in_grid, updates_rival, covers, act_says, last_said, first_rival, undo_of, redo_of, undos_back, redos, is_covered_whole}
use Rattle.log_recovery.specs.declared.found.Judged.{Judged}
use Rattle.log_recovery.specs.declared.found.Judged.TheVariants.{Shadowed, Partial, Kept, Made}
use Rattle.log_recovery.specs.Blocks.{shadowed_by, bytes_by, other_by, partial_by, made_by, body_by, Judges, IsSeen, Lies}
use Rattle.log_recovery.specs.Groups.{first_cluster, last_cluster, reaches, touches, group_of, lent, LentLies, HasGroups}
use Rattle.log_recovery.specs.Recovering.{shadow_lsn}
use Rattle.log_recovery.specs.Shadows.{shadow_by, shadow_in}
use Rattle.log_recovery.proofs.Saying.{shadowed-is}

-- ---- entries that say nothing of a block

clash : {X : Type 0} → true ≡ false → X
clash e = absurd cc

sizes : (k : BlockKind) → (0 < sectors k) × (sectors k ≤ 8)
sizes Plain = (omega arith, omega arith)
sizes FileRec = (omega arith, omega arith)
sizes Index = (omega arith, omega arith)

lt_of : (m n : ℕ) → nat_lt m n ≡ true → m < n
lt_of m n e = grind arith

le_is : (m n : ℕ) → m ≤ n → nat_le m n ≡ true
le_is m n lt = grind arith

lt_is : (m n : ℕ) → m < n → nat_lt m n ≡ true
lt_is m n lt = grind arith

both : (s t : Bool) → s ≡ true → t ≡ true → (s && t) ≡ true
both true true p q = refl
both true false p q = clash (sym q)
both false t p q = clash (sym p)

parts : (s t : Bool) → (s && t) ≡ true → (s ≡ true) × (t ≡ true)
parts true true e = (refl, refl)
parts true false e = clash (sym e)
parts false t e = clash (sym e)

-- where they share a sector, the one reaches the other's cluster
near : (b d : Block) → overlap b d ≡ true → reaches d (b.first / 8) ≡ true
near b d e =
    let shared = parts (nat_lt b.first (d.first + sectors d.kind)) (nat_lt d.first (b.first + sectors b.kind)) e in
    let before : b.first < d.first + sectors d.kind = lt_of _ _ shared.0 in
    let after : d.first < b.first + sectors b.kind = lt_of _ _ shared.1 in
    let small : sectors b.kind ≤ 8 = (sizes b.kind).1 in
    let some : 0 < sectors d.kind = (sizes d.kind).0 in
    both _ _ (le_is (first_cluster d) (b.first / 8) (omega arith)) (le_is (b.first / 8) (last_cluster d) (omega arith))

apart : (b d : Block) → reaches d (b.first / 8) ≡ false → overlap b d ≡ false
apart b d e = cases (overlap b d) refl
  where
    cases : (s : Bool) → overlap b d ≡ s → s ≡ false
    cases true o = clash (sym (near b d o) ∙ e)
    cases false o = refl

own : (b : Block) → overlap b b ≡ true
own b =
    let some : 0 < sectors b.kind = (sizes b.kind).0 in
    both _ _ (lt_is b.first (b.first + sectors b.kind) (omega arith)) (lt_is b.first (b.first + sectors b.kind) (omega arith))

other : (b d : Block) → reaches d (b.first / 8) ≡ false → same_block b d ≡ false
other b d e = cases (same_block b d) refl
  where
    cases : (s : Bool) → same_block b d ≡ s → s ≡ false
    cases true o = clash (sym (own b) ∙ ap (overlap b) (same_block-is b d o) ∙ apart b d e)
    cases false o = refl

and_false : (t : Bool) → (t && false) ≡ false
and_false true = refl
and_false false = refl

-- it is an update neither of the block nor of a rival
record IsSilent (b : Block) (act : Act) : Type 0 where
  own : updates b act ≡ false
  rival : updates_rival b act ≡ false

silent : (b : Block) (act : Act) → touches (b.first / 8) act ≡ false → IsSilent b act
silent b (Update first kind at redo undo) e =
    let d = block_of_kind first kind in
    record {
      own = other b d e;
      rival = ap (λ (t : Bool). not (same_kind b.kind d.kind) && t) (apart b d e) ∙ and_false (not (same_kind b.kind d.kind));
    }
silent b Commit e = record { own = refl; rival = refl }

silent-says : (b : Block) (ended : Bool) (act : Act) → IsSilent b act → act_says b ended act ≡ None
silent-says b ended act s =
    ap (λ (t : Bool). if t then Some true else (if updates b act && ended then Some false else None)) s.rival
    ∙ ap (λ (t : Bool). if t && ended then Some false else None) s.own

silent-covers : (b : Block) (i : ℕ) (act : Act) → IsSilent b act → covers b i act ≡ false
silent-covers b i (Update first kind at redo undo) s = ap (λ (t : Bool). t && nat_le at i && nat_lt i (at + length redo)) s.own
silent-covers b i Commit s = refl

silent-undo : (b : Block) (act : Act) (bytes : List ℕ) → IsSilent b act → bytes_after (undo_of act) b bytes ≡ bytes
silent-undo b (Update first kind at redo undo) bytes s = ap (λ (t : Bool). if t then written at undo bytes else bytes) s.own
silent-undo b Commit bytes s = refl

silent-redo : (b : Block) (ended : Bool) (act : Act) (bytes : List ℕ) → IsSilent b act → bytes_after (redo_of ended act) b bytes ≡ bytes
silent-redo b true (Update first kind at redo undo) bytes s = ap (λ (t : Bool). if t then written at redo bytes else bytes) s.own
silent-redo b true Commit bytes s = refl
silent-redo b false act bytes s = refl

-- ---- a list without some entries that say nothing

abbrev IsQuiet : (Entry → Bool) → Block → Type 0
IsQuiet keep b = (e : Entry) → keep e ≡ false → IsSilent b e.act

or_none : {X : Type 0} (o : Option X) → option_or o None ≡ o
or_none None = refl
or_none (Some x) = refl

said_kept : (keep : Entry → Bool) (b : Block) (ended : ℕ → Bool) (log : List Entry) → IsQuiet keep b → last_said ended (filter keep log) b ≡ last_said ended log b
said_kept keep b ended [] q = refl
said_kept keep b ended (x ∷ log) q = by (keep x) refl (said_kept keep b ended log q)
  where
    by : (t : Bool) → keep x ≡ t → last_said ended (filter keep log) b ≡ last_said ended log b → last_said ended (cond t (x ∷ filter keep log) (filter keep log)) b ≡ option_or (last_said ended log b) (act_says b (ended x.tx) x.act)
    by true k rest = ap (λ (o : Option Bool). option_or o (act_says b (ended x.tx) x.act)) rest
    by false k rest = rest ∙ sym (or_none (last_said ended log b)) ∙ sym (ap (option_or (last_said ended log b)) (silent-says b (ended x.tx) x.act (q x k)))

rival_kept : (keep : Entry → Bool) (b : Block) (log : List Entry) → IsQuiet keep b → find (λ (e : Entry). updates_rival b e.act) (filter keep log) ≡ find (λ (e : Entry). updates_rival b e.act) log
rival_kept keep b [] q = refl
rival_kept keep b (x ∷ log) q = by (keep x) refl (rival_kept keep b log q)
  where
    by : (t : Bool) → keep x ≡ t → find (λ (e : Entry). updates_rival b e.act) (filter keep log) ≡ find (λ (e : Entry). updates_rival b e.act) log → find (λ (e : Entry). updates_rival b e.act) (cond t (x ∷ filter keep log) (filter keep log)) ≡ (if updates_rival b x.act then Some x else find (λ (e : Entry). updates_rival b e.act) log)
    by true k rest = ap (λ (o : Option Entry). if updates_rival b x.act then Some x else o) rest
    by false k rest = rest ∙ sym (ap (λ (t : Bool). if t then Some x else find (λ (e : Entry). updates_rival b e.act) log) (q x k).rival)

covered_kept : (keep : Entry → Bool) (b : Block) (i : ℕ) (log : List Entry) → IsQuiet keep b → list_any (λ (e : Entry). covers b i e.act) (filter keep log) ≡ list_any (λ (e : Entry). covers b i e.act) log
covered_kept keep b i [] q = refl
covered_kept keep b i (x ∷ log) q = by (keep x) refl (covered_kept keep b i log q)
  where
    by : (t : Bool) → keep x ≡ t → list_any (λ (e : Entry). covers b i e.act) (filter keep log) ≡ list_any (λ (e : Entry). covers b i e.act) log → list_any (λ (e : Entry). covers b i e.act) (cond t (x ∷ filter keep log) (filter keep log)) ≡ (covers b i x.act || list_any (λ (e : Entry). covers b i e.act) log)
    by true k rest = ap (λ (t : Bool). covers b i x.act || t) rest
    by false k rest = rest ∙ sym (ap (λ (t : Bool). t || list_any (λ (e : Entry). covers b i e.act) log) (silent-covers b i x.act (q x k)))

redone_kept : (keep : Entry → Bool) (b : Block) (ended : ℕ → Bool) (log : List Entry) (bytes : List ℕ) → IsQuiet keep b → bytes_after (redos ended (filter keep log)) b bytes ≡ bytes_after (redos ended log) b bytes
redone_kept keep b ended [] bytes q = refl
redone_kept keep b ended (x ∷ log) bytes q = by (keep x) refl (λ ys. redone_kept keep b ended log ys q) ∙ sym (bytes_after-append (redo_of (ended x.tx) x.act) (redos ended log) b bytes)
  where
    by : (t : Bool) → keep x ≡ t → ((ys : List ℕ) → bytes_after (redos ended (filter keep log)) b ys ≡ bytes_after (redos ended log) b ys) → bytes_after (redos ended (cond t (x ∷ filter keep log) (filter keep log))) b bytes ≡ bytes_after (redos ended log) b (bytes_after (redo_of (ended x.tx) x.act) b bytes)
    by true k rest = bytes_after-append (redo_of (ended x.tx) x.act) (redos ended (filter keep log)) b bytes ∙ rest (bytes_after (redo_of (ended x.tx) x.act) b bytes)
    by false k rest = rest bytes ∙ sym (ap (bytes_after (redos ended log) b) (silent-redo b (ended x.tx) x.act bytes (q x k)))

undone_kept : (keep : Entry → Bool) (b : Block) (log : List Entry) (bytes : List ℕ) → IsQuiet keep b → bytes_after (undos_back (filter keep log)) b bytes ≡ bytes_after (undos_back log) b bytes
undone_kept keep b [] bytes q = refl
undone_kept keep b (x ∷ log) bytes q = by (keep x) refl (undone_kept keep b log bytes q) ∙ sym (bytes_after-append (undos_back log) (undo_of x.act) b bytes)
  where
    by : (t : Bool) → keep x ≡ t → bytes_after (undos_back (filter keep log)) b bytes ≡ bytes_after (undos_back log) b bytes → bytes_after (undos_back (cond t (x ∷ filter keep log) (filter keep log))) b bytes ≡ bytes_after (undo_of x.act) b (bytes_after (undos_back log) b bytes)
    by true k rest = bytes_after-append (undos_back (filter keep log)) (undo_of x.act) b bytes ∙ ap (bytes_after (undo_of x.act) b) rest
    by false k rest = rest ∙ sym (silent-undo b x.act (bytes_after (undos_back log) b bytes) (q x k))

-- ---- what is judged

-- two lists that say the same of a block
record SayTheSame (ended : ℕ → Bool) (some all : List Entry) (b : Block) : Type 0 where
  shadowed : shadowed_by ended some b ≡ shadowed_by ended all b
  rival : first_rival some b ≡ first_rival all b
  bytes : (bytes : List ℕ) → bytes_by ended some b bytes ≡ bytes_by ended all b bytes
  whole : is_covered_whole some b ≡ is_covered_whole all b

kept_same : (keep : Entry → Bool) (ended : ℕ → Bool) (log : List Entry) (b : Block) → IsQuiet keep b → SayTheSame ended (filter keep log) log b
unfolding shadowed_by is_covered_whole
kept_same keep ended log b q = record {
  shadowed = ap (λ (o : Option Bool). unwrap_or o false) (said_kept keep b ended log q);
  rival = ap (option_map (λ (e : Entry). e.lsn)) (rival_kept keep b log q);
  bytes = λ bytes. redone_kept keep b ended log (bytes_after (undos_back (filter keep log)) b bytes) q ∙ ap (bytes_after (redos ended log) b) (undone_kept keep b log bytes q);
  whole = ap (λ (p : ℕ → Bool). list_all p (range_with_len 0 (512 * sectors b.kind))) (fun_ext (λ i. covered_kept keep b i log q));
}

group_same : (ended : ℕ → Bool) (log : List Entry) (b : Block) → SayTheSame ended (group_of log (b.first / 8)) log b
group_same ended log b = kept_same (λ (e : Entry). touches (b.first / 8) e.act) ended log b (λ e out. silent b e.act out)

same_other : (ended : ℕ → Bool) (some all : List Entry) (b : Block) (bytes : List ℕ) → SayTheSame ended some all b → other_by ended some b bytes ≡ other_by ended all b bytes
unfolding other_by
same_other ended some all b bytes s = ap (λ (x : List ℕ). not (pointwise nat_eq x bytes)) (s.bytes bytes)

same_partial : (ended : ℕ → Bool) (some all : List Entry) (b : Block) (body : BodyOf) → SayTheSame ended some all b → partial_by ended some b body ≡ partial_by ended all b body
same_partial ended some all b body s =
    ap (λ (t : Bool). not (same_kind b.kind Plain) && not t && other_by ended some b body.bytes) s.whole
    ∙ ap (λ (t : Bool). not (same_kind b.kind Plain) && not (is_covered_whole all b) && t) (same_other ended some all b body.bytes s)

same_made : (ended : ℕ → Bool) (some all : List Entry) (b : Block) (body : BodyOf) → SayTheSame ended some all b → made_by ended some b body ≡ made_by ended all b body
same_made ended some all b body s =
    ap (λ (t : Bool). other_by ended some b body.bytes || (body.torn && t)) s.whole
    ∙ ap (λ (t : Bool). t || (body.torn && is_covered_whole all b)) (same_other ended some all b body.bytes s)

abbrev body_of_parts : List ℕ → Bool → BodyOf
body_of_parts x y = record { bytes = x; torn = y }

same_body : (ended : ℕ → Bool) (some all : List Entry) (b : Block) (body : BodyOf) → SayTheSame ended some all b → body_by ended some b body ≡ body_by ended all b body
same_body ended some all b body s =
    ap (λ (x : List ℕ). body_of_parts x (body.torn && not (is_covered_whole some b))) (s.bytes body.bytes)
    ∙ ap (λ (t : Bool). body_of_parts (bytes_by ended all b body.bytes) (body.torn && not t)) s.whole

same_seen : (ended : ℕ → Bool) (some all : List Entry) (b : Block) (body : BodyOf) (in_part out : Bool) → SayTheSame ended some all b → IsSeen ended some b body in_part out → IsSeen ended all b body in_part out
same_seen ended some all b body in_part out s seen = record {
  seen = sym s.shadowed ∙ seen.seen;
  part = sym (same_partial ended some all b body s) ∙ seen.part;
  made = sym (same_made ended some all b body s) ∙ seen.made;
}

same_judged : (ended : ℕ → Bool) (some all : List Entry) (b : Block) (body : BodyOf) (judged : Judged) → SayTheSame ended some all b → Judges ended some b body judged → Judges ended all b body judged
same_judged ended some all b body Shadowed s j = sym s.shadowed ∙ j
same_judged ended some all b body Partial s j = (sym s.shadowed ∙ j.0, sym (same_partial ended some all b body s) ∙ j.1)
same_judged ended some all b body Kept s j = same_seen ended some all b body false false s j
same_judged ended some all b body (Made made) s j = (same_seen ended some all b body false true s j.0, j.1 ∙ same_body ended some all b body s)

-- what is judged by a block's group is judged by all entries
pub group_judged : (content : Option Content) (ended : ℕ → Bool) (group log : List Entry) (b : Block) (judged : Judged) → group ≡ group_of log (b.first / 8) → IfSome content (λ c. Judges ended group b (c b) judged) → IfSome content (λ c. Judges ended log b (c b) judged)
group_judged None ended group log b judged is j = tt
group_judged (Some c) ended group log b judged is j = same_judged ended (group_of log (b.first / 8)) log b (c b) judged (group_same ended log b) (subst (λ (es : List Entry). Judges ended es b (c b) judged) is j)

-- and so are the shadowed blocks
shadow_kept : (ended : ℕ → Bool) (some all : List Entry) (b : Block) → SayTheSame ended some all b → shadow_by ended some b ≡ shadow_by ended all b
shadow_kept ended some all b s =
    ap (λ (t : Bool). if is_in_grid b && t then first_rival some b else None) s.shadowed ∙ ap (λ (o : Option ℕ). if is_in_grid b && shadowed_by ended all b then o else None) s.rival

pub group_shadows : {A : Type 0} (ended : ℕ → Bool) (groups : BTreeMap ℕ (Vec (Bor Entry) A)) (log : List Entry) (b : Block) → ended ≡ is_ended log → HasGroups groups log → shadow_in ended groups b ≡ shadow_lsn log b
group_shadows ended groups log b same has =
    ap (λ (es : List Entry). shadow_by ended es b) (has (b.first / 8)) ∙ shadow_kept ended (group_of log (b.first / 8)) log b (group_same ended log b)
    ∙ ap (λ (e : ℕ → Bool). shadow_by e log b) same ∙ sym (ap (λ (t : Bool). if is_in_grid b && t then first_rival log b else None) (shadowed-is log b))

-- ---- the entries of a group lie inside their blocks

lent_lie : (group : List (Bor Entry)) → AllByRecursion Lies (lent group) → AllByRecursion LentLies group
lent_lie [] all = tt
lent_lie (e ∷ group) all = (all.0, lent_lie group all.1)

pub group_lies : (group : List (Bor Entry)) (log : List Entry) (cluster : ℕ) → All Lies log → lent group ≡ group_of log cluster → All LentLies group
group_lies group log cluster all is =
    All-from_recursion LentLies group (lent_lie group (recursion_from_All Lies (lent group) (subst (All Lies) (sym is) (All-filter (λ (e : Entry). touches cluster e.act) Lies log all))))
