-- Marks and bodies of the rivals of a block, one after the other.
use Rattle.std.proofs.Common.{◌≡◌, ℕ, ◌+◌, ◌<◌, ◌≤◌, Bool, true, false, cond, List, [], ◌∷◌, length, drop, get_or, Option, Some, None, Result, Ok, Err, refl, sym, ap, subst, ◌∙◌, inl, inr}
use Rattle.std.specs.Prelude.{◌||◌, unwrap_or, OnOk, OnErr, IsSome}
use Rattle.std.specs.List.{list_any}
use Rattle.std.specs.Option.{option_map}
use Rattle.std.proofs.Math.Path.{fun_ext}
use Rattle.std.proofs.lemmas.Bool.{cases_Bool}
use Rattle.std.proofs.lemmas.List.{drop_more, drop_all}
use Rattle.txn_log.specs.disk_model.declared.block.Block.{Block}
use Rattle.txn_log.specs.disk_model.declared.block.Body.{Body}
use Rattle.txn_log.specs.disk_model.Sectors.{same_block, are_rivals}
use Rattle.txn_log.proofs.disk_model.Frames.{same_block-is}
use Rattle.txn_log.specs.log_model.Logs.{is_in_grid}
use Rattle.txn_log.specs.block_pool.Pools.{held, with_block, without_block, turned_values}
use Rattle.txn_log.proofs.block_pool.LookUps.{looks_up}
use Rattle.txn_log.specs.store_pools.declared.kept.KeptBody.{KeptBody}
use Rattle.txn_log.specs.store_pools.Pools.{body_of_kept, bodies_of, marks_of}
use Rattle.txn_log.proofs.store_pools.Pools.{held_without, held_with, marks_with}
use Rattle.txn_log.specs.txn_model.declared.mark.Mark.{Mark}
use Rattle.txn_log.specs.txn_model.Values.{no_mark, put_at, take_at}
use Rattle.txn_log.specs.txn_model.Calls.{rivals_of, noted_mark}
use Rattle.txn_state.specs.Turning.{turned_at, turned_all}
use Rattle.txn_state.proofs.Bools.{clash}
use Rattle.txn_log.proofs.Sharing.{same_self, among_is}

-- ---- pools, by blocks

pub set_marks : (c : Block) (m : Mark) (es : List (Block × Mark)) → marks_of (with_block c m es) ≡ (λ b. cond (same_block b c) m (marks_of es b))
set_marks c m es = fun_ext (λ b. marks_with c m es b)

own_mark : (turn : Mark → Mark) (c b : Block) (t : Bool) (marks : Block → Mark) → (t ≡ true → b ≡ c) → cond t (turn (marks c)) (marks b) ≡ cond t (turn (marks b)) (marks b)
own_mark turn c b true marks same = ap (λ (x : Block). turn (marks x)) (sym (same refl))
own_mark turn c b false marks same = refl

-- the mark of a block that has one is turned
pub turned_marks : (turn : Mark → Mark) (c : Block) (m : Mark) (es : List (Block × Mark)) → m ≡ turn (marks_of es c) → marks_of (with_block c m es) ≡ turned_at turn c (marks_of es)
turned_marks turn c m es is =
    fun_ext (λ b. marks_with c m es b ∙ ap (λ (x : Mark). cond (same_block b c) x (marks_of es b)) is ∙ own_mark turn c b (same_block b c) (marks_of es) (same_block-is b c))

-- a block that has none is plainly clean, and stays so
pub turned_none : (turn : Mark → Mark) (c : Block) (marks : Block → Mark) → turn (marks c) ≡ marks c → marks ≡ turned_at turn c marks
turned_none turn c marks still = fun_ext (λ b. by_test b (same_block b c) (same_block-is b c))
  where
    by_test : (b : Block) (t : Bool) → (t ≡ true → b ≡ c) → marks b ≡ cond t (turn (marks b)) (marks b)
    by_test b true same = sym (ap (λ (x : Block). turn (marks x)) (same refl) ∙ still ∙ ap marks (sym (same refl)))
    by_test b false same = refl

mapped : (t : Bool) (o : Option KeptBody) → option_map body_of_kept (cond t None o) ≡ cond t None (option_map body_of_kept o)
mapped true o = refl
mapped false o = refl

pub taken_bodies : (c : Block) (es : List (Block × KeptBody)) → bodies_of (without_block c es) ≡ take_at c (bodies_of es)
taken_bodies c es = fun_ext (λ b. ap (option_map body_of_kept) (held_without c es b) ∙ mapped (same_block b c) (held es b))

mapped_some : (t : Bool) (x : KeptBody) (o : Option KeptBody) → option_map body_of_kept (cond t (Some x) o) ≡ cond t (Some (body_of_kept x)) (option_map body_of_kept o)
mapped_some true x o = refl
mapped_some false x o = refl

pub put_bodies : (c : Block) (x : KeptBody) (es : List (Block × KeptBody)) → bodies_of (with_block c x es) ≡ put_at c (body_of_kept x) (bodies_of es)
put_bodies c x es = fun_ext (λ b. ap (option_map body_of_kept) (held_with c x es b) ∙ mapped_some (same_block b c) x (held es b))

noted_there : (o : Option Mark) → unwrap_or (option_map noted_mark o) no_mark ≡ noted_mark (unwrap_or o no_mark)
noted_there (Some m) = refl
noted_there None = refl

pub noted_marks : (marks : List (Block × Mark)) → marks_of (turned_values noted_mark marks) ≡ (λ b. noted_mark (marks_of marks b))
noted_marks marks = fun_ext (λ b. ap (λ (f : Block → Option Mark). unwrap_or (f b) no_mark) ((looks_up Mark).turned noted_mark marks) ∙ noted_there (held marks b))

-- a block that has none is given the mark of a clean one
clean_there : (c b : Block) (t : Bool) (marks : Block → Mark) → (t ≡ true → b ≡ c) → marks c ≡ no_mark → cond t no_mark (marks b) ≡ marks b
clean_there c b true marks same is = sym (ap marks (same refl) ∙ is)
clean_there c b false marks same is = refl

marked_clean : (c : Block) (es : List (Block × Mark)) → None ≡ held es c → marks_of (with_block c no_mark es) ≡ marks_of es
marked_clean c es none = fun_ext (λ b. marks_with c no_mark es b ∙ clean_there c b (same_block b c) (marks_of es) (same_block-is b c) (ap (λ (o : Option Mark). unwrap_or o no_mark) (sym none)))

pub marked_same : {A : Type 0} {E : Type 0} (r : Result A E) (c : Block) (es now : List (Block × Mark)) → OnOk r (now ≡ with_block c no_mark es) → OnErr r (now ≡ es) → None ≡ held es c → marks_of now ≡ marks_of es
marked_same (Ok a) c es now ok err none = ap marks_of ok ∙ marked_clean c es none
marked_same (Err e) c es now ok err none = ap marks_of err

own_some : {X : Type 0} (t : Bool) (m : X) (o : Option X) → t ≡ true → IsSome (cond t (Some m) o)
own_some true m o e = refl
own_some false m o e = clash false e refl

pub marked_some : {A : Type 0} {E : Type 0} (r : Result A E) (c : Block) (es now : List (Block × Mark)) → OnOk r (now ≡ with_block c no_mark es) → OnOk r (IsSome (held now c))
marked_some (Ok a) c es now ok = subst (λ (o : Option Mark). IsSome o) (sym (ap (λ (ms : List (Block × Mark)). held ms c) ok ∙ held_with c no_mark es c)) (own_some (same_block c c) no_mark (held es c) (same_self c))
marked_some (Err e) c es now ok = tt

own_put : (c b : Block) (t : Bool) (body : Block → Option Body) (x y : Body) → (t ≡ true → b ≡ c) → body c ≡ Some y → body b ≡ cond t (Some (unwrap_or (body c) x)) (body b)
own_put c b true body x y same is = ap body (same refl) ∙ is ∙ sym (ap (λ (o : Option Body). Some (unwrap_or o x)) is)
own_put c b false body x y same is = refl

-- the body of a block that is kept is kept once
pub put_again : (c : Block) (y : KeptBody) (x : Body) (es : List (Block × KeptBody)) → Some y ≡ held es c → bodies_of es ≡ put_at c (unwrap_or (bodies_of es c) x) (bodies_of es)
put_again c y x es is = fun_ext (λ b. own_put c b (same_block b c) (bodies_of es) x (body_of_kept y) (same_block-is b c) (ap (option_map body_of_kept) (sym is)))

pub put_first : (c : Block) (x : KeptBody) (es now : List (Block × KeptBody)) → None ≡ held es c → now ≡ with_block c x es → bodies_of now ≡ put_at c (unwrap_or (bodies_of es c) (body_of_kept x)) (bodies_of es)
put_first c x es now none is =
    ap bodies_of is ∙ put_bodies c x es ∙ ap (λ (o : Option KeptBody). put_at c (unwrap_or (option_map body_of_kept o) (body_of_kept x)) (bodies_of es)) none

out_again : (c b : Block) (t : Bool) (body : Block → Option Body) (x : Body) → (t ≡ true → b ≡ c) → body c ≡ None → cond t None (cond t (Some x) (body b)) ≡ body b
out_again c b true body x same none = sym (ap body (same refl) ∙ none)
out_again c b false body x same none = refl

-- what was put for a block that had none, and taken out again
pub taken_back : (c : Block) (x : Body) (before mid now : List (Block × KeptBody)) → now ≡ without_block c mid → bodies_of mid ≡ put_at c x (bodies_of before) → held before c ≡ None → bodies_of now ≡ bodies_of before
taken_back c x before mid now taken put none =
    ap bodies_of taken ∙ taken_bodies c mid ∙ ap (take_at c) put ∙ fun_ext (λ b. out_again c b (same_block b c) (bodies_of before) x (same_block-is b c) (ap (option_map body_of_kept) none))

-- ---- one after the other

-- one more of the blocks is turned
pub turn_step : (turn : Mark → Mark) (bs : List Block) (k : ℕ) (b d : Block) (marks now : Block → Mark) → k < length bs → b ≡ get_or bs k d → now ≡ turned_at turn b marks
    → turned_all turn (drop (k + 1) bs) now ≡ turned_all turn (drop k bs) marks
turn_step turn bs k b d marks now lt is made =
    ap (turned_all turn (drop (k + 1) bs)) (made ∙ ap (λ (x : Block). turned_at turn x marks) is) ∙ sym (ap (λ (xs : List Block). turned_all turn xs marks) (drop_more bs k d lt))

pub turn_end : (turn : Mark → Mark) (bs : List Block) (k : ℕ) (marks : Block → Mark) → length bs ≤ k → turned_all turn (drop k bs) marks ≡ marks
turn_end turn bs k marks le = ap (λ (xs : List Block). turned_all turn xs marks) (drop_all k bs le)

-- the blocks among these are without a body
abbrev pub without_all : List Block → (Block → Option Body) → Block → Option Body
without_all bs body c = cond (list_any (same_block c) bs) None (body c)

cond_twice : (t u : Bool) (o : Option Body) → cond u None (cond t None o) ≡ cond (t || u) None o
cond_twice true true o = refl
cond_twice true false o = refl
cond_twice false true o = refl
cond_twice false false o = refl

pub drop_step : (bs : List Block) (k : ℕ) (b d : Block) (body now : Block → Option Body) → k < length bs → b ≡ get_or bs k d → now ≡ take_at b body → without_all (drop (k + 1) bs) now ≡ without_all (drop k bs) body
drop_step bs k b d body now lt is made =
    ap (without_all (drop (k + 1) bs)) (made ∙ ap (λ (x : Block). take_at x body) is)
    ∙ fun_ext (λ c. cond_twice (same_block c (get_or bs k d)) (list_any (same_block c) (drop (k + 1) bs)) (body c)) ∙ sym (ap (λ (xs : List Block). without_all xs body) (drop_more bs k d lt))

pub drop_end : (bs : List Block) (k : ℕ) (body : Block → Option Body) → length bs ≤ k → without_all (drop k bs) body ≡ body
drop_end bs k body le = ap (λ (xs : List Block). without_all xs body) (drop_all k bs le)

-- one more of them doesn't pass, or does
pub any_step : (test : Block → Bool) (bs : List Block) (k : ℕ) (b d : Block) → k < length bs → b ≡ get_or bs k d → test b ≡ false → list_any test (drop (k + 1) bs) ≡ list_any test (drop k bs)
any_step test bs k b d lt is not_it =
    sym (ap (list_any test) (drop_more bs k d lt) ∙ ap (λ (t : Bool). t || list_any test (drop (k + 1) bs)) (ap test (sym is) ∙ not_it))

pub any_found : (test : Block → Bool) (bs : List Block) (k : ℕ) (b d : Block) → k < length bs → b ≡ get_or bs k d → test b ≡ true → list_any test (drop k bs) ≡ true
any_found test bs k b d lt is it = ap (list_any test) (drop_more bs k d lt) ∙ ap (λ (t : Bool). t || list_any test (drop (k + 1) bs)) (ap test (sym is) ∙ it)

pub any_end : (test : Block → Bool) (bs : List Block) (k : ℕ) → length bs ≤ k → list_any test (drop k bs) ≡ false
any_end test bs k le = ap (list_any test) (drop_all k bs le)

-- ---- all rivals

twice : (turn : Mark → Mark) (t u : Bool) (m : Mark) → turn (turn m) ≡ turn m → cond u (turn (cond t (turn m) m)) (cond t (turn m) m) ≡ cond (t || u) (turn m) m
twice turn true true m again = again
twice turn true false m again = refl
twice turn false true m again = refl
twice turn false false m again = refl

turned_there : (turn : Mark → Mark) → ((m : Mark) → turn (turn m) ≡ turn m) → (bs : List Block) (marks : Block → Mark) (c : Block) → turned_all turn bs marks c ≡ cond (list_any (same_block c) bs) (turn (marks c)) (marks c)
turned_there turn again [] marks c = refl
turned_there turn again (b ∷ bs) marks c = turned_there turn again bs (turned_at turn b marks) c ∙ twice turn (same_block c b) (list_any (same_block c) bs) (marks c) (again (marks c))

same_turn : (turn : Mark → Mark) (t : Bool) (m : Mark) → turn m ≡ m → (u : Bool) → cond t (turn m) m ≡ cond u (turn m) m
same_turn turn true m still true = refl
same_turn turn true m still false = still
same_turn turn false m still true = sym still
same_turn turn false m still false = refl

-- the marks of all rivals are turned, where blocks that aren't in the grid have none
pub rivals_turned : (turn : Mark → Mark) (b : Block) (marks : Block → Mark) → ((m : Mark) → turn (turn m) ≡ turn m) → turn no_mark ≡ no_mark → is_in_grid b ≡ true → ((c : Block) → is_in_grid c ≡ false → marks c ≡ no_mark)
    → turned_all turn (rivals_of b) marks ≡ (λ c. cond (are_rivals b c) (turn (marks c)) (marks c))
rivals_turned turn b marks again clean grid clear = fun_ext (λ c. turned_there turn again (rivals_of b) marks c ∙ there c)
  where
    there : (c : Block) → cond (list_any (same_block c) (rivals_of b)) (turn (marks c)) (marks c) ≡ cond (are_rivals b c) (turn (marks c)) (marks c)
    there c = elim (cases_Bool (is_in_grid c)) [
      | inl e ↦ ap (λ (t : Bool). cond t (turn (marks c)) (marks c)) (among_is b c grid e)
      | inr e ↦ same_turn turn (list_any (same_block c) (rivals_of b)) (marks c) (ap turn (clear c e) ∙ clean ∙ sym (clear c e)) (are_rivals b c)
    ]

no_body : (t u : Bool) (o : Option Body) → o ≡ None → cond t None o ≡ cond u None o
no_body true true o none = refl
no_body true false o none = sym none
no_body false true o none = none
no_body false false o none = refl

-- and their bodies leave, where those blocks have none
pub rivals_left : (b : Block) (body : Block → Option Body) → is_in_grid b ≡ true → ((c : Block) → is_in_grid c ≡ false → body c ≡ None) → without_all (rivals_of b) body ≡ (λ c. cond (are_rivals b c) None (body c))
rivals_left b body grid clear = fun_ext there
  where
    there : (c : Block) → cond (list_any (same_block c) (rivals_of b)) None (body c) ≡ cond (are_rivals b c) None (body c)
    there c = elim (cases_Bool (is_in_grid c)) [
      | inl e ↦ ap (λ (t : Bool). cond t None (body c)) (among_is b c grid e)
      | inr e ↦ no_body (list_any (same_block c) (rivals_of b)) (are_rivals b c) (body c) (clear c e)
    ]
