-- One command more of a run.
use Rattle.std.proofs.Common.{◌≡◌, ℕ, zero, suc, ◌+◌, ◌<◌, ◌≤◌, Bool, true, false, cond, List, [], ◌∷◌, ◌++◌, length, take, get_or, Option, Some, None, All, refl, sym, ◌∙◌, ap, subst, arith}
use Rattle.std.specs.Prelude.{◌≢◌, filter, slice_get, ◌==◌, ◌&&◌, IfSome}
use Rattle.std.proofs.lemmas.Bool.Decides.{nat_tests}
use Rattle.std.proofs.lemmas.List.{append-nil, length-append, get_or_append_left}
use Rattle.std.proofs.Math.Seq.{get_or-append_seam}
use Rattle.std.proofs.lemmas.List.Elements.{filter-append, All-nil, All-push}
use Rattle.std.proofs.lemmas.List.Filters.{length-filter_more}
use Rattle.host_base.specs.Causes.{last_moment}
use Rattle.file_tree.specs.declared.tree.Tree.{Tree}
use Rattle.tree_model.specs.declared.script.Op.{Op}
use Rattle.tree_model.specs.declared.script.What.{What}
use Rattle.tree_model.specs.declared.script.What.TheVariants.{Op as Operation, Find}
use Rattle.tree_model.specs.declared.script.Command.{Command}
use Rattle.tree_model.specs.declared.reply.Reply.TheVariants.{Fault}
use Rattle.tree_model.specs.Steps.{is_look, IsStep}
use Rattle.run_model.specs.declared.turn.Turn.{Turn}
use Rattle.run_model.specs.Runs.{IsTreeTurn, IsCounted, SerialRun, own, turn_commands, is_turn_command, takes_turn, moment_of_last, last_faults, next_of}
use Rattle.run_model.proofs.Segments.{segment_push}
use Rattle.run_model.proofs.Looked.{takes}
use Rattle.serial_run.specs.Runs.{run_start, IsSound, IsTurnOf, Follows, IsRunSoFar}

-- ---- places in a script

place_by : {X : Type 0} (b : Bool) (x : X) (front whole : List X) (r : Option X) → slice_get whole (length front) ≡ r → slice_get (cond b (x ∷ whole) whole) (length (cond b (x ∷ front) front)) ≡ r
place_by true x front whole r h = h
place_by false x front whole r h = h

-- an element that passes stands behind those that pass before it
at_place : {X : Type 0} (p : X → Bool) (xs : List X) (i : ℕ) (d : X) → i < length xs → p (get_or xs i d) ≡ true → slice_get (filter p xs) (length (filter p (take i xs))) ≡ Some (get_or xs i d)
at_place p [] i d lt is = absurd (omega arith)
at_place p (x ∷ xs) zero d lt is = rw is refl
at_place p (x ∷ xs) (suc i) d lt is = place_by (p x) x (filter p (take i xs)) (filter p xs) (Some (get_or xs i d)) (at_place p xs i d (omega arith) is)

pub last_moment_push : (start : ℕ) (turns : List Turn) (t : Turn) → moment_of_last start (turns ++ t ∷ []) ≡ t.moment
last_moment_push start [] t = refl
last_moment_push start (u ∷ turns) t = last_moment_push u.moment turns t

pub last_faults_push : (start : ℕ) (turns : List Turn) (t : Turn) → last_faults start (turns ++ t ∷ []) ≡ t.faults_after
last_faults_push start [] t = refl
last_faults_push start (u ∷ turns) t = last_faults_push u.faults_after turns t

-- a client's own turns after one more
own_by : (b : Bool) (start now later : ℕ) (turns : List Turn) (t : Turn) → last_faults start turns ≤ now → now ≤ later → t.faults_after ≡ later → last_faults start (turns ++ cond b (t ∷ []) []) ≤ later
own_by true start now later turns t most le is = rw (last_faults_push start turns t) (omega (arith, is))
own_by false start now later turns t most le is = rw (append-nil turns) (omega (arith, most, le))

pub fault_push : (start now later client : ℕ) (turns : List Turn) (t : Turn) → last_faults start (own turns client) ≤ now → now ≤ later → t.faults_after ≡ later → last_faults start (own (turns ++ t ∷ []) client) ≤ later
unfolding own
fault_push start now later client turns t most le is = rw (filter-append (λ (u : Turn). u.client == client) turns (t ∷ [])) (own_by (t.client == client) start now later (filter (λ (u : Turn). u.client == client) turns) t most le is)

length_by : {X : Type 0} (b : Bool) (xs : List X) (x : X) (n : ℕ) → length xs ≡ n → length (xs ++ cond b (x ∷ []) []) ≡ n + cond b 1 0
length_by true xs x n is = length-append xs (x ∷ []) ∙ ap (λ m. m + 1) is
length_by false xs x n is = rw (append-nil xs) (is ∙ omega arith)

and_true : (b : Bool) → (b && true) ≡ b
and_true true = refl
and_true false = refl

and_false : (b : Bool) → (b && false) ≡ false
and_false true = refl
and_false false = refl

-- a command that asks for an operation takes a turn of its client, a find none
takes_with : (client : ℕ) (c : Command) (o : Op) → c.what ≡ Operation o → is_turn_command client c ≡ (c.client == client)
takes_with client c o is = ap (λ (w : What). (c.client == client) && takes_turn w) is ∙ and_true (c.client == client)

takes_none : (client : ℕ) (c : Command) (name : List ℕ) → c.what ≡ Find name → is_turn_command client c ≡ false
takes_none client c name is = ap (λ (w : What). (c.client == client) && takes_turn w) is ∙ and_false (c.client == client)

-- the command of an operation, by its parts
parts : (c : Command) (o : Op) (client number : ℕ) (asked : Op) → c.what ≡ Operation o → client ≡ c.client → number ≡ c.number → asked ≡ o → c ≡ record { client = client; number = number; what = Operation asked }
parts c o client number asked what is_client is_number is_asked = rw (is_client, is_number, is_asked) (ap (λ (w : What). record { client = c.client; number = c.number; what = w }) what)

-- the turn's command is its client's next
pub next_command : (script : List Command) (i : ℕ) (d : Command) (turns : List Turn) (t : Turn) (o : Op) → i < length script
    → (get_or script i d).what ≡ Operation o → t.client ≡ (get_or script i d).client → t.number ≡ (get_or script i d).number → t.op ≡ o
    → length (own turns t.client) ≡ length (turn_commands (take i script) t.client)
    → slice_get (turn_commands script t.client) (length (own turns t.client)) ≡ Some (record { client = t.client; number = t.number; what = Operation t.op })
unfolding turn_commands
next_command script i d turns t o lt what client number asked each =
    let c = get_or script i d in
    let is_own : (c.client == t.client) ≡ true = grind (arith, nat_tests) in
    let passes : is_turn_command t.client c ≡ true = takes_with t.client c o what ∙ is_own in
    rw each (at_place (is_turn_command t.client) script i d lt passes ∙ ap (λ (x : Command). Some x) (parts c o t.client t.number t.op what client number asked))

-- a turn of that command
next_turn : (upper : List ℕ) (tree : Tree) (next : ℕ) (script : List Command) (time before i now moment later onwards : ℕ) (d : Command) (turns : List Turn) (t : Turn) (o : Op)
    → next_of tree.journal ≡ next → i < length script → (get_or script i d).what ≡ Operation o
    → IsRunSoFar upper (Some tree) next script time before i now moment turns → IsTurnOf upper (Some tree) next now later moment onwards (length turns + 1) (get_or script i d) o t
    → IsTreeTurn (run_start upper script time before next) turns t tree tree
next_turn upper tree next script time before i now moment later onwards d turns t o is lt what so_far it = record {
  serial = it.place;
  command = next_command script i d turns t o lt what it.client it.number it.asked (so_far.each t.client);
  usn = it.usn ∙ sym is;
  moment = omega (arith, so_far.moments, it.time, it.told.onwards);
  since = omega (arith, so_far.faults t.client, it.first);
  later = omega (arith, it.first, it.last, it.told.later);
  fault = λ e. rw (it.first, it.last, it.time) (it.told.failed e);
  step = takes (IsStep upper) time turns t t.op t.reply tree tree (ap is_look it.asked ∙ it.looks) (rw it.asked (it.step (time + t.serial)));
}

-- one turn more for its client
pub each_push : (script : List Command) (i : ℕ) (d : Command) (turns : List Turn) (t : Turn) (o : Op) (client : ℕ) → i < length script
    → (get_or script i d).what ≡ Operation o → t.client ≡ (get_or script i d).client
    → length (own turns client) ≡ length (turn_commands (take i script) client)
    → length (own (turns ++ t ∷ []) client) ≡ length (turn_commands (take (i + 1) script) client)
unfolding own turn_commands
each_push script i d turns t o client lt what is each =
    let c = get_or script i d in
    let tests : (t.client == client) ≡ is_turn_command client c = ap (λ (n : ℕ). n == client) is ∙ sym (takes_with client c o what) in
    ap (λ (us : List Turn). length us) (filter-append (λ (u : Turn). u.client == client) turns (t ∷ []))
    ∙ length_by (t.client == client) (filter (λ (u : Turn). u.client == client) turns) t _ each
    ∙ ap (λ (b : Bool). length (filter (is_turn_command client) (take i script)) + cond b 1 0) tests
    ∙ sym (length-filter_more (is_turn_command client) script i d lt)

-- no turn more for a find
pub each_kept : (script : List Command) (i : ℕ) (d : Command) (turns : List Turn) (name : List ℕ) (client : ℕ) → i < length script
    → (get_or script i d).what ≡ Find name
    → length (own turns client) ≡ length (turn_commands (take i script) client)
    → length (own turns client) ≡ length (turn_commands (take (i + 1) script) client)
unfolding turn_commands
each_kept script i d turns name client lt what each =
    each ∙ omega arith ∙ ap (λ (b : Bool). length (filter (is_turn_command client) (take i script)) + cond b 1 0) (sym (takes_none client (get_or script i d) name what))
    ∙ sym (length-filter_more (is_turn_command client) script i d lt)

-- the run of the tree, where it is known
run_by : (upper : List ℕ) (known : Option Tree) (next : ℕ) (script : List Command) (time before i now moment later onwards : ℕ) (d : Command) (turns : List Turn) (t : Turn) (o : Op)
    → IfSome known (λ x. next_of x.journal ≡ next) → i < length script → (get_or script i d).what ≡ Operation o
    → IsRunSoFar upper known next script time before i now moment turns → IsTurnOf upper known next now later moment onwards (length turns + 1) (get_or script i d) o t
    → IfSome known (λ x. SerialRun (run_start upper script time before next) (turns ++ t ∷ []) x x)
run_by upper None next script time before i now moment later onwards d turns t o is lt what so_far it = tt
run_by upper (Some x) next script time before i now moment later onwards d turns t o is lt what so_far it =
    segment_push (IsTreeTurn (run_start upper script time before next)) [] turns t x x x so_far.run (next_turn upper x next script time before i now moment later onwards d turns t o is lt what so_far it)

-- all but the last, and the last
pub front_all : (turns : List Turn) (t : Turn) → All IsSound (turns ++ t ∷ []) → All IsSound turns × IsSound t
front_all turns t all = (
  λ i d lt. subst IsSound (get_or_append_left turns (t ∷ []) d i lt) (all i d (rw (length-append turns (t ∷ [])) (omega (arith, lt)))),
  subst IsSound (get_or-append_seam turns t [] t) (all (length turns) t (rw (length-append turns (t ∷ [])) (omega arith))),
)

pub counted_on : (now later : ℕ) (turns : List Turn) → now ≤ later → IsCounted now turns → IsCounted later turns
counted_on now later turns le counted = λ i d lt. omega (arith, le, counted i d lt)

follows_by : (upper : List ℕ) (known : Option Tree) (next : ℕ) (script : List Command) (time before i now moment later onwards : ℕ) (d : Command) (turns new : List Turn) (w : What)
    → IfSome known (λ x. next_of x.journal ≡ next) → i < length script → (get_or script i d).what ≡ w → IsRunSoFar upper known next script time before i now moment turns
    → Follows upper known next now later moment onwards (get_or script i d) w turns new → IsRunSoFar upper known next script time before (i + 1) later onwards new
follows_by upper known next script time before i now moment later onwards d turns new (Operation o) is lt what so_far follows =
    let t = follows.0 in
    let it = follows.1 in
    let le : now ≤ later = it.told.later in
    rw follows.2 (record {
      run = run_by upper known next script time before i now moment later onwards d turns t o is lt what so_far it;
      each = λ client. each_push script i d turns t o client lt what it.client (so_far.each client);
      moments = rw (last_moment_push 0 turns t) (omega (arith, it.time));
      faults = λ client. fault_push before now later client turns t (so_far.faults client) le it.last;
      later = omega (arith, so_far.later, le);
      counted = All-push (λ (u : Turn). u.faults_after ≤ later) turns t (counted_on now later turns le so_far.counted) (omega (arith, it.last));
      told = λ all.
          let parts = front_all turns t all in
          let sound = parts.1 in
          let early : onwards < last_moment = omega (arith, it.time, sound.0) in
          it.told.counted early sound.1 ∙ so_far.told parts.0;
    })
follows_by upper known next script time before i now moment later onwards d turns new (Find name) is lt what so_far follows =
    rw (follows.0, follows.1, follows.2) (record {
      run = so_far.run;
      each = λ client. each_kept script i d turns name client lt what (so_far.each client);
      moments = so_far.moments;
      faults = so_far.faults;
      later = so_far.later;
      counted = so_far.counted;
      told = so_far.told;
    })

-- one command more
pub one_more : (upper : List ℕ) (known : Option Tree) (next : ℕ) (script : List Command) (time before i now moment later onwards : ℕ) (c : Command) (turns new : List Turn)
    → IfSome known (λ x. next_of x.journal ≡ next) → i < length script → c ≡ get_or script i c → IsRunSoFar upper known next script time before i now moment turns
    → Follows upper known next now later moment onwards c c.what turns new → IsRunSoFar upper known next script time before (i + 1) later onwards new
one_more upper known next script time before i now moment later onwards c turns new is lt at so_far follows =
    follows_by upper known next script time before i now moment later onwards c turns new (get_or script i c).what is lt refl so_far (subst (λ (x : Command). Follows upper known next now later moment onwards x x.what turns new) at follows)

none_run : (upper : List ℕ) (known : Option Tree) (next : ℕ) (script : List Command) (time before : ℕ) → IfSome known (λ x. SerialRun (run_start upper script time before next) [] x x)
none_run upper None next script time before = tt
none_run upper (Some x) next script time before = refl

-- no command yet
pub none_yet : (upper : List ℕ) (known : Option Tree) (next : ℕ) (script : List Command) (time before moment : ℕ) → IsRunSoFar upper known next script time before 0 before moment []
unfolding own turn_commands
none_yet upper known next script time before moment = record {
  run = none_run upper known next script time before;
  each = λ client. refl;
  moments = omega arith;
  faults = λ client. omega arith;
  later = omega arith;
  counted = All-nil (λ (u : Turn). u.faults_after ≤ before);
  told = λ all. refl;
}

-- the same table and tree
pub same_follows : (upper upper' : List ℕ) (known known' : Option Tree) (next before now moment_before moment_now : ℕ) (c : Command) (w : What) (turns new : List Turn) → known ≡ known' → upper ≡ upper'
    → Follows upper known next before now moment_before moment_now c w turns new → Follows upper' known' next before now moment_before moment_now c w turns new
same_follows upper upper' known known' next before now moment_before moment_now c w turns new tree table follows =
    subst (λ (u : List ℕ). Follows u known' next before now moment_before moment_now c w turns new) table (subst (λ (k : Option Tree). Follows upper k next before now moment_before moment_now c w turns new) tree follows)
