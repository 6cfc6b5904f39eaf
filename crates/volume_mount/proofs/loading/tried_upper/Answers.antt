use Rattle.std.proofs.Common.{ℕ, List}
use Rattle.std.proofs.lemmas.Result.{err_from_is_err_and}
use Rattle.volume_state.specs.volume_model.Volumes.{upper_of}
use Rattle.image_read.specs.volume_map.Maps.{volume_in}
use Rattle.image_read.proofs.image_open.Steps.{fails_first, okay}
use Rattle.volume_shadows.specs.Live.{least_lsn}
use Rattle.volume_mount.specs.Mounts.{unjournaled}
use Rattle.volume_mount.proofs.Chained.{fails_behind, gives_behind}
use Rattle.volume_mount.proofs.loading.tried_upper.Goals as goal

pub returns-in_err-upper-clause-answer : goal.returns-in_err-upper-clause-answer
returns-in_err-upper-clause-answer g c =
    let p = err_from_is_err_and c.from_residual.result c.from_residual.ensures.1 in
    rw (p.1, p.2) (fails_first _ (λ (u : List ℕ). u) (λ (_ : List ℕ). volume_in c.args.map.now) _ (λ content. okay (upper_of content (volume_in c.args.map.now))) (λ content u. unjournaled (least_lsn c.args.shadows.now) u c.args.place.now content (volume_in c.args.map.now)) c.in_err-upper.ensures.value)

pub unjournaled-requires : goal.unjournaled-requires
unjournaled-requires g c = record { parts = rw c.in_ok-upper.ensures.kept.same c.requires.parts }

pub returns-in_err-unjournaled-clause-answer : goal.returns-in_err-unjournaled-clause-answer
returns-in_err-unjournaled-clause-answer g c =
    let p = err_from_is_err_and c.from_residual-in_err-unjournaled.result c.from_residual-in_err-unjournaled.ensures.1 in
    rw (p.1, p.2) (fails_behind _ (λ (_ : Unit {0}). volume_in c.args.map.now) (λ (_ : List ℕ). volume_in c.args.map.now) _ c.in_ok-upper.upper (λ content. okay (upper_of content (volume_in c.args.map.now))) (λ content u. unjournaled (least_lsn c.args.shadows.now) u c.args.place.now content (volume_in c.args.map.now))
    c.in_ok-upper.ensures.value (rw c.in_ok-upper.ensures.kept.same at c.in_err-unjournaled.ensures.answer))

pub returns-clause-answer : goal.returns-clause-answer
returns-clause-answer g c =
    gives_behind _ c.in_ok-upper.upper (volume_in c.args.map.now) (λ content. okay (upper_of content (volume_in c.args.map.now))) (λ content u. unjournaled (least_lsn c.args.shadows.now) u c.args.place.now content (volume_in c.args.map.now))
    c.in_ok-upper.ensures.value (rw c.in_ok-upper.ensures.kept.same at c.in_ok-unjournaled.ensures.answer)
