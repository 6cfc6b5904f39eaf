use Rattle.std.proofs.Common.{[], ◌∷◌, sym, ap, ◌∙◌}
use Rattle.record_model.specs.Constants.{bitmap_type}
use Rattle.record_model.specs.Records.{used_of}
use Rattle.state_model.specs.declared.stream.Extents.{Extents}
use Rattle.data_plan.specs.step_model.Plans.{full_row}
use Rattle.directory_growth.specs.Clusters.{counted_record}
use Rattle.directory_growth.proofs.bitmap.in_clusters.Goals as goal

pub returns-clause-used : goal.returns-clause-used
returns-clause-used g c = c.in_ok-used.ensures.same ∙ ap (λ (e : Extents). used_of (counted_record c.args.per bitmap_type c.args.wanted e c.args.beside).attrs) c.in_ok-z.ensures.value.extents

pub returns-clause-room : goal.returns-clause-room
returns-clause-room g c = λ le. ap (λ (e : Extents). full_row (used_of (counted_record c.args.per bitmap_type c.args.wanted e c.args.beside).attrs ∷ [])) (sym c.in_ok-z.ensures.value.extents) ∙ c.in_ok-used.ensures.room
