use Rattle.std.proofs.Common.{◌≡◌, ℕ, ◌+◌, ◌-◌, ◌/◌, ap, ◌∙◌, arith}
use Rattle.std.proofs.Math.Nat.{div-le_self}
use Rattle.txn_laws.specs.log_page.Places.{lap_of}
use Rattle.txn_core.proofs.Laps.{first_lap, few_sealed, behind}
use Rattle.txn_core.proofs.counting.has_lap_behind.Goals as goal

pub overflow_sub-first : goal.overflow_sub-first
overflow_sub-first c =
    let all : c.size-size.result + 4 ≡ c.args.log.now.pages = omega (arith, c.size-size.ensures.value, c.requires.some) in
    let lap = c.lap_of.ensures.value ∙ ap (λ (p : ℕ). lap_of p c.next.result) all in
    let first = first_lap c.args.log.now c.requires.some c.requires.few c.next.result c.next_number.result c.size-size.result (c.next.ensures.exact c.requires.lap) c.next_number.ensures c.size-size.ensures.value in
    omega (arith, lap, first.0)

pub overflow_add-page : goal.overflow_add-page
overflow_add-page c =
    let sealed = few_sealed c.args.log.now c.requires.some c.requires.few c.requires.lap in
    omega (arith, sealed, c.filled_page.ensures.value, c.requires.near, c.requires.few)

pub overflow_add-first : goal.overflow_add-first
overflow_add-first c =
    let sealed = few_sealed c.args.log.now c.requires.some c.requires.few c.requires.lap in
    let small = div-le_self (c.filled_page.result + c.args.pages) c.size-size.result in
    let lap = c.lap_of.ensures.small (omega (arith, c.size-size.ensures.value)) in
    omega (arith, sealed, c.filled_page.ensures.value, c.requires.near, c.requires.few, small, lap)

pub returns : goal.returns
returns c =
    let all : c.size-size.result + 4 ≡ c.args.log.now.pages = omega (arith, c.size-size.ensures.value, c.requires.some) in
    let lap = c.lap_of.ensures.value ∙ ap (λ (p : ℕ). lap_of p c.next.result) all in
    let first = first_lap c.args.log.now c.requires.some c.requires.few c.next.result c.next_number.result c.size-size.result (c.next.ensures.exact c.requires.lap) c.next_number.ensures c.size-size.ensures.value in
    behind c.args.log.now c.requires.some c.requires.few (c.size-size.result + 4) (c.lap_of.result - c.next_number.result / c.size-size.result) (c.filled_page.result + c.args.pages) c.size-size.result c.args.pages c.page_lsn.result c.is_some.result all
    (ap (λ (l : ℕ). l - c.next_number.result / c.size-size.result) lap ∙ first.1) (ap (λ (n : ℕ). n + c.args.pages) c.filled_page.ensures.value) c.size-size.ensures.value c.page_lsn.ensures.value c.page_lsn.ensures.room c.is_some.ensures
