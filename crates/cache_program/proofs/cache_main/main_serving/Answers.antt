use Rattle.std.proofs.Common.{◌≡◌, ℕ, List, Some, sym, subst, ◌∙◌}
use Rattle.clocks.specs.Moments.{moments_of}
use Rattle.wires.specs.Wires.{WireState, nothing_told}
use Rattle.cache_program.proofs.EndedWell.{served_so}
use Rattle.cache_program.specs.AttendedTurns.{AttendsSocket}
use Rattle.cache_program.specs.Opened.{AnySecond, SystemAges, SystemGives}
use Rattle.cache_program.specs.ServedTurns.{IsServed}
use Rattle.cache_program.proofs.cache_main.main_serving.Goals as goal

pub returns-clause-serves : goal.returns-clause-serves
returns-clause-serves g c = λ zero.
    let so = served_so c.serve_words-served.result c.ended.result c.ended.ensures (sym c.ending.ensures.status ∙ zero) c.serve_words-served.ensures.serves in
    let is = so.1 in (
      is.0,
      is.1,
      is.2,
      c.serve_words-served.new.clock,
      so.0,
      is.3,
      is.4,
      subst (λ (clock : List ℕ). IsServed (SystemGives is.2) (SystemAges is.2) (λ (wire : WireState). wire ≡ nothing_told (Some (is.2).listen)) AnySecond AttendsSocket is.2 is.1 (moments_of clock) (moments_of c.serve_words-served.new.clock) so.0) c.new-clock.ensures is.5,
      is.6,
    )
