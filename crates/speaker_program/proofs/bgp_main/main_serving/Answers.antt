use Rattle.std.proofs.Common.{◌≡◌, ◌∙◌, ℕ, List, subst, sym}
use Rattle.clocks.specs.Moments.{moments_of}
use Rattle.wires.specs.Wires.{WireState, nothing_told}
use Rattle.speaker_program.specs.Begun.{AttendsSocket, IsServed}
use Rattle.speaker_program.proofs.Failures.{ended_as, unserved_at_as}
use Rattle.speaker_program.proofs.EndedWell.{ended_so, failed_so, served_so}
use Rattle.speaker_program.proofs.bgp_main.main_serving.Goals as goal

pub returns-clause-serves : goal.returns-clause-serves
returns-clause-serves g c = λ zero.
    let so = served_so c.serve_words-served.result c.ending.result c.ending.ensures (sym c.conclude.ensures.status ∙ zero) c.serve_words-served.ensures.serves in
    let is = so.1 in (
      is.0,
      is.1,
      is.2,
      c.serve_words-served.new.clock,
      so.0,
      is.3,
      is.4,
      subst (λ (clock : List ℕ). IsServed g.P.OpensFiles.opened (λ (wire : WireState). wire ≡ nothing_told (is.2).listen) AttendsSocket is.2 is.1 (moments_of clock) (moments_of c.serve_words-served.new.clock) so.0) c.new-clock.ensures is.5,
      is.6,
    )

pub returns-clause-fails : goal.returns-clause-fails
returns-clause-fails g c = λ bad.
    let fails = ended_so _ c.serve_words-served.result c.ending.result c.ending.ensures c.serve_words-served.ensures.fails in
    let failed = failed_so _ c.ending.result c.conclude.result c.conclude.ensures.status bad fails in (
      failed.0,
      failed.1,
      ended_as _ _ c.args.words.now failed.0 failed.2
          (λ at is. unserved_at_as _ _ _ _ _ _ _ _ _ _ _ _ _ _ at failed.0 is (λ path text told. told) (λ path error lost. lost) (λ path octets read. read) (λ path error lost. lost) (λ settings error unlistened. tt) (λ settings wire opened. opened) (λ rests. tt)),
    )
