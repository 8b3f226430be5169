use Rattle.std.proofs.Common.{length}
use Rattle.json.specs.Json.{Members}
use Rattle.vrp_json.specs.Places.{IsAtMembers}
use Rattle.vrp_json.proofs.Steps.{IsPast}
use Rattle.vrp_json.proofs.walk.find_member.Given as goal

abbrev pub invariant-loop-name : goal.invariant-loop-name
invariant-loop-name l = (ms : Members) → IsAtMembers ms l.fn.reader → IsPast l.fn.wanted ms l.reader

abbrev pub decreases-loop-name : goal.decreases-loop-name
decreases-loop-name l = length l.reader
