use Rattle.std.proofs.Common.{◌≡◌, ℕ, List, false}
use Rattle.decision.specs.BookContents.{is_prefix}
use Rattle.net_prefix.specs.declared.prefix.Prefix.{Prefix}
use Rattle.rib_out.specs.Alike.{IsListed}
use Rattle.routing.proofs.routing.Routing.unlist.Given as goal

-- other prefixes are listed as they were
abbrev pub invariant-loop-slot : goal.invariant-loop-slot
invariant-loop-slot g l = record {
  listed : (s : ℕ) (o : List ℕ) (p : Prefix) → is_prefix l.prefix p ≡ false → IsListed l.initial.self.alike s o p → IsListed l.self.alike s o p;
  rest : l.self ≡ record l.initial.self { alike = l.self.alike };
}
