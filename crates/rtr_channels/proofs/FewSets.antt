-- A session published no more sets than all sessions did.
use Rattle.std.proofs.Common.{◌≤◌, ◌+◌, ◌==◌, ℕ, suc, Bool, true, false, List, [], ◌∷◌, cond, length, arith}
use Rattle.rtr_channels.specs.Channels.{Publication, published_in}
use Rattle.rtr_channels.specs.VersionsAgree.{AllAreFew}

one_more : (test : Bool) (n all : ℕ) → n ≤ all → cond test (n + 1) n ≤ suc all
one_more true n all h = omega (arith, h)
one_more false n all h = omega (arith, h)

among_all : (session : ℕ) (published : List Publication) → published_in session published ≤ length published
among_all session [] = omega arith
among_all session (one ∷ more) = one_more (one.session == session) (published_in session more) (length more) (among_all session more)

pub all_are_few : AllAreFew
all_are_few published few session = omega (arith, among_all session published, few)
