-- Sessions that begin again once their connections are gone (own).
use Rattle.std.specs.Prelude.{ℕ, Bool, true, false, List, Option, None, Some, length, replicate, set}
use Rattle.net_prefix.specs.declared.transport.Transport.{Transport}
use Rattle.net_prefix.specs.declared.transport.Transport.TheVariants.{None as NoConnection, Opening, Listening, Open, Closing}

-- of each slot whether its session is to: none is
abbrev pub none_again : List Bool
none_again = replicate 64 false

-- nor is any more
abbrev pub none_of : List Bool → List Bool
none_of again = replicate (length again) false

-- that of this slot isn't any more
abbrev pub not_again : Option ℕ → List Bool → List Bool
not_again None again = again
not_again (Some slot) again = set again slot false

-- there is no connection, nor is one awaited
abbrev pub is_gone : Transport → Bool
is_gone NoConnection = true
is_gone Opening = false
is_gone Listening = false
is_gone Open = false
is_gone Closing = false
