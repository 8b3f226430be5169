-- What lines are no words.
use Rattle.std.proofs.Common.{◌<◌, ℕ, zero, suc, List, [], ◌∷◌, IsAscii, IsUtf8, arith, sym, subst}
use Rattle.std.proofs.lemmas.Str.{IsUtf8-from_ascii}
use Rattle.cache_desk.specs.Readings.{IsNoWord}

no_octets : IsAscii []
no_octets i = omega arith

one_more : (octet : ℕ) (octets : List ℕ) → octet < 128 → IsAscii octets → IsAscii (octet ∷ octets)
one_more octet octets few rest zero = few
one_more octet octets few rest (suc i) = rest i

-- `reread`
reread_is : IsUtf8 (114 ∷ 101 ∷ 114 ∷ 101 ∷ 97 ∷ 100 ∷ [])
reread_is =
    IsUtf8-from_ascii (114 ∷ 101 ∷ 114 ∷ 101 ∷ 97 ∷ 100 ∷ []) (one_more 114 (101 ∷ 114 ∷ 101 ∷ 97 ∷ 100 ∷ []) (omega arith) (one_more 101 (114 ∷ 101 ∷ 97 ∷ 100 ∷ []) (omega arith) (one_more 114 (101 ∷ 97 ∷ 100 ∷ []) (omega arith) (one_more 101 (97 ∷ 100 ∷ []) (omega arith) (one_more 97 (100 ∷ []) (omega arith) (one_more 100 [] (omega arith) no_octets))))))

-- `accept`
accept_is : IsUtf8 (97 ∷ 99 ∷ 99 ∷ 101 ∷ 112 ∷ 116 ∷ [])
accept_is =
    IsUtf8-from_ascii (97 ∷ 99 ∷ 99 ∷ 101 ∷ 112 ∷ 116 ∷ []) (one_more 97 (99 ∷ 99 ∷ 101 ∷ 112 ∷ 116 ∷ []) (omega arith) (one_more 99 (99 ∷ 101 ∷ 112 ∷ 116 ∷ []) (omega arith) (one_more 99 (101 ∷ 112 ∷ 116 ∷ []) (omega arith) (one_more 101 (112 ∷ 116 ∷ []) (omega arith) (one_more 112 (116 ∷ []) (omega arith) (one_more 116 [] (omega arith) no_octets))))))

-- `stop`
stop_is : IsUtf8 (115 ∷ 116 ∷ 111 ∷ 112 ∷ [])
stop_is =
    IsUtf8-from_ascii (115 ∷ 116 ∷ 111 ∷ 112 ∷ []) (one_more 115 (116 ∷ 111 ∷ 112 ∷ []) (omega arith) (one_more 116 (111 ∷ 112 ∷ []) (omega arith) (one_more 111 (112 ∷ []) (omega arith) (one_more 112 [] (omega arith) no_octets))))

-- octets that are no text
pub no_word : (octets : List ℕ) → ¬ (IsUtf8 octets) → IsNoWord octets
no_word octets bad = (
  λ is. bad (subst IsUtf8 (sym is) reread_is),
  λ is. bad (subst IsUtf8 (sym is) accept_is),
  λ is. bad (subst IsUtf8 (sym is) stop_is),
)
