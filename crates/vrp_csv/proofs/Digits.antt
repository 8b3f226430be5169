-- Texts of digits, and of prefixes.
use Rattle.std.proofs.Common.{◌<◌, ◌^◌, ◌/◌, ◌%◌, ℕ, List, [], ◌∷◌, codes, decimal, arith}
use Rattle.std.specs.Str.{IsAscii, IsUtf8}
use Rattle.std.specs.Str.Parse.{AllDigits}
use Rattle.std.specs.Net.Text.{ipv4_text}
use Rattle.std.proofs.lemmas.Fmt.{IsAscii-decimal}
use Rattle.std.proofs.lemmas.Str.{IsAscii-append, IsUtf8-from_ascii}
use Rattle.std.proofs.lemmas.Str.Ascii.{IsAscii-cons, IsAscii-nil}
use Rattle.std.proofs.lemmas.Str.Parse.{digit_from_value, digits_value_short, numerals_by_value, tells_digits}
use Rattle.net_prefix.specs.PrefixSpelling.{address_octets}
use Rattle.net_prefix.specs.PrefixText.{Writes, text_of}
use Rattle.vrp_csv.specs.PayloadRows.{WritesNumber}

ascii_digits : (ds : List ℕ) → AllDigits 10 ds → IsAscii ds
ascii_digits [] h = IsAscii-nil
ascii_digits (d ∷ ds) h =
    let range = digit_from_value d h.0 in
    IsAscii-cons d ds (omega (arith, range.1)) (ascii_digits ds h.1)

-- digits are text
pub number_is_text : (most : ℕ) (text : List ℕ) (number : ℕ) → WritesNumber most text number → IsUtf8 text
number_is_text most text number h = IsUtf8-from_ascii text (ascii_digits text h.0.1)

-- a number of two digits is below 100
pub two_digits : (text : List ℕ) (number : ℕ) → WritesNumber 2 text number → number < 100
two_digits text number h =
    let short = digits_value_short (numerals_by_value (AllDigits 10) tells_digits) text 2 h.0.1 h.1 in
    omega (arith, h.2, short)

slash : IsAscii (codes "/")
slash = IsAscii-cons 47 [] (omega arith) IsAscii-nil

dot : IsAscii (codes ".")
dot = IsAscii-cons 46 [] (omega arith) IsAscii-nil

octet : (n : ℕ) → n < 256 → IsAscii (decimal n)
octet n h = IsAscii-decimal n (omega arith)

address : (bits : ℕ) → IsAscii (ipv4_text (address_octets bits))
address bits =
    let a = octet (bits / 2 ^ 24 % 256) (omega arith) in
    let b = octet (bits / 2 ^ 16 % 256) (omega arith) in
    let c = octet (bits / 2 ^ 8 % 256) (omega arith) in
    let d = octet (bits % 256) (omega arith) in
    IsAscii-append _ _ (IsAscii-append _ _ (IsAscii-append _ _ (IsAscii-append _ _ (IsAscii-append _ _ (IsAscii-append _ _ a dot) b) dot) c) dot) d

-- what writes a prefix is text
pub prefix_is_text : (text : List ℕ) (bits len : ℕ) → Writes text bits len → IsUtf8 text
unfolding text_of
prefix_is_text text bits len h =
    IsUtf8-from_ascii text (rw h.2 (IsAscii-append _ _ (IsAscii-append _ _ (address bits) slash) (octet len (omega (arith, h.1)))))
