-- A text has no more names than octets.
use Rattle.std.proofs.Common.{◌==◌, ◌+◌, ◌≤◌, ℕ, Bool, true, false, List, [], ◌∷◌, length, if◌then◌else◌, arith}
use Rattle.script_files.specs.Lines.{in_front, lines_of, unended}
use Rattle.script_files.specs.Names.{is_name, names_among, names_in}

fronted : (octet : ℕ) (lines : List (List ℕ)) → length (in_front octet lines) ≤ length lines + 1
fronted octet [] = omega arith
fronted octet (line ∷ more) = omega arith

lines_counted : (is_feed : Bool) (octet : ℕ) (text : List ℕ) → length (lines_of text) ≤ length text
    → length (if is_feed then (octet ∷ []) ∷ lines_of text else in_front octet (lines_of text)) ≤ length (octet ∷ text)
lines_counted true octet text rest = omega (arith, rest)
lines_counted false octet text rest =
    let front = fronted octet (lines_of text) in
    omega (arith, rest, front)

lines_fit : (text : List ℕ) → length (lines_of text) ≤ length text
lines_fit [] = omega arith
lines_fit (octet ∷ text) = lines_counted (octet == 10) octet text (lines_fit text)

names_counted : (named : Bool) (name : List ℕ) (lines : List (List ℕ)) → length (names_among lines) ≤ length lines
    → length (if named then name ∷ names_among lines else names_among lines) ≤ length lines + 1
names_counted true name lines rest = omega (arith, rest)
names_counted false name lines rest = omega (arith, rest)

names_among_fit : (lines : List (List ℕ)) → length (names_among lines) ≤ length lines
names_among_fit [] = omega arith
names_among_fit (line ∷ more) =
    let counted = names_counted (is_name (unended line)) (unended line) more (names_among_fit more) in
    omega (arith, counted)

pub names_fit : (text : List ℕ) → length (names_in text) ≤ length text
names_fit text =
    let lines = lines_fit text in
    let names = names_among_fit (lines_of text) in
    omega (arith, lines, names)
