-- Prefixes, addresses and names as words.
use Rattle.std.proofs.Common.{◌≤◌, ℕ, List, Result, Ok, Err, arith}
use Rattle.std.specs.Result.{result_ok}
use Rattle.net_prefix.proofs.Unique.{writes_one}
use Rattle.net_prefix.specs.PrefixText.{Parses}
use Rattle.net_prefix.specs.declared.fault.PrefixFault.{PrefixFault}
use Rattle.net_prefix.specs.declared.fault.PrefixFault.TheVariants.{LenOver32, HostBits, Text, MaxRange, Cut}
use Rattle.net_prefix.specs.declared.prefix.Prefix.{Prefix}
use Rattle.command_lines.specs.CommandWords.{WritesPrefix}
use Rattle.command_lines.specs.Words.{Finds}

-- a prefix is found just where the text writes it
pub prefix_found : (text : List ℕ) (answer : Result Prefix PrefixFault) → Parses text answer → Finds (WritesPrefix text) (result_ok answer)
prefix_found text (Ok prefix) parses = parses
prefix_found text (Err LenOver32) parses = λ prefix writes.
    let same = writes_one text parses.0 parses.1 prefix.bits prefix.len parses.2 writes in
    let short : prefix.len ≤ 32 = prefix.short in
    omega (arith, same.1, parses.3, short)
prefix_found text (Err HostBits) parses = λ prefix writes.
    let same = writes_one text parses.0 parses.1 prefix.bits prefix.len parses.2 writes in
    parses.3.1 (rw (same.0, same.1) prefix.no_host_bits)
prefix_found text (Err Text) parses = λ prefix writes. parses prefix.bits prefix.len writes
prefix_found text (Err MaxRange) parses = λ prefix writes. parses
prefix_found text (Err Cut) parses = λ prefix writes. parses
