-- `bracket_text::match_template` meets its contract. The loop's invariant: reading on by the rest of the template gives what
-- reading by the whole of it gives.
use Prim.Native.Nat.{◌≤◌}
use mathlib.Core.Path.{◌≡◌}
use lib.ListN.{length, drop}
use Rattle.bracket_text.specs.Scan.{zeros, matched}
use Rattle.bracket_text.proofs.match_template.Given as goal

abbrev pub invariant-loop-byte : goal.invariant-loop-byte
invariant-loop-byte l =
    (l.at ≤ length l.line) × (l.numbers.count ≤ 5)
    × (matched l.template 0 zeros l.line ≡ matched (drop l.byte-index l.template) l.numbers.count l.numbers.values (drop l.at l.line))
