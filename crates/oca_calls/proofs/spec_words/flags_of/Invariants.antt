use Rattle.std.proofs.Common.{◌≡◌, map, take, length}
use Rattle.oca_calls.specs.CSpecs.{is_yes}
use Rattle.oca_calls.proofs.spec_words.flags_of.Given as goal

-- what the bytes so far say
abbrev pub invariant-loop-byte : goal.invariant-loop-byte
invariant-loop-byte l = record {
  flags_are : l.flags.items ≡ map is_yes (take l.byte-index l.bytes);
  long : length l.flags.items ≡ l.byte-index;
}
