use Rattle.std.proofs.Common.{◌≡◌, map, take, length}
use Rattle.oca_calls.specs.CSpecs.{is_yes}
use Rattle.oca_calls.proofs.spec_words.bytes_of.Given as goal

-- the bytes so far say the flags so far
abbrev pub invariant-loop-flag : goal.invariant-loop-flag
invariant-loop-flag l = record {
  flags_are : map is_yes l.bytes.items ≡ take l.flag-index l.flags;
  long : length l.bytes.items ≡ l.flag-index;
}
