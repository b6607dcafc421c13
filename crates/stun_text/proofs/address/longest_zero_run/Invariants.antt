use Rattle.std.proofs.Common.{◌≡◌, ◌+◌, ◌≤◌, length, drop}
use Rattle.std.specs.Net.Text.{zero_run, longest_zero_run}
use Rattle.stun_text.proofs.address.longest_zero_run.Given as goal

-- the run at this place, and the longest one of those from here on
abbrev pub invariant-loop-start : goal.invariant-loop-start
invariant-loop-start l = record {
  run : l.run ≡ zero_run (drop l.start l.groups);
  longest : l.longest.1 ≡ (longest_zero_run (drop l.start l.groups)).1;
  place : l.longest.0 ≡ l.start + (longest_zero_run (drop l.start l.groups)).0;
  run_within : l.start + l.run ≤ length l.groups;
  within : l.longest.0 + l.longest.1 ≤ length l.groups;
}
