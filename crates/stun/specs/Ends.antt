-- The exit status of the program.
use Rattle.std.specs.Prelude.{ℕ, Result, Ok, Err}
use Rattle.stun_programs.specs.declared.run_error.RunError.{RunError}
use Rattle.stun_programs.specs.declared.run_error.RunError.TheVariants.{Usage as BadArgument, TooLong, ReadFailed, WriteFailed, NoMemory}
use Rattle.stun.specs.declared.end.RunEnd.{RunEnd}
use Rattle.stun.specs.declared.end.RunEnd.TheVariants.{Printed, Shown, Rejected, Replied, NoReply, Complete, Asked, NotAsked, Checked}
use Rattle.stun.specs.declared.end.StunError.{StunError}
use Rattle.stun.specs.declared.end.StunError.TheVariants.{Usage, Cut, NoMessage, Run}
use Rattle.stun.specs.declared.finding.Finding.{Finding}
use Rattle.stun.specs.declared.finding.Finding.TheVariants.{Mapped}

-- of what a response says: 0 if it is an address, and 1 if it is anything else
abbrev pub finding_status : Finding → ℕ
finding_status (Mapped address) = 0
finding_status _ = 1

-- of a run that failed: 2 by wrong usage, 3 if reading, writing or an allocation failed
abbrev pub run_status : RunError → ℕ
run_status BadArgument = 2
run_status TooLong = 3
run_status ReadFailed = 3
run_status WriteFailed = 3
run_status NoMemory = 3

-- 0 for what was asked for, 1 for a refusal or a negative answer, 2 by wrong usage, and 3 if reading,
-- writing or an allocation failed; 4 is for no answer in time, which a program without sockets
-- never ends with
abbrev pub exit_status : Result RunEnd StunError → ℕ
exit_status (Ok Printed) = 0
exit_status (Ok Shown) = 0
exit_status (Ok Rejected) = 1
exit_status (Ok Replied) = 0
exit_status (Ok NoReply) = 1
exit_status (Ok Complete) = 0
exit_status (Ok Asked) = 0
exit_status (Ok (NotAsked line)) = 1
exit_status (Ok (Checked finding)) = finding_status finding
exit_status (Err (Usage line)) = 2
exit_status (Err (Cut offset)) = 1
exit_status (Err (NoMessage error)) = 1
exit_status (Err (Run error)) = run_status error
