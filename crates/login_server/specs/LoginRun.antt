-- What a run of the server of two users has read and written, by how it ends.
use Rattle.std.specs.Prelude.{◌≡◌, ℕ, List, Option, Result, Ok, Err}
use Rattle.std.specs.Io.KnownBytes.{Keeps}
use Rattle.stun_grammar.specs.Writing.{greatest_length}
use Rattle.stun_programs.specs.InputOutput.{ReadsAll}
use Rattle.stun_programs.specs.declared.run_error.RunError.TheVariants.{Usage, WriteFailed}
use Rattle.login_server.specs.declared.end.LoginError.{LoginError}
use Rattle.login_server.specs.declared.end.LoginError.TheVariants.{Run}
use Rattle.login_server.specs.declared.end.RunEnd.{RunEnd}
use Rattle.login_server.specs.declared.end.RunEnd.TheVariants.{Accepted, Refused, Discarded}

-- the whole input was read
abbrev pub ReadsInput : (left left' : Option (List ℕ)) → Type 0
ReadsInput left left' = (input : List ℕ) × ReadsAll greatest_length left left' input

-- what a run has read and written, by its end: nothing was written if the message was discarded, or
-- if anything but a write failed
abbrev pub EndsLogin :
    Result RunEnd LoginError → (left left' held held' : Option (List ℕ)) → Type 0
EndsLogin (Ok Accepted) left left' held held' = ReadsInput left left'
EndsLogin (Ok Refused) left left' held held' = ReadsInput left left'
EndsLogin (Ok Discarded) left left' held held' = ReadsInput left left' × Keeps held held'
EndsLogin (Err (Run Usage)) left left' held held' = (left' ≡ left) × (held' ≡ held)
EndsLogin (Err (Run WriteFailed)) left left' held held' = ReadsInput left left'
EndsLogin (Err error) left left' held held' = Keeps held held'

-- the exit status: 0 if the message is a user's, 1 if a request was refused, 3 if a message was
-- discarded, and 2 if the run failed
abbrev pub exit_status : Result RunEnd LoginError → ℕ
exit_status (Ok Accepted) = 0
exit_status (Ok Refused) = 1
exit_status (Ok Discarded) = 3
exit_status (Err error) = 2
