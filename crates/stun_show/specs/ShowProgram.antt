-- What the program does with its arguments, and how it reports how it ended.
use Rattle.std.specs.Prelude.{◌≡◌, ℕ, List, [], ◌∷◌, ◌++◌, codes, Option, Some, None, Result, Ok, Err, MatchResult}
use Rattle.stun_programs.specs.RunErrors.{line_of}
use Rattle.stun_programs.specs.declared.run_error.RunError.{RunError}
use Rattle.stun_programs.specs.declared.run_error.RunError.TheVariants.{Usage}
use Rattle.stun_show.specs.declared.report.RunEnd.{RunEnd}
use Rattle.stun_show.specs.declared.report.RunEnd.TheVariants.{Shown, Refused}
use Rattle.stun_show.specs.Report.{line_feed}
use Rattle.stun_show.specs.ShowRun.{Ends}

-- the password that the arguments give: the one after the program's name, if there is one. More
-- than one is wrong usage
abbrev pub given_password : List (List ℕ) → Result (Option (List ℕ)) RunError
given_password [] = Ok None
given_password (name ∷ []) = Ok None
given_password (name ∷ password ∷ []) = Ok (Some password)
given_password (name ∷ password ∷ another ∷ more) = Err Usage

-- what the program has read and written, by its arguments and by how it ended: what a run has with
-- the password that they give, and nothing if they are wrong
abbrev pub EndsOn : List (List ℕ) → Result RunEnd RunError → (left left' held held' : Option (List ℕ)) → Type 0
EndsOn arguments end left left' held held' =
    MatchResult (given_password arguments)
    (λ password. Ends password end left left' held held')
    (λ e. (end ≡ Err e) × (left' ≡ left) × (held' ≡ held))

-- the exit status: 0 if a message was shown, and is valid with the password that was given; 1 if the
-- bytes were refused, or the message isn't valid with it; 2 if the run failed
abbrev pub exit_status : Result RunEnd RunError → ℕ
exit_status (Ok Shown) = 0
exit_status (Ok Refused) = 1
exit_status (Err error) = 2

-- the line that is printed last: for each failure but that of a write
abbrev pub last_line : Result RunEnd RunError → List ℕ
last_line (Ok end) = []
last_line (Err error) = line_of error (codes "usage: stun_show [password]" ++ line_feed)
