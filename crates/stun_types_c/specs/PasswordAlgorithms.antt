-- Lists of password algorithms, as C hands them in (RFC 8489, sections 14.11 and 18.5.1).
use Rattle.std.specs.Prelude.{ℕ, Bool, ◌||◌, ◌&&◌, List, length, map, Option, None, Some, nat_le, ◌==◌, if◌then◌else◌}
use Rattle.std.specs.List.{list_all}
use Rattle.stun_values.specs.declared.algorithm.PasswordAlgorithmValue.{PasswordAlgorithmValue}
use Rattle.stun_values.specs.declared.algorithm.PasswordAlgorithmValue.TheVariants.{MD5, SHA256}

-- whether a number is that of a password algorithm, and of which: 1 of MD5, and 2 of SHA-256
abbrev pub names_password_algorithm : ℕ → Bool
names_password_algorithm number = number == 1 || number == 2

abbrev pub password_algorithm_named : ℕ → PasswordAlgorithmValue
password_algorithm_named number = if number == 1 then MD5 else SHA256

abbrev pub password_numbered : ℕ → Option PasswordAlgorithmValue
password_numbered number =
    if names_password_algorithm number then Some (password_algorithm_named number) else None

-- the algorithms of these numbers; none if another number is among them, or there are more than
-- sixteen
abbrev pub password_algorithms_named : List ℕ → Option (List PasswordAlgorithmValue)
password_algorithms_named numbers =
    if nat_le (length numbers) 16 && list_all names_password_algorithm numbers
    then Some (map password_algorithm_named numbers) else None
