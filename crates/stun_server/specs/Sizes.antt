-- How long a reply is. Whoever forges the address that a request comes from has the reply sent
-- there, so a server should send little more than it gets.
use Rattle.std.specs.Prelude.{ℕ, ◌+◌, ◌*◌, ◌≤◌, List, length}

-- by how many bytes a reply is longer than its request, at most
abbrev pub greatest_growth : ℕ
greatest_growth = 48

-- how many times as long as its request a reply is, at most
abbrev pub greatest_factor : ℕ
greatest_factor = 3

-- how many bytes a reply has, at most
abbrev pub greatest_reply : ℕ
greatest_reply = 32840

-- the reply t to the request r is no longer than that
pub record IsSmall (r t : List ℕ) : Type 0 where
  pub growth : length t ≤ length r + greatest_growth
  pub factor : length t ≤ greatest_factor * length r
  pub whole : length t ≤ greatest_reply
