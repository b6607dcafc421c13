-- The roles of agents, and role conflicts (RFC 8445, section 7.3.1.1).
use Rattle.std.specs.Prelude.{ℕ, Bool, true, false, nat_le, if◌then◌else◌}
pub use Rattle.ice_machine.specs.declared.roles.Role.{Role}
pub use Rattle.ice_machine.specs.declared.roles.Role.TheVariants.{Controlling, Controlled}

pub data RoleDecision : Type 0 where
  keep : RoleDecision
  switch : RoleDecision
  refuse : RoleDecision

abbrev pub other_role : Role → Role
other_role Controlling = Controlled
other_role Controlled = Controlling

abbrev pub is_controlling : Role → Bool
is_controlling Controlling = true
is_controlling Controlled = false

-- what an agent of a role and a tiebreaker does about a check with ICE-CONTROLLING or ICE-CONTROLLED of
-- these contents: it keeps its role, switches it, or refuses the check with error 487
abbrev pub role_decision : (role : Role) → (tiebreaker : ℕ) → (shown : Role) → (contents : ℕ)
    → RoleDecision
role_decision Controlling tiebreaker Controlling contents =
    if nat_le contents tiebreaker then refuse else switch
role_decision Controlled tiebreaker Controlled contents =
    if nat_le contents tiebreaker then switch else refuse
role_decision Controlling tiebreaker Controlled contents = keep
role_decision Controlled tiebreaker Controlling contents = keep
